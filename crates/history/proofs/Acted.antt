-- A command that acts: what it leaves of each of the two slices is what its events make of it; and these are what its caller sees that it put or erased.
-- Assumes nothing.
use Prim.Native.Nat.{ℕ, zero, suc, ◌+◌, ◌-◌, ◌≤◌, ◌<◌}
use native.Mathlib.Nat.{add-zero}
use native.Mathlib.Omega.{arith}
use mathlib.Core.Path.{◌≡◌, refl, sym, ap, ◌∙◌, subst}
use mathlib.Core.Bool.{Bool, true, false, cond}
use mathlib.Core.Option.{none}
use mathlib.Core.List.{List, [], ◌∷◌}
use borrow.Author.Tests.{eqb-true}
use lib.Dec.{eqb}
use lib.IntN.{ℤ, sub_ℕ}
use lib.ListN.{length, take}
use Rattle.objects.specs.Object.{Object, block, bytes_in}
use Rattle.objects.specs.Room.{trailer_length, room_of, zone_in}
use Rattle.objects.specs.Events.{Event, happens}
use Rattle.image.specs.Image.{count, objects}
use Rattle.changes.specs.Changes.{occurs}
use Rattle.image.proofs.Facts.{Sound}
use Rattle.image.proofs.Objects.{length_objects}
use Rattle.record.specs.declared.drive.Drive.{Drive}
use Rattle.record.specs.Record.{decode_of, with_sense}
use Rattle.codes.specs.declared.operation.Operation.{Operation}
use Rattle.codes.specs.declared.operation.Operation.TheVariants.{Write, WriteFilemarks}
use Rattle.codes.specs.Codes.{code_of, operation_of}
use Rattle.codes.specs.Fields.{fixed_of, transfer_of}
use Rattle.objects.specs.Transfer.{blocks_of, marks_of, fitting, put_from}
use Rattle.answers.specs.Answers.{first}
use Rattle.commands.specs.Kinds.{erases, needs_cartridge, writes}
use Rattle.commands.specs.Act.{Seen, Deed, good, carrying, at, offered, goes_down, wrote, writing, marking, act, events_of}
use Rattle.commands.specs.Tests.{tests}
use Rattle.commands.specs.Step.{Stepped, status_of, kept_of, acted}
use Rattle.commands.specs.Call.{Lent, Result, partition, looks_at, seen_of, seen, laid_out, applied, written}
use Rattle.commands.proofs.Classes.{Class, blocks, filemarks, erasing, quiet, classify, no_erase, no_offers, no_events, unchanged}
use Rattle.commands.proofs.Goes.{GoAll, Touch, untouched, touched, has_cartridge, act_goes, act_touches, puts_reach}
use Rattle.commands.proofs.Laid.{Turned, still, laid_turned}
use Rattle.commands.proofs.Faultless.{Well, Inside, inside, seen_there, back, kept_whole}
use Rattle.history.specs.History.{Slot, slot0, slot1, number, cartridge, part, slices_left, caused}
use Rattle.history.proofs.Ended.{nothing_offered, first_fitting}

-- ---- the drive after a write

either_drive : (t : Bool) (x y : Deed) (e : Drive) → x.drive ≡ e → y.drive ≡ e → (cond t x y).drive ≡ e
either_drive true x y e h k = h
either_drive false x y e h k = k

wrote_drive : (d : Drive) (v : Seen) (n : ℕ) (os : List Object) (z : ℤ) → (wrote d v n os z).drive ≡ at d (d.position + length os)
unfolding wrote
wrote_drive d v n os z = either_drive (eqb (length os) n) _ _ _ (either_drive (zone_in v.size (room_of v.size (d.position + length os) (bytes_in (take d.position v.objects) + bytes_in os))) _ _ _ refl refl) refl

unmoved : (d : Drive) (os : List Object) → os ≡ [] → d ≡ at d (d.position + length os)
unmoved d os e = let z : d.position ≡ d.position + length os = rw e (sym (add-zero d.position)) in λ i. at d (z i)

pub none_down : (d : Drive) (cmd sent : List ℕ) (v : Seen) → transfer_of cmd ≡ 0 → goes_down Write d cmd sent v ≡ []
unfolding goes_down offered
none_down d cmd sent v z = rw z (go (fixed_of cmd))
  where
    go : (f : Bool) → fitting v.size d.position (bytes_in (take d.position v.objects)) (cond f (blocks_of d.block_length 0 sent) (cond (eqb 0 0) [] (block (take 0 sent) ∷ []))) ≡ []
    go true = unfold blocks_of fitting in refl
    go false = unfold fitting in refl

pub writing_drive : (d : Drive) (cmd sent : List ℕ) (v : Seen) → (writing d cmd sent v).drive ≡ at d (d.position + length (goes_down Write d cmd sent v))
unfolding writing
writing_drive d cmd sent v = go (eqb (transfer_of cmd) 0) refl
  where
    os : List Object
    os = goes_down Write d cmd sent v

    go : (t : Bool) → eqb (transfer_of cmd) 0 ≡ t
        → (cond t (good d) (carrying (bytes_in (goes_down Write d cmd sent v)) (cond (fixed_of cmd) (wrote d v (transfer_of cmd) (goes_down Write d cmd sent v) (sub_ℕ (transfer_of cmd) (length (goes_down Write d cmd sent v)))) (wrote d v 1 (goes_down Write d cmd sent v) (sub_ℕ (transfer_of cmd) (bytes_in (goes_down Write d cmd sent v))))))).drive
        ≡ at d (d.position + length (goes_down Write d cmd sent v))
    go true e = unmoved d (goes_down Write d cmd sent v) (none_down d cmd sent v (eqb-true (transfer_of cmd) 0 e))
    go false e = either_drive (fixed_of cmd) _ _ _ (wrote_drive d v (transfer_of cmd) os (sub_ℕ (transfer_of cmd) (length os))) (wrote_drive d v 1 os (sub_ℕ (transfer_of cmd) (bytes_in os)))

pub no_marks : (d : Drive) (cmd sent : List ℕ) (v : Seen) → transfer_of cmd ≡ 0 → goes_down WriteFilemarks d cmd sent v ≡ []
unfolding goes_down offered marks_of fitting
no_marks d cmd sent v z = rw z refl

pub marking_drive : (d : Drive) (cmd sent : List ℕ) (v : Seen) → (marking d cmd sent v).drive ≡ at d (d.position + length (goes_down WriteFilemarks d cmd sent v))
unfolding marking
marking_drive d cmd sent v = go (eqb (transfer_of cmd) 0) refl
  where
    go : (t : Bool) → eqb (transfer_of cmd) 0 ≡ t
        → (cond t (good d) (wrote d v (transfer_of cmd) (goes_down WriteFilemarks d cmd sent v) (sub_ℕ (transfer_of cmd) (length (goes_down WriteFilemarks d cmd sent v))))).drive
        ≡ at d (d.position + length (goes_down WriteFilemarks d cmd sent v))
    go true e = unmoved d (goes_down WriteFilemarks d cmd sent v) (no_marks d cmd sent v (eqb-true (transfer_of cmd) 0 e))
    go false e = wrote_drive d v (transfer_of cmd) (goes_down WriteFilemarks d cmd sent v) (sub_ℕ (transfer_of cmd) (length (goes_down WriteFilemarks d cmd sent v)))

-- ---- on each slot

-- f turns partition k by the events, and the other stays
on_slot : (s : Slot) (k : ℕ) (p0 p1 : List ℕ) (es : List Event) (f : List ℕ → List ℕ) → k < 2 → Sound (part s (cartridge p0 p1)) → Turned es (partition k p0 p1) (f (partition k p0 p1))
    → Turned (cond (eqb k (number s)) es []) (part s (cartridge p0 p1)) (part s (cartridge (cond (eqb k 1) p0 (f p0)) (cond (eqb k 1) (f p1) p1)))
on_slot slot0 zero p0 p1 es f h k t = t
on_slot slot1 zero p0 p1 es f h k t = still p1 k
on_slot slot0 (suc zero) p0 p1 es f h k t = still p0 k
on_slot slot1 (suc zero) p0 p1 es f h k t = t
on_slot slot0 (suc (suc n)) p0 p1 es f h k t = absurd (omega arith)
on_slot slot1 (suc (suc n)) p0 p1 es f h k t = absurd (omega arith)

cond_none : (t : Bool) (es : List Event) → es ≡ [] → cond t es [] ≡ []
cond_none true es e = e
cond_none false es e = refl

same_way : (t : Bool) (p : List ℕ) → cond t p p ≡ p
same_way true p = refl
same_way false p = refl

-- a command that writes nothing leaves both slices
pub idle : (rec : List ℕ) (x : Lent) (o : Operation) → writes o ≡ false
    → slices_left (written rec (applied (acted o (decode_of rec) x.cmd x.sent (seen o (decode_of rec) x)) (looks_at o (decode_of rec) x.cmd) x)) ≡ cartridge x.part0 x.part1
unfolding applied
idle rec x o h =
    let u = unchanged o h (decode_of rec) x.cmd x.sent (seen o (decode_of rec) x) in
    let k : Bool = eqb (looks_at o (decode_of rec) x.cmd) 1 in
    rw (u x.part0, u x.part1, same_way k x.part0, same_way k x.part1) refl

-- ---- the command o, which no test stopped, on the slices x

module _ (rec : List ℕ) (x : Lent) (w : Well (decode_of rec) x.part0 x.part1) (o : Operation)
    (q : first (tests o (decode_of rec) x.cmd (seen o (decode_of rec) x) x.sent (length x.received)) ≡ none) where
  abbrev v : Seen
  v = seen o (decode_of rec) x

  abbrev pub stepped : Stepped
  stepped = acted o (decode_of rec) x.cmd x.sent (seen o (decode_of rec) x)

  abbrev pub acts : Result
  acts = written rec (applied (acted o (decode_of rec) x.cmd x.sent (seen o (decode_of rec) x)) (looks_at o (decode_of rec) x.cmd) x)

  abbrev p : List ℕ
  p = partition (decode_of rec).current x.part0 x.part1

  -- nothing touched
  pub unaltered : stepped.events ≡ [] → stepped.clears ≡ false → slices_left acts ≡ cartridge x.part0 x.part1
  unfolding applied
  unaltered e c = rw (laid x.part0, laid x.part1, same_way (eqb (looks_at o (decode_of rec) x.cmd) 1) x.part0, same_way (eqb (looks_at o (decode_of rec) x.cmd) 1) x.part1) refl
    where
      laid : (s : List ℕ) → laid_out stepped s ≡ s
      laid s = unfold laid_out occurs in rw (c, e) refl

  -- the current partition of a loaded drive looked at
  module _ (l : looks_at o (decode_of rec) x.cmd ≡ (decode_of rec).current) (z : (decode_of rec).loaded ≡ 0 → ⊥) where
    i : Inside (decode_of rec) x.part0 x.part1
    i = inside (decode_of rec) x.part0 x.part1 w.cart z

    pub sees : seen o (decode_of rec) x ≡ seen_of (partition (decode_of rec).current x.part0 x.part1)
    sees = seen_there o (decode_of rec) x (rw l i.there) ∙ ap (λ (k : ℕ). seen_of (partition k x.part0 x.part1)) l

    pub place : (decode_of rec).position ≤ length v.objects
    place = rw sees (unfold seen_of in omega (arith, i.place, length_objects p))

    pub turned : Turned stepped.events (partition (decode_of rec).current x.part0 x.part1) (laid_out stepped (partition (decode_of rec).current x.part0 x.part1))
    unfolding acted seen_of
    turned =
        laid_turned stepped p i.right
        (subst (λ (y : Seen). GoAll (y.size - trailer_length) (events_of o (decode_of rec) x.cmd x.sent v) y.objects) sees
        (act_goes (decode_of rec) x.cmd x.sent (length x.received) v o place w.small q))

    pub shaped : slices_left acts ≡ cartridge (cond (eqb (decode_of rec).current 1) x.part0 (laid_out stepped x.part0)) (cond (eqb (decode_of rec).current 1) (laid_out stepped x.part1) x.part1)
    unfolding applied
    shaped = rw l refl

  pub acts_turned : (s : Slot) → Sound (part s (cartridge x.part0 x.part1))
      → Turned (cond (eqb (decode_of rec).current (number s)) stepped.events []) (part s (cartridge x.part0 x.part1)) (part s (slices_left acts))
  acts_turned s k = go (act_touches (decode_of rec) x.cmd x.sent (length x.received) v o q)
    where
      go : Touch o (decode_of rec) x.cmd (events_of o (decode_of rec) x.cmd x.sent v) stepped.clears → Turned (cond (eqb (decode_of rec).current (number s)) stepped.events []) (part s (cartridge x.part0 x.part1)) (part s (slices_left acts))
      go (untouched e c) =
          let f : stepped.events ≡ [] = unfold acted in e in
          rw (cond_none (eqb (decode_of rec).current (number s)) stepped.events f, ap (part s) (unaltered f c)) (still (part s (cartridge x.part0 x.part1)) k)
      go (touched l z) =
          rw (ap (part s) (shaped l z))
          (on_slot s (decode_of rec).current x.part0 x.part1 stepped.events (laid_out stepped) (inside (decode_of rec) x.part0 x.part1 w.cart z).two k (turned l z))

  -- ---- what its caller sees of it

  -- a write: the position moved over what went down
  module _ (ne : erases o ≡ false) (l : looks_at o (decode_of rec) x.cmd ≡ (decode_of rec).current) (z : (decode_of rec).loaded ≡ 0 → ⊥)
      (dr : (act o (decode_of rec) x.cmd x.sent (seen o (decode_of rec) x)).drive ≡ at (decode_of rec) ((decode_of rec).position + length (goes_down o (decode_of rec) x.cmd x.sent (seen o (decode_of rec) x)))) where
    abbrev downs : List Object
    downs = goes_down o (decode_of rec) x.cmd x.sent (seen o (decode_of rec) x)

    pub put_events : stepped.events ≡ put_from (decode_of rec).position (goes_down o (decode_of rec) x.cmd x.sent (seen o (decode_of rec) x))
    unfolding acted events_of
    put_events = rw ne refl

    pub put_place : (decode_of rec).position + length (goes_down o (decode_of rec) x.cmd x.sent (seen o (decode_of rec) x)) ≤ count (laid_out stepped (partition (decode_of rec).current x.part0 x.part1))
    put_place =
        let t = turned l z in
        let e : length (objects (laid_out stepped p)) ≡ length (happens (put_from (decode_of rec).position downs) (objects p)) = ap length t.makes ∙ ap (λ (es : List Event). length (happens es (objects p))) put_events in
        let h : (decode_of rec).position ≤ length (objects p) = omega (arith, (inside (decode_of rec) x.part0 x.part1 w.cart z).place, length_objects p) in
        omega (arith, e, puts_reach (decode_of rec).position downs (objects p) h, length_objects (laid_out stepped p))

    moves : (decode_of acts.rec).position ≡ (decode_of rec).position + length downs
    unfolding applied acted with_sense
    moves =
        let t = turned l z in
        let e = act o (decode_of rec) x.cmd x.sent (seen o (decode_of rec) x) in
        rw dr (ap (λ (y : Drive). y.position) (back (at (decode_of rec) ((decode_of rec).position + length downs)) (kept_of e.tells) (omega (arith, put_place, t.sound.dir_is, t.sound.most)) w.small (kept_whole e.tells)))

    puts : operation_of (code_of x.cmd) ≡ o → caused rec x.cmd x.sent acts ≡ stepped.events
    unfolding caused goes_down
    puts eo =
        rw (eo, ne) (ap (put_from (decode_of rec).position) (first_fitting _ (decode_of rec).position _ (offered o (decode_of rec) x.cmd x.sent) (decode_of acts.rec).position (decode_of rec).position moves))
        ∙ sym put_events

  pub acts_caused : operation_of (code_of x.cmd) ≡ o → caused rec x.cmd x.sent acts ≡ stepped.events
  unfolding acted
  acts_caused eo = go (classify o)
    where
      has : needs_cartridge o ≡ true → (decode_of rec).loaded ≡ 0 → ⊥
      has n = has_cartridge (decode_of rec) x.cmd x.sent (length x.received) v o n q

      go : Class o → caused rec x.cmd x.sent acts ≡ stepped.events
      go (quiet h) = nothing_offered rec x.cmd x.sent acts o eo (no_erase o h) (no_offers o h (decode_of rec) x.cmd x.sent) ∙ sym (no_events o h (decode_of rec) x.cmd x.sent v)
      go (erasing e) = unfold caused applied act status_of events_of in rw (eo, e) refl
      go (blocks e) = puts (rw e refl) (unfold looks_at in rw e refl) (has (rw e refl)) (unfold act in rw e (writing_drive (decode_of rec) x.cmd x.sent _)) eo
      go (filemarks e) = puts (rw e refl) (unfold looks_at in rw e refl) (has (rw e refl)) (unfold act in rw e (marking_drive (decode_of rec) x.cmd x.sent _)) eo
