-- "always so": a record and the cartridge that it was mounted with, used with each other alone, are never refused with 4.
-- Assumes nothing.
use Prim.Native.Nat.{ℕ, suc, ◌+◌, ◌≤◌, zero-le}
use native.Mathlib.Omega.{arith}
use mathlib.Core.Path.{◌≡◌, refl, sym, ap, ◌∙◌, subst}
use mathlib.Core.Bool.{Bool, true, false, cond, not, ◌&&◌, ◌||◌}
use mathlib.Core.Option.{none}
use mathlib.Core.List.{List, [], ◌∷◌}
use borrow.Author.Tests.{not-true, eqb-true, eqb-false}
use lib.Dec.{eqb}
use lib.ListN.{length, take, length-take}
use Rattle.answers.specs.declared.Answer.{Answer}
use Rattle.answers.specs.Answers.{record_fault, already_loaded, unsound_image, wrong_length, refused, done, settled, first, refusal_of}
use Rattle.objects.specs.Events.{happen, happens}
use Rattle.objects.specs.Movement as M
use Rattle.image.specs.Image.{right_length, sound, count, objects}
use Rattle.image.specs.Image.{fault_of}
use Rattle.house.specs.Images.{protect_call}
use Rattle.image.proofs.Facts.{Sound, sound_parts}
use Rattle.image.proofs.Tests.{both}
use Rattle.image.proofs.Objects.{length_objects}
use Rattle.record.specs.declared.drive.Drive.{Drive}
use Rattle.record.specs.Record.{attention_known, decode_of, encode_of, well_record, mounted_drive, with_sense}
use Rattle.codes.specs.declared.operation.Operation.{Operation}
use Rattle.codes.specs.declared.operation.Operation.TheVariants.{TestUnitReady, Rewind, RequestSense, ReadBlockLimits, Read, Write, WriteFilemarks, Space, ModeSelect, Erase, ModeSense, LoadUnload, Locate, ReadPosition, Space16, Locate16, NotServed}
use Rattle.codes.specs.Codes.{code_of, operation_of}
use Rattle.codes.specs.Fields.{space_code_of, space_count_of, space_count16_of, object_of}
use Rattle.image.specs.Image.{absent}
use Rattle.house.specs.Mount.{partitions_of, right_lengths, both_sound, mount_fault, mount_call}
use Rattle.commands.specs.Kinds.{erases, needs_cartridge, writes}
use Rattle.commands.specs.Act.{Seen, Deed, at, locating, destination16, goes_down, act, events_of}
use Rattle.commands.specs.Tests.{tests}
use Rattle.commands.specs.Step.{acted, kept_of}
use Rattle.commands.specs.Call.{Lent, lent, Result, partition, looks_at, seen, seen_of, inserted, written, command_call, laid_out, applied}
use Rattle.commands.proofs.Exact.{drive_test, refused_4}
use Rattle.image.proofs.Judged.{never_both}
use Rattle.commands.proofs.Passed.{passed}
use Rattle.commands.proofs.Goes.{has_cartridge}
use Rattle.commands.proofs.Laid.{Turned}
use Rattle.history.specs.History.{Slot, slot0, slot1, Cartridge, cartridge, protection, slices_left, after, ends}
use Rattle.history.specs.Demand3.{NoFault}
use Rattle.history.specs.Always.{Use, sends, mounts, protects, calls_of, record_used, AlwaysSo}
use Rattle.commands.proofs.Faultless.{Cart, no_cart, one_part, two_parts, Well, well_test, fault_free, no_fault, empty_whole, inside, looks_in, seen_there, kept_whole}
use Rattle.history.proofs.Ended.{Finished, by_number, by_sense, by_act, ended, calm_well}
use Rattle.history.proofs.Acted.{writing_drive, marking_drive, idle, stepped, sees, place, turned, shaped, put_place}
use Rattle.history.proofs.Told.{protect_turned}
use Rattle.history.proofs.Moved.{Moves, current_in, moved_cart, moved_well, loaded_well, selected_well, reading_moves, spacing_moves, located_well}

-- ---- a command that acts

as_left : (e : Drive) (r : Result) (c : Cartridge) → slices_left r ≡ c → Well e c.part0 c.part1 → Well e r.lent.part0 r.lent.part1
as_left e r c h k = subst (λ (x : Cartridge). Well e x.part0 x.part1) (sym h) k

from_moves : (d : Drive) (p0 p1 : List ℕ) (n : ℕ) (e : Drive) → Well d p0 p1 → (d.loaded ≡ 0 → ⊥) → Moves d n e → n ≡ count (partition d.current p0 p1) → Well e p0 p1
from_moves d p0 p1 n e w l m h = rw m.is (moved_well d p0 p1 m.to w l (omega (arith, m.within)))

module _ (rec : List ℕ) (x : Lent) (w : Well (decode_of rec) x.part0 x.part1) where
  abbrev Passes : Operation → Type 0
  Passes o = first (tests o (decode_of rec) x.cmd (seen o (decode_of rec) x) x.sent (length x.received)) ≡ none

  abbrev Drives : Operation → Drive
  Drives o = (act o (decode_of rec) x.cmd x.sent (seen o (decode_of rec) x)).drive

  abbrev Leaves : Operation → Result
  Leaves o = written rec (applied (acted o (decode_of rec) x.cmd x.sent (seen o (decode_of rec) x)) (looks_at o (decode_of rec) x.cmd) x)

  abbrev After : Operation → Type 0
  After o = Well (Drives o) (Leaves o).lent.part0 (Leaves o).lent.part1

  is_loaded : (o : Operation) → needs_cartridge o ≡ true → Passes o → (decode_of rec).loaded ≡ 0 → ⊥
  is_loaded o n q = has_cartridge (decode_of rec) x.cmd x.sent (length x.received) (seen o (decode_of rec) x) o n q

  -- one that writes the current partition, and leaves the position n there
  written_after : (o : Operation) (q : Passes o) (l : looks_at o (decode_of rec) x.cmd ≡ (decode_of rec).current) (z : (decode_of rec).loaded ≡ 0 → ⊥) (n : ℕ) → Drives o ≡ at (decode_of rec) n
      → n ≤ count (laid_out (stepped rec x w o q) (partition (decode_of rec).current x.part0 x.part1)) → After o
  written_after o q l z n e h =
      let c = moved_cart (decode_of rec) x.part0 x.part1 (laid_out (stepped rec x w o q)) n w.cart z (turned rec x w o q l z).sound h in
      as_left _ (Leaves o) _ (shaped rec x w o q l z) (rw e (record { attention = w.attention; small = w.small; cart = c }))

  put_after : (o : Operation) (q : Passes o) → erases o ≡ false → (l : looks_at o (decode_of rec) x.cmd ≡ (decode_of rec).current) (z : (decode_of rec).loaded ≡ 0 → ⊥)
      → Drives o ≡ at (decode_of rec) ((decode_of rec).position + length (goes_down o (decode_of rec) x.cmd x.sent (seen o (decode_of rec) x))) → After o
  put_after o q ne l z dr = written_after o q l z _ dr (put_place rec x w o q ne l z dr)

  erase_after : Passes Erase → After Erase
  unfolding act looks_at
  erase_after q = written_after Erase q refl (is_loaded Erase refl q) (decode_of rec).position refl (cut_place (turned rec x w Erase q refl (is_loaded Erase refl q)))
    where
      p : List ℕ
      p = partition (decode_of rec).current x.part0 x.part1

      cut_place : Turned (stepped rec x w Erase q).events p (laid_out (stepped rec x w Erase q) p) → (decode_of rec).position ≤ count (laid_out (stepped rec x w Erase q) p)
      cut_place t =
          let n : length (objects (laid_out (stepped rec x w Erase q) p)) ≡ length (take (decode_of rec).position (objects p)) = ap length t.makes ∙ (unfold acted events_of happens happen in refl) in
          omega (arith, n, length-take (decode_of rec).position (objects p), length_objects p, length_objects (laid_out (stepped rec x w Erase q) p), (inside (decode_of rec) x.part0 x.part1 w.cart (is_loaded Erase refl q)).place)

  -- one that writes nothing
  idle_after : (o : Operation) → Passes o → writes o ≡ false → Well (Drives o) x.part0 x.part1 → After o
  idle_after o q h k = as_left _ (Leaves o) _ (idle rec x o h) k

  module _ (o : Operation) (q : Passes o) (l : looks_at o (decode_of rec) x.cmd ≡ (decode_of rec).current) (z : (decode_of rec).loaded ≡ 0 → ⊥) where
    moves_after : ((v : Seen) → (decode_of rec).position ≤ length v.objects → Moves (decode_of rec) (length v.objects) (act o (decode_of rec) x.cmd x.sent v).drive) → Well (Drives o) x.part0 x.part1
    moves_after m =
        let e : length (seen o (decode_of rec) x).objects ≡ count (partition (decode_of rec).current x.part0 x.part1) = rw (sees rec x w o q l z) (unfold seen_of in length_objects (partition (decode_of rec).current x.part0 x.part1)) in
        from_moves (decode_of rec) x.part0 x.part1 (length (seen o (decode_of rec) x).objects) _ w z (m (seen o (decode_of rec) x) (place rec x w o q l z)) e

  -- one that locates t on the partition that it looks at
  locate_after : (o : Operation) (t : M.Destination) → needs_cartridge o ≡ true → ((v : Seen) → act o (decode_of rec) x.cmd x.sent v ≡ locating (decode_of rec) (looks_at o (decode_of rec) x.cmd) t v)
      → Passes o → Well (Drives o) x.part0 x.part1
  unfolding seen_of
  locate_after o t n a q =
      let k = passed o (decode_of rec) x.cmd (seen o (decode_of rec) x) x.sent (length x.received) q in
      let z = is_loaded o n q in
      let h = looks_in o (decode_of rec) x.cmd (current_in (decode_of rec) x.part0 x.part1 w.cart z) k.there in
      let p : List ℕ = partition (looks_at o (decode_of rec) x.cmd) x.part0 x.part1 in
      subst (λ (e : Deed). Well e.drive x.part0 x.part1) (sym (ap (act o (decode_of rec) x.cmd x.sent) (seen_there o (decode_of rec) x h) ∙ a (seen_of p)))
      (located_well (decode_of rec) x.part0 x.part1 (looks_at o (decode_of rec) x.cmd) t (seen_of p) w z h (length_objects p))

  pub acts_after : (o : Operation) → Passes o → After o
  unfolding act looks_at
  acts_after Write q = put_after Write q refl refl (is_loaded Write refl q) (writing_drive (decode_of rec) x.cmd x.sent _)
  acts_after WriteFilemarks q = put_after WriteFilemarks q refl refl (is_loaded WriteFilemarks refl q) (marking_drive (decode_of rec) x.cmd x.sent _)
  acts_after Erase q = erase_after q
  acts_after TestUnitReady q = idle_after TestUnitReady q refl w
  acts_after Rewind q = idle_after Rewind q refl (moved_well (decode_of rec) x.part0 x.part1 0 w (is_loaded Rewind refl q) zero-le)
  acts_after RequestSense q = idle_after RequestSense q refl (calm_well (decode_of rec) x.part0 x.part1 w)
  acts_after ReadBlockLimits q = idle_after ReadBlockLimits q refl w
  acts_after Read q = idle_after Read q refl (moves_after Read q refl (is_loaded Read refl q) (λ v h. reading_moves (decode_of rec) x.cmd v h))
  acts_after Space q = idle_after Space q refl (moves_after Space q refl (is_loaded Space refl q) (λ v h. spacing_moves (decode_of rec) (space_code_of x.cmd) (space_count_of x.cmd) v h))
  acts_after ModeSelect q = idle_after ModeSelect q refl (selected_well (decode_of rec) x.part0 x.part1 x.cmd x.sent w)
  acts_after ModeSense q = idle_after ModeSense q refl w
  acts_after LoadUnload q = idle_after LoadUnload q refl (loaded_well (decode_of rec) x.part0 x.part1 x.cmd w (is_loaded LoadUnload refl q))
  acts_after Locate q = idle_after Locate q refl (locate_after Locate (M.object (object_of x.cmd)) refl (λ v. refl) q)
  acts_after ReadPosition q = idle_after ReadPosition q refl w
  acts_after Space16 q = idle_after Space16 q refl (moves_after Space16 q refl (is_loaded Space16 refl q) (λ v h. spacing_moves (decode_of rec) (space_code_of x.cmd) (space_count16_of x.cmd) v h))
  acts_after Locate16 q = idle_after Locate16 q refl (locate_after Locate16 (destination16 x.cmd) refl (λ v. refl) q)
  acts_after NotServed q = idle_after NotServed q refl w

-- ---- every call of a command

abbrev Faultless : Result → Type 0
Faultless r = NoFault r.rec (slices_left r)

pub command_faultless : (rec cmd p0 p1 sent received : List ℕ) → NoFault rec (cartridge p0 p1) → Faultless (command_call rec (lent cmd p0 p1 sent received))
unfolding applied acted
command_faultless rec cmd p0 p1 sent received h = go (ended rec cmd p0 p1 sent received)
  where
    go : Finished rec cmd p0 p1 sent received → Faultless (command_call rec (lent cmd p0 p1 sent received))
    go (by_number n k f e) = subst Faultless (sym e) h
    go (by_sense z f x b w p l e) = subst Faultless (sym e) (no_fault x b p0 p1 w l)
    go (by_act f w q e) =
        let o : Operation = operation_of (code_of cmd) in
        let x = act o (decode_of rec) cmd sent (seen o (decode_of rec) (lent cmd p0 p1 sent received)) in
        let r : Result = written rec (applied (acted o (decode_of rec) cmd sent (seen o (decode_of rec) (lent cmd p0 p1 sent received))) (looks_at o (decode_of rec) cmd) (lent cmd p0 p1 sent received)) in
        let y : well_record (encode_of (with_sense x.drive (kept_of x.tells))) && inserted (decode_of (encode_of (with_sense x.drive (kept_of x.tells)))) r.lent.part0 r.lent.part1 ≡ true
        = no_fault x.drive (kept_of x.tells) r.lent.part0 r.lent.part1 (acts_after rec (lent cmd p0 p1 sent received) w o q) (kept_whole x.tells) in
        subst Faultless (sym e) y

-- and no command is refused with 4
pub never_four : (rec cmd p0 p1 sent received : List ℕ) → NoFault rec (cartridge p0 p1) → (command_call rec (lent cmd p0 p1 sent received)).answer.refusal ≡ 4 → ⊥
never_four rec cmd p0 p1 sent received h k =
    let x = lent cmd p0 p1 sent received in
    never_both h (not-true (well_record rec && inserted (decode_of rec) p0 p1) ((drive_test rec x).1 ((refused_4 rec x).0 k).1))

-- ---- mount and protection

mounted_cart : (p0 p1 : List ℕ) → sound p0 ≡ true → (t : Bool) → absent p1 ≡ t → t || sound p1 ≡ true → Cart (mounted_drive (cond t 1 2)) p0 p1
unfolding mounted_drive
mounted_cart p0 p1 s true e h = one_part refl refl refl (sound_parts p0 s) (eqb-true (length p1) 0 e) zero-le
mounted_cart p0 p1 s false e h = two_parts refl refl (omega arith) (sound_parts p0 s) (sound_parts p1 h) zero-le

mounted_faultless : (p0 p1 : List ℕ) → both_sound p0 p1 ≡ true → NoFault (encode_of (mounted_drive (partitions_of p1))) (cartridge p0 p1)
unfolding both_sound mounted_drive attention_known with_sense
mounted_faultless p0 p1 h =
    let b = both _ _ h in
    let c = mounted_cart p0 p1 b.0 (absent p1) refl b.1 in
    let w : Well (mounted_drive (partitions_of p1)) p0 p1 = record { attention = refl; small = omega arith; cart = c } in
    no_fault (mounted_drive (partitions_of p1)) (mounted_drive (partitions_of p1)).sense p0 p1 w empty_whole

mount_sound : (rec p0 p1 : List ℕ) → mount_fault rec p0 p1 ≡ 0 → both_sound p0 p1 ≡ true
unfolding mount_fault first
mount_sound rec p0 p1 h = go (well_record rec) (eqb (decode_of rec).loaded 1) (right_lengths p0 p1) (both_sound p0 p1) h
  where
    go : (a b c d : Bool) → refusal_of (first ((not a, record_fault) ∷ (b, already_loaded) ∷ (not c, wrong_length) ∷ (not d, unsound_image) ∷ [])) ≡ 0 → d ≡ true
    go true false true true h = refl
    go true false true false h = absurd (let z : ◌≡◌ {A = ℕ} unsound_image 0 = h in omega arith)
    go true false false d h = absurd (let z : ◌≡◌ {A = ℕ} wrong_length 0 = h in omega arith)
    go true true c d h = absurd (let z : ◌≡◌ {A = ℕ} already_loaded 0 = h in omega arith)
    go false b c d h = absurd (let z : ◌≡◌ {A = ℕ} record_fault 0 = h in omega arith)

mount_faultless : (rec : List ℕ) (c : Cartridge) → NoFault rec c → NoFault (mount_call rec c.part0 c.part1).lent c
unfolding mount_call
mount_faultless rec c h = go (eqb (mount_fault rec c.part0 c.part1) 0) refl
  where
    go : (t : Bool) → eqb (mount_fault rec c.part0 c.part1) 0 ≡ t
        → NoFault (cond t (settled done (encode_of (mounted_drive (partitions_of c.part1)))) (settled (refused (mount_fault rec c.part0 c.part1)) rec)).lent c
    go true e = mounted_faultless c.part0 c.part1 (mount_sound rec c.part0 c.part1 (eqb-true (mount_fault rec c.part0 c.part1) 0 e))
    go false e = h

done_faultless : (rec : List ℕ) (c : Cartridge) → (mount_call rec c.part0 c.part1).answer ≡ done → NoFault (mount_call rec c.part0 c.part1).lent c
unfolding mount_call
done_faultless rec c h = go (eqb (mount_fault rec c.part0 c.part1) 0) refl h
  where
    go : (t : Bool) → eqb (mount_fault rec c.part0 c.part1) 0 ≡ t
        → (cond t (settled done (encode_of (mounted_drive (partitions_of c.part1)))) (settled (refused (mount_fault rec c.part0 c.part1)) rec)).answer ≡ done
        → NoFault (cond t (settled done (encode_of (mounted_drive (partitions_of c.part1)))) (settled (refused (mount_fault rec c.part0 c.part1)) rec)).lent c
    go true e a = mounted_faultless c.part0 c.part1 (mount_sound rec c.part0 c.part1 (eqb-true (mount_fault rec c.part0 c.part1) 0 e))
    go false e a = absurd (eqb-false (mount_fault rec c.part0 c.part1) 0 e (ap (λ (y : Answer). y.refusal) a))

protect_count : (on : Bool) (p : List ℕ) → Sound p → count (protect_call on p).lent ≡ count p
unfolding happens
protect_count on p k = sym (length_objects (protect_call on p).lent) ∙ ap length (protect_turned on p k).makes ∙ length_objects p

protect_absent : (on : Bool) (p : List ℕ) → length p ≡ 0 → length (protect_call on p).lent ≡ 0
protect_absent on [] e = unfold protect_call fault_of first right_length in refl
protect_absent on (x ∷ p) e = absurd (let z : suc (length p) ≡ 0 = e in omega arith)

protect_cart : (s : Slot) (on : Bool) (d : Drive) (c : Cartridge) → Cart d c.part0 c.part1 → Cart d (after (protection s on) c).part0 (after (protection s on) c).part1
unfolding after
protect_cart slot0 on d c (no_cart a b e f) = no_cart a b e f
protect_cart slot1 on d c (no_cart a b e f) = no_cart a b e f
protect_cart slot0 on d c (one_part a b e s l h) = one_part a b e (protect_turned on c.part0 s).sound l (rw (e, protect_count on c.part0 s) (rw e at h))
protect_cart slot1 on d c (one_part a b e s l h) = one_part a b e s (protect_absent on c.part1 l) (rw e (rw e at h))
protect_cart slot0 on d c (two_parts a b e s t h) = two_parts a b e (protect_turned on c.part0 s).sound t (go (eqb d.current 1) h)
  where
    go : (x : Bool) → d.position ≤ count (cond x c.part1 c.part0) → d.position ≤ count (cond x c.part1 (protect_call on c.part0).lent)
    go true k = k
    go false k = rw (protect_count on c.part0 s) k
protect_cart slot1 on d c (two_parts a b e s t h) = two_parts a b e s (protect_turned on c.part1 t).sound (go (eqb d.current 1) h)
  where
    go : (x : Bool) → d.position ≤ count (cond x c.part1 c.part0) → d.position ≤ count (cond x (protect_call on c.part1).lent c.part0)
    go true k = rw (protect_count on c.part1 t) k
    go false k = k

protect_faultless : (s : Slot) (on : Bool) (rec : List ℕ) (c : Cartridge) → NoFault rec c → NoFault rec (after (protection s on) c)
protect_faultless s on rec c h =
    let a = both (well_record rec) (inserted (decode_of rec) c.part0 c.part1) h in
    let w = fault_free rec c.part0 c.part1 h in
    let t = well_test (decode_of rec) (after (protection s on) c).part0 (after (protection s on) c).part1 (record { attention = w.attention; small = w.small; cart = protect_cart s on (decode_of rec) c w.cart }) in
    rw (a.0, t.1) refl

-- ---- every use

used_faultless : (us : List Use) (rec : List ℕ) (c : Cartridge) → NoFault rec c → NoFault (record_used us rec c) (ends (calls_of us rec c) c)
unfolding record_used calls_of ends
used_faultless [] rec c h = h
used_faultless (sends cmd sent received ∷ us) rec c h = used_faultless us _ _ (unfold after in command_faultless rec cmd c.part0 c.part1 sent received h)
used_faultless (mounts ∷ us) rec c h = used_faultless us _ _ (unfold after in mount_faultless rec c h)
used_faultless (protects s on ∷ us) rec c h = used_faultless us _ _ (protect_faultless s on rec c h)

pub always_so : (rec : List ℕ) (c : Cartridge) → (mount_call rec c.part0 c.part1).answer ≡ done → (us : List Use) → AlwaysSo rec c us
always_so rec c h us = used_faultless us (mount_call rec c.part0 c.part1).lent c (done_faultless rec c h)
