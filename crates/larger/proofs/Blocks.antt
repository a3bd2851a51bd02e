-- A variable WRITE of a block of any length from 1 to 1,048,576 bytes: where it fits it is put whole, where it does not nothing changes; of a longer one
-- a field is wrong.
-- Assumes nothing.
use Prim.Native.Nat.{ℕ, suc, ◌+◌, ◌≤◌, ◌<◌, zero-le}
use native.Mathlib.Omega.{arith}
use mathlib.Core.Path.{◌≡◌, refl, sym, ap, ap₂, ◌∙◌}
use mathlib.Core.Bool.{Bool, true, false, cond}
use mathlib.Core.Option.{none, some}
use mathlib.Core.List.{List, [], ◌∷◌}
use borrow.Author.Tests.{eq-eqb, ne_eqb, le-ltb, lt-ltb}
use lib.Dec.{eqb}
use lib.IntN.{ℤ, pos}
use lib.ListN.{length, take}
use lib.Seq.{length-take-le}
use Rattle.words.specs.Words.{over}
use Rattle.words.proofs.Laws.{over_nil}
use Rattle.answers.specs.Answers.{check_condition, answered, first}
use Rattle.objects.specs.Object.{Object, block, bytes_in, largest_block}
use Rattle.objects.specs.Events.{put}
use Rattle.objects.specs.Room.{room_of, fits_in, zone_in}
use Rattle.objects.specs.Transfer.{fitting, put_from}
use Rattle.objects.proofs.Residue.{all_left}
use Rattle.image.specs.Image.{end_at, room, fits, zone, objects}
use Rattle.image.proofs.Objects.{end_bytes}
use Rattle.changes.specs.Changes.{occur, occurs}
use Rattle.changes.proofs.Obeys.{Admits, obeys, put_next}
use Rattle.sense.specs.Sense.{illegal_request, invalid_field, unqualified, plainly, sense_bytes, empty_sense}
use Rattle.record.specs.declared.drive.Drive.{Drive}
use Rattle.record.specs.Record.{no_attention, decode_of, encode_of, with_sense}
use Rattle.codes.specs.declared.operation.Operation.TheVariants.{Write}
use Rattle.commands.specs.Act.{Deed, good, checked, carrying, at, warned, overflowed, goes_down, offered, wrote, writing, act, events_of}
use Rattle.commands.specs.Tests.{field_error, field_fault, bytes_asked, taken, reply_length, needed, tests}
use Rattle.commands.specs.Step.{status_of, kept_of, stopped, acted}
use Rattle.commands.specs.Call.{Lent, lent, result_of, looks_at, seen_of, seen, laid_out, applied, command_tests, command_call}
use Rattle.commands.proofs.Ends.{call_stops, call_acts}
use Rattle.commands.proofs.Faultless.{fault_free, Inside, inside, seen_there}
use Rattle.larger.specs.Blocks.{current_of, Writes, block_sent, with_block, block_put, only_tells}

-- ---- one block that is offered goes down exactly if it fits

alone : (l k e : ℕ) (bs : List ℕ) (t : Bool) → fits_in (room_of l k e) (length bs) ≡ t → fitting l k e (block bs ∷ []) ≡ cond t (block bs ∷ []) []
unfolding fitting
alone l k e bs t h = ap (λ (u : Bool). elim u as (λ y. List Object) [ true ↦ block bs ∷ [] | false ↦ [] ]) h ∙ by t
  where
    by : (u : Bool) → elim u as (λ y. List Object) [ true ↦ block bs ∷ [] | false ↦ [] ] ≡ cond u (block bs ∷ []) []
    by true = refl
    by false = refl

module _ (n : ℕ) (rec : List ℕ) (x : Lent) (w : Writes n rec x) where
  abbrev d : Drive
  d = decode_of rec

  abbrev p : List ℕ
  p = current_of rec x

  i : Inside d x.part0 x.part1
  i = inside d x.part0 x.part1 (fault_free rec x.part0 x.part1 w.mounted.no_fault).cart (λ z. omega (arith, w.mounted.loaded))

  sees : seen Write d x ≡ seen_of p
  unfolding looks_at
  sees = seen_there Write d x i.there

  -- ---- the tests: the field of a length that is above the largest block, else none

  stops : largest_block < n → first (command_tests rec x) ≡ some field_fault
  unfolding first command_tests tests field_error
  stops h =
      rw (w.is, w.whole, w.mounted.no_fault, eq-eqb d.attention no_attention w.mounted.no_attention_lem, w.masks, w.variable, w.asks, lt-ltb largest_block n h) refl

  pub too_long : largest_block < n → command_call rec x ≡ only_tells rec x (plainly illegal_request invalid_field unqualified)
  unfolding stopped
  too_long h = call_stops rec x field_fault (stops h)

  lets : n ≤ largest_block → first (command_tests rec x) ≡ none
  unfolding first command_tests tests field_error taken needed reply_length bytes_asked seen_of
  lets h =
      rw (
        w.is,
        w.whole,
        w.mounted.no_fault,
        eq-eqb d.attention no_attention w.mounted.no_attention_lem,
        w.masks,
        w.variable,
        w.asks,
        le-ltb largest_block n h,
        ne_eqb d.loaded 0 (λ z. omega (arith, w.mounted.loaded)),
        sees,
        w.unguarded,
        le-ltb (length x.sent) n w.sends,
        le-ltb (length x.received) 0 zero-le,
      ) refl

  -- ---- the act

  sized : length (take n x.sent) ≡ n
  sized = length-take-le n x.sent w.sends

  -- end(n), as the act reckons it
  before : bytes_in (take d.position (objects p)) ≡ end_at p d.position
  before = sym (end_bytes p i.right d.position i.place)

  module _ (least : 1 ≤ n) where
    some_bytes : eqb n 0 ≡ false
    some_bytes = ne_eqb n 0 (λ z. omega arith)

    goes : (t : Bool) → fits p d.position n ≡ t → goes_down Write d x.cmd x.sent (seen_of p) ≡ cond t (block_sent n x ∷ []) []
    unfolding goes_down offered seen_of fits room
    goes t f =
        let h : fits_in (room_of (length p) d.position (bytes_in (take d.position (objects p)))) (length (take n x.sent)) ≡ t = rw (before, sized) f in
        rw (w.variable, w.asks, some_bytes) (alone (length p) d.position _ (take n x.sent) t h)

    -- where it does not fit, the request is what is not put, and nothing else is told of it
    overflows : fits p d.position n ≡ false → act Write d x.cmd x.sent (seen_of p) ≡ checked (at d d.position) (overflowed (pos n))
    unfolding act writing wrote bytes_in
    overflows f =
        let there : Deed = act Write d x.cmd x.sent (seen_of p) in
        let e : there ≡ checked (at d (d.position + 0)) (overflowed (pos n)) = rw (w.variable, w.asks, some_bytes, goes false f) (ap (λ (z : ℤ). checked (at d (d.position + 0)) (overflowed z)) (all_left n)) in
        let z : d.position + 0 ≡ d.position = omega arith in
        e ∙ ap (λ (k : ℕ). checked (at d k) (overflowed (pos n))) z

    pub not_put : n ≤ largest_block → fits (current_of rec x) (decode_of rec).position n ≡ false → command_call rec x ≡ only_tells rec x (overflowed (pos n))
    unfolding applied acted laid_out looks_at events_of put_from occurs status_of kept_of with_sense
    not_put most f = call_acts rec x (lets most) ∙ rw (w.is, sees, overflows f, goes false f, over_nil x.received 0) (by (eqb d.current 1))
      where
        by : (c : Bool) → only_tells rec (lent x.cmd (cond c x.part0 x.part0) (cond c x.part1 x.part1) x.sent x.received) (overflowed (pos n)) ≡ only_tells rec x (overflowed (pos n))
        by true = refl
        by false = refl

    module _ (most : n ≤ largest_block) (f : fits p d.position n ≡ true) where
      admitted : Admits (put d.position (block_sent n x)) p
      admitted = (i.place, (omega (arith, sized), omega (arith, sized)), rw sized f)

      zoned : zone_in (length p) (room_of (length p) (suc d.position) (bytes_in (take d.position (objects p)) + n)) ≡ zone (with_block n rec x) (suc d.position)
      unfolding zone room
      zoned = rw ((obeys _ p i.right admitted).same_length, (put_next d.position (block_sent n x) p i.right admitted).1, before, sized) refl

      -- at number k, with c bytes carried
      abbrev left : ℕ → ℕ → Deed
      left k c =
          let l : ℕ = length p in
          carrying c (cond (zone_in l (room_of l k (bytes_in (take d.position (objects p)) + c))) (checked (at d k) warned) (good (at d k)))

      puts : act Write d x.cmd x.sent (seen_of p)
          ≡ carrying n (cond (zone (with_block n rec x) (suc d.position)) (checked (at d (suc d.position)) warned) (good (at d (suc d.position))))
      unfolding act writing wrote bytes_in seen_of
      puts =
          let there : Deed = act Write d x.cmd x.sent (seen_of p) in
          let e : there ≡ left (d.position + 1) (length (take n x.sent) + 0) = rw (w.variable, w.asks, some_bytes, goes true f) refl in
          let next : d.position + 1 ≡ suc d.position = omega arith in
          let all : length (take n x.sent) + 0 ≡ n = omega (arith, sized) in
          e ∙ ap₂ left next all ∙ ap (λ (z : Bool). carrying n (cond z (checked (at d (suc d.position)) warned) (good (at d (suc d.position))))) zoned

      -- ---- the call

      pub put_whole : command_call rec x ≡ block_put n rec x
      unfolding applied acted laid_out looks_at events_of put_from occurs status_of kept_of
      put_whole = call_acts rec x (lets most) ∙ rw (w.is, sees, puts, goes true f) (by (zone (with_block n rec x) (suc d.position)) (eqb d.current 1))
        where
          e : Drive
          e = at d (suc d.position)

          deed : Bool → Deed
          deed z = carrying n (cond z (checked e warned) (good e))

          laid : List ℕ → List ℕ
          laid q = occur (put d.position (block_sent n x)) q

          -- z: in the zone; c: partition 1 is current
          by : (z c : Bool)
              → result_of (answered (status_of (deed z).tells) (deed z).carried (deed z).crossed) (encode_of (with_sense (deed z).drive (kept_of (deed z).tells)))
              (lent x.cmd (cond c x.part0 (laid x.part0)) (cond c (laid x.part1) x.part1) x.sent (over x.received 0 (deed z).received))
              ≡ result_of (answered (cond z check_condition 0x00) n 0) (encode_of (with_sense e (cond z (sense_bytes warned) empty_sense)))
              (lent x.cmd (cond c x.part0 (laid (cond c x.part1 x.part0))) (cond c (laid (cond c x.part1 x.part0)) x.part1) x.sent x.received)
          by true true = rw (over_nil x.received 0) refl
          by true false = rw (over_nil x.received 0) refl
          by false true = rw (over_nil x.received 0) refl
          by false false = rw (over_nil x.received 0) refl
