-- LOCATE (16) to file f lands where REWIND and SPACE over f filemarks land, when both are GOOD; and after that REWIND the one is GOOD exactly if the other is.
-- Assumes nothing.
use Prim.Native.Nat.{ℕ, zero, suc, zero-le, ◌^◌, ◌<◌}
use native.Mathlib.Nat.{zero-add}
use native.Mathlib.Omega.{arith}
use mathlib.Core.Path.{◌≡◌, refl, sym, ap, ◌∙◌, subst}
use mathlib.Core.Logic.{inl}
use mathlib.Core.Bool.{Bool, true, false}
use mathlib.Core.Option.{Option, none}
use mathlib.Core.List.{List, [], ◌∷◌, ◌++◌}
use borrow.Author.Tests.{eq-eqb, ne_eqb, le-ltb}
use lib.Dec.{eqb}
use lib.IntN.{pos}
use lib.ListN.{length}
use Rattle.words.specs.Words.{be, bytes, zeros}
use Rattle.words.specs.Signed.{signed}
use Rattle.answers.specs.Answers.{answered, done, first}
use Rattle.objects.specs.Object.{Object, filemark, block}
use Rattle.objects.specs.Movement as M
use Rattle.objects.specs.Transfer.{fitting, put_from}
use Rattle.image.specs.Image.{count, flags, directory, size, entry, top_bit, low31, end_at, follows, ordered, right_length, sound, object_at, upto, objects}
use Rattle.image.specs.Example.{E}
use Rattle.changes.specs.Changes.{occurs}
use Rattle.sense.specs.declared.Sense.{Sense}
use Rattle.sense.specs.Sense.{sense_bytes, empty_sense}
use Rattle.record.specs.declared.drive.Drive.{Drive}
use Rattle.record.specs.Record.{no_attention, decode_of, encode_of, attention_known, placed, well_formed, well_record, with_sense}
use Rattle.codes.specs.declared.operation.Operation.TheVariants.{Rewind, Locate16}
use Rattle.codes.specs.Codes.{too_short, in_masks, masks_hold}
use Rattle.codes.specs.Six.{six}
use Rattle.codes.specs.Sixteen.{sixteen}
use Rattle.codes.specs.Fields.{space_code_of, space_count_of, changes_partition, destination_of, identifier_of}
use Rattle.commands.specs.Act.{Seen, at, offered, goes_down, space_tells, over_filemarks, movement, spacing, target_of, destination16, locate_tells, locating, act, events_of}
use Rattle.commands.specs.Tests.{tests, field_error, taken, reply_length, needed}
use Rattle.commands.specs.Step.{status_of, kept_of, acted, unless, step}
use Rattle.commands.specs.Call.{lent, Result, looks_at, seen_of, seen, inserted, laid_out, applied, step_of, called, command_call, command_tests}
use Rattle.commands.proofs.Crossed.{call_fits}
use Rattle.commands.proofs.Faultless.{back, empty_whole}
use Rattle.history.specs.History.{cartridge, is_good}
use Rattle.history.specs.Demand3.{Mounted}
use Rattle.alike.specs.Alike.{ToFile, OverMarks, Rewinds}
use Rattle.alike.proofs.Moves.{Goes, landed, goes_left, passed, lands, was_mounted, standing, stands, stays_mounted, current, spaced_goes, spaced_passes}

-- file f begins where SPACE over f filemarks from the beginning ends, and both end for the same reason
pub file_as_marks : (f p : ℕ) (xs : List Object) → ((M.to_file p f xs).to ≡ (M.space M.filemarks (pos f) 0 xs).to) × ((M.to_file p f xs).why ≡ (M.space M.filemarks (pos f) 0 xs).why)
unfolding M.to_file M.space M.ahead
file_as_marks f p xs = (sym (zero-add (M.walk M.filemarks f xs).crossed), refl)

-- ---- the three commands

-- where f filemarks of what is seen end, and why; what SPACE over them from the beginning tells
abbrev marks : ℕ → Seen → M.Walk
marks f v = M.walk M.filemarks f v.objects

abbrev tells_over : ℕ → Seen → Option Sense
tells_over f v = space_tells v (pos f) (M.space M.filemarks (pos f) 0 v.objects)

module _ (f : ℕ) (rec cmd p0 p1 sent received : List ℕ) where
  abbrev from : Drive
  from = decode_of rec

  abbrev v : Seen
  v = current from p0 p1

  located_goes : ToFile f cmd → Goes rec (lent cmd p0 p1 sent received) (marks f v).crossed (locate_tells v (marks f v).why) 0
  unfolding act locating destination16 M.locate M.to_file seen looks_at target_of
  located_goes t = record { o = Locate16; is = t.is; quiet = refl; does = rw (t.stays, t.by_file_lem, t.identifier) refl }

  rewound_goes : Rewinds cmd → Goes rec (lent cmd p0 p1 sent received) 0 none 0
  unfolding act
  rewound_goes r = record { o = Rewind; is = r; quiet = refl; does = refl }

  -- SPACE, from the beginning
  from_beginning : OverMarks f cmd → from.position ≡ 0 → Goes rec (lent cmd p0 p1 sent received) (marks f v).crossed (tells_over f v) (marks f v).crossed
  unfolding movement M.space M.ahead
  from_beginning m z =
      subst (λ (n : ℕ). Goes rec (lent cmd p0 p1 sent received) n (tells_over f v) (marks f v).crossed) (zero-add (marks f v).crossed) (rw z at (spaced_goes over_filemarks (pos f) rec cmd p0 p1 sent received m))

-- ---- SPACE after REWIND

module _ (rec rewound p0 p1 sent received : List ℕ) (r : Rewinds rewound) (g : is_good (command_call rec (lent rewound p0 p1 sent received)).answer ≡ true) where
  begins : decode_of (standing rec 0) ≡ with_sense (at (decode_of rec) 0) empty_sense
  begins = stands rec p0 p1 0 (omega arith) (passed rec rewound p0 p1 sent received g).1

  -- a command on what a REWIND left that is GOOD is one on that record and the same partitions
  rewinds : (cmd : List ℕ) → let b = command_call rec (lent rewound p0 p1 sent received) in command_call b.rec (lent cmd b.lent.part0 b.lent.part1 sent received) ≡ command_call (standing rec 0) (lent cmd p0 p1 sent received)
  rewinds cmd = ap (λ (b : Result). command_call b.rec (lent cmd b.lent.part0 b.lent.part1 sent received)) (lands rec rewound p0 p1 sent received 0 none 0 (rewound_goes 0 rec rewound p0 p1 sent received r) g)

  then_goes : (f : ℕ) (spaced : List ℕ) → OverMarks f spaced → let v = current (decode_of (standing rec 0)) p0 p1 in Goes (standing rec 0) (lent spaced p0 p1 sent received) (marks f v).crossed (tells_over f v) (marks f v).crossed
  unfolding with_sense
  then_goes f spaced m = from_beginning f (standing rec 0) spaced p0 p1 sent received m (ap (λ (e : Drive). e.position) begins)

  then_lands : (f : ℕ) (spaced : List ℕ) → OverMarks f spaced → is_good (command_call (standing rec 0) (lent spaced p0 p1 sent received)).answer ≡ true
      → command_call (standing rec 0) (lent spaced p0 p1 sent received) ≡ landed (decode_of rec) (marks f (current (decode_of rec) p0 p1)).crossed (marks f (current (decode_of rec) p0 p1)).crossed (lent spaced p0 p1 sent received)
  unfolding with_sense
  then_lands f spaced m h =
      lands (standing rec 0) spaced p0 p1 sent received _ _ _ (then_goes f spaced m) h
      ∙ ap (λ (e : Drive). landed e (marks f (current e p0 p1)).crossed (marks f (current e p0 p1)).crossed (lent spaced p0 p1 sent received)) begins

  -- it had a mounted cartridge and no attention before it, and leaves them
  rewinds_mounted : Mounted rec (cartridge p0 p1)
  rewinds_mounted = was_mounted rec rewound p0 p1 sent received (rw r refl) (rw r refl) g

  still_mounted : Mounted (standing rec 0) (cartridge p0 p1)
  still_mounted = stays_mounted rec p0 p1 0 (omega arith) zero-le (passed rec rewound p0 p1 sent received g).1 rewinds_mounted

-- LOCATE (16) to file f and REWIND and SPACE over f filemarks, all GOOD, leave the same record, partitions and receiving buffer; and the same answer
-- but for what SPACE crossed, which is as many objects as lie before where both end (Q-10: LOCATE "answers 0 there")
pub file_reached : (f : ℕ) (rec located rewound spaced p0 p1 sent received : List ℕ) → ToFile f located → Rewinds rewound → OverMarks f spaced
    → let a = command_call rec (lent located p0 p1 sent received) in
    let b = command_call rec (lent rewound p0 p1 sent received) in
    let c = command_call b.rec (lent spaced b.lent.part0 b.lent.part1 sent received) in
    is_good a.answer ≡ true → is_good b.answer ≡ true → is_good c.answer ≡ true
    → (a.answer ≡ done) × (c.answer ≡ answered 0 0 (decode_of c.rec).position) × (a.rec ≡ c.rec) × (a.lent.part0 ≡ c.lent.part0) × (a.lent.part1 ≡ c.lent.part1) × (a.lent.received ≡ c.lent.received)
unfolding with_sense
file_reached f rec located rewound spaced p0 p1 sent received t r m ga gb gc =
    let b = command_call rec (lent rewound p0 p1 sent received) in
    let e = rewinds rec rewound p0 p1 sent received r gb spaced in
    let qa = lands rec located p0 p1 sent received _ _ _ (located_goes f rec located p0 p1 sent received t) ga in
    let qc = e ∙ then_lands rec rewound p0 p1 sent received r gb f spaced m (sym (ap (λ (y : Result). is_good y.answer) e) ∙ gc) in
    let n : ℕ = (marks f (current (decode_of rec) p0 p1)).crossed in
    let small : n < 2 ^ 28 = subst (λ (k : ℕ). k < 2 ^ 28) (ap (λ (y : Result). y.answer.crossed) qc) (call_fits b.rec (lent spaced b.lent.part0 b.lent.part1 sent received)).1 in
    let there = ap (λ (y : Result). (decode_of y.rec).position) qc ∙ ap (λ (y : Drive). y.position) (back (at (decode_of rec) n) empty_sense (omega arith) (passed rec rewound p0 p1 sent received gb).1.small empty_whole) in
    (ap (λ (y : Result). y.answer) qa, ap (λ (y : Result). y.answer) qc ∙ ap (answered 0 0) (sym there), ap (λ (y : Result). y.rec) qa ∙ sym (ap (λ (y : Result). y.rec) qc), ap (λ (y : Result). y.lent.part0) qa ∙ sym (ap (λ (y : Result). y.lent.part0) qc), ap (λ (y : Result). y.lent.part1) qa ∙ sym (ap (λ (y : Result). y.lent.part1) qc), ap (λ (y : Result). y.lent.received) qa ∙ sym (ap (λ (y : Result). y.lent.received) qc))

-- ---- GOOD, of the one exactly if of the other

-- no filemark is crossed uncounted on the way over filemarks
never_marked : (f : ℕ) (xs : List Object) → (M.walk M.filemarks f xs).why ≡ M.marked → ⊥
unfolding M.walk
never_marked zero xs e = let z : ◌≡◌ {A = ℕ} 0 1 = cc in omega arith
never_marked (suc f) [] e = let z : ◌≡◌ {A = ℕ} 0 1 = cc in omega arith
never_marked (suc f) (filemark ∷ xs) e = never_marked f xs e
never_marked (suc f) (block bs ∷ xs) e = never_marked (suc f) xs e

-- so LOCATE and SPACE both tell something or neither does
tell_alike : (f : ℕ) (v : Seen) → status_of (locate_tells v (marks f v).why) ≡ status_of (tells_over f v)
unfolding M.space M.ahead
tell_alike f v = go (marks f v).why refl
  where
    go : (w : M.Why) → (marks f v).why ≡ w → status_of (locate_tells v w) ≡ status_of (tells_over f v)
    go M.done e = unfold locate_tells space_tells in rw e refl
    go M.marked e = absurd (never_marked f v.objects e)
    go M.edge e = unfold locate_tells space_tells status_of in rw e refl

module _ (rec cmd p0 p1 sent received : List ℕ) (mounted : Mounted rec (cartridge p0 p1)) (whole : too_short cmd ≡ false) (within : masks_hold cmd ≡ true) where
  calm : eqb (decode_of rec).attention no_attention ≡ true
  calm = eq-eqb (decode_of rec).attention no_attention mounted.no_attention_lem

  has : eqb (decode_of rec).loaded 0 ≡ false
  has = ne_eqb (decode_of rec).loaded 0 (λ z. omega (arith, mounted.loaded))

  located_passes : (f : ℕ) → ToFile f cmd → first (command_tests rec (lent cmd p0 p1 sent received)) ≡ none
  unfolding first command_tests tests field_error taken needed reply_length
  located_passes f t = rw (t.is, whole, mounted.no_fault, within, t.by_file_lem, t.stays, calm, has, le-ltb (length sent) 0 zero-le, le-ltb (length received) 0 zero-le) refl

-- after a REWIND that is GOOD, LOCATE (16) to file f and SPACE over f filemarks, both whole and within their masks, are both GOOD or neither
pub file_good : (f : ℕ) (rec located rewound spaced p0 p1 sent received : List ℕ) → ToFile f located → Rewinds rewound → OverMarks f spaced
    → too_short located ≡ false → masks_hold located ≡ true → too_short spaced ≡ false → masks_hold spaced ≡ true
    → let a = command_call rec (lent located p0 p1 sent received) in
    let b = command_call rec (lent rewound p0 p1 sent received) in
    let c = command_call b.rec (lent spaced b.lent.part0 b.lent.part1 sent received) in
    is_good b.answer ≡ true → is_good a.answer ≡ is_good c.answer
unfolding with_sense
file_good f rec located rewound spaced p0 p1 sent received t r m la ka lc kc g =
    let good : Result → Bool = λ (y : Result). is_good y.answer in
    let told : Option Sense → Bool = λ (s : Option Sense). is_good (answered (status_of s) 0 0) in
    let qa = goes_left rec located p0 p1 sent received _ _ _ (located_goes f rec located p0 p1 sent received t) (located_passes rec located p0 p1 sent received (rewinds_mounted rec rewound p0 p1 sent received r g) la ka f t) in
    let qc = goes_left (standing rec 0) spaced p0 p1 sent received _ _ _ (then_goes rec rewound p0 p1 sent received r g f spaced m) (spaced_passes over_filemarks (pos f) (standing rec 0) spaced p0 p1 sent received m refl (still_mounted rec rewound p0 p1 sent received r g) lc kc) in
    ap good qa
    ∙ ap (λ (n : ℕ). is_good (answered n 0 0)) (tell_alike f (current (decode_of rec) p0 p1))
    ∙ sym (ap (λ (e : Drive). told (tells_over f (current e p0 p1))) (begins rec rewound p0 p1 sent received r g))
    ∙ sym (ap good (rewinds rec rewound p0 p1 sent received r g spaced ∙ qc))

-- ---- that it can be so: file 1 of 01's example E, with one partition mounted and no attention

abbrev example_record : List ℕ
example_record = (1 ∷ 1 ∷ 0 ∷ 0 ∷ []) ++ bytes 4 1 ++ bytes 4 0 ++ (0x70 ∷ 0 ∷ 0 ∷ 0 ∷ 0 ∷ 0 ∷ 0 ∷ 0x0A ∷ zeros 10)

-- from position 1, each of the three is GOOD
pub file_met : let located = sixteen 0x92 0x08 0 1 in
    let rewound = six 0x01 0 0 in
    let spaced = six 0x11 1 1 in
    let a = command_call example_record (lent located E [] [] []) in
    let b = command_call example_record (lent rewound E [] [] []) in
    let c = command_call b.rec (lent spaced b.lent.part0 b.lent.part1 [] []) in
    ToFile 1 located × Rewinds rewound × OverMarks 1 spaced × (is_good a.answer ≡ true) × (is_good b.answer ≡ true) × (is_good c.answer ≡ true)
unfolding E be bytes signed M.space M.to_file M.locate fitting put_from count directory size entry top_bit low31 end_at follows ordered right_length sound flags object_at upto objects occurs
    sense_bytes empty_sense decode_of encode_of attention_known placed well_formed well_record with_sense too_short in_masks masks_hold space_code_of space_count_of changes_partition destination_of identifier_of first
    offered goes_down space_tells movement spacing target_of destination16 locate_tells locating act events_of field_error taken reply_length needed tests status_of kept_of acted unless step looks_at seen_of seen inserted laid_out applied step_of called command_call
file_met = (record { is = refl; stays = refl; by_file_lem = refl; identifier = refl }, refl, record { is = inl (refl, refl); code = refl }, refl, refl, refl)
