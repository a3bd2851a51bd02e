-- A REQUEST SENSE that no test stops: what it is given, in the form that its own bit says, and a record that the form has no say in; how many bytes it
-- may need; and that a host which asks in both forms of a record that a service left reads the same.
-- Assumes nothing.
use Prim.Native.Nat.{ℕ, min, ◌≤◌}
use mathlib.Core.Path.{◌≡◌, refl, sym, ap, ◌∙◌}
use mathlib.Core.Bool.{Bool, true, false, cond}
use mathlib.Core.Option.{some}
use mathlib.Core.List.{List}
use native.Mathlib.Omega.{arith}
use lib.Dec.{eqb}
use lib.ListN.{length, length-take, length-drop}
use lib.Seq.{take_all, take_at}
use Rattle.words.specs.Words.{over, limited}
use Rattle.answers.specs.Answers.{answered}
use Rattle.sense.specs.Sense.{sense_length, parts_of, empty_sense}
use Rattle.sense.specs.Descriptors.{descriptor_bytes, in_form, both_length, stream_length}
use Rattle.sense.specs.Reading.{Reading, reading_of}
use Rattle.sense.proofs.Forms.{form_length_lem, form_most}
use Rattle.record.specs.Record.{record_length, decode_of, encode_of, with_sense}
use Rattle.codes.specs.declared.operation.Operation.TheVariants.{RequestSense}
use Rattle.codes.specs.Fields.{asks_descriptors, allocation_of}
use Rattle.commands.specs.Act.{unattended, sense_asked, sense_reply, reply_of, act}
use Rattle.commands.specs.Tests.{reply_length, needed}
use Rattle.commands.specs.Step.{status_of, kept_of, acted}
use Rattle.commands.specs.Call.{Lent, lent, Result, result_of, seen, looks_at, applied, command_call}
use Rattle.commands.proofs.Ends.{call_acts}
use Rattle.commands.proofs.Classes.{unchanged}
use Rattle.commands.proofs.Faultless.{sense_whole, asked_whole}
use Rattle.forms.specs.Produced.{Left, Produced, asked}
use Rattle.forms.specs.Asking.{Asks, form_length, given}
use Rattle.forms.proofs.Produced.{Agree, produced_telling, both_forms}

-- ---- the whole result

-- the bytes given: the sense asked for in the form asked for, cut at the allocation
abbrev reply : List ℕ → Lent → List ℕ
reply rec x = limited (allocation_of x.cmd) (in_form (asks_descriptors x.cmd) (sense_asked (decode_of rec)))

-- "record and clearing rules stay": the attention and the kept sense are cleared, and every other byte stays, whatever the form
abbrev cleared : List ℕ → List ℕ
cleared rec = encode_of (with_sense (unattended (decode_of rec)) empty_sense)

pub asked_so : (rec : List ℕ) (x : Lent) → Asks rec x
    → command_call rec x ≡ result_of (answered 0x00 (length (reply rec x)) 0) (cleared rec) (lent x.cmd x.part0 x.part1 x.sent (over x.received 0 (reply rec x)))
unfolding applied acted act reply_of status_of kept_of
asked_so rec x a =
    let d = decode_of rec in
    let v = seen RequestSense d x in
    let u0 = unchanged RequestSense refl d x.cmd x.sent v x.part0 in
    let u1 = unchanged RequestSense refl d x.cmd x.sent v x.part1 in
    call_acts rec x a.passes ∙ rw (a.is, u0, u1) (go (eqb (looks_at RequestSense d x.cmd) 1))
  where
    made : List ℕ → List ℕ → Result
    made p0 p1 = result_of (answered 0x00 (length (reply rec x)) 0) (cleared rec) (lent x.cmd p0 p1 x.sent (over x.received 0 (reply rec x)))

    go : (t : Bool) → made (cond t x.part0 x.part0) (cond t x.part1 x.part1) ≡ made x.part0 x.part1
    go true = refl
    go false = refl

-- so two hosts that ask of the same record leave the same, in whatever form each asks
pub record_alike : (rec : List ℕ) (x y : Lent) → Asks rec x → Asks rec y → (command_call rec x).rec ≡ (command_call rec y).rec
record_alike rec x y a b = ap (λ (r : Result). r.rec) (asked_so rec x a) ∙ sym (ap (λ (r : Result). r.rec) (asked_so rec y b))

-- ---- number 3: what it may need is the smaller of the allocation and the length of the form asked for

whole : (rec : List ℕ) → length rec ≡ record_length → length (decode_of rec).sense ≡ sense_length
unfolding decode_of
whole rec h = simp (length-take, length-drop) (omega arith)

form_is : (rec cmd : List ℕ) → length (decode_of rec).sense ≡ sense_length → length (sense_reply (decode_of rec) cmd) ≡ form_length rec cmd
unfolding in_form
form_is rec cmd h = by (asks_descriptors cmd)
  where
    b : List ℕ
    b = sense_asked (decode_of rec)

    by : (t : Bool) → length (cond t (descriptor_bytes (parts_of b)) b) ≡ cond t (cond (parts_of b).valid both_length stream_length) sense_length
    by true = form_length_lem (parts_of b)
    by false = asked_whole (decode_of rec) h

pub need_is : (rec cmd : List ℕ) → length rec ≡ record_length → needed RequestSense (decode_of rec) cmd ≡ min (allocation_of cmd) (form_length rec cmd)
unfolding needed reply_length
need_is rec cmd h = ap (min (allocation_of cmd)) (form_is rec cmd (whole rec h))

-- ---- what a host reads

-- with an allocation that holds the form, it is given the form whole
given_whole : (rec : List ℕ) (x : Lent) → Asks rec x → length (in_form (asks_descriptors x.cmd) (sense_asked (decode_of rec))) ≤ allocation_of x.cmd
    → given (command_call rec x) ≡ in_form (asks_descriptors x.cmd) (sense_asked (decode_of rec))
unfolding over
given_whole rec x a h =
    ap given (asked_so rec x a)
    ∙ take_at (reply rec x) _ (length (reply rec x)) refl
    ∙ take_all (allocation_of x.cmd) (in_form (asks_descriptors x.cmd) (sense_asked (decode_of rec))) h

-- one that asks in both forms, of a record that a service left, reads the same of both
pub record SameRead (a b : List ℕ) : Type 0 where
  pub reading : Reading
  pub fixed : reading_of a ≡ some reading
  pub descriptors : reading_of b ≡ some reading

pub host_reads : (rec : List ℕ) (x y : Lent) → Left rec → Asks rec x → Asks rec y
    → asks_descriptors x.cmd ≡ false → sense_length ≤ allocation_of x.cmd
    → asks_descriptors y.cmd ≡ true → both_length ≤ allocation_of y.cmd
    → SameRead (given (command_call rec x)) (given (command_call rec y))
unfolding in_form
host_reads rec x y l a b tx hx ty hy = record {
  reading = r.reading;
  fixed = ap reading_of fixed_given ∙ r.alike.fixed;
  descriptors = ap reading_of descriptors_given ∙ r.alike.descriptors;
}
  where
    s : List ℕ
    s = sense_asked (decode_of rec)

    p : Produced s
    p = asked rec l refl

    r : Agree s
    r = both_forms s p

    eighteen : length s ≡ sense_length
    eighteen = let t = produced_telling s p in ap length t.is ∙ sense_whole _

    fixed_given : given (command_call rec x) ≡ s
    fixed_given = given_whole rec x a (rw tx (omega (arith, eighteen))) ∙ rw tx refl

    descriptors_given : given (command_call rec y) ≡ in_form true s
    descriptors_given = given_whole rec y b (rw ty (omega (arith, form_most (parts_of s)))) ∙ rw ty refl
