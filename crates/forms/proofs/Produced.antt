-- What a sense is that the services produce: told by a command, or the empty one, or an attention's; so both forms of it are read back to the same.
-- Assumes nothing.
use Prim.Native.Nat.{ℕ, ◌^◌, ◌<◌}
use mathlib.Core.Path.{◌≡◌, refl, sym, ap, ◌∙◌, subst}
use mathlib.Core.Bool.{Bool, true, false, cond}
use mathlib.Core.Option.{Option, none, some}
use mathlib.Core.List.{List}
use native.Mathlib.Omega.{arith}
use lib.Dec.{eqb}
use lib.IntN.{ℤ, pos}
use Rattle.words.specs.Signed.{signed, fits32}
use Rattle.answers.specs.Answers.{check_condition, first}
use Rattle.sense.specs.declared.Sense.{Sense}
use Rattle.sense.specs.Sense.{no_sense, unit_attention, no_additional, unqualified, sense_bytes, told, plainly, empty_sense, attention_sense}
use Rattle.sense.specs.Descriptors.{in_form}
use Rattle.sense.specs.Reading.{Reading, reading_of}
use Rattle.sense.proofs.RoundTrip.{Spellable}
use Rattle.sense.proofs.BothForms.{reading_by, both_read, reading_told, told_read}
use Rattle.record.specs.Record.{no_attention, decode_of, encode_of, fresh_drive, mounted_drive, with_sense}
use Rattle.codes.specs.declared.operation.Operation.{Operation}
use Rattle.codes.specs.Codes.{code_of, operation_of}
use Rattle.house.specs.Mount.{partitions_of}
use Rattle.house.proofs.Made.{fresh_made, mount_made}
use Rattle.commands.specs.Act.{act}
use Rattle.commands.specs.Step.{status_of, kept_of}
use Rattle.commands.specs.Call.{Lent, Result, seen, command_call, command_tests}
use Rattle.commands.specs.Conditions.{Acts}
use Rattle.commands.proofs.Faultless.{empty_whole}
use Rattle.commands.proofs.Exact.{acts_exactly}
use Rattle.history.proofs.ReadBack.{told_held}
use Rattle.history.proofs.Ended.{Finished, by_number, by_sense, by_act, ended}
use Rattle.exact.specs.Residues.{counts, residue_of}
use Rattle.exact.specs.Senses.{sense_after}
use Rattle.exact.proofs.Tells.{Parts, Told, ToldBy, act_tells}
use Rattle.exact.proofs.Senses.{sense_back, ByTest, after_act, heard, told_act, told_test}
use Rattle.exact.proofs.Residues.{Reported, reported}
use Rattle.forms.specs.Produced.{Left, by_fresh, by_mount, by_command, Produced, kept, asked}

-- a sense told with the parts p, and a residue that is reported or not; and what is read of it
abbrev pub told_of : Bool → Parts → ℤ → Sense
told_of counts p z = told counts p.0 p.1 p.2 p.3 p.4 p.5 z

abbrev pub reading_of_told : Bool → Parts → ℤ → Reading
reading_of_told counts p z = reading_told counts p.0 p.1 p.2 p.3 p.4 p.5 z

-- bytes that tell it
pub record Telling (b : List ℕ) : Type 0 where
  pub counting : Bool
  pub parts : Parts
  pub residue : ℤ
  pub key_small : parts.3 < 16
  pub is : b ≡ sense_bytes (told_of counting parts residue)

plain_telling : (b : List ℕ) (key asc ascq : ℕ) → key < 16 → b ≡ sense_bytes (plainly key asc ascq) → Telling b
plain_telling b key asc ascq h e = record { counting = false; parts = (false, false, false, key, asc, ascq); residue = pos 0; key_small = h; is = e }

empty_telling : (b : List ℕ) → b ≡ empty_sense → Telling b
unfolding empty_sense
empty_telling b e = plain_telling b no_sense no_additional unqualified (omega arith) e

attention_telling : (b : List ℕ) (a : ℕ) → b ≡ attention_sense a → Telling b
unfolding attention_sense
attention_telling b a e = plain_telling b unit_attention a unqualified (omega arith) e

-- ---- what a command leaves

module _ (rec : List ℕ) (x : Lent) where
  abbrev o : Operation
  o = operation_of (code_of x.cmd)

  abbrev R : Result
  R = command_call rec x

  -- it ended by a test, or acted and told, or acted and was GOOD
  pub data LeftBy : Type 0 where
    tested : ByTest rec x → LeftBy
    acted : first (command_tests rec x) ≡ none → R.answer.status ≡ check_condition → (s : Sense) → Told o s → (decode_of R.rec).sense ≡ sense_bytes s → LeftBy
    good : (decode_of R.rec).sense ≡ empty_sense → LeftBy

  pub left_by_lem : R.answer.refusal ≡ 0 → LeftBy
  unfolding status_of kept_of
  left_by_lem h = go (ended rec x.cmd x.part0 x.part1 x.sent x.received)
    where
      go : Finished rec x.cmd x.part0 x.part1 x.sent x.received → LeftBy
      go (by_number n k f e) = absurd (let z : n ≡ 0 = sym (ap (λ (r : Result). r.answer.refusal) e) ∙ h in omega arith)
      go (by_sense p f e b w q l r) = tested (told_test rec x p f (ap (λ (y : Result). y.answer.status) r))
      go (by_act f w q e) = by (act o (decode_of rec) x.cmd x.sent (seen o (decode_of rec) x)).tells (act_tells (decode_of rec) x.cmd x.sent (seen o (decode_of rec) x) o) (after_act rec x f).0 (after_act rec x f).1
        where
          by : (t : Option Sense) → ToldBy o t → R.answer.status ≡ status_of t → (decode_of R.rec).sense ≡ kept_of t → LeftBy
          by none u s k = good k
          by (some y) u s k = acted f s y u k

  command_telling : (b : List ℕ) → R.answer.refusal ≡ 0 → b ≡ (decode_of R.rec).sense → Telling b
  command_telling b h e = go (left_by_lem h)
    where
      go : LeftBy → Telling b
      go (tested t) = plain_telling b t.key t.asc unqualified t.key_small (e ∙ t.kept)
      go (acted f c s u k) = record { counting = counts o; parts = (u.filemark, u.eom, u.ili, u.key, u.asc, u.ascq); residue = u.residue; key_small = u.key_small; is = e ∙ k ∙ ap sense_bytes u.is }
      go (good k) = empty_telling b (e ∙ k)

-- ---- what any service leaves

pub fresh_keeps : (decode_of (encode_of fresh_drive)).sense ≡ empty_sense
unfolding fresh_drive with_sense
fresh_keeps = sense_back fresh_drive empty_sense empty_whole

pub mount_keeps : (n : ℕ) → (decode_of (encode_of (mounted_drive n))).sense ≡ empty_sense
unfolding mounted_drive with_sense
mount_keeps n = sense_back (mounted_drive n) empty_sense empty_whole

kept_telling : (b rec : List ℕ) → Left rec → b ≡ (decode_of rec).sense → Telling b
kept_telling b rec (by_fresh old h e) q = empty_telling b (q ∙ ap (λ (r : List ℕ). (decode_of r).sense) (e ∙ fresh_made old h) ∙ fresh_keeps)
kept_telling b rec (by_mount old p0 p1 h e) q = empty_telling b (q ∙ ap (λ (r : List ℕ). (decode_of r).sense) (e ∙ mount_made old p0 p1 h) ∙ mount_keeps (partitions_of p1))
kept_telling b rec (by_command old x h e) q = command_telling old x b h (q ∙ ap (λ (r : List ℕ). (decode_of r).sense) e)

pub produced_telling : (b : List ℕ) → Produced b → Telling b
produced_telling b (kept rec l e) = kept_telling b rec l e
produced_telling b (asked rec l e) = go (eqb (decode_of rec).attention no_attention) e
  where
    go : (t : Bool) → b ≡ cond t (decode_of rec).sense (attention_sense (decode_of rec).attention) → Telling b
    go true q = kept_telling b rec l q
    go false q = attention_telling b (decode_of rec).attention q

-- ---- "both forms read back to the same flags, key, codes and residue, for every sense the server can produce"

pub record ReadAlike (b : List ℕ) (r : Reading) : Type 0 where
  pub fixed : reading_of b ≡ some r
  pub descriptors : reading_of (in_form true b) ≡ some r

pub spelt : {b : List ℕ} (t : Telling b) → Spellable (told_of t.counting t.parts t.residue)
spelt t = told_held t.counting t.parts.0 t.parts.1 t.parts.2 t.parts.3 t.parts.4 t.parts.5 t.residue t.key_small

-- a sense that is told is read as it was told, with its residue where one is reported
pub read_as_told : (b : List ℕ) (t : Telling b) → ReadAlike b (reading_of_told t.counting t.parts t.residue)
read_as_told b t =
    let p = t.parts in
    let r = both_read (told_of t.counting p t.residue) (spelt t) in
    let e = ap (λ (y : Reading). some y) (told_read t.counting p.0 p.1 p.2 p.3 p.4 p.5 t.residue t.key_small) in
    record { fixed = ap reading_of t.is ∙ r.0 ∙ e; descriptors = ap (λ (a : List ℕ). reading_of (in_form true a)) t.is ∙ r.1 ∙ e }

pub record Agree (b : List ℕ) : Type 0 where
  pub reading : Reading
  pub alike : ReadAlike b reading

pub both_forms : (b : List ℕ) → Produced b → Agree b
both_forms b p = record { reading = _; alike = read_as_told b (produced_telling b p) }

-- ---- and the residue that is read is the one that 01's bullet names, where 32 signed bits hold it

module _ (rec : List ℕ) (x : Lent) where
  abbrev Z : ℤ
  Z = residue_of (operation_of (code_of x.cmd)) (decode_of rec) x.cmd x.sent (seen (operation_of (code_of x.cmd)) (decode_of rec) x)

  pub record ResidueRead : Type 0 where
    pub reading : Reading
    pub alike : ReadAlike (decode_of (command_call rec x).rec).sense reading
    pub residue : reading.residue ≡ cond (fits32 Z) (some Z) none

  pub residue_read : Acts rec x → counts (operation_of (code_of x.cmd)) ≡ true → (command_call rec x).answer.status ≡ check_condition → ResidueRead
  unfolding kept_of
  residue_read a c s = record {
    reading = reading_by (sense_after (command_call rec x));
    alike = record { fixed = ap reading_of bytes_are ∙ r.0; descriptors = ap (λ (b : List ℕ). reading_of (in_form true b)) bytes_are ∙ r.1 };
    residue = ap (λ (t : Bool). cond t (some (signed (2 ^ 31) (sense_after (command_call rec x)).information)) none) w.valid ∙ by (fits32 Z) refl;
  }
    where
      f : first (command_tests rec x) ≡ none
      f = (acts_exactly rec x).1 a

      u : Told (operation_of (code_of x.cmd)) (sense_after (command_call rec x))
      u = told_act rec x f s

      bytes_are : (decode_of (command_call rec x).rec).sense ≡ sense_bytes (sense_after (command_call rec x))
      bytes_are = (after_act rec x f).1 ∙ ap kept_of (heard rec x f s)

      r : (reading_of (sense_bytes (sense_after (command_call rec x))) ≡ some (reading_by (sense_after (command_call rec x)))) × (reading_of (in_form true (sense_bytes (sense_after (command_call rec x)))) ≡ some (reading_by (sense_after (command_call rec x))))
      r = both_read (sense_after (command_call rec x)) (subst Spellable (sym u.is) (told_held (counts (operation_of (code_of x.cmd))) u.filemark u.eom u.ili u.key u.asc u.ascq u.residue u.key_small))

      w : Reported rec x
      w = reported rec x a c s

      by : (t : Bool) → fits32 Z ≡ t → cond t (some (signed (2 ^ 31) (sense_after (command_call rec x)).information)) none ≡ cond t (some Z) none
      by true h = ap (λ (z : ℤ). some z) (w.read_as h)
      by false h = refl
