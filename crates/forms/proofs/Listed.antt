-- Every sense that the services produce is of one of the kinds, and is the eighteen bytes of its parts.
-- Assumes nothing.
use Prim.Native.Nat.{ℕ}
use mathlib.Core.Path.{◌≡◌, refl, sym, ap, ◌∙◌, subst}
use mathlib.Core.Logic.{◌≢◌, ◌⊎◌, inl, inr}
use mathlib.Core.Bool.{Bool, true, false, cond}
use mathlib.Core.Option.{none}
use mathlib.Core.List.{List}
use native.Mathlib.Omega.{arith}
use borrow.Author.Tests.{eq-eqb}
use lib.Dec.{eqb}
use lib.IntN.{pos}
use Rattle.words.specs.Words.{be, bytes}
use Rattle.words.specs.Signed.{wrapped, fits32}
use Rattle.answers.specs.Answers.{check_condition, first}
use Rattle.answers.proofs.First.{FirstAt, not_both, or_three, same_test}
use Rattle.sense.specs.declared.Sense.{Sense}
use Rattle.sense.specs.Sense.{no_sense, unit_attention, sense_bytes, parts_of, reports, told, plainly, empty_sense, attention_sense}
use Rattle.sense.specs.Sense.{unqualified}
use Rattle.sense.proofs.RoundTrip.{parts_made}
use Rattle.record.specs.Record.{no_attention, medium_changed, power_on, attention_known, decode_of, encode_of, fresh_drive, mounted_drive, with_sense}
use Rattle.codes.specs.declared.operation.Operation.{Operation}
use Rattle.codes.specs.declared.operation.Operation.TheVariants.{Space16}
use Rattle.codes.specs.Codes.{code_of, operation_of}
use Rattle.house.specs.Mount.{partitions_of}
use Rattle.house.proofs.Made.{fresh_made, mount_made}
use Rattle.commands.specs.Step.{acted as acts}
use Rattle.commands.specs.Call.{Lent, Result, applied, command_call, command_tests}
use Rattle.commands.proofs.Exact.{acts_exactly}
use Rattle.history.proofs.ReadBack.{told_held}
use Rattle.history.proofs.Always.{acts_after}
use Rattle.history.proofs.Ended.{Finished, by_number, by_sense, by_act, ended}
use Rattle.exact.specs.Residues.{counts}
use Rattle.exact.specs.Senses.{sense_after}
use Rattle.exact.proofs.Tells.{Parts, Which, odd_length_lem, at_filemark_lem, early_warning, overflow, at_beginning, at_end_lem, list_wrong, Told}
use Rattle.exact.proofs.Senses.{Known, attention_waits_lem, code_not_served, field_wrong, list_length_wrong, nothing_loaded, no_such_partition, write_protected_lem, told_act, waits}
use Rattle.exact.proofs.Residues.{reported, always_fits, valid_exactly}
use Rattle.forms.specs.Produced.{Left, by_fresh, by_mount, by_command, Produced, kept, asked, kinds, is_of_one}
use Rattle.forms.proofs.Produced.{LeftBy, tested, acted, good, left_by_lem, fresh_keeps, mount_keeps, told_of, Telling, spelt, produced_telling}

abbrev is_known : Sense → Bool
is_known s = is_of_one kinds s

-- ---- by its parts: VALID by itself, and no information without it

abbrev parts : Sense → Parts
parts s = (s.filemark, s.eom, s.ili, s.key, s.asc, s.ascq)

abbrev made : Bool → ℕ → Parts → Sense
made v n p = record { valid = v; filemark = p.0; eom = p.1; ili = p.2; key = p.3; information = n; asc = p.4; ascq = p.5 }

-- a sense with the parts p, of which some kind has VALID, and some kind not
module _ (s : Sense) (p : Parts) (e : parts s ≡ p) where
  remade : (v : Bool) (n : ℕ) → s.valid ≡ v → s.information ≡ n → is_known (made v n p) ≡ true → is_known s ≡ true
  remade v n ev en h = ap is_known (λ i. made (ev i) (en i) (e i)) ∙ h

  with_valid : s.valid ≡ true → ((n : ℕ) → is_known (made true n p) ≡ true) → is_known s ≡ true
  with_valid v h = remade true s.information v refl (h s.information)

  without : s.valid ≡ false → (s.valid ≡ false → s.information ≡ 0) → is_known (made false 0 p) ≡ true → is_known s ≡ true
  without v z h = remade false 0 v (z v) h

  either : (s.valid ≡ false → s.information ≡ 0) → ((n : ℕ) → is_known (made true n p) ≡ true) → is_known (made false 0 p) ≡ true → is_known s ≡ true
  either z h k = go s.valid refl
    where
      go : (t : Bool) → s.valid ≡ t → is_known s ≡ true
      go true v = with_valid v h
      go false v = without v z k

-- key and ASC alone
plain_known : (key asc : ℕ) → is_known (plainly key asc unqualified) ≡ true → (s : Sense) → s ≡ plainly key asc unqualified → is_known s ≡ true
plain_known key asc h s e = ap is_known e ∙ h

attention_known_lem : (a : ℕ) → (a ≡ medium_changed) ⊎ (a ≡ power_on) → is_known (plainly unit_attention a unqualified) ≡ true
unfolding kinds told reports
attention_known_lem a (inl e) = rw e refl
attention_known_lem a (inr e) = rw e refl

-- ---- what a command leaves

module _ (rec : List ℕ) (x : Lent) where
  abbrev o : Operation
  o = operation_of (code_of x.cmd)

  abbrev R : Result
  R = command_call rec x

  abbrev S : Sense
  S = sense_after R

  test_known : (j k a : ℕ) → FirstAt (command_tests rec x) j → Known rec x j k a → is_known (plainly k a unqualified) ≡ true
  unfolding kinds told reports
  test_known j k a f (attention_waits_lem p e q) = rw (← e, ← q) (attention_known_lem (decode_of rec).attention (waits rec x (subst (FirstAt (command_tests rec x)) p f)))
  test_known j k a f (code_not_served p e q) = rw (← e, ← q) refl
  test_known j k a f (field_wrong p e q) = rw (← e, ← q) refl
  test_known j k a f (list_length_wrong p e q) = rw (← e, ← q) refl
  test_known j k a f (nothing_loaded p e q) = rw (← e, ← q) refl
  test_known j k a f (no_such_partition p e q) = rw (← e, ← q) refl
  test_known j k a f (write_protected_lem p e q) = rw (← e, ← q) refl

  -- an act of a command that counts, but for SPACE (16), reports its residue
  reports_it : first (command_tests rec x) ≡ none → R.answer.status ≡ check_condition → counts o ≡ true → o ≢ Space16 → S.valid ≡ true
  reports_it f s c m = let a = (acts_exactly rec x).0 f in (reported rec x a c s).valid ∙ always_fits rec x a c m s

  told_parts : (u : Told o S) → parts S ≡ (u.filemark, u.eom, u.ili, u.key, u.asc, u.ascq)
  unfolding told
  told_parts u = ap parts u.is

  act_known : first (command_tests rec x) ≡ none → R.answer.status ≡ check_condition → Told o S → is_known S ≡ true
  unfolding kinds told reports wrapped fits32
  act_known f s u = go u.which
    where
      z : S.valid ≡ false → S.information ≡ 0
      z = (valid_exactly rec x s).otherwise

      p : parts S ≡ (u.filemark, u.eom, u.ili, u.key, u.asc, u.ascq)
      p = told_parts u

      no_information : counts o ≡ true → u.residue ≡ pos 0 → u.key ≡ no_sense → S.information ≡ 0
      no_information c q k = ap (λ (y : Sense). y.information) u.is ∙ rw (c, q, k) refl

      go : Which o u.residue (u.filemark, u.eom, u.ili, u.key, u.asc, u.ascq) → is_known S ≡ true
      go (odd_length_lem c m e) = with_valid S _ (p ∙ e) (reports_it f s c m) (λ n. refl)
      go (at_filemark_lem e) = either S _ (p ∙ e) z (λ n. refl) refl
      go (early_warning c m q e) = remade S _ (p ∙ e) true 0 (reports_it f s c m) (no_information c q (ap (λ (y : Parts). y.3) e)) refl
      go (overflow c m e) = with_valid S _ (p ∙ e) (reports_it f s c m) (λ n. refl)
      go (at_beginning e) = either S _ (p ∙ e) z (λ n. refl) refl
      go (at_end_lem true e) = either S _ (p ∙ e) z (λ n. refl) refl
      go (at_end_lem false e) = either S _ (p ∙ e) z (λ n. refl) refl
      go (list_wrong c e) = without S _ (p ∙ e) not_valid z refl
        where
          not_valid : S.valid ≡ false
          not_valid = ap (λ (y : Sense). y.valid) u.is ∙ rw c refl

  command_known : R.answer.refusal ≡ 0 → is_known S ≡ true
  unfolding kinds told reports empty_sense sense_bytes parts_of bytes be
  command_known h = go (left_by_lem rec x h)
    where
      go : LeftBy rec x → is_known S ≡ true
      go (tested t) = plain_known t.key t.asc (test_known t.place t.key t.asc t.there t.known) S t.is
      go (acted f c y u k) = act_known f c (told_act rec x f c)
      go (good k) = ap (λ (b : List ℕ). is_known (parts_of b)) k ∙ refl

  -- the attention that waits behind it, if one does
  command_attention : R.answer.refusal ≡ 0 → attention_known (decode_of R.rec).attention ≡ true
  unfolding decode_of encode_of with_sense applied acts
  command_attention h = go (ended rec x.cmd x.part0 x.part1 x.sent x.received)
    where
      go : Finished rec x.cmd x.part0 x.part1 x.sent x.received → attention_known (decode_of R.rec).attention ≡ true
      go (by_number n k f e) = absurd (let z : n ≡ 0 = sym (ap (λ (r : Result). r.answer.refusal) e) ∙ h in omega arith)
      go (by_sense p f e b w q l r) = ap (λ (y : Result). attention_known (decode_of y.rec).attention) r ∙ w.attention
      go (by_act f w q e) = ap (λ (y : Result). attention_known (decode_of y.rec).attention) e ∙ (acts_after rec x w o q).attention

-- ---- what any service leaves

empty_known : is_known (parts_of empty_sense) ≡ true
unfolding kinds told reports empty_sense sense_bytes parts_of bytes be
empty_known = refl

kept_known : (rec : List ℕ) → Left rec → is_known (parts_of (decode_of rec).sense) ≡ true
kept_known rec (by_fresh old h e) = ap (λ (r : List ℕ). is_known (parts_of (decode_of r).sense)) (e ∙ fresh_made old h) ∙ ap (λ (b : List ℕ). is_known (parts_of b)) fresh_keeps ∙ empty_known
kept_known rec (by_mount old p0 p1 h e) = ap (λ (r : List ℕ). is_known (parts_of (decode_of r).sense)) (e ∙ mount_made old p0 p1 h) ∙ ap (λ (b : List ℕ). is_known (parts_of b)) (mount_keeps (partitions_of p1)) ∙ empty_known
kept_known rec (by_command old x h e) = ap (λ (r : List ℕ). is_known (parts_of (decode_of r).sense)) e ∙ command_known old x h

left_attention : (rec : List ℕ) → Left rec → attention_known (decode_of rec).attention ≡ true
left_attention rec (by_fresh old h e) = ap (λ (r : List ℕ). attention_known (decode_of r).attention) (e ∙ fresh_made old h) ∙ unfold attention_known decode_of encode_of fresh_drive in refl
left_attention rec (by_mount old p0 p1 h e) = ap (λ (r : List ℕ). attention_known (decode_of r).attention) (e ∙ mount_made old p0 p1 h) ∙ unfold attention_known decode_of encode_of mounted_drive in refl
left_attention rec (by_command old x h e) = ap (λ (r : List ℕ). attention_known (decode_of r).attention) e ∙ command_attention old x h

attention_kind : (a : ℕ) → attention_known a ≡ true → eqb a no_attention ≡ false → is_known (parts_of (attention_sense a)) ≡ true
unfolding attention_known attention_sense
attention_kind a h n =
    ap is_known (parts_made (plainly unit_attention a unqualified) (told_held false false false false unit_attention a unqualified (pos 0) (omega arith)))
    ∙ by ((or_three (eqb a no_attention) (eqb a medium_changed) (eqb a power_on) (same_test a no_attention) (same_test a medium_changed) (same_test a power_on)).0 h)
  where
    by : (a ≡ no_attention) ⊎ ((a ≡ medium_changed) ⊎ (a ≡ power_on)) → is_known (plainly unit_attention a unqualified) ≡ true
    by (inl e) = absurd (not_both (sym (eq-eqb a no_attention e) ∙ n))
    by (inr e) = attention_known_lem a e

-- the kind is one of the list, and nothing is in the bytes that is not in their parts
pub produced_kind : (b : List ℕ) → Produced b → (is_of_one kinds (parts_of b) ≡ true) × (b ≡ sense_bytes (parts_of b))
produced_kind b p = (kind_is p, whole (produced_telling b p))
  where
    whole : Telling b → b ≡ sense_bytes (parts_of b)
    whole t = t.is ∙ ap sense_bytes (sym (ap parts_of t.is ∙ parts_made (told_of t.counting t.parts t.residue) (spelt t)))

    kind_is : Produced b → is_known (parts_of b) ≡ true
    kind_is (kept rec l e) = ap (λ (a : List ℕ). is_known (parts_of a)) e ∙ kept_known rec l
    kind_is (asked rec l e) = go (eqb (decode_of rec).attention no_attention) refl e
      where
        go : (t : Bool) → eqb (decode_of rec).attention no_attention ≡ t → b ≡ cond t (decode_of rec).sense (attention_sense (decode_of rec).attention) → is_known (parts_of b) ≡ true
        go true n q = ap (λ (a : List ℕ). is_known (parts_of a)) q ∙ kept_known rec l
        go false n q = ap (λ (a : List ℕ). is_known (parts_of a)) q ∙ attention_kind (decode_of rec).attention (left_attention rec l) n
