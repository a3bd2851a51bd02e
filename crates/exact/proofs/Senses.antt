-- Demand 1 of what a test tells, on the answer of the call and the record after it: each of 5/20/00, 5/24/00, 5/1A/00, 2/3A/00, 7/27/00, 6/28/00
-- and 6/29/00 is told exactly when its test is the first that holds.
-- Assumes nothing.
use Prim.Native.Nat.{ℕ, zero, suc, ◌<◌}
use mathlib.Core.Path.{◌≡◌, refl, sym, ap, ◌∙◌, subst}
use mathlib.Core.Logic.{◌↔◌, ◌≢◌, ◌⊎◌, inl, inr, ⊎_map}
use mathlib.Core.Bool.{Bool, true, false, cond}
use mathlib.Core.Option.{Option, none, some}
use mathlib.Core.List.{List}
use native.Mathlib.Omega.{arith}
use lib.Dec.{eqb}
use lib.IntN.{ℤ, pos}
use lib.ListN.{length}
use lib.Seq.{take_all}
use Rattle.answers.specs.Answers.{check_condition, first}
use Rattle.answers.proofs.First.{FirstAt, given_at, held, first_at, not_both, or_three, same_test}
use Rattle.words.specs.Words.{bytes}
use Rattle.sense.specs.declared.Sense.{Sense}
use Rattle.sense.specs.Sense.{sense_length, not_ready, illegal_request, unit_attention, data_protect, no_additional, unqualified, list_length_error, invalid_operation_code, invalid_field, invalid_list_field, write_protected, medium_not_present, sense_bytes, parts_of, reports, told, plainly, attention_sense}
use Rattle.sense.proofs.RoundTrip.{Spellable, parts_made}
use Rattle.record.specs.declared.drive.Drive.{Drive}
use Rattle.record.specs.Record.{no_attention, medium_changed, power_on, attention_known, decode_of, encode_of, with_sense}
use Rattle.codes.specs.declared.operation.Operation.{Operation}
use Rattle.codes.specs.Codes.{code_of, operation_of}
use Rattle.commands.specs.Stop.{Stop, refuse, attend, fault}
use Rattle.commands.specs.Act.{Deed, unattended, act}
use Rattle.commands.specs.Tests.{tests}
use Rattle.commands.specs.Step.{status_of, kept_of, stopped, acted}
use Rattle.commands.specs.Call.{Lent, Result, seen, applied, command_call, command_tests}
use Rattle.commands.specs.Conditions.{AttentionWaits, CodeNotServed, FieldWrong, ListLengthWrong, NothingLoaded, NoSuchPartition, WriteProtected}
use Rattle.commands.specs.Conditions.{ComesAttention, ComesCode, ComesFields, ComesListLength, ComesCartridge, ComesPartition, ComesProtection}
use Rattle.commands.proofs.Faultless.{sense_whole, kept_whole}
use Rattle.commands.proofs.Ends.{call_stops, call_acts}
use Rattle.commands.proofs.Exact.{well_drive, at_attention, at_code, at_fields, at_list_length, at_cartridge, at_partition_lem, at_protection}
use Rattle.history.proofs.ReadBack.{told_held}
use Rattle.exact.specs.Senses.{sense_after, Tells}
use Rattle.exact.specs.Residues.{counts}
use Rattle.exact.proofs.Tells.{Told, ToldBy, act_tells}

-- ---- the kept sense of a record that was written

pub sense_back : (d : Drive) (b : List ℕ) → length b ≡ sense_length → (decode_of (encode_of (with_sense d b))).sense ≡ b
unfolding decode_of encode_of with_sense bytes
sense_back d b h = take_all sense_length b (omega arith)

module _ (rec : List ℕ) (x : Lent) where
  abbrev d : Drive
  d = decode_of rec

  abbrev o : Operation
  o = operation_of (code_of x.cmd)

  abbrev T : List (Bool × Stop)
  T = command_tests rec x

  abbrev R : Result
  R = command_call rec x

  -- ---- stopped

  -- key, ASC and ASCQ alone: CHECK CONDITION, and the bytes that are kept
  record Plain (key asc ascq : ℕ) : Type 0 where
    status : R.answer.status ≡ check_condition
    bytes_are : (decode_of R.rec).sense ≡ sense_bytes (plainly key asc ascq)

  parts_are : (key asc ascq : ℕ) → key < 16 → Plain key asc ascq → sense_after R ≡ plainly key asc ascq
  parts_are key asc ascq h p = ap parts_of p.bytes_are ∙ parts_made (plainly key asc ascq) (told_held false false false false key asc ascq (pos 0) h)

  after_fault : (key asc ascq : ℕ) → first T ≡ some (fault key asc ascq) → Plain key asc ascq
  unfolding stopped
  after_fault key asc ascq e =
      let q = call_stops rec x (fault key asc ascq) e in
      let s = plainly key asc ascq in
      record { status = ap (λ (r : Result). r.answer.status) q; bytes_are = ap (λ (r : Result). (decode_of r.rec).sense) q ∙ sense_back d (sense_bytes s) (sense_whole s) }

  after_attention : first T ≡ some attend → Plain unit_attention d.attention unqualified
  unfolding stopped attention_sense
  after_attention e =
      let q = call_stops rec x attend e in
      let s = plainly unit_attention d.attention unqualified in
      record { status = ap (λ (r : Result). r.answer.status) q; bytes_are = ap (λ (r : Result). (decode_of r.rec).sense) q ∙ sense_back (unattended d) (sense_bytes s) (sense_whole s) }

  after_refusal : (n : ℕ) → 0 < n → first T ≡ some (refuse n) → R.answer.status ≡ 0
  unfolding stopped
  after_refusal n h e = ap (λ (r : Result). r.answer.status) (call_stops rec x (refuse n) e)

  -- ---- acted: what is told is no test's

  abbrev E : Deed
  E = act o d x.cmd x.sent (seen o d x)

  pub after_act : first T ≡ none → (R.answer.status ≡ status_of E.tells) × ((decode_of R.rec).sense ≡ kept_of E.tells)
  unfolding applied acted
  after_act e =
      let q = call_acts rec x e in
      (ap (λ (r : Result). r.answer.status) q, ap (λ (r : Result). (decode_of r.rec).sense) q ∙ sense_back E.drive (kept_of E.tells) (kept_whole E.tells))

  -- status 02h: the sense kept is the one that the act told
  pub heard : first T ≡ none → R.answer.status ≡ check_condition → E.tells ≡ some (sense_after R)
  unfolding status_of kept_of
  heard e h = go E.tells refl (act_tells d x.cmd x.sent (seen o d x) o) (sym (after_act e).0 ∙ h) (after_act e).1
    where
      go : (t : Option Sense) → E.tells ≡ t → ToldBy o t → status_of t ≡ check_condition → (decode_of R.rec).sense ≡ kept_of t → E.tells ≡ some (sense_after R)
      go none p u h q = absurd (omega arith)
      go (some s) p u h q =
          let spelt : Spellable s = subst Spellable (sym u.is) (told_held (counts o) u.filemark u.eom u.ili u.key u.asc u.ascq u.residue u.key_small) in
          p ∙ ap (λ (y : Sense). some y) (sym (ap parts_of q ∙ parts_made s spelt))

  pub told_act : first T ≡ none → R.answer.status ≡ check_condition → Told o (sense_after R)
  told_act e h = subst (ToldBy o) (heard e h) (act_tells d x.cmd x.sent (seen o d x) o)

  -- ---- told by a test: which one, and just what

  never : (n : ℕ) → 0 < n → first T ≡ some (refuse n) → R.answer.status ≡ check_condition → ⊥
  never n h e s = let z : ◌≡◌ {A = ℕ} 0 check_condition = sym (after_refusal n h e) ∙ s in omega arith

  -- the key and the ASC of the test at place j
  pub data Known (j k a : ℕ) : Type 0 where
    attention_waits_lem : j ≡ 2 → unit_attention ≡ k → d.attention ≡ a → Known j k a
    code_not_served : j ≡ 3 → illegal_request ≡ k → invalid_operation_code ≡ a → Known j k a
    field_wrong : j ≡ 4 → illegal_request ≡ k → invalid_field ≡ a → Known j k a
    list_length_wrong : j ≡ 5 → illegal_request ≡ k → list_length_error ≡ a → Known j k a
    nothing_loaded : j ≡ 6 → not_ready ≡ k → medium_not_present ≡ a → Known j k a
    no_such_partition : j ≡ 7 → illegal_request ≡ k → invalid_field ≡ a → Known j k a
    write_protected_lem : j ≡ 8 → data_protect ≡ k → write_protected ≡ a → Known j k a

  -- key and ASC alone, unqualified, under a key that no residue goes with
  pub record ByTest : Type 0 where
    pub place : ℕ
    pub key : ℕ
    pub asc : ℕ
    pub key_small : key < 16
    pub there : FirstAt T place
    pub known : Known place key asc
    pub kept : (decode_of R.rec).sense ≡ sense_bytes (plainly key asc unqualified)
    pub is : sense_after R ≡ plainly key asc unqualified
    pub silent : (z : ℤ) → reports true key z ≡ false

  by_plain : (j k a : ℕ) → FirstAt T j → Known j k a → k < 16 → ((z : ℤ) → reports true k z ≡ false) → Plain k a unqualified → ByTest
  by_plain j k a f n h s p = record { place = j; key = k; asc = a; key_small = h; there = f; known = n; kept = p.bytes_are; is = parts_are k a unqualified h p; silent = s }

  by_fault : (j k a : ℕ) → FirstAt T j → Known j k a → k < 16 → ((z : ℤ) → reports true k z ≡ false) → first T ≡ some (fault k a unqualified) → ByTest
  by_fault j k a f n h s e = by_plain j k a f n h s (after_fault k a unqualified e)

  by_place : (j : ℕ) → FirstAt T j → first T ≡ given_at T j → R.answer.status ≡ check_condition → ByTest
  unfolding command_tests tests reports
  by_place zero f g s = absurd (never 1 (omega arith) g s)
  by_place (suc zero) f g s = absurd (never 4 (omega arith) g s)
  by_place (suc (suc zero)) f g s = by_plain 2 unit_attention d.attention f (attention_waits_lem refl refl refl) (omega arith) (λ z. refl) (after_attention g)
  by_place (suc (suc (suc zero))) f g s = by_fault 3 _ _ f (code_not_served refl refl refl) (omega arith) (λ z. refl) g
  by_place (suc (suc (suc (suc zero)))) f g s = by_fault 4 _ _ f (field_wrong refl refl refl) (omega arith) (λ z. refl) g
  by_place (suc (suc (suc (suc (suc zero))))) f g s = by_fault 5 _ _ f (list_length_wrong refl refl refl) (omega arith) (λ z. refl) g
  by_place (suc (suc (suc (suc (suc (suc zero)))))) f g s = by_fault 6 _ _ f (nothing_loaded refl refl refl) (omega arith) (λ z. refl) g
  by_place (suc (suc (suc (suc (suc (suc (suc zero))))))) f g s = by_fault 7 _ _ f (no_such_partition refl refl refl) (omega arith) (λ z. refl) g
  by_place (suc (suc (suc (suc (suc (suc (suc (suc zero)))))))) f g s = by_fault 8 _ _ f (write_protected_lem refl refl refl) (omega arith) (λ z. refl) g
  by_place (suc (suc (suc (suc (suc (suc (suc (suc (suc zero))))))))) f g s = absurd (never 2 (omega arith) g s)
  by_place (suc (suc (suc (suc (suc (suc (suc (suc (suc (suc zero)))))))))) f g s = absurd (never 3 (omega arith) g s)
  by_place (suc (suc (suc (suc (suc (suc (suc (suc (suc (suc (suc j))))))))))) f g s = absurd (not_both (sym f.1))

  pub told_test : (p : Stop) → first T ≡ some p → R.answer.status ≡ check_condition → ByTest
  told_test p q s = let h = held T p q in by_place h.at h.holds (first_at T h.at h.holds) s

  asc_plain : (k a q : ℕ) → sense_after R ≡ plainly k a q → (sense_after R).asc ≡ a
  unfolding told
  asc_plain k a q e = ap (λ (t : Sense). t.asc) e

  -- what an act tells has another ASC
  from_act : (a : ℕ) → a ≢ no_additional → a ≢ invalid_list_field → Told o (sense_after R) → (sense_after R).asc ≡ a → ⊥
  unfolding told
  from_act a n m u e = go u.asc_known
    where
      asc_is : a ≡ u.asc
      asc_is = sym e ∙ ap (λ (t : Sense). t.asc) u.is

      go : (u.asc ≡ no_additional) ⊎ (u.asc ≡ invalid_list_field) → ⊥
      go (inl z) = n (asc_is ∙ z)
      go (inr z) = m (asc_is ∙ z)

  -- so a test told it
  record ToldAt (a : ℕ) : Type 0 where
    place : ℕ
    there : FirstAt T place
    key : ℕ
    known : Known place key a

  told_at : (a : ℕ) → a ≢ no_additional → a ≢ invalid_list_field → R.answer.status ≡ check_condition → (sense_after R).asc ≡ a → ToldAt a
  told_at a n m s e = go (first T) refl
    where
      go : (t : Option Stop) → first T ≡ t → ToldAt a
      go none q = absurd (from_act a n m (told_act q s) e)
      go (some p) q =
          let b = told_test p q s in
          record { place = b.place; there = b.there; key = b.key; known = subst (Known b.place b.key) (sym (asc_plain b.key b.asc unqualified b.is) ∙ e) b.known }

  -- ---- the attention that waits is 28h or 29h

  pub waits : FirstAt T 2 → (d.attention ≡ medium_changed) ⊎ (d.attention ≡ power_on)
  unfolding attention_known
  waits f = let c = (at_attention rec x).0 f in by c.1.0 ((or_three (eqb d.attention no_attention) (eqb d.attention medium_changed) (eqb d.attention power_on) (same_test d.attention no_attention) (same_test d.attention medium_changed) (same_test d.attention power_on)).0 (well_drive rec x c.0).attention)
    where
      by : d.attention ≢ no_attention → (d.attention ≡ no_attention) ⊎ ((d.attention ≡ medium_changed) ⊎ (d.attention ≡ power_on)) → (d.attention ≡ medium_changed) ⊎ (d.attention ≡ power_on)
      by z (inl e) = absurd (z e)
      by z (inr e) = e

  -- ---- each ASC's place: one, but for 5/24/00, which has two

  abbrev place_of : ℕ → ℕ
  place_of a = cond (eqb a invalid_operation_code) 3 (cond (eqb a list_length_error) 5 (cond (eqb a medium_not_present) 6 (cond (eqb a write_protected) 8 2)))

  one_place : (j k a : ℕ) → a ≢ invalid_field → FirstAt T j → Known j k a → j ≡ place_of a
  one_place j k a n f (attention_waits_lem p w e) = go (waits (subst (FirstAt T) p f))
    where
      go : (d.attention ≡ medium_changed) ⊎ (d.attention ≡ power_on) → j ≡ place_of a
      go (inl q) = p ∙ ap place_of (sym q ∙ e)
      go (inr q) = p ∙ ap place_of (sym q ∙ e)
  one_place j k a n f (code_not_served p w e) = p ∙ ap place_of e
  one_place j k a n f (field_wrong p w e) = absurd (n (sym e))
  one_place j k a n f (list_length_wrong p w e) = p ∙ ap place_of e
  one_place j k a n f (nothing_loaded p w e) = p ∙ ap place_of e
  one_place j k a n f (no_such_partition p w e) = absurd (n (sym e))
  one_place j k a n f (write_protected_lem p w e) = p ∙ ap place_of e

  once : (a : ℕ) → a ≢ no_additional → a ≢ invalid_list_field → a ≢ invalid_field → R.answer.status ≡ check_condition → (sense_after R).asc ≡ a → FirstAt T (place_of a)
  once a n m k s e = let f = told_at a n m s e in subst (FirstAt T) (one_place f.place f.key a k f.there f.known) f.there

  twice : R.answer.status ≡ check_condition → (sense_after R).asc ≡ invalid_field → FirstAt T 4 ⊎ FirstAt T 7
  twice s e = let f = told_at invalid_field (λ q. omega arith) (λ q. omega arith) s e in go f.place f.key f.there f.known
    where
      go : (j k : ℕ) → FirstAt T j → Known j k invalid_field → FirstAt T 4 ⊎ FirstAt T 7
      go j k f (attention_waits_lem p w e) = absurd (by (waits (subst (FirstAt T) p f)))
        where
          by : (d.attention ≡ medium_changed) ⊎ (d.attention ≡ power_on) → ⊥
          by (inl q) = omega arith
          by (inr q) = omega arith
      go j k f (code_not_served p w e) = absurd (omega arith)
      go j k f (field_wrong p w e) = inl (subst (FirstAt T) p f)
      go j k f (list_length_wrong p w e) = absurd (omega arith)
      go j k f (nothing_loaded p w e) = absurd (omega arith)
      go j k f (no_such_partition p w e) = inr (subst (FirstAt T) p f)
      go j k f (write_protected_lem p w e) = absurd (omega arith)

  -- ---- each sense exactly

  tells_plain : (key asc ascq : ℕ) → R.answer.status ≡ check_condition → sense_after R ≡ plainly key asc ascq → Tells R key asc ascq
  unfolding told
  tells_plain key asc ascq s e = (s, (ap (λ (t : Sense). t.key) e, (ap (λ (t : Sense). t.asc) e, ap (λ (t : Sense). t.ascq) e)))

  tells_fault : (key asc ascq : ℕ) → key < 16 → first T ≡ some (fault key asc ascq) → Tells R key asc ascq
  tells_fault key asc ascq h e = let p = after_fault key asc ascq e in tells_plain key asc ascq p.status (parts_are key asc ascq h p)

  -- "operation code not served (5/20/00)"
  pub told_5_20_00 : Tells R illegal_request invalid_operation_code unqualified ↔ (ComesCode rec x × CodeNotServed rec x)
  unfolding command_tests tests
  told_5_20_00 = (
    (λ h. (at_code rec x).0 (once invalid_operation_code (λ e. omega arith) (λ e. omega arith) (λ e. omega arith) h.0 h.1.1.0)),
    (λ h. tells_fault illegal_request invalid_operation_code unqualified (omega arith) (first_at T 3 ((at_code rec x).1 h))),
  )

  -- "fields (5/24/00)", "LOCATE's partition number (5/24/00)"
  pub told_5_24_00 : Tells R illegal_request invalid_field unqualified ↔ ((ComesFields rec x × FieldWrong rec x) ⊎ (ComesPartition rec x × NoSuchPartition rec x))
  unfolding command_tests tests
  told_5_24_00 = ((λ h. ⊎_map (at_fields rec x).0 (at_partition_lem rec x).0 (twice h.0 h.1.1.0)), back)
    where
      back : (ComesFields rec x × FieldWrong rec x) ⊎ (ComesPartition rec x × NoSuchPartition rec x) → Tells R illegal_request invalid_field unqualified
      back (inl h) = tells_fault illegal_request invalid_field unqualified (omega arith) (first_at T 4 ((at_fields rec x).1 h))
      back (inr h) = tells_fault illegal_request invalid_field unqualified (omega arith) (first_at T 7 ((at_partition_lem rec x).1 h))

  -- "else 5/1A/00, tested just after the fields"
  pub told_5_1_a_00 : Tells R illegal_request list_length_error unqualified ↔ (ComesListLength rec x × ListLengthWrong rec x)
  unfolding command_tests tests
  told_5_1_a_00 = (
    (λ h. (at_list_length rec x).0 (once list_length_error (λ e. omega arith) (λ e. omega arith) (λ e. omega arith) h.0 h.1.1.0)),
    (λ h. tells_fault illegal_request list_length_error unqualified (omega arith) (first_at T 5 ((at_list_length rec x).1 h))),
  )

  -- "nothing loaded (2/3A/00)"
  pub told_2_3_a_00 : Tells R not_ready medium_not_present unqualified ↔ (ComesCartridge rec x × NothingLoaded rec x)
  unfolding command_tests tests
  told_2_3_a_00 = (
    (λ h. (at_cartridge rec x).0 (once medium_not_present (λ e. omega arith) (λ e. omega arith) (λ e. omega arith) h.0 h.1.1.0)),
    (λ h. tells_fault not_ready medium_not_present unqualified (omega arith) (first_at T 6 ((at_cartridge rec x).1 h))),
  )

  -- "protection of the current partition for WRITE, WRITE FILEMARKS and ERASE at any count (7/27/00)"
  pub told_7_27_00 : Tells R data_protect write_protected unqualified ↔ (ComesProtection rec x × WriteProtected rec x)
  unfolding command_tests tests
  told_7_27_00 = (
    (λ h. (at_protection rec x).0 (once write_protected (λ e. omega arith) (λ e. omega arith) (λ e. omega arith) h.0 h.1.1.0)),
    (λ h. tells_fault data_protect write_protected unqualified (omega arith) (first_at T 8 ((at_protection rec x).1 h))),
  )

  -- "Attention answers 6 with 28/00 or 29/00": with a, which waits
  attention_told : (a : ℕ) → a ≢ no_additional → a ≢ invalid_list_field → a ≢ invalid_field → place_of a ≡ 2
      → Tells R unit_attention a unqualified ↔ ((ComesAttention rec x × AttentionWaits rec x) × (d.attention ≡ a))
  unfolding command_tests tests
  attention_told a n m k p = ((λ h. go (subst (FirstAt T) p (once a n m k h.0 h.1.1.0)) h.1.1.0), back)
    where
      go : FirstAt T 2 → (sense_after R).asc ≡ a → (ComesAttention rec x × AttentionWaits rec x) × (d.attention ≡ a)
      go f e = ((at_attention rec x).0 f, sym (asc_plain unit_attention d.attention unqualified (parts_are unit_attention d.attention unqualified (omega arith) (after_attention (first_at T 2 f)))) ∙ e)

      back : (ComesAttention rec x × AttentionWaits rec x) × (d.attention ≡ a) → Tells R unit_attention a unqualified
      back h =
          let p = after_attention (first_at T 2 ((at_attention rec x).1 h.0)) in
          tells_plain unit_attention a unqualified p.status (parts_are unit_attention d.attention unqualified (omega arith) p ∙ ap (λ (n : ℕ). plainly unit_attention n unqualified) h.1)

  pub told_6_28_00 : Tells R unit_attention medium_changed unqualified ↔ ((ComesAttention rec x × AttentionWaits rec x) × ((decode_of rec).attention ≡ medium_changed))
  told_6_28_00 = attention_told medium_changed (λ e. omega arith) (λ e. omega arith) (λ e. omega arith) refl

  pub told_6_29_00 : Tells R unit_attention power_on unqualified ↔ ((ComesAttention rec x × AttentionWaits rec x) × ((decode_of rec).attention ≡ power_on))
  told_6_29_00 = attention_told power_on (λ e. omega arith) (λ e. omega arith) (λ e. omega arith) refl
