-- What READ, WRITE, WRITE FILEMARKS and SPACE (of either length) report, on the record after the call: VALID exactly by 01's rule, for a residue that
-- fits 32 signed bits (Q-1), as each does of 01's four; the information is then the 32-bit encoding of the residue that 01's bullet names, and reading it
-- back as a signed number gives that residue; the position stands behind the objects crossed or put.
-- Assumes nothing.
use Prim.Native.Nat.{ℕ, suc, ◌+◌, ◌-◌, ◌^◌, ◌<◌}
use mathlib.Core.Path.{◌≡◌, refl, sym, ap, ◌∙◌, subst}
use mathlib.Core.Logic.{◌↔◌, ◌≢◌, ◌⊎◌, inl, inr}
use mathlib.Core.Bool.{Bool, true, false, cond, not, ◌||◌}
use mathlib.Core.Option.{Option, none, some}
use mathlib.Core.List.{List, [], ◌∷◌}
use native.Mathlib.Nat.{add-zero}
use native.Mathlib.Numerals.{add-one}
use native.Mathlib.Omega.{arith}
use borrow.Author.Tests.{eqb-true, eqb-false}
use lib.Dec.{eqb}
use lib.IntN.{ℤ, pos, negsuc, sub_ℕ}
use lib.ListN.{length, take, get_elem?}
use Rattle.words.specs.Words.{be}
use Rattle.words.specs.Signed.{signed, wrapped, fits32}
use Rattle.words.proofs.Wraps.{subℕ_cases, signed_wrapped}
use Rattle.answers.specs.Answers.{check_condition, first}
use Rattle.answers.proofs.First.{not_both}
use Rattle.objects.specs.Object.{Object, filemark, block, data_of, bytes_in}
use Rattle.objects.specs.Movement as M
use Rattle.objects.specs.Room.{room_of, fits_in, zone_in}
use Rattle.objects.specs.Transfer.{Ended, whole, odd_length, at_filemark, at_end, fitting}
use Rattle.sense.specs.declared.Sense.{Sense}
use Rattle.sense.specs.Sense.{no_sense, blank_check, volume_overflow, empty_sense, reports, told}
use Rattle.record.specs.declared.drive.Drive.{Drive}
use Rattle.record.specs.Record.{decode_of, encode_of, with_sense}
use Rattle.codes.specs.declared.operation.Operation.{Operation}
use Rattle.codes.specs.declared.operation.Operation.TheVariants.{Read, Write, WriteFilemarks, Space, Space16}
use Rattle.codes.specs.Codes.{code_of, operation_of, masks_hold}
use Rattle.codes.specs.Fields.{fixed_of, transfer_of, space_code_of, space_count_of, space_count16_of}
use Rattle.commands.specs.Stop.{Stop, refuse}
use Rattle.commands.specs.Kinds.{needs_cartridge}
use Rattle.commands.specs.Conditions.{Acts}
use Rattle.commands.specs.Act.{Seen, Deed, good, checked, carrying, at, odd_met, warned, overflowed, hidden, read_variable, read_run, run_tells, reading, offered, goes_down, wrote, writing, marking, space_tells, movement, spacing, act}
use Rattle.commands.specs.Tests.{field_error, tests}
use Rattle.commands.specs.Step.{status_of, kept_of, acted}
use Rattle.commands.specs.Call.{Lent, Result, partition, looks_at, seen_of, seen, applied, written, command_call, command_tests}
use Rattle.commands.proofs.Faultless.{Well, back, place_small, kept_whole, inside}
use Rattle.commands.proofs.Goes.{has_cartridge}
use Rattle.commands.proofs.Exact.{acts_exactly}
use Rattle.commands.proofs.Passed.{all_false}
use Rattle.objects.proofs.Residue.{all_left}
use Rattle.history.proofs.Acted.{writing_drive, marking_drive, sees}
use Rattle.history.proofs.Always.{acts_after}
use Rattle.history.proofs.Ended.{Finished, by_number, by_sense, by_act, ended}
use Rattle.exact.specs.Senses.{sense_after}
use Rattle.exact.specs.Residues.{counts, fixed_run, left_of_one, read_residue, crosses_one, read_crosses, write_residue, marks_residue, space_residue, residue_of, place_after}
use Rattle.exact.proofs.Tells.{Told}
use Rattle.exact.proofs.Senses.{ByTest, after_act, heard, told_act, told_test}
use Rattle.exact.proofs.Small.{image_small}
use Rattle.exact.proofs.Ranges.{Counting, reads, writes, marks, spaces, spaces16, counting, count_small, read_fits, write_fits, marks_fit, space_fits, count_fits}

-- ---- what is told reports the residue z, if it fits, under key 0, 8 or D

abbrev Keyed : ℕ → Type 0
Keyed k = (k ≡ no_sense) ⊎ ((k ≡ blank_check) ⊎ (k ≡ volume_overflow))

abbrev Reports : ℤ → Option Sense → Type 0
Reports z none = Unit {0}
Reports z (some s) = (s.valid ≡ fits32 z) × (s.information ≡ cond (fits32 z) (wrapped z) 0) × Keyed s.key

itself : (n : ℕ) → sub_ℕ n n ≡ pos 0
itself n = subℕ_cases (λ z. z ≡ pos 0) n n (λ h. absurd (omega arith)) (λ h. ap pos (let e : n - n ≡ 0 = omega arith in e))

module _ (d : Drive) (cmd sent : List ℕ) (v : Seen) where
  -- READ

  run_reports : (w : Ended) (z : ℤ) → Reports z (run_tells v w z)
  unfolding run_tells told reports
  run_reports whole z = tt
  run_reports odd_length z = (refl, refl, inl refl)
  run_reports at_filemark z = (refl, refl, inl refl)
  run_reports at_end z = (refl, refl, inr (inl refl))

  one_reports : (x : Option Object) → Reports (left_of_one (transfer_of cmd) x) (read_variable d cmd v x).tells
  unfolding read_variable told reports
  one_reports none = (refl, refl, inr (inl refl))
  one_reports (some filemark) = (refl, refl, inl refl)
  one_reports (some (block bs)) = go (eqb (length bs) (transfer_of cmd) || hidden d cmd (length bs))
    where
      go : (t : Bool) → Reports (sub_ℕ (transfer_of cmd) (length bs)) (cond t (good (at d (suc d.position))) (checked (at d (suc d.position)) (odd_met (sub_ℕ (transfer_of cmd) (length bs))))).tells
      go true = tt
      go false = (refl, refl, inl refl)

  read_reports : Reports (read_residue d cmd v) (reading d cmd v).tells
  unfolding reading
  read_reports = go (eqb (transfer_of cmd) 0) (fixed_of cmd)
    where
      go : (z f : Bool) → Reports (cond f (sub_ℕ (transfer_of cmd) (fixed_run d cmd v).blocks) (left_of_one (transfer_of cmd) (get_elem? v.objects d.position)))
          (cond z (good d) (cond f (read_run d v (transfer_of cmd) (fixed_run d cmd v)) (read_variable d cmd v (get_elem? v.objects d.position)))).tells
      go true f = tt
      go false true = run_reports _ _
      go false false = one_reports (get_elem? v.objects d.position)

  -- WRITE and WRITE FILEMARKS: `short` is what is told where not all is put, z where all or not

  wrote_reports : (n : ℕ) (os : List Object) (short z : ℤ) → (length os ≡ n → z ≡ pos 0) → ((length os ≡ n → ⊥) → z ≡ short) → Reports z (wrote d v n os short).tells
  unfolding wrote told reports
  wrote_reports n os short z full part = go (eqb (length os) n) (zone_in v.size (room_of v.size (d.position + length os) (bytes_in (take d.position v.objects) + bytes_in os))) refl
    where
      there : Drive
      there = at d (d.position + length os)

      go : (t w : Bool) → eqb (length os) n ≡ t → Reports z (cond t (cond w (checked there warned) (good there)) (checked there (overflowed short))).tells
      go true true e = subst (λ (y : ℤ). Reports y (some warned)) (sym (full (eqb-true (length os) n e))) (refl, refl, inl refl)
      go true false e = tt
      go false w e = subst (λ (y : ℤ). Reports y (some (overflowed short))) (sym (part (eqb-false (length os) n e))) (refl, refl, inr (inr refl))

  -- one object goes down, or none
  one_fits : (l p e : ℕ) (o : Object) → (length (fitting l p e (o ∷ [])) ≡ 1 → ⊥) → bytes_in (fitting l p e (o ∷ [])) ≡ 0
  unfolding fitting bytes_in
  one_fits l p e o n = go (fits_in (room_of l p e) (length (data_of o))) n
    where
      go : (t : Bool) → (length {A = Object} (elim t as (λ x. List Object) [ true ↦ o ∷ [] | false ↦ [] ]) ≡ 1 → ⊥) → bytes_in (elim t as (λ x. List Object) [ true ↦ o ∷ [] | false ↦ [] ]) ≡ 0
      go true n = absurd (n refl)
      go false n = refl

  one_down : eqb (transfer_of cmd) 0 ≡ false → fixed_of cmd ≡ false → (length (goes_down Write d cmd sent v) ≡ 1 → ⊥) → bytes_in (goes_down Write d cmd sent v) ≡ 0
  unfolding goes_down offered
  one_down z f = rw (z, f) (one_fits v.size d.position (bytes_in (take d.position v.objects)) (block (take (transfer_of cmd) sent)))

  write_reports : Reports (write_residue d cmd sent v) (writing d cmd sent v).tells
  unfolding writing
  write_reports = go (eqb (transfer_of cmd) 0) (fixed_of cmd) refl refl
    where
      os : List Object
      os = goes_down Write d cmd sent v

      n : ℕ
      n = transfer_of cmd

      by : ((length os ≡ 1 → ⊥) → bytes_in os ≡ 0) → (t : Bool) → eqb (length os) 1 ≡ t → Reports (cond t (pos 0) (pos n)) (wrote d v 1 os (sub_ℕ n (bytes_in os))).tells
      by h true e = wrote_reports 1 os (sub_ℕ n (bytes_in os)) (pos 0) (λ q. refl) (λ q. absurd (q (eqb-true (length os) 1 e)))
      by h false e = wrote_reports 1 os (sub_ℕ n (bytes_in os)) (pos n) (λ q. absurd (eqb-false (length os) 1 e q)) (λ q. sym (ap (sub_ℕ n) (h q) ∙ all_left n))

      go : (z f : Bool) → eqb (transfer_of cmd) 0 ≡ z → fixed_of cmd ≡ f → Reports (cond f (sub_ℕ n (length os)) (cond (eqb (length os) 1) (pos 0) (pos n)))
          (cond z (good d) (carrying (bytes_in os) (cond f (wrote d v n os (sub_ℕ n (length os))) (wrote d v 1 os (sub_ℕ n (bytes_in os)))))).tells
      go true f y e = tt
      go false true y e = wrote_reports n os (sub_ℕ n (length os)) (sub_ℕ n (length os)) (λ q. ap (sub_ℕ n) q ∙ itself n) (λ q. refl)
      go false false y e = by (one_down y e) (eqb (length os) 1) refl

  marks_report : Reports (marks_residue d cmd sent v) (marking d cmd sent v).tells
  unfolding marking
  marks_report = go (eqb (transfer_of cmd) 0)
    where
      os : List Object
      os = goes_down WriteFilemarks d cmd sent v

      n : ℕ
      n = transfer_of cmd

      go : (z : Bool) → Reports (sub_ℕ n (length os)) (cond z (good d) (wrote d v n os (sub_ℕ n (length os)))).tells
      go true = tt
      go false = wrote_reports n os (sub_ℕ n (length os)) (sub_ℕ n (length os)) (λ q. ap (sub_ℕ n) q ∙ itself n) (λ q. refl)

  -- SPACE of either length, by its code and its count

  space_reports : (code : ℕ) (k : ℤ) → Reports (space_residue d code k v) (spacing d code k v).tells
  unfolding spacing space_tells told reports M.residue
  space_reports code k = go (movement code k d.position v.objects) (movement code k d.position v.objects).why k
    where
      go : (m : M.Move) (w : M.Why) (k : ℤ) → Reports (M.residue k m) (space_tells v k (record { to = m.to; moved = m.moved; why = w; distance = m.distance }))
      go m M.done k = tt
      go m M.marked k = (refl, refl, inl refl)
      go m M.edge (pos n) = (refl, refl, inr (inl refl))
      go m M.edge (negsuc n) = (refl, refl, inl refl)

  -- each of the five
  pub act_reports : (o : Operation) → counts o ≡ true → Reports (residue_of o d cmd sent v) (act o d cmd sent v).tells
  unfolding act residue_of
  act_reports o c = go (counting o c)
    where
      P : Operation → Type 0
      P k = Reports (residue_of k d cmd sent v) (act k d cmd sent v).tells

      go : Counting o → P o
      go (reads e) = subst P (sym e) read_reports
      go (writes e) = subst P (sym e) write_reports
      go (marks e) = subst P (sym e) marks_report
      go (spaces e) = subst P (sym e) (space_reports (space_code_of cmd) (space_count_of cmd))
      go (spaces16 e) = subst P (sym e) (space_reports (space_code_of cmd) (space_count16_of cmd))

  -- ---- where the position is left

  read_place : (reading d cmd v).drive.position ≡ d.position + read_crosses d cmd v
  unfolding reading read_variable
  read_place = go (eqb (transfer_of cmd) 0) (fixed_of cmd)
    where
      one : (x : Option Object) → (read_variable d cmd v x).drive.position ≡ d.position + crosses_one x
      one none = sym (add-zero d.position)
      one (some filemark) = sym (add-one d.position)
      one (some (block bs)) = by (eqb (length bs) (transfer_of cmd) || hidden d cmd (length bs))
        where
          by : (t : Bool) → (cond t (good (at d (suc d.position))) (checked (at d (suc d.position)) (odd_met (sub_ℕ (transfer_of cmd) (length bs))))).drive.position ≡ d.position + 1
          by true = sym (add-one d.position)
          by false = sym (add-one d.position)

      go : (z f : Bool) → (cond z (good d) (cond f (read_run d v (transfer_of cmd) (fixed_run d cmd v)) (read_variable d cmd v (get_elem? v.objects d.position)))).drive.position
          ≡ d.position + cond z 0 (cond f (fixed_run d cmd v).crossed (crosses_one (get_elem? v.objects d.position)))
      go true f = sym (add-zero d.position)
      go false true = refl
      go false false = one (get_elem? v.objects d.position)

  pub act_place : (o : Operation) → counts o ≡ true → (act o d cmd sent v).drive.position ≡ place_after o d cmd sent v
  unfolding act place_after spacing
  act_place o c = go (counting o c)
    where
      P : Operation → Type 0
      P k = (act k d cmd sent v).drive.position ≡ place_after k d cmd sent v

      go : Counting o → P o
      go (reads e) = subst P (sym e) read_place
      go (writes e) = subst P (sym e) (ap (λ (y : Drive). y.position) (writing_drive d cmd sent v))
      go (marks e) = subst P (sym e) (ap (λ (y : Drive). y.position) (marking_drive d cmd sent v))
      go (spaces e) = subst P (sym e) refl
      go (spaces16 e) = subst P (sym e) refl

-- ---- of a call

module _ (rec : List ℕ) (x : Lent) where
  abbrev d : Drive
  d = decode_of rec

  abbrev o : Operation
  o = operation_of (code_of x.cmd)

  abbrev v : Seen
  v = seen o d x

  abbrev T : List (Bool × Stop)
  T = command_tests rec x

  abbrev R : Result
  R = command_call rec x

  abbrev E : Deed
  E = act o d x.cmd x.sent v

  -- the residue that 01's bullet names
  abbrev Z : ℤ
  Z = residue_of o d x.cmd x.sent v

  -- nothing is wrong with its drive, and no test stops it
  record Unstopped : Type 0 where
    well : Well d x.part0 x.part1
    passes : first (tests o d x.cmd v x.sent (length x.received)) ≡ none
    is : R ≡ written rec (applied (acted o d x.cmd x.sent v) (looks_at o d x.cmd) x)

  unstopped : first T ≡ none → Unstopped
  unstopped n = go (ended rec x.cmd x.part0 x.part1 x.sent x.received)
    where
      go : Finished rec x.cmd x.part0 x.part1 x.sent x.received → Unstopped
      go (by_number m h f e) = absurd (let z : some (refuse m) ≡ none = sym f ∙ n in let y : ◌≡◌ {A = ℕ} 0 1 = cc in omega arith)
      go (by_sense s f e b w p l q) = absurd (let z : some s ≡ none = sym f ∙ n in let y : ◌≡◌ {A = ℕ} 0 1 = cc in omega arith)
      go (by_act f w q e) = record { well = w; passes = q; is = e }

  in_masks_lem : Unstopped → masks_hold x.cmd ≡ true
  unfolding tests
  in_masks_lem r = go (masks_hold x.cmd) (all_false (tests o d x.cmd v x.sent (length x.received)) r.passes).1.1.0
    where
      go : (t : Bool) → (not t || field_error o d x.cmd) ≡ false → t ≡ true
      go true h = refl
      go false h = absurd (not_both h)

  -- the objects that READ sees lie in a sound image
  seen_small : (k : Operation) → o ≡ k → looks_at k d x.cmd ≡ d.current → needs_cartridge k ≡ true → Unstopped → bytes_in v.objects < 2 ^ 31
  unfolding seen_of
  seen_small k e l n r =
      let z = has_cartridge d x.cmd x.sent (length x.received) v o (ap needs_cartridge e ∙ n) r.passes in
      let s = sees rec x r.well o r.passes (ap (λ (y : Operation). looks_at y d x.cmd) e ∙ l) z in
      rw s (image_small (partition d.current x.part0 x.part1) (inside d x.part0 x.part1 r.well.cart z).right).0

  -- the residues of 01's four always fit
  pub always_fits : Acts rec x → counts o ≡ true → o ≢ Space16 → R.answer.status ≡ check_condition → fits32 Z ≡ true
  unfolding residue_of looks_at act transfer_of
  always_fits a c n s = go (counting o c)
    where
      f : first T ≡ none
      f = (acts_exactly rec x).1 a

      r : Unstopped
      r = unstopped f

      small : be 3 x.cmd 2 < 2 ^ 24
      small = count_small x.cmd c n (in_masks_lem r)

      P : Operation → Type 0
      P k = fits32 (residue_of k d x.cmd x.sent v) ≡ true

      tells : (k : Operation) → o ≡ k → status_of (act k d x.cmd x.sent v).tells ≡ check_condition
      tells k e = subst (λ (k : Operation). status_of (act k d x.cmd x.sent v).tells ≡ check_condition) e (sym (after_act rec x f).0 ∙ s)

      go : Counting o → P o
      go (reads e) = subst P (sym e) (read_fits d x.cmd x.sent v small (seen_small Read e refl refl r))
      go (writes e) = subst P (sym e) (write_fits d x.cmd x.sent v small)
      go (marks e) = subst P (sym e) (marks_fit d x.cmd x.sent v small)
      go (spaces e) = subst P (sym e) (space_fits d v (space_code_of x.cmd) (space_count_of x.cmd) (count_fits x.cmd small) (tells Space e))
      go (spaces16 e) = absurd (n e)

  -- status 02h after an act of one of the five: the sense kept is what it told
  said : first T ≡ none → counts o ≡ true → R.answer.status ≡ check_condition → Reports Z (some (sense_after R))
  said n c s = subst (Reports Z) (heard rec x n s) (act_reports d x.cmd x.sent v o c)

  pub record Reported : Type 0 where
    pub valid : (sense_after R).valid ≡ fits32 Z
    pub information : fits32 Z ≡ true → (sense_after R).information ≡ wrapped Z
    pub read_as : fits32 Z ≡ true → signed (2 ^ 31) (sense_after R).information ≡ Z
    pub silent : fits32 Z ≡ false → (sense_after R).information ≡ 0

  pub reported : Acts rec x → counts o ≡ true → R.answer.status ≡ check_condition → Reported
  reported a c s = record {
    valid = h.0;
    information = shown true;
    read_as = λ f. ap (signed (2 ^ 31)) (shown true f) ∙ signed_wrapped Z f;
    silent = shown false;
  }
    where
      h : Reports Z (some (sense_after R))
      h = said ((acts_exactly rec x).1 a) c s

      shown : (t : Bool) → fits32 Z ≡ t → (sense_after R).information ≡ cond t (wrapped Z) 0
      shown t f = h.1 ∙ ap (λ (b : Bool). cond b (wrapped Z) 0) f

  -- "position after it", "position there", "position and N then stand after the last put", ..: behind the objects crossed or put
  pub position_after : Acts rec x → counts o ≡ true → (decode_of R.rec).position ≡ place_after o d x.cmd x.sent v
  unfolding applied acted with_sense
  position_after a c = ap (λ (r : Result). (decode_of r.rec).position) r.is ∙ ap (λ (e : Drive). e.position) after ∙ act_place d x.cmd x.sent v o c
    where
      r : Unstopped
      r = unstopped ((acts_exactly rec x).1 a)

      after : decode_of (encode_of (with_sense E.drive (kept_of E.tells))) ≡ with_sense E.drive (kept_of E.tells)
      after = let w = acts_after rec x r.well o r.passes in back E.drive (kept_of E.tells) (place_small E.drive _ _ w.cart) w.small (kept_whole E.tells)

  -- ---- "VALID is set for READ, WRITE, WRITE FILEMARKS and SPACE with key 0, 8 or D; otherwise it and information are 0": of every call that tells a sense;
  -- Q-1: "residues that don't fit 32 signed bits are reported with VALID 0 and information 0"

  pub record ValidExactly : Type 0 where
    pub valid : ((sense_after R).valid ≡ true) ↔ ((counts o ≡ true) × ((((sense_after R).key ≡ no_sense) ⊎ (((sense_after R).key ≡ blank_check) ⊎ ((sense_after R).key ≡ volume_overflow))) × (fits32 Z ≡ true)))
    pub otherwise : (sense_after R).valid ≡ false → (sense_after R).information ≡ 0

  -- neither is set, and the rule does not hold
  not_set : (sense_after R).valid ≡ false → (sense_after R).information ≡ 0 → (counts o ≡ true → Keyed (sense_after R).key → ⊥) → ValidExactly
  not_set f i n = record { valid = (λ h. absurd (not_both (sym h ∙ f)), (λ h. absurd (n h.0 h.1.0))); otherwise = λ _. i }

  -- an act tells its residue if it counts, else none
  by_told : first T ≡ none → R.answer.status ≡ check_condition → ValidExactly
  unfolding told reports
  by_told e s = go (counts o) refl
    where
      u : Told o (sense_after R)
      u = told_act rec x e s

      go : (c : Bool) → counts o ≡ c → ValidExactly
      go true c =
          let r = reported ((acts_exactly rec x).0 e) c s in
          record { valid = ((λ t. (c, ((said e c s).2, sym r.valid ∙ t))), (λ p. r.valid ∙ p.1.1)); otherwise = λ t. r.silent (sym r.valid ∙ t) }
      go false c = not_set (ap (λ (y : Sense). y.valid) u.is ∙ rw c refl) (ap (λ (y : Sense). y.information) u.is ∙ rw c refl) (λ t _. not_both (sym t ∙ c))

  -- a test tells under another key, and no residue
  other_key : ByTest rec x → Keyed (sense_after R).key → ⊥
  unfolding told reports fits32
  other_key p h = go p.key (p.silent (pos 0)) (subst Keyed (ap (λ (y : Sense). y.key) p.is) h)
    where
      go : (k : ℕ) → reports true k (pos 0) ≡ false → Keyed k → ⊥
      go k q (inl e) = not_both (rw e at q)
      go k q (inr (inl e)) = not_both (rw e at q)
      go k q (inr (inr e)) = not_both (rw e at q)

  by_test : ByTest rec x → ValidExactly
  unfolding told reports
  by_test p = not_set (ap (λ (y : Sense). y.valid) p.is) (ap (λ (y : Sense). y.information) p.is) (λ _ h. other_key p h)

  pub valid_exactly : R.answer.status ≡ check_condition → ValidExactly
  valid_exactly s = go (first T) refl
    where
      go : (t : Option Stop) → first T ≡ t → ValidExactly
      go none e = by_told e s
      go (some p) e = by_test (told_test rec x p e s)

  -- 01's sentence word for word, of every command of 01: of every call that tells a sense
  pub valid_as_01 : R.answer.status ≡ check_condition → o ≢ Space16
      → ((sense_after R).valid ≡ true) ↔ ((counts o ≡ true) × (((sense_after R).key ≡ no_sense) ⊎ (((sense_after R).key ≡ blank_check) ⊎ ((sense_after R).key ≡ volume_overflow))))
  valid_as_01 s n = ((λ h. let p = w.0 h in (p.0, p.1.0)), (λ h. w.1 (h.0, (h.1, fitting_so (first T) refl h.0 h.1))))
    where
      w : ((sense_after R).valid ≡ true) ↔ ((counts o ≡ true) × (Keyed (sense_after R).key × (fits32 Z ≡ true)))
      w = (valid_exactly s).valid

      fitting_so : (t : Option Stop) → first T ≡ t → counts o ≡ true → Keyed (sense_after R).key → fits32 Z ≡ true
      fitting_so none e c k = always_fits ((acts_exactly rec x).0 e) c n s
      fitting_so (some p) e c k = absurd (other_key (told_test rec x p e s) k)

  -- ".. replaces the kept sense, by empty on GOOD"
  pub good_empty : R.answer.refusal ≡ 0 → R.answer.status ≡ 0x00 → (decode_of R.rec).sense ≡ empty_sense
  unfolding status_of kept_of
  good_empty z s = go (ended rec x.cmd x.part0 x.part1 x.sent x.received)
    where
      go : Finished rec x.cmd x.part0 x.part1 x.sent x.received → (decode_of R.rec).sense ≡ empty_sense
      go (by_number n h f e) = absurd (let y : n ≡ 0 = sym (ap (λ (r : Result). r.answer.refusal) e) ∙ z in omega arith)
      go (by_sense p f e b w q l r) = absurd (let y : ◌≡◌ {A = ℕ} check_condition 0x00 = sym (ap (λ (r : Result). r.answer.status) r) ∙ s in omega arith)
      go (by_act f w q e) = let a = after_act rec x f in by E.tells (sym a.0 ∙ s) a.1
        where
          by : (t : Option Sense) → status_of t ≡ 0x00 → (decode_of R.rec).sense ≡ kept_of t → (decode_of R.rec).sense ≡ empty_sense
          by none h k = k
          by (some y) h k = absurd (omega arith)
