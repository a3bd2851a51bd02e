-- The residues of READ, WRITE, WRITE FILEMARKS and SPACE of six bytes fit 32 signed bits.
-- Assumes nothing.
use Prim.Native.Nat.{ℕ, zero, suc, ◌+◌, ◌-◌, ◌%◌, ◌^◌, ◌≤◌, ◌<◌}
use mathlib.Core.Path.{◌≡◌, refl, sym, ap, ◌∙◌, subst}
use mathlib.Core.Logic.{◌≢◌, ◌⊎◌, inl, inr}
use mathlib.Core.Bool.{Bool, true, false, cond}
use mathlib.Core.Option.{Option, none, some}
use mathlib.Core.List.{List, [], ◌∷◌}
use native.Mathlib.Omega.{arith}
use borrow.Author.Tests.{eqb-true, ltb-true, lt-ltb}
use lib.Bits.{bit_and, and_mask}
use lib.Dec.{eqb, ltb}
use lib.IntN.{ℤ, pos, negsuc, neg_ℤ, sub_ℕ}
use lib.ListN.{length, take, drop, get_or, get_elem?}
use Rattle.words.specs.Words.{be}
use Rattle.words.specs.Signed.{signed, fits32}
use Rattle.words.proofs.Wraps.{subℕ_cases}
use Rattle.answers.specs.Answers.{check_condition}
use Rattle.objects.specs.Object.{Object, filemark, block, data_of, bytes_in}
use Rattle.objects.specs.Movement as M
use Rattle.objects.specs.Room.{room_of, fits_in}
use Rattle.objects.specs.Transfer.{fitting}
use Rattle.objects.proofs.Residue.{residue_on, residue_back_lem}
use Rattle.record.specs.declared.drive.Drive.{Drive}
use Rattle.codes.specs.declared.operation.Operation.{Operation}
use Rattle.codes.specs.declared.operation.Operation.TheVariants.{Read, Write, WriteFilemarks, Space, Space16}
use Rattle.codes.specs.Codes.{Row, number_of, code_of, rows, row_of, operation_of, mask_at, in_masks, masks_hold}
use Rattle.codes.specs.Fields.{fixed_of, transfer_of, space_count_of}
use Rattle.codes.proofs.Rules.{Found, here, nowhere, found}
use Rattle.commands.specs.Act.{Seen, offered, goes_down, over_blocks, to_end, space_tells, movement, spacing}
use Rattle.commands.specs.Step.{status_of}
use Rattle.commands.proofs.Exact.{is_test, one_test}
use Rattle.image.proofs.Tests.{both}
use Rattle.history.proofs.Answered.{length_blocks, length_marks}
use Rattle.exact.specs.Residues.{counts, fixed_run, left_of_one, read_residue, write_residue, marks_residue, space_residue}
use Rattle.exact.proofs.Carried.{run_most}
use Rattle.exact.proofs.Small.{bytes_at}

-- ---- the commands that count

pub data Counting (o : Operation) : Type 0 where
  reads : o ≡ Read → Counting o
  writes : o ≡ Write → Counting o
  marks : o ≡ WriteFilemarks → Counting o
  spaces : o ≡ Space → Counting o
  spaces16 : o ≡ Space16 → Counting o

pub counting : (o : Operation) → counts o ≡ true → Counting o
counting o c = go ((one_test o Read (Write ∷ WriteFilemarks ∷ Space ∷ Space16 ∷ []) (one_test o Write (WriteFilemarks ∷ Space ∷ Space16 ∷ []) (one_test o WriteFilemarks (Space ∷ Space16 ∷ []) (one_test o Space (Space16 ∷ []) (is_test o Space16))))).0 c)
  where
    go : (o ≡ Read) ⊎ ((o ≡ Write) ⊎ ((o ≡ WriteFilemarks) ⊎ ((o ≡ Space) ⊎ (o ≡ Space16)))) → Counting o
    go (inl e) = reads e
    go (inr (inl e)) = writes e
    go (inr (inr (inl e))) = marks e
    go (inr (inr (inr (inl e)))) = spaces e
    go (inr (inr (inr (inr e)))) = spaces16 e

-- ---- what fits 32 signed bits

above_fits : (n : ℕ) → n < 2 ^ 31 → fits32 (pos n) ≡ true
unfolding fits32
above_fits n h = lt-ltb n (2 ^ 31) h

below_fits : (n : ℕ) → n < 2 ^ 31 → fits32 (negsuc n) ≡ true
unfolding fits32
below_fits n h = lt-ltb n (2 ^ 31) h

difference_fits : (a b : ℕ) → a < 2 ^ 31 → b ≤ 2 ^ 31 → fits32 (sub_ℕ a b) ≡ true
difference_fits a b h k = subℕ_cases (λ z. fits32 z ≡ true) a b (λ l. below_fits (b - suc a) (omega arith)) (λ l. above_fits (a - b) (omega arith))

opposite_fits : (n : ℕ) → n ≤ 2 ^ 31 → fits32 (neg_ℤ (pos n)) ≡ true
opposite_fits zero h = above_fits 0 (omega arith)
opposite_fits (suc n) h = below_fits n h

-- ---- the counts of a command block of six bytes are of 24 bits: a bit outside its mask was a field error

one_byte : (b : ℕ) → eqb (bit_and b 0xFF) b ≡ true → b < 256
one_byte b h = let e : b % 2 ^ 8 ≡ b = sym (and_mask b 8) ∙ eqb-true (bit_and b 0xFF) b h in omega arith

three_bytes : (m0 : ℕ) (cmd : List ℕ) → in_masks (m0 ∷ 0xFF ∷ 0xFF ∷ 0xFF ∷ []) cmd 5 ≡ true → be 3 cmd 2 < 2 ^ 24
unfolding in_masks be
three_bytes m0 cmd h =
    let a = both (in_masks M cmd 4) (t 4) h in
    let b = both (in_masks M cmd 3) (t 3) a.0 in
    let c = both (in_masks M cmd 2) (t 2) b.0 in
    let e = both (in_masks M cmd 1) (t 1) c.0 in
    omega (arith, one_byte (get_or cmd 4 0) b.1, one_byte (get_or cmd 3 0) c.1, one_byte (get_or cmd 2 0) e.1)
  where
    M : List ℕ
    M = m0 ∷ 0xFF ∷ 0xFF ∷ 0xFF ∷ []

    t : ℕ → Bool
    t k = eqb (bit_and (get_or cmd (suc k) 0) (mask_at M k)) (get_or cmd (suc k) 0)

code_is : (op : ℕ) (o : Operation) → operation_of op ≡ o → number_of o < 0x100 → op ≡ number_of o
code_is op o e h = go (found rows op)
  where
    go : Found op (row_of op) → op ≡ number_of o
    go (here q) = sym q ∙ ap (λ (x : Operation). number_of x) e
    go (nowhere q) = absurd (let z : number_of o ≡ 0x100 = ap (λ (x : Operation). number_of x) (sym e) ∙ ap (λ (r : Row). number_of r.operation) q in omega arith)

pub count_small : (cmd : List ℕ) → counts (operation_of (code_of cmd)) ≡ true → operation_of (code_of cmd) ≢ Space16 → masks_hold cmd ≡ true → be 3 cmd 2 < 2 ^ 24
unfolding masks_hold
count_small cmd c n h = go (counting (operation_of (code_of cmd)) c)
  where
    go : Counting (operation_of (code_of cmd)) → be 3 cmd 2 < 2 ^ 24
    go (reads e) = three_bytes 0x03 cmd (rw (code_is (code_of cmd) Read e (omega arith)) at h)
    go (writes e) = three_bytes 0x01 cmd (rw (code_is (code_of cmd) Write e (omega arith)) at h)
    go (marks e) = three_bytes 0x00 cmd (rw (code_is (code_of cmd) WriteFilemarks e (omega arith)) at h)
    go (spaces e) = three_bytes 0x0F cmd (rw (code_is (code_of cmd) Space e (omega arith)) at h)
    go (spaces16 e) = absurd (n e)

-- ---- so their residues fit

fitting_most : (l n e : ℕ) (os : List Object) → length (fitting l n e os) ≤ length os
unfolding fitting
fitting_most l n e [] = omega arith
fitting_most l n e (o ∷ os) = go (fits_in (room_of l n e) (length (data_of o))) (fitting_most l (suc n) (e + length (data_of o)) os)
  where
    go : (t : Bool) → length (fitting l (suc n) (e + length (data_of o)) os) ≤ length os
        → length {A = Object} (elim t as (λ x. List Object) [ true ↦ o ∷ fitting l (suc n) (e + length (data_of o)) os | false ↦ [] ]) ≤ suc (length os)
    go true h = omega arith
    go false h = omega arith

module _ (d : Drive) (cmd sent : List ℕ) (v : Seen) where
  down_most : (o : Operation) → length (goes_down o d cmd sent v) ≤ length (offered o d cmd sent)
  unfolding goes_down
  down_most o = fitting_most v.size d.position (bytes_in (take d.position v.objects)) (offered o d cmd sent)

  fixed_offered : fixed_of cmd ≡ true → length (offered Write d cmd sent) ≡ transfer_of cmd
  unfolding offered
  fixed_offered f = rw f (length_blocks d.block_length (transfer_of cmd) sent)

  marks_offered : length (offered WriteFilemarks d cmd sent) ≡ transfer_of cmd
  unfolding offered
  marks_offered = length_marks (transfer_of cmd)

  module _ (n : transfer_of cmd < 2 ^ 24) where
    request_fits : fits32 (pos (transfer_of cmd)) ≡ true
    request_fits = above_fits (transfer_of cmd) (omega arith)

    pub read_fits : bytes_in v.objects < 2 ^ 31 → fits32 (read_residue d cmd v) ≡ true
    read_fits h = go (fixed_of cmd) (get_elem? v.objects d.position) refl
      where
        go : (f : Bool) (x : Option Object) → get_elem? v.objects d.position ≡ x → fits32 (cond f (sub_ℕ (transfer_of cmd) (fixed_run d cmd v).blocks) (left_of_one (transfer_of cmd) x)) ≡ true
        go true x e = difference_fits (transfer_of cmd) (fixed_run d cmd v).blocks (omega arith) (omega (arith, n, run_most d.block_length (transfer_of cmd) (drop d.position v.objects)))
        go false none e = request_fits
        go false (some filemark) e = request_fits
        go false (some (block bs)) e = difference_fits (transfer_of cmd) (length bs) (omega arith) (omega (arith, h, bytes_at v.objects d.position bs e))

    pub write_fits : fits32 (write_residue d cmd sent v) ≡ true
    write_fits = go (fixed_of cmd) (eqb (length (goes_down Write d cmd sent v)) 1) refl
      where
        go : (f t : Bool) → fixed_of cmd ≡ f → fits32 (cond f (sub_ℕ (transfer_of cmd) (length (goes_down Write d cmd sent v))) (cond t (pos 0) (pos (transfer_of cmd)))) ≡ true
        go true t e = difference_fits (transfer_of cmd) (length (goes_down Write d cmd sent v)) (omega arith) (omega (arith, n, down_most Write, fixed_offered e))
        go false true e = above_fits 0 (omega arith)
        go false false e = request_fits

    pub marks_fit : fits32 (marks_residue d cmd sent v) ≡ true
    marks_fit = difference_fits (transfer_of cmd) (length (goes_down WriteFilemarks d cmd sent v)) (omega arith) (omega (arith, n, down_most WriteFilemarks, marks_offered))

-- SPACE to end of data tells nothing; over blocks or filemarks it leaves no more of its count, so what fits if that does
pub space_fits : (d : Drive) (v : Seen) (code : ℕ) (k : ℤ) → fits32 k ≡ true → status_of (spacing d code k v).tells ≡ check_condition → fits32 (space_residue d code k v) ≡ true
unfolding spacing movement space_tells status_of M.to_end_of_data
space_fits d v code k f = by (eqb code to_end)
  where
    go : (c : M.Code) (k : ℤ) → fits32 k ≡ true → fits32 (M.residue k (M.space c k d.position v.objects)) ≡ true
    go c (pos m) f = let h = ltb-true m (2 ^ 31) (unfold fits32 in f) in subst (λ (z : ℤ). fits32 z ≡ true) (sym (residue_on c m d.position v.objects)) (above_fits (m - (M.walk c m (drop d.position v.objects)).counted) (omega arith))
    go c (negsuc m) f = let h = ltb-true m (2 ^ 31) (unfold fits32 in f) in subst (λ (z : ℤ). fits32 z ≡ true) (sym (residue_back_lem c m d.position v.objects)) (opposite_fits (suc m - (M.walk c (suc m) (M.before d.position v.objects)).counted) (omega arith))

    by : (t : Bool) → status_of (space_tells v k (cond t (M.to_end_of_data d.position v.objects) (M.space (cond (eqb code over_blocks) M.blocks M.filemarks) k d.position v.objects))) ≡ check_condition
        → fits32 (M.residue k (cond t (M.to_end_of_data d.position v.objects) (M.space (cond (eqb code over_blocks) M.blocks M.filemarks) k d.position v.objects))) ≡ true
    by true s = absurd (omega arith)
    by false s = go (cond (eqb code over_blocks) M.blocks M.filemarks) k f

-- that of six bytes has a count of 24 bits, which fits
pub count_fits : (cmd : List ℕ) → be 3 cmd 2 < 2 ^ 24 → fits32 (space_count_of cmd) ≡ true
unfolding space_count_of signed
count_fits cmd n = go (ltb (be 3 cmd 2) (2 ^ 23)) refl
  where
    go : (t : Bool) → ltb (be 3 cmd 2) (2 ^ 23) ≡ t → fits32 (cond t (pos (be 3 cmd 2)) (negsuc (2 ^ 23 + 2 ^ 23 - suc (be 3 cmd 2)))) ≡ true
    go true q = above_fits (be 3 cmd 2) (omega arith)
    go false q = below_fits (2 ^ 23 + 2 ^ 23 - suc (be 3 cmd 2)) (omega arith)
