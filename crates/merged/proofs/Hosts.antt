-- Q-12 as a host meets it: the blocks of six and sixteen bytes that it writes, the way home, and the counts that have no opposite.
-- Assumes nothing.
use Prim.Native.Nat.{ℕ, zero, suc, ◌+◌, ◌-◌, ◌^◌, ◌≤◌, ◌<◌}
use native.Mathlib.Omega.{arith}
use native.Mathlib.Decide.{dec_le}
use mathlib.Core.Path.{◌≡◌, refl, sym, ap}
use mathlib.Core.Logic.{◌≢◌, inl, inr}
use mathlib.Core.Bool.{Bool, true, false, cond}
use mathlib.Core.List.{List}
use borrow.Author.Tests.{ltb-true}
use lib.Dec.{ltb}
use lib.IntN.{ℤ, pos, negsuc, neg_ℤ, nat_abs, ◌+ℤ◌, pos-ne-negsuc}
use Rattle.words.specs.Words.{be, bytes}
use Rattle.words.specs.Signed.{signed}
use Rattle.words.proofs.Wraps.{subℕ_cases}
use Rattle.objects.specs.Movement as M
use Rattle.record.specs.Record.{decode_of}
use Rattle.codes.specs.Codes.{too_short, in_masks, masks_hold}
use Rattle.codes.specs.Fields.{space_code_of, space_count_of}
use Rattle.alike.specs.Alike.{Fits, SpacesBy}
use Rattle.alike.proofs.Alike.{count_short, count_long, and_true, in_byte}
use Rattle.merged.specs.Merged.{may_merge, Command, calling, then_calling, Good, code_over, SpaceOver, MergedCalls, Length, bytes6, bytes16, FitsIn, space_block, space_command, least24}
use Rattle.merged.proofs.Calls.{two_calls_or_one, good_small, good_place}

-- ---- the blocks

host_by : (l : Length) (c : M.Code) (k : ℤ) → FitsIn l k → SpacesBy (code_over c) k (space_block l c k)
unfolding space_code_of
host_by bytes6 M.blocks k h = record { is = inl (refl, count_short 0 k h); code = refl }
host_by bytes6 M.filemarks k h = record { is = inl (refl, count_short 1 k h); code = refl }
host_by bytes16 M.blocks k h = record { is = inr (refl, count_long 0 k h); code = refl }
host_by bytes16 M.filemarks k h = record { is = inr (refl, count_long 1 k h); code = refl }

host_whole : (l : Length) (c : M.Code) (k : ℤ) → too_short (space_block l c k) ≡ false
unfolding too_short bytes
host_whole bytes6 c k = refl
host_whole bytes16 c k = refl

host_within : (l : Length) (c : M.Code) (k : ℤ) → masks_hold (space_block l c k) ≡ true
unfolding masks_hold in_masks bytes
host_within bytes6 M.blocks k = simp (in_byte, and_true) refl
host_within bytes6 M.filemarks k = simp (in_byte, and_true) refl
host_within bytes16 M.blocks k = simp (in_byte, and_true) refl
host_within bytes16 M.filemarks k = simp (in_byte, and_true) refl

pub host_spaces : (l : Length) (c : M.Code) (k : ℤ) (sent received : List ℕ) → FitsIn l k → SpaceOver c k (space_command l c k sent received)
host_spaces l c k sent received h = record { by = host_by l c k h; whole = host_whole l c k; within = host_within l c k }

-- each of the three of six bytes or of sixteen, as long as its count fits
pub two_blocks_or_one : (i j l : Length) (c : M.Code) (a b : ℤ) (rec p0 p1 sent-x received-x sent-y received-y sent-z received-z : List ℕ) → may_merge c a b ≡ true → FitsIn i a → FitsIn j b → FitsIn l (a +ℤ b)
    → let x = space_command i c a sent-x received-x in
    let y = space_command j c b sent-y received-y in
    let z = space_command l c (a +ℤ b) sent-z received-z in
    let r = calling x rec p0 p1 in
    let s = then_calling y r in
    Good r → Good s → MergedCalls a b p0 p1 x y z r s (calling z rec p0 p1)
two_blocks_or_one i j l c a b rec p0 p1 sent-x received-x sent-y received-y sent-z received-z w f g h =
    two_calls_or_one c a b rec p0 p1 _ _ _ w (host_spaces i c a sent-x received-x f) (host_spaces j c b sent-y received-y g) (host_spaces l c (a +ℤ b) sent-z received-z h)

-- ---- which sums and opposites fit

sum_below : (a b : ℤ) → nat_abs a < 2 ^ 28 → nat_abs b < 2 ^ 28 → Fits 63 (a +ℤ b)
sum_below (pos m) (pos n) h k = omega arith
sum_below (pos m) (negsuc n) h k = subℕ_cases (λ (z : ℤ). Fits 63 z) m (suc n) (λ l. omega arith) (λ l. omega arith)
sum_below (negsuc m) (pos n) h k = subℕ_cases (λ (z : ℤ). Fits 63 z) n (suc m) (λ l. omega arith) (λ l. omega arith)
sum_below (negsuc m) (negsuc n) h k = omega arith

-- of two that are GOOD the sum always fits sixteen bytes
pub sum_fits : (c : M.Code) (a b : ℤ) (rec p0 p1 : List ℕ) (x y : Command) → SpaceOver c a x → SpaceOver c b y
    → let r = calling x rec p0 p1 in
    Good r → Good (then_calling y r) → FitsIn bytes16 (a +ℤ b)
sum_fits c a b rec p0 p1 x y sx sy g h =
    let r = calling x rec p0 p1 in
    sum_below a b (good_small c a rec p0 p1 x sx g) (good_small c b r.rec r.lent.part0 r.lent.part1 y sy h)

opposite_below : (a : ℤ) → nat_abs a < 2 ^ 28 → Fits 63 (neg_ℤ a)
opposite_below (pos zero) h = omega arith
opposite_below (pos (suc n)) h = omega arith
opposite_below (negsuc n) h = omega arith

-- so does the opposite of one that is GOOD
pub opposite_fits : (c : M.Code) (a : ℤ) (rec p0 p1 : List ℕ) (x : Command) → SpaceOver c a x → Good (calling x rec p0 p1) → FitsIn bytes16 (neg_ℤ a)
opposite_fits c a rec p0 p1 x s g = opposite_below a (good_small c a rec p0 p1 x s g)

-- 24 bits hold the opposite of each of their counts but the least
pub opposite_fits_24 : (a : ℤ) → FitsIn bytes6 a → a ≢ least24 → FitsIn bytes6 (neg_ℤ a)
opposite_fits_24 (pos zero) h n = omega arith
opposite_fits_24 (pos (suc m)) h n = omega arith
opposite_fits_24 (negsuc m) h n = go (dec_le (2 ^ 23) (suc m))
  where
    go : Dec (2 ^ 23 ≤ suc m) → suc m < 2 ^ 23
    go (yes e) = absurd (n (ap negsuc (omega arith)))
    go (no k) = omega arith

-- ---- −2^23

-- no block of six bytes has its opposite as its count
pub no_opposite : (cmd : List ℕ) → space_count_of cmd ≢ neg_ℤ least24
unfolding space_count_of signed
no_opposite cmd e = go (ltb (be 3 cmd 2) (2 ^ 23)) refl e
  where
    go : (t : Bool) → ltb (be 3 cmd 2) (2 ^ 23) ≡ t → cond t (pos (be 3 cmd 2)) (negsuc (2 ^ 23 + 2 ^ 23 - suc (be 3 cmd 2))) ≡ pos (2 ^ 23) → ⊥
    go true h q = let l = ltb-true (be 3 cmd 2) (2 ^ 23) h in let z : be 3 cmd 2 ≡ 2 ^ 23 = ap nat_abs q in omega arith
    go false h q = pos-ne-negsuc (2 ^ 23) _ (sym q)

-- in 24 bits its opposite is written as it is itself
pub opposite_written : (c : M.Code) → space_block bytes6 c (neg_ℤ least24) ≡ space_block bytes6 c least24
opposite_written c = refl

-- so a host that turns back by it goes on back, 2^24 blocks in all, and is not home
pub goes_on_back : (rec p0 p1 sent-x received-x sent-y received-y : List ℕ)
    → let r = calling (space_command bytes6 M.blocks least24 sent-x received-x) rec p0 p1 in
    let s = then_calling (space_command bytes6 M.blocks (neg_ℤ least24) sent-y received-y) r in
    Good r → Good s → (decode_of s.rec).position + 2 ^ 24 ≡ (decode_of rec).position
goes_on_back rec p0 p1 sent-x received-x sent-y received-y g h =
    let r = calling (space_command bytes6 M.blocks least24 sent-x received-x) rec p0 p1 in
    let s = then_calling (space_command bytes6 M.blocks least24 sent-y received-y) r in
    let there : pos (decode_of r.rec).position ≡ pos (decode_of rec).position +ℤ least24 = good_place least24 rec p0 p1 _ (host_spaces bytes6 M.blocks least24 sent-x received-x (omega arith)) g in
    let on : pos (decode_of s.rec).position ≡ pos (decode_of r.rec).position +ℤ least24 = good_place least24 r.rec r.lent.part0 r.lent.part1 _ (host_spaces bytes6 M.blocks least24 sent-y received-y (omega arith)) h in
    omega (arith, back_by (decode_of rec).position (decode_of r.rec).position there, back_by (decode_of r.rec).position (decode_of s.rec).position on)
  where
    back_by : (p q : ℕ) → pos q ≡ pos p +ℤ least24 → q + 2 ^ 23 ≡ p
    back_by p q = subℕ_cases (λ (z : ℤ). pos q ≡ z → q + 2 ^ 23 ≡ p) p (2 ^ 23) (λ l e. absurd (pos-ne-negsuc q _ e)) (λ l e. let z : q ≡ p - 2 ^ 23 = ap nat_abs e in omega arith)
