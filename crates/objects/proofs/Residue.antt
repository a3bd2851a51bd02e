-- The residue is what is left of the count, with the count's sign: a walk counts no more than was asked for, so no difference crosses zero.
-- Assumes nothing.
use Prim.Native.Nat.{ℕ, zero, suc, ◌+◌, ◌-◌, ◌≤◌, ◌<◌}
use native.Mathlib.Omega.{arith}
use native.Mathlib.Decide.{dec_le}
use mathlib.Core.Path.{◌≡◌, refl, sym, ap, ◌∙◌, subst}
use mathlib.Core.Bool.{Bool, true, false, not, cond}
use mathlib.Core.List.{List}
use lib.Dec.{T, ltb, ltb→lt, nltb→le}
use lib.ListN.{drop}
use lib.IntN.{ℤ, pos, negsuc, ◌-ℤ◌, neg_ℤ, sub_ℕ, nat_abs}
use Rattle.objects.specs.Object.{Object}
use Rattle.objects.specs.Movement.{Code, done, walk, before, ahead, astern, space, residue}
use Rattle.objects.proofs.Walk.{counted_le, walk_done}

-- a - b of two naturals, on either side of zero
sub_neg : (a b : ℕ) → a < b → sub_ℕ a b ≡ neg_ℤ (pos (b - a))
sub_neg a b h = go (ltb a b) refl
  where
    go : (t : Bool) → ltb a b ≡ t → cond t (negsuc (b - suc a)) (pos (a - b)) ≡ neg_ℤ (pos (b - a))
    go true e = ap (λ (n : ℕ). neg_ℤ (pos n)) (let z : suc (b - suc a) ≡ b - a = omega arith in z)
    go false e = absurd (let z : b ≤ a = nltb→le a b (subst (λ (t : Bool). T (not t)) (sym e) tt) in omega arith)

sub_pos : (a b : ℕ) → b ≤ a → sub_ℕ a b ≡ pos (a - b)
sub_pos a b h = go (ltb a b) refl
  where
    go : (t : Bool) → ltb a b ≡ t → cond t (negsuc (b - suc a)) (pos (a - b)) ≡ pos (a - b)
    go true e = absurd (let z : a < b = ltb→lt a b (subst T (sym e) tt) in omega arith)
    go false e = refl

-- of a request of which nothing is done, all is left
pub all_left : (n : ℕ) → sub_ℕ n 0 ≡ pos n
all_left n = sub_pos n 0 (omega arith) ∙ ap pos (let z : n - 0 ≡ n = omega arith in z)

both_zero : (a b : ℕ) → a ≡ 0 → b ≡ 0 → pos a ≡ neg_ℤ (pos b)
both_zero a b e f = rw (e, f)

pub left_on : (n c : ℕ) → c ≤ n → pos n -ℤ pos c ≡ pos (n - c)
left_on n zero h = ap pos (let z : n + 0 ≡ n - 0 = omega arith in z)
left_on n (suc c) h = sub_pos n (suc c) h

pub left_back : (n c : ℕ) → c ≤ suc n → negsuc n -ℤ neg_ℤ (pos c) ≡ neg_ℤ (pos (suc n - c))
left_back n zero h = sub_neg 0 (suc n) (omega arith)
left_back n (suc c) h = go (dec_le (suc c) n)
  where
    go : Dec (suc c ≤ n) → sub_ℕ (suc c) (suc n) ≡ neg_ℤ (pos (suc n - suc c))
    go (yes k) = sub_neg (suc c) (suc n) (omega arith)
    go (no k) = sub_pos (suc c) (suc n) (omega arith) ∙ both_zero (suc c - suc n) (suc n - suc c) (omega arith) (omega arith)

-- turned round, a number is as large
pub size_back_lem : (n : ℕ) → nat_abs (neg_ℤ (pos n)) ≡ n
size_back_lem zero = refl
size_back_lem (suc n) = refl

-- toward the end of data
pub residue_on : (c : Code) (n p : ℕ) (xs : List Object)
    → residue (pos n) (space c (pos n) p xs) ≡ pos (n - (walk c n (drop p xs)).counted)
unfolding residue space ahead
residue_on c n p xs = left_on n (walk c n (drop p xs)).counted (counted_le c n (drop p xs))

-- toward the beginning
pub residue_back_lem : (c : Code) (n p : ℕ) (xs : List Object)
    → residue (negsuc n) (space c (negsuc n) p xs) ≡ neg_ℤ (pos (suc n - (walk c (suc n) (before p xs)).counted))
unfolding residue space astern
residue_back_lem c n p xs = left_back n (walk c (suc n) (before p xs)).counted (counted_le c (suc n) (before p xs))

-- a movement that is done leaves no residue
pub residue_done : (c : Code) (k : ℤ) (p : ℕ) (xs : List Object) → (space c k p xs).why ≡ done → residue k (space c k p xs) ≡ pos zero
unfolding space ahead astern
residue_done c (pos n) p xs e =
    let z : n - (walk c n (drop p xs)).counted ≡ 0 = omega (arith, walk_done c n (drop p xs) e) in
    residue_on c n p xs ∙ ap pos z
residue_done c (negsuc n) p xs e =
    let z : suc n - (walk c (suc n) (before p xs)).counted ≡ 0 = omega (arith, walk_done c (suc n) (before p xs) e) in
    residue_back_lem c n p xs ∙ ap (λ (m : ℕ). neg_ℤ (pos m)) z
