-- The wrapping subtraction is the encoding of the signed difference, for numbers and for encoded integers alike; a count
-- that fits is read back, an integer from its 32 bits, and from these extended to 64.
-- Assumes nothing.
use Rattle.std.proofs.Common.{◌≡◌, ℕ, zero, suc, ◌+◌, ◌-◌, ◌%◌, ◌^◌, ◌<◌, ◌≤◌, Bool, true, false, cond, ltb, ℤ, pos, negsuc, ◌-ℤ◌, sym, refl, ap, ◌∙◌, zero-add, arith, to_z-of_z, SFits, to_z, of_z, ltb-false, ltb-true, le-ltb, lt-ltb}
use mir.Syntax.{Width}
use mir.Val.{hbits}
use mir.Facts.{to_z_pos}
use lib.IntN.{sub_ℕ}
use Rattle.words.specs.Signed.{signed, wrapped, fits32, extended}

-- the two cases of a signed difference of naturals
pub subℕ_cases : (P : ℤ → Type 0) (a b : ℕ) → (a < b → P (negsuc (b - suc a))) → (b ≤ a → P (pos (a - b))) → P (sub_ℕ a b)
subℕ_cases P a b f g = go (ltb a b) refl
  where
    go : (t : Bool) → ltb a b ≡ t → P (cond t (negsuc (b - suc a)) (pos (a - b)))
    go true e = f (ltb-true a b e)
    go false e = g (ltb-false a b e)

-- the difference of two numbers of 32 bits, by one sum
pub by_sum : (x y : ℕ) → x < 2 ^ 32 → y < 2 ^ 32 → wrapped (sub_ℕ x y) ≡ (x + (2 ^ 32 - y)) % 2 ^ 32
unfolding wrapped
by_sum x y hx hy = subℕ_cases (λ z. wrapped z ≡ (x + (2 ^ 32 - y)) % 2 ^ 32) x y (λ l. omega arith) (λ l. omega arith)

pub wrapped_lt : (z : ℤ) → wrapped z < 2 ^ 32
unfolding wrapped
wrapped_lt (pos n) = omega arith
wrapped_lt (negsuc n) = omega arith

summed : (a b : ℤ) → (wrapped a + (2 ^ 32 - wrapped b)) % 2 ^ 32 ≡ wrapped (a -ℤ b)
unfolding wrapped
summed (pos a) (pos zero) = omega arith
summed (pos a) (pos (suc b)) = subℕ_cases (λ z. (wrapped (pos a) + (2 ^ 32 - wrapped (pos (suc b)))) % 2 ^ 32 ≡ wrapped z) a (suc b) (λ h. omega arith) (λ h. omega arith)
summed (pos a) (negsuc b) = omega arith
summed (negsuc a) (pos zero) = subℕ_cases (λ z. (wrapped (negsuc a) + (2 ^ 32 - wrapped (pos zero))) % 2 ^ 32 ≡ wrapped z) 0 (suc a) (λ h. omega arith) (λ h. omega arith)
summed (negsuc a) (pos (suc b)) = omega arith
summed (negsuc a) (negsuc b) = subℕ_cases (λ z. (wrapped (negsuc a) + (2 ^ 32 - wrapped (negsuc b))) % 2 ^ 32 ≡ wrapped z) (suc b) (suc a) (λ h. omega arith) (λ h. omega arith)

-- the same for integers in 32 bits: subtract the encodings, and it is the encoding of the difference
pub wrapped_sub : (a b : ℤ) → wrapped (sub_ℕ (wrapped a) (wrapped b)) ≡ wrapped (a -ℤ b)
wrapped_sub a b = by_sum (wrapped a) (wrapped b) (wrapped_lt a) (wrapped_lt b) ∙ summed a b

-- the two cases of a count
pub signed_low : (half x : ℕ) → x < half → signed half x ≡ pos x
unfolding signed
signed_low half x h = rw (lt-ltb x half h) refl

pub signed_high : (half x : ℕ) → half ≤ x → signed half x ≡ negsuc (half + half - suc x)
unfolding signed
signed_high half x h = rw (le-ltb x half h) refl

-- a count of w bits or fewer, read in w bits: below the half it is itself, from there on -1 less what is missing to all ones
pub read_low : (w : Width) (half x : ℕ) → x < half → half ≤ 2 ^ hbits w → to_z w x ≡ signed half x
read_low w half x h k = to_z_pos w (omega arith) ∙ sym (signed_low half x h)

below : (k : ℕ) → negsuc 0 -ℤ pos k ≡ negsuc k
below zero = refl
below (suc k) = rw (zero-add k) refl

pub missing : (w : Width) (k : ℕ) → k < 2 ^ hbits w → negsuc 0 -ℤ to_z w k ≡ negsuc k
missing w k h = ap (λ (z : ℤ). negsuc 0 -ℤ z) (to_z_pos w h) ∙ below k

pub missing_fits : (w : Width) (k : ℕ) → k < 2 ^ hbits w → SFits w (negsuc 0 -ℤ to_z w k)
missing_fits w k h = rw (missing w k h) (record { sfits = h })

pub read_high : (w : Width) (half x k : ℕ) → k ≡ half + half - suc x → half ≤ x → k < 2 ^ hbits w → to_z w (of_z w (negsuc 0 -ℤ to_z w k)) ≡ signed half x
read_high w half x k e h l = to_z-of_z {w = w} (missing_fits w k l) ∙ missing w k l ∙ ap negsuc e ∙ sym (signed_high half x h)

-- ---- an integer in 32 bits, and back

pub signed_wrapped : (z : ℤ) → fits32 z ≡ true → signed (2 ^ 31) (wrapped z) ≡ z
unfolding wrapped fits32
signed_wrapped (pos n) f =
    let h = ltb-true n (2 ^ 31) f in
    let e : n % 2 ^ 32 ≡ n = omega arith in
    rw e (signed_low (2 ^ 31) n h)
signed_wrapped (negsuc n) f =
    let h = ltb-true n (2 ^ 31) f in
    let e : 2 ^ 31 + 2 ^ 31 - suc (2 ^ 32 - suc (n % 2 ^ 32)) ≡ n = omega arith in
    signed_high (2 ^ 31) (2 ^ 32 - suc (n % 2 ^ 32)) (omega arith) ∙ ap negsuc e

pub wrapped_signed : (x : ℕ) → x < 2 ^ 32 → wrapped (signed (2 ^ 31) x) ≡ x
unfolding wrapped
wrapped_signed x h = by (ltb x (2 ^ 31)) refl
  where
    by : (t : Bool) → ltb x (2 ^ 31) ≡ t → wrapped (signed (2 ^ 31) x) ≡ x
    by true q = rw (signed_low (2 ^ 31) x (ltb-true x (2 ^ 31) q)) (omega arith)
    by false q = let l = ltb-false x (2 ^ 31) q in rw (signed_high (2 ^ 31) x l) (omega arith)

-- ---- 32 bits in 64: the same integer

pub extended_low : (x : ℕ) → x < 2 ^ 31 → x ≡ extended x
unfolding extended
extended_low x h = rw (lt-ltb x (2 ^ 31) h) refl

pub extended_high : (x : ℕ) → 2 ^ 31 ≤ x → 2 ^ 64 - 2 ^ 32 + x ≡ extended x
unfolding extended
extended_high x h = rw (le-ltb x (2 ^ 31) h) refl

pub signed_extended : (x : ℕ) → x < 2 ^ 32 → signed (2 ^ 63) (extended x) ≡ signed (2 ^ 31) x
signed_extended x h = by (ltb x (2 ^ 31)) refl
  where
    by : (t : Bool) → ltb x (2 ^ 31) ≡ t → signed (2 ^ 63) (extended x) ≡ signed (2 ^ 31) x
    by true q = let l = ltb-true x (2 ^ 31) q in rw (← extended_low x l) (signed_low (2 ^ 63) x (omega arith) ∙ sym (signed_low (2 ^ 31) x l))
    by false q =
        let l = ltb-false x (2 ^ 31) q in
        let e : 2 ^ 63 + 2 ^ 63 - suc (2 ^ 64 - 2 ^ 32 + x) ≡ 2 ^ 31 + 2 ^ 31 - suc x = omega arith in
        rw (← extended_high x l) (signed_high (2 ^ 63) (2 ^ 64 - 2 ^ 32 + x) (omega arith) ∙ ap negsuc e ∙ sym (signed_high (2 ^ 31) x l))

pub extended_lt : (x : ℕ) → x < 2 ^ 32 → extended x < 2 ^ 64
extended_lt x h = by (ltb x (2 ^ 31)) refl
  where
    by : (t : Bool) → ltb x (2 ^ 31) ≡ t → extended x < 2 ^ 64
    by true q = rw (← extended_low x (ltb-true x (2 ^ 31) q)) (omega arith)
    by false q = rw (← extended_high x (ltb-false x (2 ^ 31) q)) (omega arith)
