-- A number in decimal, as the code writes it: below 10 its one digit, else the digits of its tenth and the last one; and how many
-- digits a number below a power of ten has at most. The first argument of `digits` has no say once it is at least the number.
-- Assumes nothing.
use Prim.Native.Nat.{ℕ, zero, suc, ◌+◌, ◌/◌, ◌%◌, ◌^◌, ◌<◌, ◌≤◌}
use mathlib.Core.Path.{◌≡◌, refl, sym, ap, ◌∙◌}
use mathlib.Core.List.{List, [], ◌∷◌, ◌++◌}
use native.Mathlib.Nat.{div-lt_iff_lt-mul, le_refl, pow-suc}
use native.Mathlib.Omega.{arith}
use lib.Dec.{lit<}
use lib.ListN.{length, length-append}
use borrow.Author.Tests.{lt-ltb, le-ltb}
use Rattle.image.proofs.Tests.{split}
use Rattle.listing.specs.Text.{digit, digits, decimal}

digits_one : (k n : ℕ) → n < 10 → digits k n ≡ digit n ∷ []
unfolding digits
digits_one zero n h = refl
digits_one (suc k) n h = rw (lt-ltb n 10 h, digits) refl

digits_more : (k n : ℕ) → 10 ≤ n → digits (suc k) n ≡ digits k (n / 10) ++ digit (n % 10) ∷ []
unfolding digits
digits_more k n h = rw (le-ltb n 10 h, digits) refl

digits_enough : (k j n : ℕ) → n ≤ k → n ≤ j → digits k n ≡ digits j n
digits_enough zero j n h l = digits_one zero n (omega arith) ∙ sym (digits_one j n (omega arith))
digits_enough (suc k) zero n h l = digits_one (suc k) n (omega arith) ∙ sym (digits_one zero n (omega arith))
digits_enough (suc k) (suc j) n h l =
    split n 10
    (λ m. digits_one (suc k) n m ∙ sym (digits_one (suc j) n m))
    (λ m. digits_more k n m
    ∙ ap (λ (ds : List ℕ). ds ++ digit (n % 10) ∷ []) (digits_enough k j (n / 10) (omega arith) (omega arith))
    ∙ sym (digits_more j n m))

pub decimal_one : (n : ℕ) → n < 10 → decimal n ≡ digit n ∷ []
unfolding decimal
decimal_one n h = digits_one n n h

pub decimal_more : (n : ℕ) → 10 ≤ n → decimal n ≡ decimal (n / 10) ++ digit (n % 10) ∷ []
unfolding decimal
decimal_more zero h = let no_number : ⊥ = omega arith in absurd no_number
decimal_more (suc m) h =
    digits_more m (suc m) h
    ∙ ap (λ (ds : List ℕ). ds ++ digit (suc m % 10) ∷ []) (digits_enough m (suc m / 10) (suc m / 10) (omega arith) (le_refl (suc m / 10)))

pub length_decimal : (k n : ℕ) → n < 10 ^ suc k → length (decimal n) ≤ suc k
length_decimal zero n h = rw (decimal_one n h) (omega arith)
length_decimal (suc k) n h =
    split n 10
    (λ m. rw (decimal_one n m) (omega arith))
    (λ m.
    let small : n / 10 < 10 ^ suc k = (div-lt_iff_lt-mul (lit< tt)).1 (rw (← pow-suc 10 (suc k)) h) in
    rw (decimal_more n m, length-append) (omega (arith, length_decimal k (n / 10) small)))

pub length_one : (n : ℕ) → n < 10 → length (decimal n) ≡ 1
length_one n h = ap length (decimal_one n h)

pub length_more : (n : ℕ) → 10 ≤ n → length (decimal n) ≡ length (decimal (n / 10)) + 1
length_more n h = ap length (decimal_more n h) ∙ length-append (decimal (n / 10)) (digit (n % 10) ∷ [])

-- every number of a listing has at most five digits
pub five_digits : (n : ℕ) → n < 100000 → length (decimal n) ≤ 5
five_digits n h = length_decimal 4 n h
