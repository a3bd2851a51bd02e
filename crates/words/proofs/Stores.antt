-- How the library's conversions and the code's masks make the numbers of the definitions.
-- Assumes nothing.
use Rattle.std.proofs.Common.{◌≡◌, ℕ, ◌+◌, ◌-◌, ◌*◌, ◌/◌, ◌%◌, ◌^◌, ◌<◌, Bool, true, false, cond, ltb, List, [], ◌∷◌, ◌++◌, get_or, sym, refl, ap, ◌∙◌, ap₂, add-zero, zero-add, take, drop, get_or-take, get_or-drop, arith, ltb-false, ltb-true}
use Rattle.std.specs.Int.{w32, w64, from_be_bytes}
use native.Mathlib.Nat.{div-div-eq-div-mul}
use Rattle.words.specs.Words.{be, bytes}
use Rattle.words.specs.Signed.{extended}
use Rattle.words.proofs.Laws.{be_same, bytes_split, bytes_low}
use Rattle.words.proofs.Wraps.{extended_low, extended_high}

-- ---- the numbers written out

pub spelt4 : (s : List ℕ) (at : ℕ) → be 4 s at ≡ get_or s at 0 * 16777216 + get_or s (at + 1) 0 * 65536 + get_or s (at + 2) 0 * 256 + get_or s (at + 3) 0
unfolding be
spelt4 s at = rw (add-zero at) (omega arith)

-- ---- the bytes of a number, in a list of their own

-- they spell the same number
be_part : (n : ℕ) (s : List ℕ) (at : ℕ) → be n s at ≡ be n (take n (drop at s)) 0
be_part n s at = sym (be_same n (take n (drop at s)) 0 s at (λ j h. rw zero-add (get_or-take n (drop at s) j 0 h ∙ get_or-drop at s j 0)))

pub be24 : (s : List ℕ) (at : ℕ) → be 3 s at ≡ from_be_bytes w32 (0 ∷ take 3 (drop at s))
unfolding be
be24 s at = be_part 3 s at ∙ omega arith

pub be32 : (s : List ℕ) (at : ℕ) → be 4 s at ≡ from_be_bytes w32 (take 4 (drop at s))
unfolding be
be32 s at = be_part 4 s at ∙ omega arith

pub be64 : (s : List ℕ) (at : ℕ) → be 8 s at ≡ from_be_bytes w64 (take 8 (drop at s))
unfolding be
be64 s at = be_part 8 s at ∙ omega arith

-- ---- the bytes of a number

-- the digits of base 256, by one division each as the code has them
quotient2 : (v : ℕ) → v / 65536 ≡ v / 256 / 256
quotient2 v = sym (div-div-eq-div-mul v 256 256)

quotient3 : (v : ℕ) → v / 16777216 ≡ v / 256 / 256 / 256
quotient3 v = sym (div-div-eq-div-mul v 65536 256) ∙ ap (λ (q : ℕ). q / 256) (quotient2 v)

-- the three and the four bytes of a number, by one division each
pub three_bytes : (v : ℕ) → bytes 3 v ≡ v / 65536 % 256 ∷ v / 256 % 256 ∷ v % 256 ∷ []
unfolding bytes
three_bytes v = rw (quotient2 v) refl

pub four_bytes : (v : ℕ) → bytes 4 v ≡ v / 16777216 % 256 ∷ v / 65536 % 256 ∷ v / 256 % 256 ∷ v % 256 ∷ []
unfolding bytes
four_bytes v = rw (quotient3 v, quotient2 v) refl

-- and the eight
pub eight_bytes : (v : ℕ)
    → bytes 8 v ≡ v / 2 ^ 56 % 256 ∷ v / 2 ^ 48 % 256 ∷ v / 2 ^ 40 % 256 ∷ v / 2 ^ 32 % 256 ∷ v / 16777216 % 256 ∷ v / 65536 % 256 ∷ v / 256 % 256 ∷ v % 256 ∷ []
eight_bytes v =
    let q7 : v / 2 ^ 32 / 16777216 ≡ v / 2 ^ 56 = div-div-eq-div-mul v (2 ^ 32) 16777216 in
    let q6 : v / 2 ^ 32 / 65536 ≡ v / 2 ^ 48 = div-div-eq-div-mul v (2 ^ 32) 65536 in
    let q5 : v / 2 ^ 32 / 256 ≡ v / 2 ^ 40 = div-div-eq-div-mul v (2 ^ 32) 256 in
    bytes_split 4 4 v ∙ rw (four_bytes (v / 2 ^ 32), four_bytes v, q7, q6, q5) refl

-- four bytes read as a number and written again
pub four_back : (s : List ℕ) (at : ℕ) → get_or s at 0 < 256 → get_or s (at + 1) 0 < 256 → get_or s (at + 2) 0 < 256 → get_or s (at + 3) 0 < 256
    → bytes 4 (be 4 s at) ≡ get_or s at 0 ∷ get_or s (at + 1) 0 ∷ get_or s (at + 2) 0 ∷ get_or s (at + 3) 0 ∷ []
four_back s at ha hb hc hd =
    let n : ℕ = get_or s at 0 * 16777216 + get_or s (at + 1) 0 * 65536 + get_or s (at + 2) 0 * 256 + get_or s (at + 3) 0 in
    let a : n / 16777216 % 256 ≡ get_or s at 0 = omega arith in
    let b : n / 65536 % 256 ≡ get_or s (at + 1) 0 = omega arith in
    let c : n / 256 % 256 ≡ get_or s (at + 2) 0 = omega arith in
    let d : n % 256 ≡ get_or s (at + 3) 0 = omega arith in
    four_bytes (be 4 s at) ∙ rw (spelt4 s at) (λ i. a i ∷ b i ∷ c i ∷ d i ∷ [])

-- ---- 32 bits in 64: the sign above the four bytes

pub extended_bytes : (x : ℕ) → x < 2 ^ 32 → bytes 8 (extended x) ≡ bytes 4 (cond (ltb x (2 ^ 31)) 0 (2 ^ 32 - 1)) ++ bytes 4 x
extended_bytes x h = by (ltb x (2 ^ 31)) refl
  where
    by : (t : Bool) → ltb x (2 ^ 31) ≡ t → bytes 8 (extended x) ≡ bytes 4 (cond t 0 (2 ^ 32 - 1)) ++ bytes 4 x
    by true q =
        let above : x / 2 ^ 32 ≡ 0 = omega arith in
        rw (← extended_low x (ltb-true x (2 ^ 31) q)) (bytes_split 4 4 x ∙ ap (λ (k : ℕ). bytes 4 k ++ bytes 4 x) above)
    by false q =
        let v : ℕ = 2 ^ 64 - 2 ^ 32 + x in
        let above : v / 2 ^ 32 ≡ 2 ^ 32 - 1 = omega arith in
        let below : v % 2 ^ 32 ≡ x = omega arith in
        rw (← extended_high x (ltb-false x (2 ^ 31) q))
        (bytes_split 4 4 v ∙ ap₂ (λ (a b : List ℕ). a ++ b) (ap (bytes 4) above) (sym (bytes_low 4 v) ∙ ap (bytes 4) below))
