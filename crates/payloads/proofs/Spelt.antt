-- The bytes that the code writes out are those of the definitions.
-- Assumes nothing.
use mathlib.Core.Path.{◌≡◌, refl, ap, ap₂, ◌∙◌}
use mathlib.Core.Bool.{Bool, true, false, cond}
use mathlib.Core.List.{List, [], ◌∷◌, ◌++◌}
use Prim.Native.Nat.{ℕ, ◌+◌, ◌*◌, ◌/◌, ◌%◌, ◌^◌, ◌<◌}
use native.Mathlib.Omega.{arith}
use lib.Bits.{bit_or}
use lib.Dec.{eqb}
use mir.Val.{bool_byte}
use Rattle.words.specs.Words.{bytes}
use Rattle.words.proofs.Laws.{bytes_split}
use Rattle.words.proofs.Stores.{three_bytes, four_bytes}
use Rattle.objects.specs.Object.{largest_block}
use Rattle.commands.specs.Parameters.{block_limits, mode_data, position_flags, short_position, long_position}

pub limits : block_limits ≡ 0 ∷ largest_block / 65536 % 256 ∷ largest_block / 256 % 256 ∷ largest_block % 256 ∷ 0 ∷ 1 ∷ []
unfolding block_limits bytes
limits = refl

pub descriptor : (g : Bool) (n : ℕ) → mode_data false g n ≡ 0x0B ∷ 0 ∷ cond g 0x80 0x00 ∷ 8 ∷ 0 ∷ 0 ∷ 0 ∷ 0 ∷ 0 ∷ n / 65536 % 256 ∷ n / 256 % 256 ∷ n % 256 ∷ []
unfolding mode_data
descriptor g n = rw (three_bytes n) refl

pub flagged : (p : ℕ) (z : Bool) → bit_or (bool_byte (eqb p 0) * 128 % 256) (bool_byte z * 64 % 256) ≡ position_flags p z
flagged p z = by (eqb p 0) z
  where
    by : (t z : Bool) → bit_or (bool_byte t * 128 % 256) (bool_byte z * 64 % 256) ≡ cond t 0x80 0 + cond z 0x40 0
    by true true = refl
    by true false = refl
    by false true = refl
    by false false = refl

pub short : (k p : ℕ) (z : Bool)
    → short_position k p z ≡ position_flags p z ∷ k ∷ 0 ∷ 0 ∷ p / 16777216 % 256 ∷ p / 65536 % 256 ∷ p / 256 % 256 ∷ p % 256
    ∷ p / 16777216 % 256 ∷ p / 65536 % 256 ∷ p / 256 % 256 ∷ p % 256 ∷ 0 ∷ 0 ∷ 0 ∷ 0 ∷ 0 ∷ 0 ∷ 0 ∷ 0 ∷ []
unfolding short_position
short k p z = rw (four_bytes p) refl

-- a number of one byte in four, and of four bytes in eight
one_in_four : (k : ℕ) → k < 256 → bytes 4 k ≡ 0 ∷ 0 ∷ 0 ∷ k ∷ []
one_in_four k h =
    let a : k / 16777216 % 256 ≡ 0 = omega arith in
    let b : k / 65536 % 256 ≡ 0 = omega arith in
    let c : k / 256 % 256 ≡ 0 = omega arith in
    let d : k % 256 ≡ k = omega arith in
    four_bytes k ∙ (λ i. a i ∷ b i ∷ c i ∷ d i ∷ [])

four_in_eight : (v : ℕ) → v < 2 ^ 32 → bytes 8 v ≡ 0 ∷ 0 ∷ 0 ∷ 0 ∷ v / 16777216 % 256 ∷ v / 65536 % 256 ∷ v / 256 % 256 ∷ v % 256 ∷ []
four_in_eight v h =
    let q : v / 2 ^ 32 ≡ 0 = omega arith in
    bytes_split 4 4 v ∙ ap₂ (λ (a b : List ℕ). a ++ b) (ap (bytes 4) q ∙ one_in_four 0 (omega arith)) (four_bytes v)

pub long : (k p n : ℕ) (z : Bool) → k < 256 → p < 2 ^ 32 → n < 2 ^ 32
    → long_position k p z n ≡ position_flags p z ∷ 0 ∷ 0 ∷ 0 ∷ 0 ∷ 0 ∷ 0 ∷ k ∷ 0 ∷ 0 ∷ 0 ∷ 0 ∷ p / 16777216 % 256 ∷ p / 65536 % 256 ∷ p / 256 % 256 ∷ p % 256
    ∷ 0 ∷ 0 ∷ 0 ∷ 0 ∷ n / 16777216 % 256 ∷ n / 65536 % 256 ∷ n / 256 % 256 ∷ n % 256 ∷ 0 ∷ 0 ∷ 0 ∷ 0 ∷ 0 ∷ 0 ∷ 0 ∷ 0 ∷ []
unfolding long_position
long k p n z hk hp hn = rw (one_in_four k hk, four_in_eight p hp, four_in_eight n hn) refl
