-- One law for a flag at any bit: the masked number is not 0 exactly where the bit is 1.
-- Assumes nothing.
use Rattle.std.proofs.Common.{◌≡◌, ℕ, zero, suc, ◌+◌, ◌-◌, ◌*◌, ◌/◌, ◌%◌, ◌^◌, ◌<◌, not, eqb, ap, ◌∙◌, one-mul, zero-mul, arith, pow_pos, ne_eqb}
use lib.Bits.{bit_and, and_high}

bit_of : (x p : ℕ) → x < 2 → 0 < p → not (eqb (x * p) 0) ≡ eqb x 1
bit_of zero p h k = simp zero-mul
bit_of (suc zero) p h k = ap not (ap (λ (m : ℕ). eqb m 0) (one-mul p) ∙ ne_eqb p 0 (λ e. omega arith))
bit_of (suc (suc n)) p h k = let impossible : ⊥ = omega arith in absurd impossible

pub flag : (n k : ℕ) → not (eqb (bit_and n (2 ^ (1 + k) - 2 ^ k)) 0) ≡ eqb (n / 2 ^ k % 2) 1
flag n k = ap (λ (m : ℕ). not (eqb m 0)) (and_high n 1 k) ∙ bit_of (n / 2 ^ k % 2) (2 ^ k) (omega arith) (pow_pos k)
