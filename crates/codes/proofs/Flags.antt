-- A flag at each bit but the lowest that the code masks, by the one law for any bit: in the numbers that the masks are.
-- Assumes nothing.
use Rattle.std.proofs.Common.{◌≡◌, ℕ, ◌/◌, ◌%◌, not, eqb, bit_and}
use Rattle.words.proofs.Flags.{flag}

pub bit_1 : (n : ℕ) → not (eqb (bit_and n 2) 0) ≡ eqb (n / 2 % 2) 1
bit_1 n = flag n 1

pub bit_3 : (n : ℕ) → not (eqb (bit_and n 8) 0) ≡ eqb (n / 8 % 2) 1
bit_3 n = flag n 3

pub bit_4 : (n : ℕ) → not (eqb (bit_and n 16) 0) ≡ eqb (n / 16 % 2) 1
bit_4 n = flag n 4

pub ruleset flags = (bit_1, bit_3, bit_4)
