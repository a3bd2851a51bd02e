-- Two's complement: a count read as an integer, an integer in 32 bits, and 32 bits in 64 (01: "Negative residues wrap to 32 bits in two's
-- complement"; Q-1: "residues that don't fit 32 signed bits"; Q-4: "sign-extended").
-- Assumes nothing: these are definitions.
use Rattle.std.specs.Prelude.{ℕ, suc, ◌+◌, ◌-◌, ◌%◌, ◌^◌, Bool, cond, ℤ, pos, negsuc, nat_lt}

-- the integer that x stands for, where half is the first number that is negative: 2^23 for 24 bits, 2^31 for 32, 2^63 for 64
unfoldable pub signed : ℕ → ℕ → ℤ
signed half x = cond (nat_lt x half) (pos x) (negsuc (half + half - suc x))

-- z in 32 bits
unfoldable pub wrapped : ℤ → ℕ
wrapped (pos n) = n % 2 ^ 32
wrapped (negsuc n) = 2 ^ 32 - suc (n % 2 ^ 32)

-- z fits 32 signed bits: it is −2^31 to 2^31 − 1
unfoldable pub fits32 : ℤ → Bool
fits32 (pos n) = nat_lt n (2 ^ 31)
fits32 (negsuc n) = nat_lt n (2 ^ 31)

-- the 64 bits of the integer that x stands for in 32
unfoldable pub extended : ℕ → ℕ
extended x = cond (nat_lt x (2 ^ 31)) x (2 ^ 64 - 2 ^ 32 + x)
