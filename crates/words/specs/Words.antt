-- Numbers in bytes, the highest byte first (01: "Numbers are big-endian"), and a run of bytes laid over others.
-- Assumes nothing: these are definitions.
use Rattle.std.specs.Prelude.{ℕ, zero, suc, ◌+◌, ◌*◌, ◌/◌, ◌%◌, List, [], ◌∷◌, ◌++◌, length, take, drop, replicate, slice_index}

-- the number that the n bytes of s from `at` on spell
unfoldable pub be : ℕ → List ℕ → ℕ → ℕ
be zero s at = 0
be (suc n) s at = be n s at * 256 + slice_index s (at + n)

-- the lowest n bytes of v
unfoldable pub bytes : ℕ → ℕ → List ℕ
bytes zero v = []
bytes (suc n) v = bytes n (v / 256) ++ v % 256 ∷ []

-- s with the bytes b from `at` on
unfoldable pub over : List ℕ → ℕ → List ℕ → List ℕ
over s at b = take at s ++ b ++ drop (at + length b) s

abbrev pub zeros : ℕ → List ℕ
zeros n = replicate n 0

-- "Allocation-limited data is the smaller of allocation and data"
abbrev pub limited : ℕ → List ℕ → List ℕ
limited allocation b = take allocation b
