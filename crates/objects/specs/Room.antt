-- Room, fit and the early-warning zone (01, "Partition image"), by the length L of a partition, a number n and the end e = end(n) of the data before it.
-- Assumes nothing: these are definitions.
use Rattle.std.specs.Prelude.{ℕ, ◌+◌, ◌-◌, ◌*◌, Bool, leb, ltb}

-- "The last 16 bytes are a trailer"
abbrev pub trailer_length : ℕ
trailer_length = 16

-- "The entry of object i is the four bytes at ..": an object needs them beside its data
abbrev pub entry_length : ℕ
entry_length = 4

-- "room × 16 < L − 16": the share of the image that the early warning leaves
abbrev pub warning_share : ℕ
warning_share = 16

-- U(n) = 4n + end(n)
abbrev pub used_of : ℕ → ℕ → ℕ
used_of n e = entry_length * n + e

-- room at n = L − 16 − U(n)
abbrev pub room_of : ℕ → ℕ → ℕ → ℕ
room_of l n e = l - trailer_length - used_of n e

-- "An object needs 4 bytes and its data": one with k bytes of data fits in the room r
abbrev pub fits_in : ℕ → ℕ → Bool
fits_in r k = leb (entry_length + k) r

-- "in the early-warning zone if room × 16 < L − 16"
abbrev pub zone_in : ℕ → ℕ → Bool
zone_in l r = ltb (r * warning_share) (l - trailer_length)
