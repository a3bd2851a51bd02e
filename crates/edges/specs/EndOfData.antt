-- Q-2: end of data on each side of the early-warning zone, for READ, SPACE and LOCATE of either length. Each is a whole call, bytes to bytes.
-- Assumes nothing: these are definitions.
use Rattle.std.specs.Prelude.{ℕ, ◌-◌, ◌*◌, ◌^◌, List, [], ◌∷◌, ◌++◌, replicate}
use Rattle.words.specs.Words.{bytes, over, zeros}
use Rattle.codes.specs.Six.{six}
use Rattle.codes.specs.Sixteen.{sixteen}
use Rattle.edges.specs.Cases.{sense18, nothing_kept, trailer, bare64, locate}
use Rattle.edges.specs.Traps.{Trap, loaded, good_answer, check, crossed_good, crossed_check, alone, turns, turns_two, two_at}

-- a blank of 64 bytes with one block of n: 41 leave room 3, and 3 × 16 is not below 48; 42 leave room 2
unfoldable pub one : ℕ → List ℕ
one n = replicate n 7 ++ zeros (44 - n) ++ bytes 4 n ++ trailer 1 44

-- end of data, told with a residue or not, with byte 2 of the sense
abbrev counted : ℕ → ℕ → List ℕ
counted b2 residue = sense18 0xF0 b2 residue 0x00 0x05

abbrev uncounted : ℕ → List ℕ
uncounted b2 = sense18 0x70 b2 0 0x00 0x05

-- at N = 1 of the partition with a block of n: byte 2 is b2 by every command that meets end of data, wherever it began
unfoldable pub on_side : ℕ → ℕ → List Trap
on_side n b2 =
    -- READ: variable, and FIXED of two blocks, of which there is one
    alone (loaded 0 1 0 nothing_kept) (six 0x08 0 5) (one n) [] (zeros 16) (check 0) (loaded 0 1 0 (counted b2 5)) (one n) (zeros 16) ∷
    alone (loaded 0 0 n nothing_kept) (six 0x08 1 2) (one n) [] (zeros (2 * n)) (check n) (loaded 0 1 n (counted b2 1)) (one n) (over (zeros (2 * n)) 0 (replicate n 7)) ∷
    -- SPACE: over blocks from there and from the beginning, over filemarks; of sixteen bytes with a residue that fits, and with one that does not
    turns (loaded 0 1 0 nothing_kept) (six 0x11 0 1) (one n) (check 0) (loaded 0 1 0 (counted b2 1)) ∷
    turns (loaded 0 0 0 nothing_kept) (six 0x11 0 2) (one n) (crossed_check 1) (loaded 0 1 0 (counted b2 1)) ∷
    turns (loaded 0 0 0 nothing_kept) (six 0x11 1 1) (one n) (crossed_check 1) (loaded 0 1 0 (counted b2 1)) ∷
    turns (loaded 0 0 0 nothing_kept) (sixteen 0x91 0 0 2) (one n) (crossed_check 1) (loaded 0 1 0 (counted b2 1)) ∷
    turns (loaded 0 0 0 nothing_kept) (sixteen 0x91 1 0 (2 ^ 63 - 1)) (one n) (crossed_check 1) (loaded 0 1 0 (uncounted b2)) ∷
    -- LOCATE: to an object, of sixteen bytes too, and to a file
    turns (loaded 0 0 0 nothing_kept) (locate 2) (one n) (check 0) (loaded 0 1 0 (uncounted b2)) ∷
    turns (loaded 0 0 0 nothing_kept) (locate (2 ^ 32 - 1)) (one n) (check 0) (loaded 0 1 0 (uncounted b2)) ∷
    turns (loaded 0 0 0 nothing_kept) (sixteen 0x92 0x00 0 2) (one n) (check 0) (loaded 0 1 0 (uncounted b2)) ∷
    turns (loaded 0 0 0 nothing_kept) (sixteen 0x92 0x08 0 1) (one n) (check 0) (loaded 0 1 0 (uncounted b2)) ∷
    -- and what reaches end of data without meeting it is GOOD on both: SPACE code 3, LOCATE to N, and to end of data
    turns (loaded 0 0 0 nothing_kept) (six 0x11 3 5) (one n) (crossed_good 1) (loaded 0 1 0 nothing_kept) ∷
    turns (loaded 0 1 0 nothing_kept) (sixteen 0x91 3 0 (2 ^ 63 - 1)) (one n) (good_answer 0) (loaded 0 1 0 nothing_kept) ∷
    turns (loaded 0 0 0 nothing_kept) (locate 1) (one n) (good_answer 0) (loaded 0 1 0 nothing_kept) ∷
    turns (loaded 0 0 0 nothing_kept) (sixteen 0x92 0x18 0 0) (one n) (good_answer 0) (loaded 0 1 0 nothing_kept) ∷
    []

-- "a case on each side of the zone": 08h before it, 48h in it
unfoldable pub before_the_zone : List Trap
before_the_zone = on_side 41 0x08

unfoldable pub in_the_zone : List Trap
in_the_zone = on_side 42 0x48

-- ---- from a partition on one side, by CP, into one on the other: the target decides

-- partition 0 has a block of 41 bytes, partition 1 one of 42
abbrev goes_past : List ℕ → ℕ → ℕ → ℕ → Trap
goes_past command from to b2 = turns_two (two_at from 1 nothing_kept) command (one 41) (one 42) (check 0) (two_at to 1 (uncounted b2))

-- LOCATE (10) to object 2, with CP into a partition, or without
abbrev into : ℕ → List ℕ
into k = 0x2B ∷ 2 ∷ 0 ∷ 0 ∷ 0 ∷ 0 ∷ 2 ∷ 0 ∷ k ∷ 0 ∷ []

unfoldable pub across_the_zone : List Trap
across_the_zone =
    goes_past (into 1) 0 1 0x48 ∷
    goes_past (into 0) 1 0 0x08 ∷
    goes_past (sixteen 0x92 0x02 1 2) 0 1 0x48 ∷
    goes_past (sixteen 0x92 0x02 0 2) 1 0 0x08 ∷
    goes_past (sixteen 0x92 0x0A 1 1) 0 1 0x48 ∷
    goes_past (sixteen 0x92 0x0A 0 1) 1 0 0x08 ∷
    -- without CP it stays where it is
    goes_past (locate 2) 0 0 0x08 ∷
    goes_past (locate 2) 1 1 0x48 ∷
    -- nothing on it: N is 0, with room for all
    alone (loaded 0 0 3 nothing_kept) (six 0x08 1 2) bare64 [] (zeros 6) (check 0) (loaded 0 0 3 (counted 0x08 2)) bare64 (zeros 6) ∷
    []
