-- Q-12: two SPACEs in a row, and the one by their sum from where the first began; where they may be merged, and where not. Each is a whole call, bytes
-- to bytes, and each begins on the record that the call before it left.
-- Assumes nothing: these are definitions.
use Rattle.std.specs.Prelude.{ℕ, ◌^◌, ◌-◌, true, List, [], ◌∷◌}
use Rattle.trailers.specs.Trailers.{protect}
use Rattle.image.specs.Example.{E}
use Rattle.codes.specs.Six.{six}
use Rattle.edges.specs.Cases.{nothing_kept, three, ten}
use Rattle.edges.specs.Traps.{Trap, Traps, loaded, plain, good_answer, check, crossed_good, crossed_check, refuses, turns, goes, meets}
use Rattle.edges.specs.Sixteen.{files}
use Rattle.edges.specs.Crossed.{blocks, filemarks, back, long, long_back, marked, mixed, filemark, end, beginning}

-- every one of a list of groups is as it should be
unfoldable pub Groups : List (List Trap) → Type 0
Groups [] = Unit {0}
Groups (t ∷ ts) = Traps t × Groups ts

-- ---- groups

-- from p, to q over m objects, to r over n; and the one, from p to s over l: all three GOOD
abbrev pair : List ℕ → ℕ → List ℕ → ℕ → ℕ → List ℕ → ℕ → ℕ → List ℕ → ℕ → ℕ → List Trap
pair part p first q m second r n one s l = goes part p first q m ∷ goes part q second r n ∷ goes part p one s l ∷ []

-- a SPACE behind one that was not GOOD: the kept sense is the old one before, and replaced after
abbrev goes_behind : List ℕ → ℕ → List ℕ → List ℕ → ℕ → ℕ → Trap
goes_behind part from kept command to n = turns (loaded 0 from 0 kept) command part (crossed_good n) (loaded 0 to 0 nothing_kept)

abbrev meets_behind : List ℕ → ℕ → List ℕ → List ℕ → ℕ → ℕ → List ℕ → Trap
meets_behind part from kept command to n met = turns (loaded 0 from 0 kept) command part (crossed_check n) (loaded 0 to 0 met)

-- one whose test ends it where it is, with a sense
abbrev stays : List ℕ → ℕ → ℕ → List ℕ → List ℕ → Trap
stays part attention from command told = turns (loaded attention from 0 nothing_kept) command part (check 0) (loaded 0 from 0 told)

-- ---- cartridges: `mixed` has blocks from 2 to 4 between its filemarks; a filemark between two blocks; and protected

unfoldable pub parted : List ℕ
parted = three 0x00000003 0x80000003 0x00000005

unfoldable pub guarded_mixed : List ℕ
guarded_mixed = protect true mixed

-- ---- they may be merged

unfoldable pub merges : List (List Trap)
merges =
    -- over blocks, for all signs
    pair mixed 2 (blocks 2) 4 2 (blocks 1) 5 1 (blocks 3) 5 3 ∷
    pair mixed 5 (blocks (back 1)) 4 1 (blocks (back 2)) 2 2 (blocks (back 3)) 2 3 ∷
    pair mixed 2 (blocks 3) 5 3 (blocks (back 1)) 4 1 (blocks 2) 4 2 ∷
    pair mixed 3 (blocks (back 1)) 2 1 (blocks 3) 5 3 (blocks 2) 5 2 ∷
    pair mixed 5 (blocks (back 3)) 2 3 (blocks 1) 3 1 (blocks (back 2)) 3 2 ∷
    -- and home
    pair mixed 2 (blocks 2) 4 2 (blocks (back 2)) 2 2 (blocks 0) 2 0 ∷
    pair mixed 5 (blocks (back 2)) 3 2 (blocks 2) 5 2 (blocks 0) 5 0 ∷
    -- none first, none second
    pair mixed 3 (blocks 0) 3 0 (blocks 2) 5 2 (blocks 2) 5 2 ∷
    pair mixed 3 (blocks (back 1)) 2 1 (blocks 0) 2 0 (blocks (back 1)) 2 1 ∷
    -- by sixteen bytes, and by one of each
    pair mixed 2 (long 0 2) 4 2 (long 0 1) 5 1 (long 0 3) 5 3 ∷
    pair mixed 2 (blocks 3) 5 3 (long 0 (long_back 1)) 4 1 (blocks 2) 4 2 ∷
    -- over filemarks, both at least 0, both at most 0
    pair files 0 (filemarks 1) 3 3 (filemarks 1) 5 2 (filemarks 2) 5 5 ∷
    pair files 5 (filemarks (back 1)) 4 1 (filemarks (back 1)) 2 2 (filemarks (back 2)) 2 3 ∷
    pair files 1 (filemarks 0) 1 0 (filemarks 1) 3 2 (filemarks 1) 3 2 ∷
    pair files 0 (long 1 1) 3 3 (filemarks 1) 5 2 (long 1 2) 5 5 ∷
    -- protection has no say
    pair guarded_mixed 2 (blocks 3) 5 3 (blocks (back 1)) 4 1 (blocks 2) 4 2 ∷
    -- one way the second need not be GOOD: at a filemark, at end of data, at the beginning the one tells what it tells
    (goes marked 0 (blocks 1) 1 1 ∷ meets marked 1 (blocks 5) 3 2 (filemark 4) ∷ meets marked 0 (blocks 6) 3 3 (filemark 4) ∷ []) ∷
    (goes files 0 (filemarks 1) 3 3 ∷ meets files 3 (filemarks 5) 5 2 (end 4) ∷ meets files 0 (filemarks 6) 5 5 (end 4) ∷ []) ∷
    (goes marked 2 (blocks (back 1)) 1 1 ∷ meets marked 1 (blocks (back 5)) 0 1 (beginning 0xFFFFFFFC) ∷ meets marked 2 (blocks (back 6)) 0 2 (beginning 0xFFFFFFFC) ∷ []) ∷
    []

-- ---- they may not

unfoldable pub does_not_merge : List (List Trap)
does_not_merge =
    -- filemarks 1 followed by −1 do not return
    pair E 0 (filemarks 1) 2 2 (filemarks (back 1)) 1 1 (filemarks 0) 0 0 ∷
    pair E 0 (long 1 1) 2 2 (long 1 (long_back 1)) 1 1 (long 1 0) 0 0 ∷
    -- filemarks of mixed signs: 2 and −1 are not 1, −2 and 1 are not −1
    pair files 0 (filemarks 2) 5 5 (filemarks (back 1)) 4 1 (filemarks 1) 3 3 ∷
    pair files 5 (filemarks (back 2)) 2 3 (filemarks 1) 3 1 (filemarks (back 1)) 4 1 ∷
    -- blocks, where a filemark ends the first: the second goes on behind it, the one does not
    (meets parted 0 (blocks 2) 2 2 (filemark 1) ∷ goes_behind parted 2 (filemark 1) (blocks 1) 3 1 ∷ meets parted 0 (blocks 3) 2 2 (filemark 2) ∷ []) ∷
    -- the first not GOOD, one way: the one stops where it does, and tells what it has left and all of the second
    (meets marked 0 (blocks 5) 3 3 (filemark 3) ∷ meets_behind marked 3 (filemark 3) (blocks 1) 3 0 (end 1) ∷ meets marked 0 (blocks 6) 3 3 (filemark 4) ∷ []) ∷
    -- and there and back: the one is GOOD and hides it
    (meets ten 0 (blocks 5) 1 1 (end 4) ∷ meets_behind ten 1 (end 4) (blocks (back 5)) 0 1 (beginning 0xFFFFFFFC) ∷ goes ten 0 (blocks 0) 0 0 ∷ []) ∷
    -- an attention: the first takes it and the second moves; the one takes it
    (stays mixed 0x28 2 (blocks 2) (plain 6 0x28 0) ∷ goes_behind mixed 2 (plain 6 0x28 0) (blocks 1) 3 1 ∷ stays mixed 0x28 2 (blocks 3) (plain 6 0x28 0) ∷ []) ∷
    -- a first call that is refused by 1, or ends in 5/24/00: the second moves alone
    (refuses 1 (loaded 0 2 0 nothing_kept) (0x11 ∷ 0 ∷ 0 ∷ 0 ∷ 2 ∷ []) mixed [] ∷ goes mixed 2 (blocks 1) 3 1 ∷ goes mixed 2 (blocks 3) 5 3 ∷ []) ∷
    (stays mixed 0 2 (0x11 ∷ 0 ∷ 0 ∷ 0 ∷ 2 ∷ 1 ∷ []) (plain 5 0x24 0) ∷ goes_behind mixed 2 (plain 5 0x24 0) (blocks 1) 3 1 ∷ goes mixed 2 (blocks 3) 5 3 ∷ []) ∷
    -- another command between
    (goes mixed 2 (blocks 1) 3 1 ∷ turns (loaded 0 3 0 nothing_kept) (six 0x01 0 0) mixed (good_answer 0) (loaded 0 0 0 nothing_kept) ∷ goes mixed 0 (blocks 1) 1 1 ∷ goes mixed 2 (blocks 2) 4 2 ∷ []) ∷
    -- a sum that six bytes do not hold: written there it is −2^23; sixteen hold it
    (meets marked 1 (blocks (2 ^ 23 - 1)) 3 2 (filemark 0x7FFFFE) ∷ meets marked 1 (blocks (2 ^ 23)) 0 1 (beginning 0xFF800001) ∷ meets marked 1 (long 0 (2 ^ 23)) 3 2 (filemark 0x7FFFFF) ∷ []) ∷
    []
