-- Q-10: how many objects a SPACE crossed, and that no other call says so. Each is a whole call, bytes to bytes.
-- Assumes nothing: these are definitions.
use Rattle.std.specs.Prelude.{ℕ, ◌-◌, ◌^◌, List, [], ◌∷◌, ◌++◌, replicate}
use Rattle.answers.specs.declared.Answer.{Answer}
use Rattle.words.specs.Words.{bytes, zeros}
use Rattle.image.specs.Example.{E}
use Rattle.codes.specs.Six.{six}
use Rattle.codes.specs.Sixteen.{sixteen}
use Rattle.edges.specs.Cases.{sense18, nothing_kept, trailer, bare64, three, locate}
use Rattle.edges.specs.Traps.{Trap, loaded, bare, plain, good_answer, check, crossed_good, crossed_check, alone, refuses, turns, turns_two, two_at, goes, meets}
use Rattle.edges.specs.Sixteen.{files}

-- ---- SPACE of six bytes, over blocks and over filemarks; back by n; to end of data

abbrev pub blocks : ℕ → List ℕ
blocks n = six 0x11 0 n

abbrev pub filemarks : ℕ → List ℕ
filemarks n = six 0x11 1 n

abbrev pub back : ℕ → ℕ
back n = 2 ^ 24 - n

abbrev to_end : ℕ → List ℕ
to_end n = six 0x11 3 n

-- ---- and of sixteen

abbrev pub long : ℕ → ℕ → List ℕ
long code n = sixteen 0x91 code 0 n

abbrev pub long_back : ℕ → ℕ
long_back n = 2 ^ 64 - n

-- ---- cartridges: two blocks and a filemark; seven objects, of which 1 and 5 are filemarks; beside them `files`, with filemarks at 2 and 4

unfoldable pub marked : List ℕ
marked = three 0x00000001 0x00000003 0x80000003

unfoldable pub mixed : List ℕ
mixed =
    zeros 52
    ++ bytes 4 17 ++ bytes 4 0x8000000E ++ bytes 4 14 ++ bytes 4 9 ++ bytes 4 6 ++ bytes 4 0x80000003 ++ bytes 4 3
    ++ bytes 4 7 ++ bytes 4 0 ++ bytes 4 52 ++ bytes 4 96

-- ---- what it met, with the residue

abbrev pub filemark : ℕ → List ℕ
filemark residue = sense18 0xF0 0x80 residue 0x00 0x01

abbrev pub end : ℕ → List ℕ
end residue = sense18 0xF0 0x08 residue 0x00 0x05

abbrev pub beginning : ℕ → List ℕ
beginning residue = sense18 0xF0 0x40 residue 0x00 0x04

-- ---- how far a SPACE went

unfoldable pub spaced : List Trap
spaced =
    -- a filemark that ends a walk over blocks is crossed, and not counted: of 5 blocks 2 are counted, so the residue is 3, and 3 objects are crossed
    meets marked 0 (blocks 5) 3 3 (filemark 3) ∷
    meets marked 0 (blocks 3) 3 3 (filemark 1) ∷
    meets marked 2 (blocks 1) 3 1 (filemark 1) ∷
    -- as many as there are: both 2
    goes marked 0 (blocks 2) 2 2 ∷
    -- back: 3 blocks and the filemark that ends them; all there are, and more
    meets mixed 5 (blocks (back 4)) 1 4 (filemark 0xFFFFFFFF) ∷
    goes marked 2 (blocks (back 2)) 0 2 ∷
    meets marked 2 (blocks (back 5)) 0 2 (beginning 0xFFFFFFFD) ∷
    -- a count of zero, of blocks and of filemarks: at the beginning, between blocks, at end of data
    goes marked 0 (blocks 0) 0 0 ∷
    goes marked 1 (blocks 0) 1 0 ∷
    goes marked 3 (blocks 0) 3 0 ∷
    goes marked 0 (filemarks 0) 0 0 ∷
    goes marked 1 (filemarks 0) 1 0 ∷
    goes marked 3 (filemarks 0) 3 0 ∷
    -- over filemarks: the blocks before them are crossed and not counted, on and back; all of them, and more than there are
    goes marked 1 (filemarks 1) 3 2 ∷
    goes files 0 (filemarks 1) 3 3 ∷
    goes files 0 (filemarks 2) 5 5 ∷
    meets files 0 (filemarks 3) 5 5 (end 1) ∷
    goes mixed 5 (filemarks (back 1)) 1 4 ∷
    goes mixed 7 (filemarks (back 2)) 1 6 ∷
    meets mixed 7 (filemarks (back 3)) 0 7 (beginning 0xFFFFFFFF) ∷
    -- nothing lies ahead
    meets marked 3 (blocks 5) 3 0 (end 5) ∷
    meets marked 0 (filemarks (back 1)) 0 0 (beginning 0xFFFFFFFF) ∷
    meets bare64 0 (blocks 5) 0 0 (end 5) ∷
    -- to end of data, the count ignored
    goes marked 0 (to_end 0) 3 3 ∷
    goes marked 1 (to_end (back 7)) 3 2 ∷
    goes marked 3 (to_end 5) 3 0 ∷
    goes bare64 0 (to_end 3) 0 0 ∷
    -- of sixteen bytes: the same, and the largest count and the least
    meets marked 0 (long 0 5) 3 3 (filemark 3) ∷
    goes marked 1 (long 0 0) 1 0 ∷
    goes marked 1 (long 1 0) 1 0 ∷
    goes files 0 (long 1 1) 3 3 ∷
    goes mixed 7 (long 1 (long_back 2)) 1 6 ∷
    meets files 1 (long 1 (2 ^ 63 - 1)) 5 4 (sense18 0x70 0x08 0 0x00 0x05) ∷
    meets files 5 (long 1 (2 ^ 63)) 0 5 (sense18 0x70 0x40 0 0x00 0x04) ∷
    goes files 1 (long 3 (2 ^ 63 - 1)) 5 4 ∷
    []

-- ---- of two partitions, E and the one with seven objects

abbrev of_two : List ℕ → ℕ → ℕ → Answer → ℕ → ℕ → List ℕ → Trap
of_two command from position answer to place sense = turns_two (two_at from position nothing_kept) command E mixed answer (two_at to place sense)

unfoldable pub on_two : List Trap
on_two =
    of_two (to_end 0) 0 0 (crossed_good 2) 0 2 nothing_kept ∷
    of_two (to_end 0) 1 0 (crossed_good 7) 1 7 nothing_kept ∷
    of_two (filemarks (back 2)) 1 7 (crossed_good 6) 1 1 nothing_kept ∷
    -- LOCATE into the other, of either length, says 0
    of_two (0x2B ∷ 2 ∷ 0 ∷ 0 ∷ 0 ∷ 0 ∷ 5 ∷ 0 ∷ 1 ∷ 0 ∷ []) 0 1 (good_answer 0) 1 5 nothing_kept ∷
    of_two (sixteen 0x92 0x02 1 5) 0 1 (good_answer 0) 1 5 nothing_kept ∷
    []

-- ---- a SPACE that does not act: an attention, a code that is none, nothing loaded, a block too short, a record that number 4 finds a fault with

unfoldable pub not_spaced : List Trap
not_spaced =
    turns (loaded 0x28 1 0 nothing_kept) (to_end 0) marked (crossed_check 0) (loaded 0 1 0 (plain 6 0x28 0)) ∷
    turns (loaded 0x29 2 0 nothing_kept) (long 1 (long_back 1)) marked (crossed_check 0) (loaded 0 2 0 (plain 6 0x29 0)) ∷
    turns (loaded 0 0 0 nothing_kept) (six 0x11 2 1) marked (crossed_check 0) (loaded 0 0 0 (plain 5 0x24 0)) ∷
    turns (loaded 0 0 0 nothing_kept) (long 2 1) marked (crossed_check 0) (loaded 0 0 0 (plain 5 0x24 0)) ∷
    turns (bare 0 9 nothing_kept) (to_end 0) marked (crossed_check 0) (bare 0 9 (plain 2 0x3A 0)) ∷
    refuses 1 (loaded 0 0 0 nothing_kept) (0x11 ∷ 3 ∷ 0 ∷ 0 ∷ 0 ∷ []) marked [] ∷
    refuses 4 (loaded 0 4 0 nothing_kept) (blocks (back 2)) marked [] ∷
    []

-- ---- every other command that goes over objects: REWIND, LOCATE of either length, READ, WRITE FILEMARKS, LOAD

unfoldable pub not_by_space : List Trap
not_by_space =
    turns (loaded 0 5 0 nothing_kept) (six 0x01 0 0) mixed (good_answer 0) (loaded 0 0 0 nothing_kept) ∷
    turns (loaded 0 2 0 nothing_kept) (locate 6) mixed (good_answer 0) (loaded 0 6 0 nothing_kept) ∷
    turns (loaded 0 2 0 nothing_kept) (locate 9) mixed (check 0) (loaded 0 7 0 (plain 8 0x00 0x05)) ∷
    turns (loaded 0 7 0 nothing_kept) (sixteen 0x92 0x08 0 1) mixed (good_answer 0) (loaded 0 2 0 nothing_kept) ∷
    turns (loaded 0 2 0 nothing_kept) (sixteen 0x92 0x18 0 0) mixed (good_answer 0) (loaded 0 7 0 nothing_kept) ∷
    alone (loaded 0 4 5 nothing_kept) (six 0x08 1 2) mixed [] (replicate 10 9) (check 5) (loaded 0 6 5 (filemark 1)) mixed (zeros 5 ++ replicate 5 9) ∷
    alone (loaded 0 2 0 nothing_kept) (six 0x10 0 3) E [] [] (good_answer 0) (loaded 0 5 0 nothing_kept) ((1 ∷ 2 ∷ 3 ∷ []) ++ zeros 25 ++ bytes 4 0x80000003 ++ bytes 4 0x80000003 ++ bytes 4 0x80000003 ++ bytes 4 0x80000003 ++ bytes 4 3 ++ trailer 5 28) [] ∷
    turns (loaded 0 5 0 nothing_kept) (six 0x1B 0 1) mixed (good_answer 0) (loaded 0 0 0 nothing_kept) ∷
    []
