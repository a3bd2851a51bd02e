-- Q-1: LOCATE (16) and SPACE (16) at their edges. Each is a whole call, bytes to bytes.
-- Assumes nothing: these are definitions.
use Rattle.std.specs.Prelude.{ℕ, ◌+◌, ◌-◌, ◌*◌, ◌^◌, List, [], ◌∷◌, ◌++◌, take}
use Rattle.words.specs.Words.{bytes, zeros}
use Rattle.answers.specs.declared.Answer.{Answer}
use Rattle.image.specs.Example.{E}
use Rattle.codes.specs.Sixteen.{sixteen}
use Rattle.edges.specs.Cases.{sense18, nothing_kept, trailer, full}
use Rattle.edges.specs.Traps.{Trap, loaded, bare, plain, good_answer, check, refuses, turns, turns_two, two_at, goes, meets, guarded}

-- ---- command blocks: a destination and an identifier; a code and a count, of which one below zero is given by its opposite

abbrev locate : ℕ → ℕ → List ℕ
locate destination identifier = sixteen 0x92 (destination * 8) 0 identifier

abbrev space : ℕ → ℕ → List ℕ
space code count = sixteen 0x91 code 0 count

abbrev minus : ℕ → ℕ
minus n = 2 ^ 64 - n

-- ---- a cartridge of 64 bytes: blocks of 1 and 2 bytes, a filemark, a block of 3, a filemark

unfoldable pub files : List ℕ
files = (1 ∷ 2 ∷ 3 ∷ 4 ∷ 5 ∷ 6 ∷ []) ++ zeros 22 ++ bytes 4 0x80000006 ++ bytes 4 6 ++ bytes 4 0x80000003 ++ bytes 4 3 ++ bytes 4 1 ++ trailer 5 28

-- ---- rows

-- a drive at a position of one partition, and what a command leaves of it: GOOD there, or a sense there
abbrev reaches : List ℕ → ℕ → List ℕ → ℕ → Trap
reaches part from command to = turns (loaded 0 from 0 nothing_kept) command part (good_answer 0) (loaded 0 to 0 nothing_kept)

abbrev tells : List ℕ → ℕ → List ℕ → ℕ → List ℕ → Trap
tells part from command to sense = turns (loaded 0 from 0 nothing_kept) command part (check 0) (loaded 0 to 0 sense)

-- E and the other one in a drive
abbrev changes : List ℕ → ℕ → ℕ → Answer → ℕ → ℕ → List ℕ → Trap
changes command from position answer to place sense = turns_two (two_at from position nothing_kept) command E files answer (two_at to place sense)

-- two senses: end of data, by LOCATE; a field error
abbrev past : List ℕ
past = plain 8 0x00 0x05

abbrev field_error : List ℕ
field_error = plain 5 0x24 0

unfoldable pub sixteens : List Trap
sixteens =
    -- LOCATE (16) to an object: the beginning, N, above N; an identifier is compared in all its bits
    reaches E 2 (locate 0 0) 0 ∷
    reaches E 0 (locate 0 2) 2 ∷
    tells E 0 (locate 0 3) 2 past ∷
    tells E 1 (locate 0 (2 ^ 32)) 2 past ∷
    tells E 0 (locate 0 (2 ^ 32 + 1)) 2 past ∷
    tells E 0 (locate 0 (2 ^ 63)) 2 past ∷
    tells E 0 (locate 0 (2 ^ 64 - 1)) 2 past ∷
    -- to a file: just after that many filemarks, 0 the beginning, wherever the drive is; the last may be empty
    reaches E 2 (locate 1 0) 0 ∷
    reaches E 0 (locate 1 1) 2 ∷
    tells E 0 (locate 1 2) 2 past ∷
    reaches files 4 (locate 1 1) 3 ∷
    reaches files 4 (locate 1 2) 5 ∷
    tells files 1 (locate 1 3) 5 past ∷
    tells files 0 (locate 1 (2 ^ 32)) 5 past ∷
    tells files 0 (locate 1 (2 ^ 32 + 1)) 5 past ∷
    -- to end of data, GOOD with any identifier, in the zone too
    reaches files 0 (locate 3 (2 ^ 64 - 1)) 5 ∷
    reaches full 0 (locate 3 0) 1 ∷
    -- destinations 2 and 4 to 7 are field errors, before 2/3A/00
    tells E 1 (locate 2 0) 1 field_error ∷
    tells E 1 (locate 4 0) 1 field_error ∷
    tells E 1 (locate 5 0) 1 field_error ∷
    tells E 1 (locate 6 0) 1 field_error ∷
    tells E 1 (locate 7 0) 1 field_error ∷
    turns (bare 0 0 nothing_kept) (locate 2 0) [] (check 0) (bare 0 0 field_error) ∷
    turns (bare 0 0 nothing_kept) (locate 0 0) [] (check 0) (bare 0 0 (plain 2 0x3A 0)) ∷
    -- the partition is byte 3 with CP: it changes past the end too; one that is not there moves nothing; without CP it is ignored; IMMED has no effect
    changes (sixteen 0x92 0x02 1 0) 0 2 (good_answer 0) 1 0 nothing_kept ∷
    changes (sixteen 0x92 0x0B 1 2) 0 0 (good_answer 0) 1 5 nothing_kept ∷
    changes (sixteen 0x92 0x02 0 1) 1 5 (good_answer 0) 0 1 nothing_kept ∷
    changes (sixteen 0x92 0x0A 1 3) 0 1 (check 0) 1 5 past ∷
    changes (sixteen 0x92 0x02 2 0) 1 4 (check 0) 1 4 field_error ∷
    changes (sixteen 0x92 0x00 0xFF 1) 1 4 (good_answer 0) 1 1 nothing_kept ∷
    tells E 1 (sixteen 0x92 0x02 1 0) 1 field_error ∷
    -- bits outside the masks: BAM, byte 1's bits 2 and 7, byte 3 and the parameter length of SPACE (16); a block that is too short; attention first
    tells E 1 ((0x92 ∷ 0 ∷ 1 ∷ []) ++ zeros 13) 1 field_error ∷
    tells E 1 (sixteen 0x92 0x04 0 0) 1 field_error ∷
    tells E 1 (sixteen 0x92 0x80 0 0) 1 field_error ∷
    tells E 1 (sixteen 0x91 0 1 0) 1 field_error ∷
    tells E 1 ((0x91 ∷ []) ++ zeros 12 ++ (16 ∷ 0 ∷ 0 ∷ [])) 1 field_error ∷
    refuses 1 (loaded 0 1 0 nothing_kept) (take 15 (locate 0 0)) E [] ∷
    refuses 1 (loaded 0 1 0 nothing_kept) (take 15 (space 0 0)) E [] ∷
    turns (loaded 0x28 1 0 nothing_kept) (locate 0 0) E (check 0) (loaded 0 1 0 (plain 6 0x28 0)) ∷
    -- SPACE (16): P10 and P11; nothing to cross; to end of data; other codes; write protection has no say
    meets E 2 (space 0 (minus 5)) 1 1 (sense18 0xF0 0x80 0xFFFFFFFB 0x00 0x01) ∷
    meets E 1 (space 0 (minus 5)) 0 1 (sense18 0xF0 0x40 0xFFFFFFFC 0x00 0x04) ∷
    goes E 1 (space 1 0) 1 0 ∷
    goes E 0 (space 3 (minus 1)) 2 2 ∷
    tells E 1 (space 2 1) 1 field_error ∷
    goes guarded 0 (space 1 1) 2 2 ∷
    -- a residue of 2^31 − 1 fits, one of 2^31 does not; nor one that would fit by its low 32 bits alone
    meets files 0 (space 0 (2 ^ 31 + 1)) 3 3 (sense18 0xF0 0x80 0x7FFFFFFF 0x00 0x01) ∷
    meets files 0 (space 0 (2 ^ 31 + 2)) 3 3 (sense18 0x70 0x80 0 0x00 0x01) ∷
    meets files 0 (space 1 (2 ^ 31 + 1)) 5 5 (sense18 0xF0 0x08 0x7FFFFFFF 0x00 0x05) ∷
    meets files 0 (space 1 (2 ^ 31 + 2)) 5 5 (sense18 0x70 0x08 0 0x00 0x05) ∷
    meets files 0 (space 1 (2 ^ 32 + 3)) 5 5 (sense18 0x70 0x08 0 0x00 0x05) ∷
    -- −2^31 fits, −2^31 − 1 does not
    meets files 2 (space 0 (minus (2 ^ 31 + 2))) 0 2 (sense18 0xF0 0x40 0x80000000 0x00 0x04) ∷
    meets files 2 (space 0 (minus (2 ^ 31 + 3))) 0 2 (sense18 0x70 0x40 0 0x00 0x04) ∷
    meets files 3 (space 0 (minus (2 ^ 31))) 2 1 (sense18 0xF0 0x80 0x80000000 0x00 0x01) ∷
    meets files 3 (space 0 (minus (2 ^ 31 + 1))) 2 1 (sense18 0x70 0x80 0 0x00 0x01) ∷
    -- the largest count and the least
    meets files 1 (space 1 (2 ^ 63 - 1)) 5 4 (sense18 0x70 0x08 0 0x00 0x05) ∷
    meets files 0 (space 0 (2 ^ 63 - 1)) 3 3 (sense18 0x70 0x80 0 0x00 0x01) ∷
    meets files 5 (space 1 (minus (2 ^ 63))) 0 5 (sense18 0x70 0x40 0 0x00 0x04) ∷
    meets files 4 (space 0 (minus (2 ^ 63))) 2 2 (sense18 0x70 0x80 0 0x00 0x01) ∷
    []
