-- Cases beside those of 01's table that a drive easily gets wrong: order of tests, attention, refusals, both partitions. Each is a whole call, bytes to bytes.
-- Assumes nothing: these are definitions.
use Rattle.std.specs.Prelude.{ℕ, ◌≡◌, true, List, [], ◌∷◌, ◌++◌, replicate}
use Rattle.words.specs.Words.{bytes, zeros}
use Rattle.answers.specs.declared.Answer.{Answer}
use Rattle.answers.specs.Answers.{refused, answered}
use Rattle.trailers.specs.Trailers.{protect}
use Rattle.image.specs.Example.{E}
use Rattle.commands.specs.Call.{Lent, lent, Result, result_of, command_call}
use Rattle.codes.specs.Six.{six}
use Rattle.edges.specs.Cases.{sense18, nothing_kept, trailer, three, full, ten, locate}

pub record Trap : Type 0 where
  pub rec : List ℕ
  pub lends : Lent
  pub leaves : Result

-- every one of a list is as it should be
unfoldable pub Traps : List Trap → Type 0
Traps [] = Unit {0}
Traps (t ∷ ts) = (command_call t.rec t.lends ≡ t.leaves) × Traps ts

-- ---- records: attention, position, block length, kept sense, on one partition; and with nothing loaded

abbrev pub loaded : ℕ → ℕ → ℕ → List ℕ → List ℕ
loaded attention position block_length sense = (1 ∷ 1 ∷ 0 ∷ attention ∷ []) ++ bytes 4 position ++ bytes 4 block_length ++ sense

abbrev pub bare : ℕ → ℕ → List ℕ → List ℕ
bare attention block_length sense = (0 ∷ 0 ∷ 0 ∷ attention ∷ []) ++ bytes 4 0 ++ bytes 4 block_length ++ sense

-- on two partitions: the current one, the position in it, the kept sense
abbrev pub two_at : ℕ → ℕ → List ℕ → List ℕ
two_at current position sense = (1 ∷ 2 ∷ current ∷ 0 ∷ []) ++ bytes 4 position ++ bytes 4 0 ++ sense

-- key, ASC and ASCQ alone
abbrev pub plain : ℕ → ℕ → ℕ → List ℕ
plain key asc ascq = sense18 0x70 key 0 asc ascq

-- ---- answers

abbrev pub good_answer : ℕ → Answer
good_answer carried = answered 0 carried 0

abbrev pub check : ℕ → Answer
check carried = answered 2 carried 0

-- of SPACE, by how many objects it crossed (Q-10): GOOD, and not
abbrev pub crossed_good : ℕ → Answer
crossed_good n = answered 0 0 n

abbrev pub crossed_check : ℕ → Answer
crossed_check n = answered 2 0 n

-- ---- rows on one partition: what is lent besides, and what is left

abbrev pub alone : List ℕ → List ℕ → List ℕ → List ℕ → List ℕ → Answer → List ℕ → List ℕ → List ℕ → Trap
alone rec command part sent received answer rec' part' received' =
    record { rec = rec; lends = lent command part [] sent received; leaves = result_of answer rec' (lent command part' [] sent received') }

-- refused by a number: everything stays
abbrev pub refuses : ℕ → List ℕ → List ℕ → List ℕ → List ℕ → Trap
refuses n rec command p0 p1 = record { rec = rec; lends = lent command p0 p1 [] []; leaves = result_of (refused n) rec (lent command p0 p1 [] []) }

-- a command with no data whose only trace is the record
abbrev pub turns : List ℕ → List ℕ → List ℕ → Answer → List ℕ → Trap
turns rec command part answer rec' = alone rec command part [] [] answer rec' part []

-- the same on two partitions
abbrev pub turns_two : List ℕ → List ℕ → List ℕ → List ℕ → Answer → List ℕ → Trap
turns_two rec command p0 p1 answer rec' = record { rec = rec; lends = lent command p0 p1 [] []; leaves = result_of answer rec' (lent command p0 p1 [] []) }

-- a SPACE on one partition, from where and to where, and how many objects it crossed (Q-10): all the way; or not, with what it met
abbrev pub goes : List ℕ → ℕ → List ℕ → ℕ → ℕ → Trap
goes part from command to n = turns (loaded 0 from 0 nothing_kept) command part (crossed_good n) (loaded 0 to 0 nothing_kept)

abbrev pub meets : List ℕ → ℕ → List ℕ → ℕ → ℕ → List ℕ → Trap
meets part from command to n met = turns (loaded 0 from 0 nothing_kept) command part (crossed_check n) (loaded 0 to 0 met)

-- ---- cartridges

unfoldable pub guarded : List ℕ
guarded = protect true E

unfoldable pub traps : List Trap
traps =
    -- a write that does not fit changes nothing, though it stands before an object
    alone (loaded 0 0 0 nothing_kept) (six 0x0A 0 45) ten (replicate 45 7) [] (check 0) (loaded 0 0 0 (sense18 0xF0 0x4D 45 0x00 0x02)) ten [] ∷
    -- on a full tape the room at 0 counts
    alone (loaded 0 0 0 nothing_kept) (six 0x0A 0 1) full (5 ∷ []) [] (good_answer 1) (loaded 0 1 0 nothing_kept) ((5 ∷ []) ++ replicate 43 7 ++ bytes 4 1 ++ trailer 1 44) [] ∷
    alone (loaded 0 0 0 nothing_kept) (six 0x10 0 1) full [] [] (good_answer 0) (loaded 0 1 0 nothing_kept) (replicate 44 7 ++ bytes 4 0x80000000 ++ trailer 1 44) [] ∷
    -- REQUEST SENSE answers the waiting attention and not the old sense, and clears both
    alone (loaded 0x28 0 0 (plain 5 0x24 0)) (six 0x03 0 0x12) E [] (zeros 18) (good_answer 18) (loaded 0 0 0 nothing_kept) E (plain 6 0x28 0) ∷
    -- an attention comes before a code that is not served, and a short command before both
    turns (bare 0x29 0 nothing_kept) (six 0x12 0 0) [] (check 0) (bare 0 0 (plain 6 0x29 0)) ∷
    refuses 1 (bare 0x29 0 nothing_kept) (0x12 ∷ 0 ∷ 0 ∷ 0 ∷ 0 ∷ []) [] [] ∷
    -- fields before 2/3A/00
    turns (bare 0 0 nothing_kept) (six 0x08 1 1) [] (check 0) (bare 0 0 (plain 5 0x24 0)) ∷
    turns (bare 0 0 nothing_kept) (six 0x08 0 1) [] (check 0) (bare 0 0 (plain 2 0x3A 0)) ∷
    -- protection at any count, after the fields
    turns (loaded 0 0 0 nothing_kept) (six 0x0A 0 0) guarded (check 0) (loaded 0 0 0 (plain 7 0x27 0)) ∷
    turns (loaded 0 0 0 nothing_kept) (six 0x0A 0 1048577) guarded (check 0) (loaded 0 0 0 (plain 5 0x24 0)) ∷
    -- MODE SELECT: the list length before number 2; a block length that is no multiple of four
    turns (bare 0 0 nothing_kept) (six 0x15 0x10 8) [] (check 0) (bare 0 0 (plain 5 0x1A 0)) ∷
    alone (bare 0 0 nothing_kept) (six 0x15 0x10 12) [] (9 ∷ 0 ∷ 0 ∷ 8 ∷ 0 ∷ 0 ∷ 0 ∷ 0 ∷ 9 ∷ 0 ∷ 0 ∷ 3 ∷ []) [] (good_answer 12) (bare 0 3 nothing_kept) [] [] ∷
    alone (bare 0 7 nothing_kept) (six 0x15 0x10 12) [] (0 ∷ 0 ∷ 0 ∷ 8 ∷ 0 ∷ 0 ∷ 0 ∷ 0 ∷ 0 ∷ 0x10 ∷ 0 ∷ 1 ∷ []) [] (check 0) (bare 0 7 (plain 5 0x26 0)) [] [] ∷
    -- LOCATE: a partition that is not there moves nothing; without CP the byte is ignored
    turns (loaded 0 1 0 nothing_kept) (0x2B ∷ 2 ∷ 0 ∷ 0 ∷ 0 ∷ 0 ∷ 0 ∷ 0 ∷ 1 ∷ 0 ∷ []) E (check 0) (loaded 0 1 0 (plain 5 0x24 0)) ∷
    turns (loaded 0 1 0 nothing_kept) (0x2B ∷ 0 ∷ 0 ∷ 0 ∷ 0 ∷ 0 ∷ 0 ∷ 0 ∷ 0xFF ∷ 0 ∷ []) E (good_answer 0) (loaded 0 0 0 nothing_kept) ∷
    -- products of 2^32 are refused by number
    refuses 3 (loaded 0 0 65536 nothing_kept) (six 0x08 1 65536) E [] ∷
    refuses 2 (loaded 0 0 65536 nothing_kept) (six 0x0A 1 65536) E [] ∷
    -- the least count there is
    turns (loaded 0 2 0 nothing_kept) (six 0x11 0 0x800000) E (crossed_check 1) (loaded 0 1 0 (sense18 0xF0 0x80 0xFF800000 0x00 0x01)) ∷
    -- nothing written and a move to end of data are GOOD inside the zone
    turns (loaded 0 1 0 nothing_kept) (six 0x0A 0 0) full (good_answer 0) (loaded 0 1 0 nothing_kept) ∷
    turns (loaded 0 0 0 nothing_kept) (six 0x11 3 5) full (crossed_good 1) (loaded 0 1 0 nothing_kept) ∷
    -- end of data inside the zone: READ, SPACE and LOCATE tell 8/00/05 there, with EOM (Q-2)
    alone (loaded 0 1 0 nothing_kept) (six 0x08 0 1) full [] (zeros 1) (check 0) (loaded 0 1 0 (sense18 0xF0 0x48 1 0x00 0x05)) full (zeros 1) ∷
    turns (loaded 0 1 0 nothing_kept) (six 0x11 0 1) full (check 0) (loaded 0 1 0 (sense18 0xF0 0x48 1 0x00 0x05)) ∷
    turns (loaded 0 0 0 nothing_kept) (locate 2) full (check 0) (loaded 0 1 0 (plain 0x48 0x00 0x05)) ∷
    -- SILI hides an unequal length, a short block or, with block length 0, a long one; not a long one with another block length
    alone (loaded 0 0 0 nothing_kept) (six 0x08 2 5) E [] (replicate 5 9) (good_answer 3) (loaded 0 1 0 nothing_kept) E (1 ∷ 2 ∷ 3 ∷ 9 ∷ 9 ∷ []) ∷
    alone (loaded 0 0 7 nothing_kept) (six 0x08 2 5) E [] (replicate 5 9) (good_answer 3) (loaded 0 1 7 nothing_kept) E (1 ∷ 2 ∷ 3 ∷ 9 ∷ 9 ∷ []) ∷
    alone (loaded 0 0 7 nothing_kept) (six 0x08 2 2) E [] (replicate 2 9) (check 2) (loaded 0 1 7 (sense18 0xF0 0x20 0xFFFFFFFF 0x00 0x00)) E (1 ∷ 2 ∷ []) ∷
    -- READ with both FIXED and SILI is a field error, whatever the block length
    turns (loaded 0 0 3 nothing_kept) (six 0x08 3 1) E (check 0) (loaded 0 0 3 (plain 5 0x24 0)) ∷
    -- LOAD: partition 0, position 0
    record { rec = (1 ∷ 2 ∷ 1 ∷ 0 ∷ []) ++ bytes 4 2 ++ bytes 4 9 ++ plain 5 0x24 0; lends = lent (six 0x1B 0 1) E E [] []; leaves = result_of (good_answer 0) ((1 ∷ 2 ∷ 0 ∷ 0 ∷ []) ++ bytes 4 0 ++ bytes 4 9 ++ nothing_kept) (lent (six 0x1B 0 1) E E [] []) } ∷
    -- any kept sense is well formed, and is returned as it is
    turns (loaded 0 0 0 (replicate 18 0xFF)) (six 0x00 0 0) E (good_answer 0) (loaded 0 0 0 nothing_kept) ∷
    alone (loaded 0 0 0 (zeros 18)) (six 0x03 0 0x12) E [] (replicate 18 0xFF) (good_answer 18) (loaded 0 0 0 nothing_kept) E (zeros 18) ∷
    -- both partitions count for number 4, also the one not current; with one partition the second slice is empty
    refuses 4 ((1 ∷ 2 ∷ 0 ∷ 0 ∷ []) ++ bytes 4 0 ++ bytes 4 0 ++ nothing_kept) (six 0x08 0 5) E (zeros 64) ∷
    refuses 4 (loaded 0 0 0 nothing_kept) (six 0x00 0 0) E E ∷
    refuses 4 (loaded 0 3 0 nothing_kept) (six 0x00 0 0) E [] ∷
    -- Q-5: an entry is judged from the end before it, which is carried over a filemark: not from 0 behind one, not from the end one further
    -- back, the first not from end(1), and none from its own or that of the entry after
    turns (loaded 0 0 0 nothing_kept) (six 0x00 0 0) (three 0x00000003 0x80000003 0x00000005) (good_answer 0) (loaded 0 0 0 nothing_kept) ∷
    refuses 4 (loaded 0 0 0 nothing_kept) (six 0x00 0 0) (three 0x00000003 0x80000003 0x00000002) [] ∷
    refuses 4 (loaded 0 0 0 nothing_kept) (six 0x00 0 0) (three 0x00000003 0x00000003 0x80000003) [] ∷
    refuses 4 (loaded 0 0 0 nothing_kept) (six 0x00 0 0) (three 0x80000001 0x00000002 0x80000002) [] ∷
    refuses 4 (loaded 0 0 0 nothing_kept) (six 0x00 0 0) (three 0x80000005 0x80000005 0x80000005) [] ∷
    -- REQUEST SENSE with a bad field leaves the attention waiting
    turns (bare 0x29 0 nothing_kept) (0x03 ∷ 0 ∷ 1 ∷ 0 ∷ 18 ∷ 0 ∷ []) [] (check 0) (bare 0x29 0 (plain 5 0x24 0)) ∷
    -- the mode data's length does not count itself; protected shows
    alone (loaded 0 0 3 nothing_kept) (0x1A ∷ 8 ∷ 0x3F ∷ 0 ∷ 9 ∷ 0 ∷ []) guarded [] (zeros 4) (good_answer 4) (loaded 0 0 3 nothing_kept) guarded (3 ∷ 0 ∷ 0x80 ∷ 0 ∷ []) ∷
    alone (loaded 0 0 3 nothing_kept) (0x1A ∷ 0 ∷ 0 ∷ 0 ∷ 12 ∷ 0 ∷ []) E [] (replicate 13 0xFF) (good_answer 12) (loaded 0 0 3 nothing_kept) E (0x0B ∷ 0 ∷ 0 ∷ 8 ∷ 0 ∷ 0 ∷ 0 ∷ 0 ∷ 0 ∷ 0 ∷ 0 ∷ 3 ∷ 0xFF ∷ []) ∷
    -- WRITE FILEMARKS has no IMMED
    turns (loaded 0 2 0 nothing_kept) (six 0x10 1 1) E (check 0) (loaded 0 2 0 (plain 5 0x24 0)) ∷
    -- ERASE with LONG zeroes up to the new D, the entries that are cut too
    alone (loaded 0 0 0 nothing_kept) (six 0x19 1 0) E [] [] (good_answer 0) (loaded 0 0 0 nothing_kept) (zeros 48 ++ bytes 4 0 ++ bytes 4 0 ++ bytes 4 48 ++ bytes 4 64) [] ∷
    -- READ POSITION, long: one filemark before 2; READ BLOCK LIMITS needs no cartridge
    alone (loaded 0 2 0 nothing_kept) (six 0x34 6 0 ++ zeros 4) E [] (zeros 32) (good_answer 32) (loaded 0 2 0 nothing_kept) E (zeros 15 ++ (2 ∷ []) ++ zeros 7 ++ (1 ∷ []) ++ zeros 8) ∷
    alone (bare 0 0 nothing_kept) (six 0x05 0 0) [] [] (zeros 6) (good_answer 6) (bare 0 0 nothing_kept) [] (0 ∷ 0x10 ∷ 0 ∷ 0 ∷ 0 ∷ 1 ∷ []) ∷
    -- unload: partitions, current and position are 0, the block length stays
    turns (loaded 0 2 9 nothing_kept) (six 0x1B 0 0) E (good_answer 0) (bare 0 9 nothing_kept) ∷
    []
