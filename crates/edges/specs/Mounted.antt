-- Q-3's cases: what fresh and a mount leave, and whole calls of a drive that a mount has left in blocks of 32,768 bytes; beside them those of one with
-- block length 0. And which rows of the other lists the block length has a say in.
-- Assumes nothing: these are definitions.
use Rattle.std.specs.Prelude.{ℕ, ◌≡◌, cond, ◌&&◌, List, [], ◌∷◌, ◌++◌, eqb, replicate}
use Rattle.words.specs.Words.{bytes, zeros}
use Rattle.answers.specs.Answers.{Settled, settled, done, refused}
use Rattle.image.specs.Example.{E}
use Rattle.record.specs.Record.{medium_changed, mounted_block_length}
use Rattle.house.specs.Mount.{fresh_call, mount_call}
use Rattle.codes.specs.Six.{six}
use Rattle.lengths.specs.Lengths.{length_in, heeds}
use Rattle.edges.specs.Cases.{sense18, nothing_kept, trailer, bare64, three, select, select_list}
use Rattle.edges.specs.Traps.{Trap, loaded, bare, plain, good_answer, check, alone, turns, traps}
use Rattle.edges.specs.Sixteen.{sixteens}
use Rattle.edges.specs.EndOfData.{before_the_zone, in_the_zone, across_the_zone}
use Rattle.edges.specs.Crossed.{spaced, on_two, not_spaced, not_by_space}
use Rattle.edges.specs.Merged.{merges, does_not_merge}
use Rattle.edges.specs.Descriptors.{empty_turned, marked_turned, unfit_turned, ones_turned, attention_turned, others_turned, leaving, asked}

-- ---- the services

-- a mount: the record, and the partitions lent; what it leaves
pub record Mounting : Type 0 where
  pub rec : List ℕ
  pub part0 : List ℕ
  pub part1 : List ℕ
  pub leaves : Settled

unfoldable pub Mountings : List Mounting → Type 0
Mountings [] = Unit {0}
Mountings (m ∷ ms) = (mount_call m.rec m.part0 m.part1 ≡ m.leaves) × Mountings ms

-- the record of 01's mount, byte by byte, with Q-3's block length
abbrev pub mounted_record : ℕ → List ℕ
mounted_record partitions = (1 ∷ partitions ∷ 0 ∷ 0x28 ∷ []) ++ (0 ∷ 0 ∷ 0 ∷ 0 ∷ []) ++ (0x00 ∷ 0x00 ∷ 0x80 ∷ 0x00 ∷ []) ++ nothing_kept

abbrev mounts_one : List ℕ → Mounting
mounts_one rec = record { rec = rec; part0 = E; part1 = []; leaves = settled done (mounted_record 1) }

abbrev mounts_two : List ℕ → Mounting
mounts_two rec = record { rec = rec; part0 = E; part1 = bare64; leaves = settled done (mounted_record 2) }

-- refused: every byte stays
abbrev pub mount_refused : ℕ → List ℕ → List ℕ → List ℕ → Mounting
mount_refused n rec p0 p1 = record { rec = rec; part0 = p0; part1 = p1; leaves = settled (refused n) rec }

unfoldable pub mountings : List Mounting
mountings =
    -- whatever the block length before it: of a fresh record, as 01 set it, one selected, Q-3's own, the largest
    mounts_one (bare 0x29 0 nothing_kept) ∷
    mounts_one (bare 0 0 nothing_kept) ∷
    mounts_one (bare 0 512 (plain 5 0x24 0)) ∷
    mounts_one (bare 0 32768 (replicate 18 0xFF)) ∷
    mounts_one (bare 0 1048576 nothing_kept) ∷
    mounts_two (bare 0x29 0 nothing_kept) ∷
    mounts_two (bare 0 1 nothing_kept) ∷
    -- refused by 4, 5, 7 and 6
    mount_refused 4 (bare 0 1048577 nothing_kept) E [] ∷
    mount_refused 5 (loaded 0 1 512 nothing_kept) E [] ∷
    mount_refused 7 (bare 0 512 nothing_kept) [] [] ∷
    mount_refused 6 (bare 0 1048576 nothing_kept) (three 0x00000003 0x80000003 0x00000002) E ∷
    []

-- "Fresh: all 0, attention 29h": so the block length, which Q-3 leaves alone
abbrev pub FreshLeaves0 : List ℕ → Type 0
FreshLeaves0 rec = fresh_call rec ≡ settled done ((0 ∷ 0 ∷ 0 ∷ 0x29 ∷ []) ++ (0 ∷ 0 ∷ 0 ∷ 0 ∷ []) ++ (0 ∷ 0 ∷ 0 ∷ 0 ∷ []) ++ nothing_kept)

-- ---- calls of a drive that a mount has left in blocks of 32,768 bytes, at a position; beside them those of one with block length 0

abbrev pub started : ℕ → List ℕ → List ℕ
started position sense = loaded 0 position mounted_block_length sense

abbrev variable : ℕ → List ℕ → List ℕ
variable position sense = loaded 0 position 0 sense

-- a whole block of it
abbrev a_block : List ℕ
a_block = replicate mounted_block_length 7

-- a buffer of n bytes that shows what is not carried
abbrev pub nines : ℕ → List ℕ
nines n = replicate n 9

-- E with three bytes more
abbrev e_and_three : List ℕ
e_and_three = (1 ∷ 2 ∷ 3 ∷ 7 ∷ 7 ∷ 7 ∷ []) ++ zeros 30 ++ bytes 4 6 ++ bytes 4 0x80000003 ++ bytes 4 3 ++ trailer 3 36

unfoldable pub after_a_mount : List Trap
after_a_mount =
    -- the first call tells the mount, and the block length stays
    turns (loaded medium_changed 0 mounted_block_length nothing_kept) (six 0x00 0 0) E (check 0) (started 0 (plain 6 0x28 0)) ∷
    -- MODE SENSE tells it, but for DBD
    alone (started 1 nothing_kept) (six 0x1A 0 12) E [] (nines 12) (good_answer 12) (started 1 nothing_kept) E ((0x0B ∷ 0 ∷ 0 ∷ 8 ∷ []) ++ zeros 5 ++ (0x00 ∷ 0x80 ∷ 0x00 ∷ [])) ∷
    alone (started 1 nothing_kept) (six 0x1A 8 12) E [] (nines 12) (good_answer 4) (started 1 nothing_kept) E ((3 ∷ 0 ∷ 0 ∷ 0 ∷ []) ++ nines 8) ∷
    -- SILI hides a shorter block, and no longer one that is longer (X-39); with length 0 it does
    alone (started 0 nothing_kept) (six 0x08 2 5) E [] (nines 5) (good_answer 3) (started 1 nothing_kept) E ((1 ∷ 2 ∷ 3 ∷ []) ++ nines 2) ∷
    alone (started 0 nothing_kept) (six 0x08 2 2) E [] (nines 16) (check 2) (started 1 (sense18 0xF0 0x20 0xFFFFFFFF 0x00 0x00)) E ((1 ∷ 2 ∷ []) ++ nines 14) ∷
    alone (variable 0 nothing_kept) (six 0x08 2 2) E [] (nines 16) (good_answer 2) (variable 1 nothing_kept) E ((1 ∷ 2 ∷ []) ++ nines 14) ∷
    -- FIXED is no field error, at length 0 either; with block length 0 it is one
    turns (started 0 nothing_kept) (six 0x08 1 0) E (good_answer 0) (started 0 nothing_kept) ∷
    turns (variable 0 nothing_kept) (six 0x08 1 0) E (check 0) (variable 0 (plain 5 0x24 0)) ∷
    turns (started 0 nothing_kept) (six 0x0A 1 0) E (good_answer 0) (started 0 nothing_kept) ∷
    turns (variable 0 nothing_kept) (six 0x0A 1 0) E (check 0) (variable 0 (plain 5 0x24 0)) ∷
    -- it needs whole blocks, also where none is carried
    alone (started 0 nothing_kept) (six 0x08 1 1) E [] (nines 3) (refused 3) (started 0 nothing_kept) E (nines 3) ∷
    alone (started 0 nothing_kept) (six 0x0A 1 1) bare64 (replicate 32767 7) [] (refused 2) (started 0 nothing_kept) bare64 [] ∷
    -- with nothing loaded it comes as far as 2/3A/00; with SILI too it is a field error still
    alone (bare 0 mounted_block_length nothing_kept) (six 0x08 1 1) [] [] (nines 9) (check 0) (bare 0 mounted_block_length (plain 2 0x3A 0)) [] (nines 9) ∷
    turns (started 0 nothing_kept) (six 0x08 3 1) E (check 0) (started 0 (plain 5 0x24 0)) ∷
    -- one block: E's is of another length; end of data; and none fits 64 bytes
    alone (started 0 nothing_kept) (six 0x08 1 1) E [] a_block (check 0) (started 1 (sense18 0xF0 0x20 1 0x00 0x00)) E a_block ∷
    alone (started 2 nothing_kept) (six 0x08 1 1) E [] a_block (check 0) (started 2 (sense18 0xF0 0x08 1 0x00 0x05)) E a_block ∷
    alone (started 0 nothing_kept) (six 0x0A 1 1) bare64 a_block [] (check 0) (started 0 (sense18 0xF0 0x4D 1 0x00 0x02)) bare64 [] ∷
    -- a host that writes variable blocks is not stopped
    alone (started 2 nothing_kept) (six 0x0A 0 3) E (7 ∷ 7 ∷ 7 ∷ 8 ∷ 8 ∷ []) [] (good_answer 3) (started 3 nothing_kept) e_and_three [] ∷
    -- LOAD and unload keep what is set, by the mount or by MODE SELECT; a list without a descriptor too
    turns (started 2 nothing_kept) (six 0x1B 0 1) E (good_answer 0) (started 0 nothing_kept) ∷
    turns (started 2 nothing_kept) (six 0x1B 0 0) E (good_answer 0) (bare 0 mounted_block_length nothing_kept) ∷
    alone (started 1 nothing_kept) (six 0x15 0x10 4) E (zeros 4) [] (good_answer 4) (started 1 nothing_kept) E [] ∷
    alone (started 1 nothing_kept) select E (select_list 512) [] (good_answer 12) (loaded 0 1 512 nothing_kept) E [] ∷
    turns (loaded 0 2 512 nothing_kept) (six 0x1B 0 1) E (good_answer 0) (loaded 0 0 512 nothing_kept) ∷
    turns (loaded 0 2 512 nothing_kept) (six 0x1B 0 0) E (good_answer 0) (bare 0 512 nothing_kept) ∷
    []

-- ---- the other lists: the commands of those rows whose block length is 0 and has a say in what they leave. Every other row names its own, or says
-- the same with any (lengths, `unheeded`).

unfoldable pub heeding : List Trap → List (List ℕ)
heeding [] = []
heeding (t ∷ ts) = cond (heeds t.lends.cmd && eqb (length_in t.rec) 0) (t.lends.cmd ∷ heeding ts) (heeding ts)

abbrev together : List (List Trap) → List Trap
together [] = []
together (ts ∷ tss) = ts ++ together tss

abbrev pub others : List Trap
others =
    traps ++ sixteens ++ before_the_zone ++ in_the_zone ++ across_the_zone ++ spaced ++ on_two ++ not_spaced ++ not_by_space ++ together merges ++ together does_not_merge
    ++ empty_turned ++ marked_turned ++ unfit_turned ++ ones_turned ++ attention_turned ++ others_turned ++ leaving ++ asked

-- FIXED with nothing loaded, which with 32,768 is no field error (above); and SILI over a shorter block, which with 32,768 is hidden too (above)
abbrev pub heeding_at0 : List (List ℕ)
heeding_at0 = six 0x08 1 1 ∷ six 0x08 2 5 ∷ []
