-- Q-7's cases: lengths on both sides of 1,048,576 in a record, MODE SELECT, WRITE, READ and a directory entry; and a block that just fills an image.
-- Assumes nothing: these are definitions.
use Rattle.std.specs.Prelude.{ℕ, ◌+◌, ◌≤◌, ◌≡◌, Bool, true, false, List, [], ◌∷◌, ◌++◌, length, replicate}
use Rattle.words.specs.Words.{zeros}
use Rattle.answers.specs.Answers.{refused}
use Rattle.objects.specs.Object.{block}
use Rattle.objects.specs.Events.{put}
use Rattle.image.specs.Image.{least_length, most_length, follows, sound, objects}
use Rattle.image.specs.Example.{E}
use Rattle.changes.specs.Changes.{occur}
use Rattle.trailers.specs.Trailers.{blank}
use Rattle.commands.specs.Call.{lent, result_of, command_call}
use Rattle.codes.specs.Six.{six}
use Rattle.edges.specs.Cases.{sense18, nothing_kept, select, select_list}
use Rattle.edges.specs.Traps.{Trap, loaded, bare, plain, good_answer, check, alone, refuses, turns, guarded}
use Rattle.edges.specs.Mounted.{Mounting, mount_refused, started, nines}

-- ---- a record, and a MODE SELECT, with each length

-- the mode data of E with the block length in three bytes
abbrev tells : ℕ → ℕ → ℕ → List ℕ
tells high middle low = (0x0B ∷ 0 ∷ 0 ∷ 8 ∷ []) ++ zeros 5 ++ (high ∷ middle ∷ low ∷ [])

-- a MODE SELECT that sets the length n, and one that does not
abbrev sets : ℕ → Trap
sets n = alone (loaded 0 1 512 nothing_kept) select E (select_list n) [] (good_answer 12) (loaded 0 1 n nothing_kept) E []

abbrev keeps : ℕ → Trap
keeps n = alone (loaded 0 1 512 nothing_kept) select E (select_list n) [] (check 0) (loaded 0 1 512 (plain 5 0x26 0)) E []

unfoldable pub lengths_set : List Trap
lengths_set =
    sets 65536 ∷ sets 65537 ∷ sets 800000 ∷ sets 1048575 ∷ sets 1048576 ∷ keeps 1048577 ∷ keeps 0xFFFFFF ∷
    -- a record has them, and MODE SENSE tells them
    alone (loaded 0 1 65537 nothing_kept) (six 0x1A 0 12) E [] (nines 12) (good_answer 12) (loaded 0 1 65537 nothing_kept) E (tells 0x01 0x00 0x01) ∷
    alone (loaded 0 1 800000 nothing_kept) (six 0x1A 0 12) E [] (nines 12) (good_answer 12) (loaded 0 1 800000 nothing_kept) E (tells 0x0C 0x35 0x00) ∷
    alone (loaded 0 1 1048576 nothing_kept) (six 0x1A 0 12) E [] (nines 12) (good_answer 12) (loaded 0 1 1048576 nothing_kept) E (tells 0x10 0x00 0x00) ∷
    refuses 4 (loaded 0 1 1048577 nothing_kept) (six 0x1A 0 12) E [] ∷
    turns (bare 0 1048576 nothing_kept) (six 0x00 0 0) [] (check 0) (bare 0 1048576 (plain 2 0x3A 0)) ∷
    refuses 4 (bare 0 1048577 nothing_kept) (six 0x00 0 0) [] [] ∷
    refuses 4 (bare 0x29 0x80000000 nothing_kept) (six 0x03 0 18) [] [] ∷
    -- an unload keeps the largest
    turns (loaded 0 2 1048576 nothing_kept) (six 0x1B 0 0) E (good_answer 0) (bare 0 1048576 nothing_kept) ∷
    -- READ BLOCK LIMITS, in six bytes and no fewer
    alone (loaded 0 1 0 nothing_kept) (six 0x05 0 0) E [] (nines 8) (good_answer 6) (loaded 0 1 0 nothing_kept) E ((0x00 ∷ 0x10 ∷ 0x00 ∷ 0x00 ∷ 0x00 ∷ 0x01 ∷ []) ++ nines 2) ∷
    alone (loaded 0 1 0 nothing_kept) (six 0x05 0 0) E [] (nines 5) (refused 3) (loaded 0 1 0 nothing_kept) E (nines 5) ∷
    []

-- a mount of a loaded record: 5 with 70,000, which 01 refused with 4 (X-38); 4 above the largest
unfoldable pub mounts_over : List Mounting
mounts_over =
    mount_refused 5 (loaded 0 1 70000 nothing_kept) E [] ∷ mount_refused 5 (loaded 0 1 1048576 nothing_kept) E [] ∷ mount_refused 4 (loaded 0 1 1048577 nothing_kept) E [] ∷
    mount_refused 4 (bare 0 1048577 nothing_kept) [] [] ∷ []

-- ---- WRITE and READ: which lengths are a field's, which a buffer's

unfoldable pub lengths_asked : List Trap
lengths_asked =
    -- variable WRITE: above the largest block a field error, before 2/3A/00, 7/27/00 (X-14) and number 2
    turns (bare 0 0 nothing_kept) (six 0x0A 0 1048577) [] (check 0) (bare 0 0 (plain 5 0x24 0)) ∷
    turns (loaded 0 2 0 nothing_kept) (six 0x0A 0 1048577) E (check 0) (loaded 0 2 0 (plain 5 0x24 0)) ∷
    turns (loaded 0 2 0 nothing_kept) (six 0x0A 0 0xFFFFFF) E (check 0) (loaded 0 2 0 (plain 5 0x24 0)) ∷
    -- up to it none
    turns (bare 0 0 nothing_kept) (six 0x0A 0 1048576) [] (check 0) (bare 0 0 (plain 2 0x3A 0)) ∷
    turns (loaded 0 0 0 nothing_kept) (six 0x0A 0 1048576) guarded (check 0) (loaded 0 0 0 (plain 7 0x27 0)) ∷
    turns (loaded 0 0 0 nothing_kept) (six 0x0A 0 65537) guarded (check 0) (loaded 0 0 0 (plain 7 0x27 0)) ∷
    refuses 2 (loaded 0 0 0 nothing_kept) (six 0x0A 0 1048576) E [] ∷
    refuses 2 (loaded 0 0 0 nothing_kept) (six 0x0A 0 65537) E [] ∷
    -- variable READ: no length is a field error; the buffer is asked for, whatever stands there
    refuses 3 (loaded 0 0 0 nothing_kept) (six 0x08 0 1048577) E [] ∷
    refuses 3 (loaded 0 2 0 nothing_kept) (six 0x08 0 0xFFFFFF) E [] ∷
    -- FIXED in blocks above 65,536 bytes is none either; 4,096 of the largest are 2^32 bytes, and FFFFFFh the most that can be asked for
    turns (loaded 0 0 1048576 nothing_kept) (six 0x08 1 0) E (good_answer 0) (loaded 0 0 1048576 nothing_kept) ∷
    refuses 3 (loaded 0 0 1048576 nothing_kept) (six 0x08 1 1) E [] ∷
    refuses 3 (loaded 0 0 1048576 nothing_kept) (six 0x08 1 4096) E [] ∷
    refuses 2 (loaded 0 0 1048576 nothing_kept) (six 0x0A 1 4096) E [] ∷
    refuses 3 (loaded 0 0 1048576 nothing_kept) (six 0x08 1 0xFFFFFF) E [] ∷
    refuses 2 (loaded 0 0 1048576 nothing_kept) (six 0x0A 1 0xFFFFFF) E [] ∷
    -- a block of 65,537 does not fit E, and is no field error
    alone (started 0 nothing_kept) (six 0x0A 0 65537) E (replicate 65537 7) [] (check 0) (started 0 (sense18 0xF0 0x4D 65537 0x00 0x02)) E [] ∷
    []

-- ---- what an entry promises: the end before it, the entry, and whether it is right

unfoldable pub Promised : List (ℕ × ℕ × Bool) → Type 0
Promised [] = Unit {0}
Promised ((p, e, right) ∷ es) = (follows p e ≡ right) × Promised es

unfoldable pub promises : List (ℕ × ℕ × Bool)
promises =
    (0, 65536, true) ∷ (0, 65537, true) ∷ (0, 800000, true) ∷ (0, 1048576, true) ∷ (0, 1048577, false)
    ∷ (3, 3 + 1048576, true) ∷ (3, 4 + 1048576, false) ∷ (1048576, 2097152, true) ∷ (1048575, 2097152, false) ∷ (0, 0x7FFFFFFF, false)
    -- a filemark has no bytes, whatever the largest block
    ∷ (1048576, 0x80000000 + 1048576, true) ∷ (0, 0x80000000 + 1048576, false) ∷ []

-- ---- a block of n bytes on a blank image, under a drive that has told its mount: for any bytes lent, and any sent

-- of n + 20 bytes: it fills the image, and stands there alone
abbrev pub Fills : ℕ → Type 0
Fills n = (s sent : List ℕ) → length s ≡ n + 20 → length sent ≡ n
    → (command_call (started 0 nothing_kept) (lent (six 0x0A 0 n) (blank s) [] sent [])
    ≡ result_of (check n) (started 1 (sense18 0xF0 0x40 0 0x00 0x02)) (lent (six 0x0A 0 n) (occur (put 0 (block sent)) (blank s)) [] sent []))
    × (sound (occur (put 0 (block sent)) (blank s)) ≡ true)
    × (objects (occur (put 0 (block sent)) (blank s)) ≡ block sent ∷ [])

-- of a byte less: nothing changes but the sense
abbrev pub DoesNotFit : ℕ → Type 0
DoesNotFit n = (s sent : List ℕ) → length s ≡ n + 19 → length sent ≡ n
    → command_call (started 0 nothing_kept) (lent (six 0x0A 0 n) (blank s) [] sent [])
    ≡ result_of (check 0) (started 0 (sense18 0xF0 0x4D n 0x00 0x02)) (lent (six 0x0A 0 n) (blank s) [] sent [])

-- above the largest block, on an image of any length
abbrev pub IsTooLong : ℕ → Type 0
IsTooLong n = (s sent : List ℕ) → least_length ≤ length s → length s ≤ most_length → length sent ≡ n
    → command_call (started 0 nothing_kept) (lent (six 0x0A 0 n) (blank s) [] sent [])
    ≡ result_of (check 0) (started 0 (plain 5 0x24 0)) (lent (six 0x0A 0 n) (blank s) [] sent [])
