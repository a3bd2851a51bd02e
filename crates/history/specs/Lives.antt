-- Two lives, with what a person would say of them: what was put and erased, what stands at the end, and what reads then meet. They are computed from
-- the definitions in proofs/Lives.antt; so the premises of demand 3 can be met.
-- Assumes nothing: these are definitions.
use Rattle.std.specs.Prelude.{ℕ, ◌≡◌, true, false, List, [], ◌∷◌, ◌++◌}
use Rattle.words.specs.Words.{bytes, zeros}
use Rattle.objects.specs.Object.{Object, filemark, block}
use Rattle.objects.specs.Events.{Event, put, cut}
use Rattle.image.specs.Image.{objects}
use Rattle.trailers.specs.Least.{blank64}
use Rattle.codes.specs.Six.{six}
use Rattle.record.specs.Record.{encode_of, fresh_drive}
use Rattle.history.specs.History.{Slot, slot0, slot1, Cartridge, cartridge, part, MadeBlank, together, alone, Call, command, mount, protection, ends, past}
use Rattle.history.specs.Demand3.{Mounted, AtBeginning, Reading, object, end_of_data, readings, rewind}
use Rattle.history.specs.Tiles.{TilePut, MarkPut, AllHarmless}
use Rattle.history.specs.Always.{Use, sends, mounts, protects, calls_of, record_used}

-- a life, and what is said of one partition of it
pub record Life : Type 0 where
  pub made : Cartridge
  pub calls : List Call
  -- the drive record at the end, which the cartridge is mounted under
  pub under : List ℕ

pub record Said : Type 0 where
  pub of : Slot
  pub events : List Event
  pub left : List Object

abbrev pub TrueOf : Life → Said → Type 0
TrueOf l x = (past x.of l.calls l.made ≡ x.events) × (objects (part x.of (ends l.calls l.made)) ≡ x.left)

abbrev pub plain_use : List ℕ → Use
plain_use cmd = sends cmd [] []

-- ---- one partition, one drive, from its fresh record on

unfoldable pub uses : List Use
uses =
    -- TEST UNIT READY answers the attention of the mount
    mounts ∷ plain_use (six 0x00 0 0)
    -- a block of five bytes and two filemarks
    ∷ sends (six 0x0A 0 5) (9 ∷ 9 ∷ 9 ∷ 9 ∷ 9 ∷ []) [] ∷ plain_use (six 0x10 0 2)
    -- protected, ERASE at the beginning is not done
    ∷ protects slot0 true ∷ plain_use rewind ∷ plain_use (six 0x19 0 0) ∷ protects slot0 false
    -- refused: WRITE with too little sent, an empty command
    ∷ sends (six 0x0A 0 5) (9 ∷ []) [] ∷ plain_use []
    -- three bytes over the five: all behind them is gone
    ∷ sends (six 0x0A 0 3) (1 ∷ 2 ∷ 3 ∷ []) []
    -- MODE SELECT of block length 2; two such blocks at once
    ∷ sends (0x15 ∷ 0x10 ∷ 0 ∷ 0 ∷ 12 ∷ 0 ∷ []) ((0 ∷ 0 ∷ 0 ∷ 8 ∷ []) ++ zeros 5 ++ bytes 3 2) [] ∷ sends (six 0x0A 1 2) (4 ∷ 5 ∷ 6 ∷ 7 ∷ []) []
    -- back over one of them; erased from there, and a filemark
    ∷ plain_use (six 0x11 0 0xFFFFFF) ∷ plain_use (six 0x19 0 0) ∷ plain_use (six 0x10 0 1)
    -- unloaded: a READ finds nothing. Mounted again; a second mount is refused
    ∷ plain_use (six 0x1B 0 0) ∷ plain_use (six 0x08 0 1) ∷ mounts ∷ mounts ∷ plain_use (six 0x00 0 0)
    ∷ []

abbrev pub fresh : List ℕ
fresh = encode_of fresh_drive

unfoldable pub one_drive : Life
one_drive =
    let c = cartridge blank64 [] in
    record { made = c; calls = calls_of uses fresh c; under = record_used uses fresh c }

abbrev pub of_one_drive : Said
of_one_drive = record {
  of = slot0;
  events =
      put 0 (block (9 ∷ 9 ∷ 9 ∷ 9 ∷ 9 ∷ [])) ∷ put 1 filemark ∷ put 2 filemark ∷ put 0 (block (1 ∷ 2 ∷ 3 ∷ []))
      ∷ put 1 (block (4 ∷ 5 ∷ [])) ∷ put 2 (block (6 ∷ 7 ∷ [])) ∷ cut 2 ∷ put 2 filemark ∷ [];
  left = block (1 ∷ 2 ∷ 3 ∷ []) ∷ block (4 ∷ 5 ∷ []) ∷ filemark ∷ [];
}

-- ---- two partitions, and records of several drives

-- a record of a mounted cartridge: partitions, current partition, attention, position, block length
abbrev pub mounted_at : ℕ → ℕ → ℕ → ℕ → ℕ → List ℕ
mounted_at partitions current attention position block_length = (1 ∷ partitions ∷ current ∷ attention ∷ []) ++ bytes 4 position ++ bytes 4 block_length ++ zeros 18

abbrev pub sent : List ℕ → List ℕ → List ℕ → Call
sent rec cmd bs = command together rec cmd bs []

unfoldable pub several_drives : Life
several_drives = record {
  made = cartridge blank64 blank64;
  calls =
      -- mounted; an attention that waits stops a WRITE; a block of five bytes and two filemarks
      mount together fresh ∷ sent (mounted_at 2 0 0x28 0 0) (six 0x0A 0 1) (8 ∷ []) ∷ sent (mounted_at 2 0 0 0 0) (six 0x0A 0 5) (9 ∷ 9 ∷ 9 ∷ 9 ∷ 9 ∷ []) ∷ sent (mounted_at 2 0 0 1 0) (six 0x10 0 2) []
      -- another drive, behind them: a block of one byte; then in their place one of three
      ∷ sent (mounted_at 2 0 0x00 3 16) (six 0x0A 0 1) (7 ∷ []) ∷ sent (mounted_at 2 0 0x00 0 16) (six 0x0A 0 3) (1 ∷ 2 ∷ 3 ∷ [])
      -- the first drive still takes itself to be behind the filemarks: refused with 4
      ∷ sent (mounted_at 2 0 0 3 0) (six 0x0A 0 1) (6 ∷ [])
      -- the second partition beside one of another cartridge, on which the command acts; and in the first slot, as a cartridge of one
      ∷ command (alone slot1 slot1 blank64) (mounted_at 2 0 0 0 0) (six 0x0A 0 1) (7 ∷ []) [] ∷ command (alone slot1 slot0 []) (mounted_at 1 0 0 0 0) (six 0x0A 0 1) (4 ∷ []) []
      -- two blocks of two bytes over that one, and the second erased; protected, a filemark is not put
      ∷ sent (mounted_at 2 1 0 0 2) (six 0x0A 1 2) (5 ∷ 6 ∷ 7 ∷ 8 ∷ []) ∷ sent (mounted_at 2 1 0 1 2) (six 0x19 1 0) []
      ∷ protection slot1 true ∷ sent (mounted_at 2 1 0 1 2) (six 0x10 0 1) []
      -- unloaded
      ∷ sent (mounted_at 2 1 0 1 2) (six 0x1B 0 0) []
      ∷ [];
  -- a third drive, at the beginning of the second partition
  under = mounted_at 2 1 0 0 0;
}

abbrev pub of_first : Said
of_first = record {
  of = slot0;
  events = put 0 (block (9 ∷ 9 ∷ 9 ∷ 9 ∷ 9 ∷ [])) ∷ put 1 filemark ∷ put 2 filemark ∷ put 3 (block (7 ∷ [])) ∷ put 0 (block (1 ∷ 2 ∷ 3 ∷ [])) ∷ [];
  left = block (1 ∷ 2 ∷ 3 ∷ []) ∷ [];
}

abbrev pub of_second : Said
of_second = record {
  of = slot1;
  events = put 0 (block (4 ∷ [])) ∷ put 0 (block (5 ∷ 6 ∷ [])) ∷ put 1 (block (7 ∷ 8 ∷ [])) ∷ cut 1 ∷ [];
  left = block (5 ∷ 6 ∷ []) ∷ [];
}

-- ---- calls that lose nothing: an unload, a mount under another record, protection, a WRITE at a position that is not there

abbrev pub quiet_calls : List Call
quiet_calls = sent (mounted_at 2 1 0 1 2) (six 0x1B 0 0) [] ∷ mount together fresh ∷ protection slot0 true ∷ sent (mounted_at 2 1 0 9 2) (six 0x0A 0 1) (7 ∷ []) ∷ []

-- what is computed of the two
pub record Computed : Type 0 where
  pub one : TrueOf one_drive of_one_drive
  pub first : TrueOf several_drives of_first
  pub second : TrueOf several_drives of_second
  pub one_blank : MadeBlank one_drive.made.part0
  pub first_blank : MadeBlank several_drives.made.part0
  pub second_blank : MadeBlank several_drives.made.part1
  -- at the end a drive is mounted with each, at the beginning of a partition
  pub one_mounted : Mounted one_drive.under (ends one_drive.calls one_drive.made)
  pub one_begins : AtBeginning slot0 one_drive.under
  pub mounted : Mounted several_drives.under (ends several_drives.calls several_drives.made)
  pub begins : AtBeginning slot1 several_drives.under
  -- a read can be lent what demand 3 asks for; and what reads meet, whatever is lent to them
  pub lends : Reading
  pub one_read : (a b c d : Reading) → readings (a ∷ b ∷ c ∷ d ∷ []) one_drive.under (ends one_drive.calls one_drive.made)
      ≡ object (block (1 ∷ 2 ∷ 3 ∷ [])) ∷ object (block (4 ∷ 5 ∷ [])) ∷ object filemark ∷ end_of_data ∷ []
  pub read : (a b : Reading) → readings (a ∷ b ∷ []) several_drives.under (ends several_drives.calls several_drives.made) ≡ object (block (5 ∷ 6 ∷ [])) ∷ end_of_data ∷ []
  -- the premises of the facility's sentences, too: tile 1 of a FIXED WRITE, the second of two filemarks, calls that lose nothing
  pub tile_put : TilePut slot0 one_drive.made together (mounted_at 1 0 0 0 2) (six 0x0A 1 2) (4 ∷ 5 ∷ 6 ∷ 7 ∷ []) [] 1
  pub mark_put : MarkPut slot0 one_drive.made together (mounted_at 1 0 0 0 0) (six 0x10 0 2) [] [] 1
  pub harmless : AllHarmless quiet_calls (ends several_drives.calls several_drives.made)
