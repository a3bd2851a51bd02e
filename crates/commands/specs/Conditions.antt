-- The conditions under which a command is refused or stopped, as 01 says them, and how far it comes by 01's order. That the answer of a call is given
-- exactly under its condition: proofs/Exact.antt.
-- Assumes nothing: these are definitions.
use Rattle.std.specs.Prelude.{ℕ, ◌<◌, ◌≤◌, ◌≡◌, ◌↔◌, ◌≢◌, ◌⊎◌, true, false, List, length}
use Rattle.image.specs.Image.{count, protected, sound}
use Rattle.record.specs.declared.drive.Drive.{Drive}
use Rattle.record.specs.Record.{record_length, no_attention, decode_of, well_formed}
use Rattle.codes.specs.declared.operation.Operation.{Operation}
use Rattle.codes.specs.declared.operation.Operation.TheVariants.{RequestSense, ReadBlockLimits, Write, WriteFilemarks, ModeSelect, Erase, ModeSense, Locate, Locate16, NotServed}
use Rattle.codes.specs.Codes.{length_of, code_of, operation_of, masks_hold}
use Rattle.codes.specs.Fields.{changes_partition, allocation_of}
use Rattle.commands.specs.Parameters.{header_length, whole_length}
use Rattle.commands.specs.Act.{named_partition}
use Rattle.commands.specs.Tests.{field_error, taken, needed}
use Rattle.commands.specs.Call.{Lent, partition}

-- ---- of a record and of an image, which the house services test too

abbrev pub Empty : List ℕ → Type 0
Empty s = length s ≡ 0

-- "record not 30 bytes or (fresh excepted) ill-formed"
abbrev pub RecordWrong : List ℕ → Type 0
RecordWrong rec = (length rec ≢ record_length) ⊎ (well_formed (decode_of rec) ≡ false)

abbrev pub Unsound : List ℕ → Type 0
Unsound s = sound s ≡ false

-- "a lent partition unsound"
abbrev pub LentUnsound : List ℕ → List ℕ → Type 0
LentUnsound p0 p1 = Unsound p0 ⊎ (¬ Empty p1 × Unsound p1)

-- ---- of a command: 01's table, and its command order

module _ (rec : List ℕ) (x : Lent) where
  abbrev d : Drive
  d = decode_of rec

  abbrev o : Operation
  o = operation_of (code_of x.cmd)

  -- the partition that is the current one
  abbrev current : List ℕ
  current = partition d.current x.part0 x.part1

  -- 1: "command block empty, or shorter than its length in the table below"
  abbrev pub BlockShort : Type 0
  BlockShort = Empty x.cmd ⊎ (length x.cmd < length_of (code_of x.cmd))

  -- 4, for a command: "loaded and a lent partition unsound, or the second is empty not exactly when there is one partition, or position above N"
  abbrev pub CartridgeWrong : Type 0
  CartridgeWrong = (d.loaded ≡ 1) × (LentUnsound x.part0 x.part1 ⊎ ((¬ (Empty x.part1 ↔ (d.partitions ≡ 1))) ⊎ (count current < d.position)))

  abbrev pub DriveWrong : Type 0
  DriveWrong = RecordWrong rec ⊎ CartridgeWrong

  -- "attention; .. REQUEST SENSE passes it"
  abbrev pub AttentionWaits : Type 0
  AttentionWaits = (d.attention ≢ no_attention) × (o ≢ RequestSense)

  -- "operation code not served (5/20/00)"
  abbrev pub CodeNotServed : Type 0
  CodeNotServed = o ≡ NotServed

  -- "fields (5/24/00)": "A bit outside its mask is a field error", and those named with each command
  abbrev pub FieldWrong : Type 0
  FieldWrong = (masks_hold x.cmd ≡ false) ⊎ (field_error o d x.cmd ≡ true)

  -- "List length 0 (no change), 4 or 12, else 5/1A/00, tested just after the fields"
  abbrev pub ListLengthWrong : Type 0
  ListLengthWrong = (o ≡ ModeSelect) × (¬ ((allocation_of x.cmd ≡ 0) ⊎ ((allocation_of x.cmd ≡ header_length) ⊎ (allocation_of x.cmd ≡ whole_length))))

  -- "nothing loaded (2/3A/00)"; "03, 05, 15, 1A need no cartridge."
  abbrev pub NothingLoaded : Type 0
  NothingLoaded = (¬ ((o ≡ RequestSense) ⊎ ((o ≡ ReadBlockLimits) ⊎ ((o ≡ ModeSelect) ⊎ (o ≡ ModeSense))))) × (d.loaded ≡ 0)

  -- "LOCATE's partition number (5/24/00)"
  abbrev pub NoSuchPartition : Type 0
  NoSuchPartition = ((o ≡ Locate) ⊎ (o ≡ Locate16)) × ((changes_partition x.cmd ≡ true) × (d.partitions ≤ named_partition o x.cmd))

  -- "protection of the current partition for WRITE, WRITE FILEMARKS and ERASE at any count (7/27/00)"
  abbrev pub WriteProtected : Type 0
  WriteProtected = ((o ≡ Write) ⊎ ((o ≡ WriteFilemarks) ⊎ (o ≡ Erase))) × (protected current ≡ true)

  -- 2: "data sent is shorter than the command takes"
  abbrev pub SentShort : Type 0
  SentShort = length x.sent < taken o d x.cmd

  -- 3: "receiving buffer is shorter than the command may need"
  abbrev pub ReceivedShort : Type 0
  ReceivedShort = length x.received < needed o d x.cmd

  -- "Command order: 1; 4; attention; operation code; fields; (list length;) nothing loaded; LOCATE's partition number, or protection; 2 or 3; act":
  -- the command comes as far as each
  abbrev pub Comes4 : Type 0
  Comes4 = ¬ BlockShort

  abbrev pub ComesAttention : Type 0
  ComesAttention = Comes4 × ¬ DriveWrong

  abbrev pub ComesCode : Type 0
  ComesCode = ComesAttention × ¬ AttentionWaits

  abbrev pub ComesFields : Type 0
  ComesFields = ComesCode × ¬ CodeNotServed

  abbrev pub ComesListLength : Type 0
  ComesListLength = ComesFields × ¬ FieldWrong

  abbrev pub ComesCartridge : Type 0
  ComesCartridge = ComesListLength × ¬ ListLengthWrong

  abbrev pub ComesPartition : Type 0
  ComesPartition = ComesCartridge × ¬ NothingLoaded

  abbrev pub ComesProtection : Type 0
  ComesProtection = ComesPartition × ¬ NoSuchPartition

  abbrev pub Comes2 : Type 0
  Comes2 = ComesProtection × ¬ WriteProtected

  abbrev pub Comes3 : Type 0
  Comes3 = Comes2 × ¬ SentShort

  abbrev pub Acts : Type 0
  Acts = Comes3 × ¬ ReceivedShort
