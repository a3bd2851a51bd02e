-- What a facility quotes of demand 3: a tile that a WRITE answered as put is read back until a command writes or erases at its number or lower;
-- unloads, mounts, protection and refused calls lose nothing; and all drives agree on what stands.
-- Assumes nothing: these are definitions.
use Rattle.std.specs.Prelude.{ℕ, suc, ◌+◌, ◌*◌, ◌≤◌, ◌<◌, ◌≡◌, ◌⊎◌, true, false, cond, List, [], ◌∷◌, ◌++◌, length, take, drop}
use Rattle.std.proofs.Math.Option.{none, some}
use Rattle.std.proofs.Math.ListN.{get_elem?}
use Rattle.objects.specs.Object.{Object, filemark, block, data_of}
use Rattle.objects.specs.Events.{Clear}
use Rattle.image.specs.Image.{objects}
use Rattle.image.specs.Parts.{shown}
use Rattle.views.specs.Views.{view_of}
use Rattle.record.specs.Record.{decode_of}
use Rattle.codes.specs.declared.operation.Operation.TheVariants.{Write, WriteFilemarks}
use Rattle.codes.specs.Codes.{code_of, operation_of}
use Rattle.codes.specs.Fields.{fixed_of, transfer_of}
use Rattle.answers.specs.Answers.{first}
use Rattle.commands.specs.Kinds.{writes}
use Rattle.commands.specs.Call.{lent, command_tests}
use Rattle.history.specs.History.{Slot, number, Cartridge, part, Lending, slices, is_lent_as, Call, command, mount, protection, commanded, after, ends, past}
use Rattle.history.specs.Demand3.{Mounted, AtBeginning, Reading, object, readings}

-- ---- after the calls the object x is at number k of the partition: it stands there, each drive reads it back, and the view hands out its bytes

pub record Kept (s : Slot) (c : Cartridge) (calls : List Call) (k : ℕ) (x : Object) : Type 0 where
  pub stands : get_elem? (objects (part s (ends calls c))) k ≡ some x
  pub read : (rec : List ℕ) → Mounted rec (ends calls c) → AtBeginning s rec → (reads : List Reading) → k < length reads
      → get_elem? (readings reads rec (ends calls c)) k ≡ some (object x)
  pub viewed : shown (part s (ends calls c)) (view_of (ends calls c).part0 (ends calls c).part1 (number s) k) ≡ data_of x

-- ---- what a WRITE answered as put

-- its tiles: the bytes sent in blocks of the block length (FIXED), or all that it asks for as one
abbrev pub tile_length : List ℕ → List ℕ → ℕ
tile_length rec cmd = cond (fixed_of cmd) (decode_of rec).block_length (transfer_of cmd)

abbrev pub tile_of : List ℕ → List ℕ → List ℕ → ℕ → List ℕ
tile_of rec cmd sent i = take (tile_length rec cmd) (drop (i * tile_length rec cmd) sent)

module _ (s : Slot) (c : Cartridge) (l : Lending) (rec cmd sent received : List ℕ) (i : ℕ) where
  -- a WRITE to the partition carried the bytes of tile i, and of those before it
  pub record TilePut : Type 0 where
    pub here : is_lent_as s l (decode_of rec).current ≡ true
    pub is : operation_of (code_of cmd) ≡ Write
    pub some_bytes : 0 < tile_length rec cmd
    pub carried : suc i * tile_length rec cmd ≤ (commanded l c rec cmd sent received).answer.carried

  -- the position moved past filemark i of those that a WRITE FILEMARKS was to put
  pub record MarkPut : Type 0 where
    pub here : is_lent_as s l (decode_of rec).current ≡ true
    pub is : operation_of (code_of cmd) ≡ WriteFilemarks
    pub asked : i < transfer_of cmd
    pub moved : (decode_of rec).position + i < (decode_of (commanded l c rec cmd sent received).rec).position

-- "until a command writes or erases at that number or lower": the life of c so far, the command, the calls since
module _ (s : Slot) (c : Cartridge) (before : List Call) (l : Lending) (rec cmd sent received : List ℕ) (i : ℕ) (since : List Call) where
  abbrev pub Untouched : Type 0
  Untouched = Clear ((decode_of rec).position + i) (past s since (after (command l rec cmd sent received) (ends before c)))

  abbrev pub TileKept : Type 0
  TileKept = TilePut s (ends before c) l rec cmd sent received i → Untouched
      → Kept s c (before ++ command l rec cmd sent received ∷ since) ((decode_of rec).position + i) (block (tile_of rec cmd sent i))

  abbrev pub MarkKept : Type 0
  MarkKept = MarkPut s (ends before c) l rec cmd sent received i → Untouched
      → Kept s c (before ++ command l rec cmd sent received ∷ since) ((decode_of rec).position + i) filemark

-- ---- what loses nothing

-- a mount, under any record; a protection change; any command but WRITE, WRITE FILEMARKS and ERASE, an unload too; and one that a test stopped:
-- refused by number, an attention answered, a protected partition, ..
abbrev pub Harmless : Call → Cartridge → Type 0
Harmless (mount l rec) c = Unit {0}
Harmless (protection s on) c = Unit {0}
Harmless (command l rec cmd sent received) c =
    (writes (operation_of (code_of cmd)) ≡ false) ⊎ (first (command_tests rec (lent cmd (slices l c).part0 (slices l c).part1 sent received)) ≡ none → ⊥)

unfoldable pub AllHarmless : List Call → Cartridge → Type 0
AllHarmless [] c = Unit {0}
AllHarmless (x ∷ xs) c = Harmless x c × AllHarmless xs (after x c)

-- ---- of a partition then and now: the same objects, and any two drives read the same

pub record Agree (s : Slot) (c d : Cartridge) : Type 0 where
  pub same : objects (part s c) ≡ objects (part s d)
  pub read : (rec rec' : List ℕ) → Mounted rec c → AtBeginning s rec → Mounted rec' d → AtBeginning s rec' → (reads reads' : List Reading)
      → length reads ≡ length reads' → readings reads rec c ≡ readings reads' rec' d
