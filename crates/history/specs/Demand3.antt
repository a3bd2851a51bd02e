-- Demand 3: what stands on a cartridge after its life, and what reads of it meet.
-- Assumes nothing: these are definitions.
use Rattle.std.specs.Prelude.{ℕ, zero, suc, ◌≤◌, ◌<◌, ◌≡◌, ◌↔◌, Bool, true, cond, not, ◌&&◌, List, [], ◌∷◌, ◌++◌, eqb, length, take}
use Rattle.std.proofs.Math.Option.{some}
use Rattle.std.proofs.Math.ListN.{get_elem?}
use Rattle.words.specs.Words.{bytes}
use Rattle.objects.specs.Object.{Object, filemark, block, largest_block}
use Rattle.objects.specs.Events.{Stands}
use Rattle.image.specs.Image.{sound, objects}
use Rattle.sense.specs.declared.Sense.{Sense}
use Rattle.sense.specs.Sense.{no_sense, blank_check, no_additional, unqualified, filemark_detected, end_of_data_detected, parts_of}
use Rattle.record.specs.Record.{no_attention, decode_of, well_record}
use Rattle.codes.specs.declared.operation.Operation.TheVariants.{Rewind, Read, Locate}
use Rattle.codes.specs.Codes.{number_of}
use Rattle.commands.specs.Call.{Result, inserted}
use Rattle.history.specs.History.{Slot, number, Cartridge, part, together, Call, is_good, commanded, slices_left, ends, past}

-- ---- "with the whole cartridge mounted under a drive record in which number 4 finds no fault .. and no attention waits"

abbrev pub NoFault : List ℕ → Cartridge → Type 0
NoFault rec c = well_record rec && inserted (decode_of rec) c.part0 c.part1 ≡ true

pub record Mounted (rec : List ℕ) (c : Cartridge) : Type 0 where
  pub no_fault : NoFault rec c
  pub loaded : (decode_of rec).loaded ≡ 1
  pub no_attention_lem : (decode_of rec).attention ≡ no_attention

-- "from the beginning" of the partition of a slot
pub record AtBeginning (s : Slot) (rec : List ℕ) : Type 0 where
  pub current : (decode_of rec).current ≡ number s
  pub position : (decode_of rec).position ≡ 0

-- ---- "variable reads .., each lent all the cartridge's partitions, asking for the largest block and lent room for it"

-- READ, not FIXED, of the largest block; SILI or not
abbrev pub read_largest : Bool → List ℕ
read_largest sili = (number_of Read ∷ cond sili 0x02 0x00 ∷ []) ++ bytes 3 largest_block ++ (0x00 ∷ [])

-- what else is lent to a read: any bytes, with room in the receiving buffer
pub record Reading : Type 0 where
  pub sili : Bool
  pub sent : List ℕ
  pub received : List ℕ
  pub room : largest_block ≤ length received

abbrev pub read_once : Reading → List ℕ → Cartridge → Result
read_once x rec c = commanded together c rec (read_largest x.sili) x.sent x.received

-- what a read met, as its answer, the sense kept and the buffer tell
pub data Met : Type 0 where
  object : Object → Met
  end_of_data nothing_known : Met

abbrev pub says : Sense → ℕ → ℕ → ℕ → Bool
says t key asc ascq = eqb t.key key && eqb t.asc asc && eqb t.ascq ascq

-- GOOD: a block, the bytes carried. Else 8/00/05: end of data; 0/00/01 with FILEMARK: a filemark; 0/00/00 with ILI: a block again, of another length
-- than was asked for
unfoldable pub met_of : Result → Met
met_of r =
    let t : Sense = parts_of (decode_of r.rec).sense in
    let b : Met = object (block (take r.answer.carried r.lent.received)) in
    cond (not (eqb r.answer.refusal 0)) nothing_known
    (cond (is_good r.answer) b
    (cond (says t blank_check no_additional end_of_data_detected) end_of_data
    (cond (says t no_sense no_additional filemark_detected && t.filemark) (object filemark)
    (cond (says t no_sense no_additional unqualified && t.ili) b nothing_known))))

-- one read after another, each on the record and the cartridge that the one before it left
unfoldable pub readings : List Reading → List ℕ → Cartridge → List Met
readings [] rec c = []
readings (x ∷ xs) rec c = met_of (read_once x rec c) ∷ readings xs (read_once x rec c).rec (slices_left (read_once x rec c))

-- the cartridge after them
unfoldable pub read_through : List Reading → List ℕ → Cartridge → Cartridge
read_through [] rec c = c
read_through (x ∷ xs) rec c = read_through xs (read_once x rec c).rec (slices_left (read_once x rec c))

-- "meet those objects and no others, in order": n reads meet the objects one by one, and from then on end of data
unfoldable pub meetings : ℕ → List Object → List Met
meetings zero xs = []
meetings (suc n) [] = end_of_data ∷ meetings n []
meetings (suc n) (x ∷ xs) = object x ∷ meetings n xs

-- ---- the demand, of the partition of a slot of a cartridge c, and the calls of its life

pub record Demand3 (s : Slot) (c : Cartridge) (calls : List Call) : Type 0 where
  -- its image is sound still, so its objects are those of 01
  pub still_sound : sound (part s (ends calls c)) ≡ true
  -- "An object stands at number k of a partition exactly if some command put it there and, since then, no command has put an object at a number
  -- k or lower in that partition or erased from such a number. It is the same kind of object with the same bytes"
  pub stands : (k : ℕ) (x : Object) → (get_elem? (objects (part s (ends calls c))) k ≡ some x) ↔ Stands (past s calls c) k x
  -- ".. variable reads from the beginning .. meet those objects and no others, in order": all of them, then end of data; and they change nothing
  pub meet : (rec : List ℕ) → Mounted rec (ends calls c) → AtBeginning s rec → (reads : List Reading)
      → readings reads rec (ends calls c) ≡ meetings (length reads) (objects (part s (ends calls c)))
  pub unread : (rec : List ℕ) → Mounted rec (ends calls c) → (reads : List Reading) → read_through reads rec (ends calls c) ≡ ends calls c
  -- both in one, by number: what was put is tied to what is read, whatever the bytes between them
  pub met : (rec : List ℕ) → Mounted rec (ends calls c) → AtBeginning s rec → (reads : List Reading) (k : ℕ) → k < length reads → (x : Object)
      → (get_elem? (readings reads rec (ends calls c)) k ≡ some (object x)) ↔ Stands (past s calls c) k x

-- ---- how the beginning is reached: from anywhere by LOCATE with CP to object 0, on the current partition by REWIND; nothing else changes

abbrev pub locate_first : Slot → List ℕ
locate_first s = (number_of Locate ∷ 0x02 ∷ 0x00 ∷ []) ++ bytes 4 0 ++ (0x00 ∷ number s ∷ 0x00 ∷ [])

abbrev pub rewind : List ℕ
rewind = number_of Rewind ∷ 0x00 ∷ 0x00 ∷ 0x00 ∷ 0x00 ∷ 0x00 ∷ []

pub record Reached (s : Slot) (c : Cartridge) (r : Result) : Type 0 where
  pub answered_good : is_good r.answer ≡ true
  pub mounted : Mounted r.rec c
  pub there : AtBeginning s r.rec
  pub same : slices_left r ≡ c
