-- Q-3: the block length, which a mount sets to 32,768: what it has a say in; and the uses of a drive whose mounts set another, side by side.
-- Assumes nothing: these are definitions.
use Rattle.std.specs.Prelude.{ℕ, suc, ◌<◌, ◌≡◌, ◌⊎◌, Bool, true, false, cond, not, ◌&&◌, ◌||◌, List, [], ◌∷◌, eqb, length, take}
use Rattle.std.proofs.Math.Option.{none, some}
use Rattle.std.proofs.Math.IntN.{sub_ℕ}
use Rattle.std.proofs.Math.ListN.{get_elem?}
use Rattle.std.proofs.Math.Seq.{slice}
use Rattle.words.specs.Words.{over}
use Rattle.answers.specs.declared.Answer.{Answer}
use Rattle.answers.specs.Answers.{check_condition, answered, Settled, settled_by, first}
use Rattle.objects.specs.Object.{block}
use Rattle.image.specs.Image.{objects}
use Rattle.sense.specs.Sense.{sense_bytes, empty_sense}
use Rattle.record.specs.declared.drive.Drive.{Drive}
use Rattle.record.specs.Record.{block_length_at, sense_at, decode_of, encode_of, well_record, mounted_drive, with_sense}
use Rattle.codes.specs.declared.operation.Operation.{Operation}
use Rattle.codes.specs.declared.operation.Operation.TheVariants.{Read, Write, ModeSelect, ModeSense}
use Rattle.codes.specs.Codes.{code_of, operation_of, masks_hold}
use Rattle.codes.specs.Fields.{fixed_of, sili_of, transfer_of, dbd_of, allocation_of}
use Rattle.house.specs.Mount.{partitions_of, mount_fault}
use Rattle.house.specs.Images.{protect_call}
use Rattle.commands.specs.Kinds.{among}
use Rattle.commands.specs.Parameters.{whole_length, new_length}
use Rattle.commands.specs.Act.{at, odd_met, with_length}
use Rattle.commands.specs.Call.{Lent, lent, outcome, Outcome, Result, result_of, partition, command_tests, command_call}
use Rattle.history.specs.History.{Cartridge, part, is_good, slices_left, protection, after}
use Rattle.history.specs.Always.{Use, sends, mounts, protects}

-- the block length in a record
abbrev pub length_in : List ℕ → ℕ
length_in rec = (decode_of rec).block_length

-- its four bytes
abbrev pub length_bytes : List ℕ → List ℕ
length_bytes rec = slice block_length_at sense_at rec

-- ---- who sets it: a GOOD MODE SELECT of twelve bytes the one that it names; every other command, whatever its answer r, leaves it

abbrev pub length_after : List ℕ → Lent → Answer → ℕ
length_after rec x r =
    cond (among (ModeSelect ∷ []) (operation_of (code_of x.cmd)) && is_good r && eqb (allocation_of x.cmd) whole_length) (new_length x.sent) (length_in rec)

-- ---- what it has a say in

-- READ with FIXED or SILI, WRITE with FIXED, and MODE SENSE, unless DBD leaves it out
abbrev pub heeded_by : Operation → List ℕ → Bool
heeded_by o cmd =
    cond (among (Read ∷ []) o) (fixed_of cmd || sili_of cmd)
    (cond (among (Write ∷ []) o) (fixed_of cmd)
    (among (ModeSense ∷ []) o && not (dbd_of cmd)))

abbrev pub heeds : List ℕ → Bool
heeds cmd = heeded_by (operation_of (code_of cmd)) cmd

-- ---- a drive, and what a call leaves, but for the block length

abbrev pub but_length : Drive → Drive
but_length d = with_length d 0

abbrev pub besides : Result → Outcome
besides r = outcome r.answer (but_length (decode_of r.rec)) r.lent

-- two records, well formed, that differ in it at most
pub record Twins (rec rec' : List ℕ) : Type 0 where
  pub well : well_record rec ≡ true
  pub well' : well_record rec' ≡ true
  pub same : but_length (decode_of rec) ≡ but_length (decode_of rec')

-- ---- a record and a cartridge used with each other, where a mount sets the block length n

-- 01's mount sets 0; with 32,768 it is the service's (`mounts_so`)
abbrev pub mount_by : ℕ → List ℕ → List ℕ → List ℕ → Settled
mount_by n rec p0 p1 = settled_by (mount_fault rec p0 p1) rec (encode_of (with_length (mounted_drive (partitions_of p1)) n))

-- what a use tells, and what it leaves
pub record Turn : Type 0 where
  pub answer : Answer
  pub received : List ℕ
  pub rec : List ℕ
  pub cart : Cartridge

abbrev pub turn_by : ℕ → Use → List ℕ → Cartridge → Turn
turn_by n (sends cmd sent received) rec c =
    let r = command_call rec (lent cmd c.part0 c.part1 sent received) in
    record { answer = r.answer; received = r.lent.received; rec = r.rec; cart = slices_left r }
turn_by n mounts rec c =
    let m = mount_by n rec c.part0 c.part1 in
    record { answer = m.answer; received = []; rec = m.lent; cart = c }
turn_by n (protects s on) rec c = record { answer = (protect_call on (part s c)).answer; received = []; rec = rec; cart = after (protection s on) c }

-- of one use after another: all that is told, the record and the cartridge at the end
unfoldable pub told_by : ℕ → List Use → List ℕ → Cartridge → List (Answer × List ℕ)
told_by n [] rec c = []
told_by n (u ∷ us) rec c = let t = turn_by n u rec c in (t.answer, t.received) ∷ told_by n us t.rec t.cart

unfoldable pub record_by : ℕ → List Use → List ℕ → Cartridge → List ℕ
record_by n [] rec c = rec
record_by n (u ∷ us) rec c = let t = turn_by n u rec c in record_by n us t.rec t.cart

unfoldable pub left_by : ℕ → List Use → List ℕ → Cartridge → Cartridge
left_by n [] rec c = c
left_by n (u ∷ us) rec c = let t = turn_by n u rec c in left_by n us t.rec t.cart

-- whose commands pass a test, all of them: none heeds it; none is a MODE SELECT
unfoldable pub all_send : (List ℕ → Bool) → List Use → Bool
all_send f [] = true
all_send f (sends cmd sent received ∷ us) = f cmd && all_send f us
all_send f (mounts ∷ us) = all_send f us
all_send f (protects s on ∷ us) = all_send f us

abbrev pub heedless : List ℕ → Bool
heedless cmd = not (heeds cmd)

abbrev pub selectless : List ℕ → Bool
selectless cmd = not (among (ModeSelect ∷ []) (operation_of (code_of cmd)))

-- the same is told, and stands on the cartridge at the end
pub record Unnoticed (n m : ℕ) (us : List Use) (rec rec' : List ℕ) (c : Cartridge) : Type 0 where
  pub told : told_by n us rec c ≡ told_by m us rec' c
  pub left : left_by n us rec c ≡ left_by m us rec' c
  pub records : Twins (record_by n us rec c) (record_by m us rec' c)

-- ---- READ and WRITE with FIXED, whose bits are all within their masks

pub record Fixed (x : Lent) : Type 0 where
  pub is : (operation_of (code_of x.cmd) ≡ Read) ⊎ (operation_of (code_of x.cmd) ≡ Write)
  pub fixed : fixed_of x.cmd ≡ true
  pub not_sili : sili_of x.cmd ≡ false
  pub masks : masks_hold x.cmd ≡ true

-- ---- READ with SILI

-- a READ with SILI and not FIXED
pub record Silent (x : Lent) : Type 0 where
  pub is : operation_of (code_of x.cmd) ≡ Read
  pub variable : fixed_of x.cmd ≡ false
  pub sili : sili_of x.cmd ≡ true

-- of the current partition, the block bs at the position
abbrev pub BlockThere : List ℕ → Lent → List ℕ → Type 0
BlockThere rec x bs = get_elem? (objects (partition (decode_of rec).current x.part0 x.part1)) (decode_of rec).position ≡ some (block bs)

-- which no test stops, and which meets a block longer than it asks for
pub record MeetsLonger (rec : List ℕ) (x : Lent) (bs : List ℕ) : Type 0 where
  pub silent : Silent x
  pub acts : first (command_tests rec x) ≡ none
  pub asks : 0 < transfer_of x.cmd
  pub there : BlockThere rec x bs
  pub longer : transfer_of x.cmd < length bs

-- what it then leaves: the block carried as far as was asked for, and the position after it; hidden, nothing is told, and else that its length is
-- another
abbrev pub longer_met : List ℕ → Lent → List ℕ → Bool → Result
longer_met rec x bs hides =
    let d = decode_of rec in
    let n = transfer_of x.cmd in
    result_of (answered (cond hides 0x00 check_condition) n 0)
    (encode_of (with_sense (at d (suc d.position)) (cond hides empty_sense (sense_bytes (odd_met (sub_ℕ n (length bs)))))))
    (lent x.cmd x.part0 x.part1 x.sent (over x.received 0 (take n bs)))
