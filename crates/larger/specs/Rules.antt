-- Q-7: the largest block, raised from 65,536 to 1,048,576 bytes. Each definition that cites it, by any largest block m, so that 01's and Q-7's can be put
-- side by side; and the uses of a drive and a cartridge that have to do with no block above m.
-- Assumes nothing: these are definitions.
use Rattle.std.specs.Prelude.{ℕ, zero, suc, ◌+◌, ◌-◌, ◌*◌, ◌/◌, ◌^◌, ◌≤◌, ◌≡◌, Bool, true, cond, not, ◌&&◌, ◌||◌, List, [], ◌∷◌, ◌++◌, eqb, leb, ltb, length, set}
use Rattle.std.proofs.Math.Option.{Option, none, some}
use Rattle.words.specs.Words.{be, bytes}
use Rattle.answers.specs.Answers.{command_short, record_fault, already_loaded, wrong_length, unsound_image, Settled, settled_by, refused, refusal_of, first}
use Rattle.objects.specs.Object.{Object, data_of}
use Rattle.objects.specs.Room.{entry_length, trailer_length}
use Rattle.image.specs.declared.part.Part.{Part}
use Rattle.image.specs.Image.{flag_bits, count, flags, directory, size, entry, top_bit, low31, end_at, right_length, sound, absent, objects}
use Rattle.image.specs.Parts.{empty_part}
use Rattle.trailers.specs.Trailers.{protect}
use Rattle.sense.specs.Sense.{illegal_request, invalid_list_field, unqualified, plainly}
use Rattle.record.specs.declared.drive.Drive.{Drive}
use Rattle.record.specs.Record.{record_length, decode_of, encode_of, well_formed, mounted_drive}
use Rattle.codes.specs.declared.operation.Operation.{Operation}
use Rattle.codes.specs.declared.operation.Operation.TheVariants.{ReadBlockLimits, Write, ModeSelect}
use Rattle.codes.specs.Codes.{code_of, too_short, operation_of, masks_hold}
use Rattle.codes.specs.Fields.{fixed_of, transfer_of, allocation_of}
use Rattle.house.specs.Mount.{partitions_of, right_lengths}
use Rattle.commands.specs.Kinds.{among}
use Rattle.commands.specs.Stop.{Stop}
use Rattle.commands.specs.Parameters.{header_length, whole_length, header_right, new_length}
use Rattle.commands.specs.Act.{Seen, Deed, good, checked, giving, carrying, with_length, act}
use Rattle.commands.specs.Tests.{field_error, field_fault, tests}
use Rattle.commands.specs.Step.{stepped_by, unless}
use Rattle.commands.specs.Call.{Lent, lent, outcome, Result, partition, looks_at, seen, applied, written}
use Rattle.history.specs.History.{slot0, slot1, Cartridge, cartridge, slices_left}
use Rattle.history.specs.Always.{Use, sends, mounts, protects}
use Rattle.lengths.specs.Lengths.{Turn}

-- 01: "1 to 65,536"
abbrev pub largest_before : ℕ
largest_before = 65536

-- ---- each definition that cites the largest block, with m in its place

module _ (m : ℕ) where
  -- image/Image: "A block's end exceeds the end before it by 1 to" m
  unfoldable pub follows_by : ℕ → ℕ → Bool
  follows_by p e = cond (top_bit e) (eqb (low31 e) p) (ltb p (low31 e) && leb (low31 e) (p + m))

  unfoldable pub ordered_by : List ℕ → ℕ → Bool
  ordered_by s zero = true
  ordered_by s (suc i) = ordered_by s i && follows_by (end_at s i) (entry s i)

  unfoldable pub sound_by : List ℕ → Bool
  sound_by s =
      right_length s
      && eqb (size s) (length s)
      && eqb (flags s / 2 ^ flag_bits) 0
      && eqb (directory s + entry_length * count s + trailer_length) (length s)
      && ordered_by s (count s)
      && leb (end_at s (count s)) (directory s)

  -- record/Record: "Block length at most" m; all else as it is
  unfoldable pub well_record_by : List ℕ → Bool
  well_record_by rec = eqb (length rec) record_length && well_formed (with_length (decode_of rec) 0) && leb (decode_of rec).block_length m

  -- commands/Call: number 4
  unfoldable pub inserted_by : Drive → List ℕ → List ℕ → Bool
  inserted_by d p0 p1 =
      cond (eqb d.loaded 1)
      (sound_by p0 && cond (eqb d.partitions 1) (absent p1) (sound_by p1) && leb d.position (count (partition d.current p0 p1)))
      true

  -- commands/Tests: of WRITE, "variable length above" m; the fields are the third of the tests
  unfoldable pub field_error_by : Operation → Drive → List ℕ → Bool
  field_error_by o d cmd = cond (among (Write ∷ []) o && not (fixed_of cmd)) (ltb m (transfer_of cmd)) (field_error o d cmd)

  unfoldable pub tests_by : Operation → Drive → List ℕ → Seen → List ℕ → ℕ → List (Bool × Stop)
  tests_by o d cmd v sent room = set (tests o d cmd v sent room) 2 (not (masks_hold cmd) || field_error_by o d cmd, field_fault)

  -- commands/Parameters: of MODE SELECT, "block length at most" m
  unfoldable pub list_right_by : ℕ → List ℕ → Bool
  list_right_by n s = header_right n s && cond (eqb n whole_length) (eqb (be 4 s 4) 0 && leb (new_length s) m) (eqb n header_length)

  unfoldable pub selecting_by : Drive → List ℕ → List ℕ → Deed
  selecting_by d cmd sent =
      let n = allocation_of cmd in
      cond (eqb n 0) (good d)
      (cond (list_right_by n sent) (carrying n (good (cond (eqb n whole_length) (with_length d (new_length sent)) d)))
      (checked d (plainly illegal_request invalid_list_field unqualified)))

  -- and READ BLOCK LIMITS; every other command acts as it does
  unfoldable pub act_by : Operation → Drive → List ℕ → List ℕ → Seen → Deed
  act_by o d cmd sent v =
      cond (among (ReadBlockLimits ∷ []) o) (giving ((0x00 ∷ []) ++ bytes 3 m ++ bytes 2 1) (good d))
      (cond (among (ModeSelect ∷ []) o) (selecting_by d cmd sent)
      (act o d cmd sent v))

  -- the call
  unfoldable pub call_by : List ℕ → Lent → Result
  call_by rec x =
      let o = operation_of (code_of x.cmd) in
      let d = decode_of rec in
      let v = seen o d x in
      written rec
      (cond (too_short x.cmd) (outcome (refused command_short) d x)
      (cond (not (well_record_by rec && inserted_by d x.part0 x.part1)) (outcome (refused record_fault) d x)
      (applied (unless (first (tests_by o d x.cmd v x.sent (length x.received))) d (stepped_by o d x.cmd x.sent v (act_by o d x.cmd x.sent v))) (looks_at o d x.cmd) x)))

  -- house/Mount: number 4, and number 6
  unfoldable pub mount_by : List ℕ → List ℕ → List ℕ → Settled
  mount_by rec p0 p1 =
      settled_by
      (refusal_of (first
      ((not (well_record_by rec), record_fault)
      ∷ (eqb (decode_of rec).loaded 1, already_loaded)
      ∷ (not (right_lengths p0 p1), wrong_length)
      ∷ (not (sound_by p0 && (absent p1 || sound_by p1)), unsound_image)
      ∷ [])))
      rec (encode_of (mounted_drive (partitions_of p1)))

  -- house/Images: protection's number 6
  unfoldable pub protect_by : Bool → List ℕ → Settled
  protect_by on s = settled_by (refusal_of (first ((not (right_length s), wrong_length) ∷ (not (sound_by s), unsound_image) ∷ []))) s (protect on s)

  -- image/Parts, which the view hands out
  unfoldable pub part_by : List ℕ → ℕ → Part
  part_by s i = cond (sound_by s && ltb i (count s) && not (top_bit (entry s i))) (record { start = end_at s i; len = end_at s (suc i) - end_at s i }) empty_part

-- ---- "Older images stay sound."

-- what an image holds by the rule: of one that is not sound nothing is said
abbrev pub held : ℕ → List ℕ → Option (List Object)
held m s = cond (sound_by m s) (some (objects s)) none

-- no block among the objects has more than m bytes
unfoldable pub none_above : ℕ → List Object → Bool
none_above m [] = true
none_above m (x ∷ xs) = leb (length (data_of x)) m && none_above m xs

-- ---- a drive and a cartridge that have to do with no block above m

-- an image that is sound now has none; of one that is not nothing is asked
abbrev pub NoLarger : ℕ → List ℕ → Type 0
NoLarger m s = sound s ≡ true → none_above m (objects s) ≡ true

-- neither the record nor a partition has one
pub record Within (m : ℕ) (rec : List ℕ) (c : Cartridge) : Type 0 where
  pub length-set : (decode_of rec).block_length ≤ m
  pub part0 : NoLarger m c.part0
  pub part1 : NoLarger m c.part1

-- a command that speaks of one: READ BLOCK LIMITS, which tells the largest; a variable WRITE of one; a MODE SELECT that names such a length
unfoldable pub speaks_above : ℕ → List ℕ → List ℕ → Bool
speaks_above m cmd sent =
    let o = operation_of (code_of cmd) in
    among (ReadBlockLimits ∷ []) o
    || (among (Write ∷ []) o && not (fixed_of cmd) && ltb m (transfer_of cmd))
    || (among (ModeSelect ∷ []) o && eqb (allocation_of cmd) whole_length && ltb m (new_length sent))

-- ---- a record and a cartridge used with each other, by the rules with m: what each use tells and leaves, in turn

abbrev pub turn_by : ℕ → Use → List ℕ → Cartridge → Turn
turn_by m (sends cmd sent received) rec c =
    let r = call_by m rec (lent cmd c.part0 c.part1 sent received) in
    record { answer = r.answer; received = r.lent.received; rec = r.rec; cart = slices_left r }
turn_by m mounts rec c =
    let s = mount_by m rec c.part0 c.part1 in
    record { answer = s.answer; received = []; rec = s.lent; cart = c }
turn_by m (protects slot0 on) rec c =
    let s = protect_by m on c.part0 in
    record { answer = s.answer; received = []; rec = rec; cart = cartridge s.lent c.part1 }
turn_by m (protects slot1 on) rec c =
    let s = protect_by m on c.part1 in
    record { answer = s.answer; received = []; rec = rec; cart = cartridge c.part0 s.lent }

unfoldable pub played_by : ℕ → List Use → List ℕ → Cartridge → List Turn
played_by m [] rec c = []
played_by m (u ∷ us) rec c = let t = turn_by m u rec c in t ∷ played_by m us t.rec t.cart

-- uses of which no command speaks of a block above m
unfoldable pub none_speaks : ℕ → List Use → Bool
none_speaks m [] = true
none_speaks m (sends cmd sent received ∷ us) = not (speaks_above m cmd sent) && none_speaks m us
none_speaks m (mounts ∷ us) = none_speaks m us
none_speaks m (protects s on ∷ us) = none_speaks m us
