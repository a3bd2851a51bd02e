-- Q-2, on the call: what it means to meet end of data, and where; and the call by any rule for EOM at end of data, so that 01's constant and the zone
-- can be put side by side.
-- Assumes nothing: these are definitions.
use Rattle.std.specs.Prelude.{ℕ, ◌+◌, ◌-◌, ◌*◌, ◌<◌, Bool, true, false, cond, List, [], ◌∷◌, eqb, ℤ, pos, negsuc, length, drop}
use Rattle.std.proofs.Math.Option.{Option, none, some}
use Rattle.std.proofs.Math.IntN.{sub_ℕ}
use Rattle.std.proofs.Math.ListN.{get_elem?}
use Rattle.words.specs.Words.{over}
use Rattle.answers.specs.Answers.{command_short, record_fault, refused, first}
use Rattle.objects.specs.Object.{Object}
use Rattle.objects.specs.Movement as M
use Rattle.objects.specs.Room.{trailer_length, warning_share}
use Rattle.objects.specs.Transfer.{Ended, whole, odd_length, at_filemark, at_end, Run, run_of}
use Rattle.image.specs.Image.{count, room}
use Rattle.sense.specs.declared.Sense.{Sense}
use Rattle.sense.specs.Sense.{blank_check, no_additional, end_of_data_detected, eom_bit, told}
use Rattle.record.specs.declared.drive.Drive.{Drive}
use Rattle.record.specs.Record.{sense_at, decode_of, well_record}
use Rattle.codes.specs.declared.operation.Operation.{Operation}
use Rattle.codes.specs.declared.operation.Operation.TheVariants.{Read, Space, Locate, Space16, Locate16}
use Rattle.codes.specs.Codes.{code_of, too_short, operation_of}
use Rattle.codes.specs.Fields.{fixed_of, transfer_of, space_code_of, space_count_of, space_count16_of, object_of}
use Rattle.commands.specs.Kinds.{among}
use Rattle.commands.specs.Act.{Seen, Deed, good, checked, at, at_partition, filemark_met, odd_met, beginning_met, read_variable, movement, target_of, destination16, act}
use Rattle.commands.specs.Tests.{tests}
use Rattle.commands.specs.Step.{Stepped, stepped_by, unless}
use Rattle.commands.specs.Call.{Lent, outcome, Result, result_of, partition, looks_at, seen, faulty, applied, written}
use Rattle.exact.specs.Senses.{Tells}

-- ---- met, and where

-- the call answers 8/00/05
abbrev pub MeetsEnd : Result → Type 0
MeetsEnd r = Tells r blank_check no_additional end_of_data_detected

-- "READ, SPACE or LOCATE .. LOCATE (16) included"
abbrev pub meeting_end : List Operation
meeting_end = Read ∷ Space ∷ Locate ∷ Space16 ∷ Locate16 ∷ []

abbrev pub may_meet_end : Operation → Bool
may_meet_end o = among meeting_end o

-- the partition that a call looks at: LOCATE's target, else the current one
abbrev pub looked_at : List ℕ → Lent → List ℕ
looked_at rec x = partition (looks_at (operation_of (code_of x.cmd)) (decode_of rec) x.cmd) x.part0 x.part1

-- "position N of the partition is in the zone", which is "room × 16 < L − 16"
abbrev pub EndsInZone : List ℕ → Type 0
EndsInZone p = room p (count p) * warning_share < length p - trailer_length

-- ---- the call by a rule for EOM at end of data: each definition of commands/specs that cites the bit, with the rule in its place

module _ (rule : Seen → Bool) where
  abbrev pub end_told_by : Bool → Seen → ℤ → Sense
  end_told_by counts v residue = told counts false (rule v) false blank_check no_additional end_of_data_detected residue

  unfoldable pub read_variable_by : Drive → List ℕ → Seen → Option Object → Deed
  read_variable_by d cmd v (some y) = read_variable d cmd v (some y)
  read_variable_by d cmd v none = checked d (end_told_by true v (pos (transfer_of cmd)))

  unfoldable pub run_tells_by : Seen → Ended → ℤ → Option Sense
  run_tells_by v whole z = none
  run_tells_by v odd_length z = some (odd_met z)
  run_tells_by v at_filemark z = some (filemark_met z)
  run_tells_by v at_end z = some (end_told_by true v z)

  abbrev pub read_run_by : Drive → Seen → ℕ → Run → Deed
  read_run_by d v n r = record { drive = at d (d.position + r.crossed); tells = run_tells_by v r.why (sub_ℕ n r.blocks); received = r.bytes; carried = length r.bytes; crossed = 0 }

  unfoldable pub reading_by : Drive → List ℕ → Seen → Deed
  reading_by d cmd v =
      cond (eqb (transfer_of cmd) 0) (good d)
      (cond (fixed_of cmd) (read_run_by d v (transfer_of cmd) (run_of d.block_length (transfer_of cmd) (drop d.position v.objects)))
      (read_variable_by d cmd v (get_elem? v.objects d.position)))

  unfoldable pub space_tells_by : Seen → ℤ → M.Move → Option Sense
  space_tells_by v k m = by m.why k
    where
      by : M.Why → ℤ → Option Sense
      by M.done k = none
      by M.marked k = some (filemark_met (M.residue k m))
      by M.edge (pos n) = some (end_told_by true v (M.residue (pos n) m))
      by M.edge (negsuc n) = some (beginning_met (M.residue (negsuc n) m))

  unfoldable pub spacing_by : Drive → ℕ → ℤ → Seen → Deed
  spacing_by d code k v =
      let m = movement code k d.position v.objects in
      record { drive = at d m.to; tells = space_tells_by v k m; received = []; carried = 0; crossed = m.distance }

  unfoldable pub locate_tells_by : Seen → M.Why → Option Sense
  locate_tells_by v M.done = none
  locate_tells_by v M.marked = none
  locate_tells_by v M.edge = some (end_told_by false v (pos 0))

  unfoldable pub locating_by : Drive → ℕ → M.Destination → Seen → Deed
  locating_by d k t v =
      let m = M.locate t (cond (eqb k d.current) d.position 0) v.objects in
      record { drive = at_partition d k m.to; tells = locate_tells_by v m.why; received = []; carried = 0; crossed = 0 }

  -- every other command is as it is
  unfoldable pub act_by : Operation → Drive → List ℕ → List ℕ → Seen → Deed
  act_by o d cmd sent v =
      cond (among (Read ∷ []) o) (reading_by d cmd v)
      (cond (among (Space ∷ []) o) (spacing_by d (space_code_of cmd) (space_count_of cmd) v)
      (cond (among (Locate ∷ []) o) (locating_by d (target_of Locate d cmd) (M.object (object_of cmd)) v)
      (cond (among (Space16 ∷ []) o) (spacing_by d (space_code_of cmd) (space_count16_of cmd) v)
      (cond (among (Locate16 ∷ []) o) (locating_by d (target_of Locate16 d cmd) (destination16 cmd) v)
      (act o d cmd sent v)))))

-- the call, with the step t where its command acts
unfoldable pub call_with : Stepped → List ℕ → Lent → Result
call_with t rec x =
    let o = operation_of (code_of x.cmd) in
    let d = decode_of rec in
    written rec
    (cond (too_short x.cmd) (outcome (refused command_short) d x)
    (cond (faulty (well_record rec) d x) (outcome (refused record_fault) d x)
    (applied (unless (first (tests o d x.cmd (seen o d x) x.sent (length x.received))) d t) (looks_at o d x.cmd) x)))

abbrev pub call_by : (Seen → Bool) → List ℕ → Lent → Result
call_by rule rec x =
    let o = operation_of (code_of x.cmd) in
    let d = decode_of rec in
    call_with (stepped_by o d x.cmd x.sent (seen o d x) (act_by rule o d x.cmd x.sent (seen o d x))) rec x

-- 01, before Q-2: "EOM 0 (H)"
abbrev pub never : Seen → Bool
never v = false

-- ---- a result with another byte 2 of the kept sense

abbrev pub byte2_at : ℕ
byte2_at = sense_at + 2

abbrev pub with_byte2 : ℕ → Result → Result
with_byte2 b r = result_of r.answer (over r.rec byte2_at (b ∷ [])) r.lent

-- byte 2 of 8/00/05, without EOM and with it
abbrev pub end_byte2 : Bool → ℕ
end_byte2 eom = cond eom (eom_bit + blank_check) blank_check
