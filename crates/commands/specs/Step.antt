-- One command as a step over objects, once numbers 1 and 4 find no fault: from the drive, the command, the bytes sent, the length of the receiving
-- buffer and what is seen of the partition looked at; never from a byte of a cartridge. What lays the objects out in bytes takes its events.
-- Assumes nothing: these are definitions.
use Rattle.std.specs.Prelude.{ℕ, Bool, false, ◌&&◌, List, []}
use Rattle.std.proofs.Math.Option.{Option, none, some}
use Rattle.answers.specs.declared.Answer.{Answer}
use Rattle.answers.specs.Answers.{check_condition, refused, answered, first}
use Rattle.objects.specs.Events.{Event}
use Rattle.sense.specs.declared.Sense.{Sense}
use Rattle.sense.specs.Sense.{sense_bytes, plainly, empty_sense, attention_sense}
use Rattle.record.specs.declared.drive.Drive.{Drive}
use Rattle.record.specs.Record.{with_sense}
use Rattle.codes.specs.declared.operation.Operation.{Operation}
use Rattle.codes.specs.Codes.{code_of, operation_of}
use Rattle.codes.specs.Fields.{long_of}
use Rattle.commands.specs.Stop.{Stop, refuse, attend, fault}
use Rattle.commands.specs.Kinds.{erases}
use Rattle.commands.specs.Act.{Seen, Deed, unattended, act, events_of}
use Rattle.commands.specs.Tests.{tests}

-- what a step leaves: its answer, the drive, the bytes laid over the front of the receiving buffer, what it does to the objects of the partition
-- looked at, in order, and whether what they leave free is cleared ("LONG also zeroes end(N) up to the new D")
pub record Stepped : Type 0 where
  pub answer : Answer
  pub drive : Drive
  pub laid : List ℕ
  pub events : List Event
  pub clears : Bool

-- ---- an answer of its own

-- GOOD, or CHECK CONDITION
unfoldable pub status_of : Option Sense → ℕ
status_of none = 0x00
status_of (some s) = check_condition

-- what replaces the kept sense: "by empty on GOOD"
unfoldable pub kept_of : Option Sense → List ℕ
kept_of none = empty_sense
kept_of (some s) = sense_bytes s

-- status 02h, nothing carried, nothing crossed
abbrev pub check_answer : Answer
check_answer = answered check_condition 0 0

-- ---- stopped, or done

-- a step that moves no data and touches no object
abbrev pub quietly : Answer → Drive → Stepped
quietly a d = record { answer = a; drive = d; laid = []; events = []; clears = false }

-- a refusal leaves the drive; the attention is answered and cleared; a fault is the new sense
unfoldable pub stopped : Stop → Drive → Stepped
stopped (refuse n) d = quietly (refused n) d
stopped attend d = quietly check_answer (with_sense (unattended d) (attention_sense d.attention))
stopped (fault key asc ascq) d = quietly check_answer (with_sense d (sense_bytes (plainly key asc ascq)))

-- a deed of the command, with the kept sense replaced
abbrev pub stepped_by : Operation → Drive → List ℕ → List ℕ → Seen → Deed → Stepped
stepped_by o d cmd sent v e = record {
  answer = answered (status_of e.tells) e.carried e.crossed;
  drive = with_sense e.drive (kept_of e.tells);
  laid = e.received;
  events = events_of o d cmd sent v;
  clears = erases o && long_of cmd;
}

-- its act
unfoldable pub acted : Operation → Drive → List ℕ → List ℕ → Seen → Stepped
acted o d cmd sent v = stepped_by o d cmd sent v (act o d cmd sent v)

-- the first test that holds decides; where none does, the command acts
unfoldable pub unless : Option Stop → Drive → Stepped → Stepped
unless (some s) d t = stopped s d
unless none d t = t

-- the step
unfoldable pub step : Drive → List ℕ → List ℕ → ℕ → Seen → Stepped
step d cmd sent room v =
    let o = operation_of (code_of cmd) in
    unless (first (tests o d cmd v sent room)) d (acted o d cmd sent v)
