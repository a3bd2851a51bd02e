-- The whole call of a command: number 1, number 4, and the step with its events laid out in the partition looked at; on a drive by value and on the
-- bytes of its record (01, "Answers of a call").
-- Assumes nothing: these are definitions.
use Rattle.std.specs.Prelude.{ℕ, Bool, true, false, cond, not, ◌&&◌, List, [], ◌∷◌, eqb, leb, ltb, length}
use Rattle.words.specs.Words.{over}
use Rattle.answers.specs.declared.Answer.{Answer}
use Rattle.answers.specs.Answers.{command_short, record_fault, refused, packed}
use Rattle.image.specs.Image.{count, protected, sound, objects}
use Rattle.changes.specs.Changes.{occurs, cleared}
use Rattle.record.specs.declared.drive.Drive.{Drive}
use Rattle.record.specs.Record.{decode_of, encode_of, well_formed, well_record}
use Rattle.codes.specs.Codes.{code_of, too_short, operation_of}
use Rattle.codes.specs.declared.operation.Operation.{Operation}
use Rattle.image.specs.Image.{absent}
use Rattle.commands.specs.Stop.{Stop, refuse}
use Rattle.commands.specs.Kinds.{locates}
use Rattle.commands.specs.Act.{Seen, target_of}
use Rattle.commands.specs.Tests.{tests}
use Rattle.commands.specs.Step.{Stepped, step}

-- ---- the slices of a call, beside the record

pub record Lent : Type 0 where
  pub cmd : List ℕ
  pub part0 : List ℕ
  pub part1 : List ℕ
  pub sent : List ℕ
  pub received : List ℕ

abbrev pub lent : List ℕ → List ℕ → List ℕ → List ℕ → List ℕ → Lent
lent cmd p0 p1 sent received = record { cmd = cmd; part0 = p0; part1 = p1; sent = sent; received = received }

-- one of the two partitions, by its number
abbrev pub partition : ℕ → List ℕ → List ℕ → List ℕ
partition k p0 p1 = cond (eqb k 1) p1 p0

-- ---- what a command looks at and sees

-- LOCATE looks at its target, all else at the current partition
unfoldable pub looks_at : Operation → Drive → List ℕ → ℕ
looks_at o d cmd = cond (locates o) (target_of o d cmd) d.current

unfoldable pub seen_of : List ℕ → Seen
seen_of p = record { size = length p; guarded = protected p; objects = objects p }

abbrev pub nothing : Seen
nothing = record { size = 0; guarded = false; objects = [] }

-- "Partition slices aren't looked at while unloaded"; one that is not there is seen as nothing
unfoldable pub seen : Operation → Drive → Lent → Seen
seen o d x = cond (ltb (looks_at o d x.cmd) d.partitions) (seen_of (partition (looks_at o d x.cmd) x.part0 x.part1)) nothing

-- ---- number 4, beyond the record

-- "loaded and a lent partition unsound, or the second is empty not exactly when there is one partition, or position above N"
unfoldable pub inserted : Drive → List ℕ → List ℕ → Bool
inserted d p0 p1 =
    cond (eqb d.loaded 1)
    (sound p0 && cond (eqb d.partitions 1) (absent p1) (sound p1) && leb d.position (count (partition d.current p0 p1)))
    true

-- `well` says that the record is well formed
abbrev pub faulty : Bool → Drive → Lent → Bool
faulty well d x = not (well && inserted d x.part0 x.part1)

-- ---- what a call leaves, by value

pub record Outcome : Type 0 where
  pub answer : Answer
  pub drive : Drive
  pub lent : Lent

abbrev pub outcome : Answer → Drive → Lent → Outcome
outcome a d x = record { answer = a; drive = d; lent = x }

-- the events of a step laid out in an image, and what they leave free cleared
unfoldable pub laid_out : Stepped → List ℕ → List ℕ
laid_out t p = cond t.clears (cleared (occurs t.events p)) (occurs t.events p)

-- partition k, which is looked at, is changed, the other never
unfoldable pub applied : Stepped → ℕ → Lent → Outcome
applied t k x =
    outcome t.answer t.drive
    (lent x.cmd (cond (eqb k 1) x.part0 (laid_out t x.part0)) (cond (eqb k 1) (laid_out t x.part1) x.part1) x.sent (over x.received 0 t.laid))

-- the step of a command on what is lent
unfoldable pub step_of : Drive → Lent → Outcome
step_of d x =
    let o = operation_of (code_of x.cmd) in
    applied (step d x.cmd x.sent (length x.received) (seen o d x)) (looks_at o d x.cmd) x

-- number 1, number 4, the step; a refusal leaves every byte
unfoldable pub called : Bool → Drive → Lent → Outcome
called well d x =
    cond (too_short x.cmd) (outcome (refused command_short) d x)
    (cond (faulty well d x) (outcome (refused record_fault) d x)
    (step_of d x))

-- on a drive by value
unfoldable pub drive_call : Drive → Lent → Outcome
drive_call d x = called (well_formed d) d x

-- ---- and on bytes

pub record Result : Type 0 where
  pub answer : Answer
  pub rec : List ℕ
  pub lent : Lent

abbrev pub result_of : Answer → List ℕ → Lent → Result
result_of a rec x = record { answer = a; rec = rec; lent = x }

-- a refused call leaves the record's bytes as they are; any other leaves those of the drive after it
abbrev pub written : List ℕ → Outcome → Result
written rec o = result_of o.answer (cond (eqb o.answer.refusal 0) (encode_of o.drive) rec) o.lent

unfoldable pub command_call : List ℕ → Lent → Result
command_call rec x = written rec (called (well_record rec) (decode_of rec) x)

-- ---- what C gets: the number returned in place of the answer

pub record Returned : Type 0 where
  pub number : ℕ
  pub rec : List ℕ
  pub lent : Lent

abbrev pub returned : ℕ → List ℕ → Lent → Returned
returned n rec x = record { number = n; rec = rec; lent = x }

abbrev pub numbered_result : Result → Returned
numbered_result o = returned (packed o.answer) o.rec o.lent

-- ---- "Command order: 1; 4; ..": all its tests as one list; the first that holds is what the call does (`call_stops`, `call_acts`, proofs/Ends.antt)

unfoldable pub command_tests : List ℕ → Lent → List (Bool × Stop)
command_tests rec x =
    let o = operation_of (code_of x.cmd) in
    (too_short x.cmd, refuse command_short)
    ∷ (faulty (well_record rec) (decode_of rec) x, refuse record_fault)
    ∷ tests o (decode_of rec) x.cmd (seen o (decode_of rec) x) x.sent (length x.received)
