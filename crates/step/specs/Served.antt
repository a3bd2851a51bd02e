-- What a command leaves, in the words of the definition: its drive and answer, with the slices as they then are.
-- Assumes nothing: these are definitions.
use Rattle.std.specs.Prelude.{Bool, false, cond, List, ltb, ℕ, Result, Ok, Err}
use Rattle.answers.specs.declared.Answer.{Answer}
use Rattle.answers.specs.declared.Refusal.{Refusal}
use Rattle.answers.specs.Answers.{answer_of, number_of, refused}
use Rattle.image.specs.Image.{protected}
use Rattle.record.specs.declared.drive.Drive.{Drive}
use Rattle.deeds.specs.declared.deeds.Left.{Left}
use Rattle.commands.specs.Call.{Lent, Outcome, outcome, partition}
use Rattle.step.specs.declared.stepping.Served.{Served}

-- the answer of a command that is not refused
abbrev pub answer_in : Served → Answer
answer_in s = answer_of (Ok s.reply)

-- d is the drive before the command: a refusal leaves it
abbrev pub outcome_of : Drive → Result Served Refusal → Lent → Outcome
outcome_of d (Ok s) x = outcome (answer_in s) s.drive x
outcome_of d (Err e) x = outcome (refused (number_of e)) d x

-- what is reported of an act
abbrev pub served_of : Left → Served
served_of l = record { drive = l.drive; reply = record { status = l.status; carried = l.carried; crossed = l.crossed } }

-- whether the current partition is protected; not so where there is none
unfoldable pub guarded_now : Drive → List ℕ → List ℕ → Bool
guarded_now d p0 p1 = cond (ltb d.current d.partitions) (protected (partition d.current p0 p1)) false
