-- What the code's cases of a stop stand for.
-- Assumes nothing: these are definitions.
use Rattle.std.specs.Prelude.{Result, Ok, Err}
use Rattle.std.proofs.Math.Option.{Option, none, some}
use Rattle.answers.specs.Answers.{number_of}
use Rattle.commands.specs.Stop as S
use Rattle.order.specs.declared.Stop.{Stop}
use Rattle.order.specs.declared.Stop.TheVariants.{Refuse, Attend, Fault}

-- a passed test stops nothing
abbrev pub stop_of : Result (Unit {0}) Stop → Option S.Stop
stop_of (Ok u) = none
stop_of (Err (Refuse r)) = some (S.refuse (number_of r))
stop_of (Err Attend) = some S.attend
stop_of (Err (Fault code)) = some (S.fault code.key code.asc code.ascq)
