-- The tests' first stop, or the act.
-- Assumes nothing.
use mathlib.Core.Path.{ap, ◌∙◌}
use Rattle.std.specs.Prelude.{Err}
use Rattle.codes.proofs.Rules.{long_enough}
use Rattle.commands.specs.Step.{stopped}
use Rattle.order.specs.Stops.{stop_of}
use Rattle.step.proofs.Steps.{stops, acts, free}
use Rattle.step.proofs.stepping.step.Goals as goal

pub bounds-cmd-0 : goal.bounds-cmd-0
bounds-cmd-0 c = (long_enough _ c.requires.0).0

pub acts-requires : goal.acts-requires
acts-requires c =
    let p = c.requires in
    (p.1, p.2, free _ _ _ _ _ _ _ c.from-o.ensures _ c.is_guarded-guarded.ensures _ c.stop_of.ensures p.0 (ap stop_of c.in-Ok.is))

pub returns-in-Ok : goal.returns-in-Ok
returns-in-Ok c = c.acts.ensures ∙ acts _ _ _ _ _ _ _ c.from-o.ensures _ c.is_guarded-guarded.ensures _ c.stop_of.ensures (ap stop_of c.in-Ok.is)

pub returns-in-Err-Refuse : goal.returns-in-Err-Refuse
unfolding stopped
returns-in-Err-Refuse c =
    let e = ap stop_of (c.in-Err-Refuse.is ∙ ap Err c.in-Err-Refuse.field-0-is) in
    rw c.in-Err-Refuse.refusal-is (stops _ _ _ _ _ _ _ c.from-o.ensures _ c.is_guarded-guarded.ensures _ c.stop_of.ensures _ e)

pub returns-in-Err-Attend : goal.returns-in-Err-Attend
unfolding stopped
returns-in-Err-Attend c =
    let e = ap stop_of (c.in-Err-Attend.is ∙ ap Err c.in-Err-Attend.field-0-is) in
    let t = stops _ _ _ _ _ _ _ c.from-o.ensures _ c.is_guarded-guarded.ensures _ c.stop_of.ensures _ e in
    rw (c.checks.ensures.1, c.checks.ensures.0, c.unattended.ensures, c.of_attention.ensures) t

pub returns-in-Err-Fault : goal.returns-in-Err-Fault
unfolding stopped
returns-in-Err-Fault c =
    let e = ap stop_of (c.in-Err-Fault.is ∙ ap Err c.in-Err-Fault.field-0-is) in
    let t = stops _ _ _ _ _ _ _ c.from-o.ensures _ c.is_guarded-guarded.ensures _ c.stop_of.ensures _ e in
    rw (c.checks-in-Err-Fault.ensures.1, c.checks-in-Err-Fault.ensures.0, c.plainly.ensures, c.in-Err-Fault.code-is) t
