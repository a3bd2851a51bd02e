-- A refused command leaves the drive; and a refusal has a number other than 0.
-- Assumes nothing.
use native.Mathlib.Omega.{arith}
use mathlib.Core.Path.{◌≡◌, refl, ap, ◌∙◌, subst}
use mathlib.Core.Bool.{Bool, true, false, cond}
use mathlib.Core.Option.{Option, none, some}
use lib.ListN.{length}
use Rattle.answers.specs.declared.Refusal.{Refusal}
use Rattle.answers.specs.declared.Refusal.TheVariants.{CommandShort, SentShort, ReceivedShort, RecordFault, AlreadyLoaded, UnsoundImage, WrongLength}
use Rattle.answers.specs.Answers.{command_short, record_fault, refused, number_of, first}
use Rattle.record.specs.declared.drive.Drive.{Drive}
use Rattle.record.specs.Record.{well_formed}
use Rattle.codes.specs.Codes.{code_of, too_short, operation_of}
use Rattle.commands.specs.Stop.{Stop, refuse, attend, fault}
use Rattle.commands.specs.Tests.{tests}
use Rattle.commands.specs.Step.{stopped, acted, unless, step}
use Rattle.commands.specs.Call.{Lent, Outcome, outcome, looks_at, seen, faulty, applied, step_of, called, drive_call}

pub is_number : (r : Refusal) → number_of r ≡ 0 → ⊥
is_number CommandShort e = omega arith
is_number SentShort e = omega arith
is_number ReceivedShort e = omega arith
is_number RecordFault e = omega arith
is_number AlreadyLoaded e = omega arith
is_number UnsoundImage e = omega arith
is_number WrongLength e = omega arith

module _ (d : Drive) (x : Lent) where
  -- by what its tests find
  abbrev by : Bool → Bool → Option Stop → Outcome
  by short faults s =
      let o = operation_of (code_of x.cmd) in
      cond short (outcome (refused command_short) d x)
      (cond faults (outcome (refused record_fault) d x)
      (applied (unless s d (acted o d x.cmd x.sent (seen o d x))) (looks_at o d x.cmd) x))

  stays : (short faults : Bool) (s : Option Stop) → ((by short faults s).answer.refusal ≡ 0 → ⊥) → (by short faults s).drive ≡ d
  unfolding applied unless stopped acted
  stays true f s z = refl
  stays false true s z = refl
  stays false false (some (refuse n)) z = refl
  stays false false (some attend) z = absurd (z refl)
  stays false false (some (fault k a q)) z = absurd (z refl)
  stays false false none z = absurd (z refl)

  -- so what a refused command left of the drive, e, is d
  pub kept : (r : Refusal) (e : Drive) (y : Lent) → outcome (refused (number_of r)) e y ≡ drive_call d x → outcome (refused (number_of r)) d y ≡ drive_call d x
  unfolding drive_call called step_of step
  kept r e y h =
      let o = operation_of (code_of x.cmd) in
      let z = stays (too_short x.cmd) (faulty (well_formed d) d x) (first (tests o d x.cmd (seen o d x) x.sent (length x.received))) (λ q. is_number r (ap (λ (o : Outcome). o.answer.refusal) h ∙ q)) in
      subst (λ (e : Drive). outcome (refused (number_of r)) e y ≡ drive_call d x) (ap (λ (o : Outcome). o.drive) h ∙ z) h
