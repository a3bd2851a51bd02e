-- The call of a command by its tests: where one stops it, what that stop leaves; where none does, what the act leaves.
-- Assumes nothing.
use Prim.Native.Nat.{ℕ, ◌<◌}
use mathlib.Core.Path.{◌≡◌, refl, ap, subst}
use mathlib.Core.Bool.{Bool, true, false, cond}
use mathlib.Core.Option.{none, some}
use mathlib.Core.List.{List, ◌∷◌}
use native.Mathlib.Omega.{arith}
use borrow.Author.Tests.{ne_eqb}
use lib.Dec.{eqb}
use lib.ListN.{length}
use Rattle.words.proofs.Laws.{over_nil}
use Rattle.answers.specs.Answers.{command_short, record_fault, refused, first}
use Rattle.changes.specs.Changes.{occurs}
use Rattle.record.specs.declared.drive.Drive.{Drive}
use Rattle.record.specs.Record.{decode_of, well_record}
use Rattle.codes.specs.declared.operation.Operation.{Operation}
use Rattle.codes.specs.Codes.{code_of, too_short, operation_of}
use Rattle.commands.specs.Stop.{Stop, refuse, attend, fault}
use Rattle.commands.specs.Tests.{tests}
use Rattle.commands.specs.Step.{stopped, acted, unless, step}
use Rattle.commands.specs.Call.{Lent, outcome, Outcome, result_of, looks_at, seen, faulty, laid_out, applied, step_of, called, written, command_call, command_tests}

-- ---- what a step that is stopped leaves, and one that acts

same_way : (t : Bool) (p : List ℕ) → cond t p p ≡ p
same_way true p = refl
same_way false p = refl

-- the slices as they were
abbrev pub stopped_at : Stop → Drive → Lent → Outcome
stopped_at s d x = outcome (stopped s d).answer (stopped s d).drive x

quiet : (s : Stop) (d : Drive) (k : ℕ) (x : Lent) → applied (stopped s d) k x ≡ stopped_at s d x
unfolding applied stopped laid_out occurs
quiet (refuse n) d k x = rw (same_way (eqb k 1) x.part0, same_way (eqb k 1) x.part1, over_nil x.received 0) refl
quiet attend d k x = rw (same_way (eqb k 1) x.part0, same_way (eqb k 1) x.part1, over_nil x.received 0) refl
quiet (fault key a q) d k x = rw (same_way (eqb k 1) x.part0, same_way (eqb k 1) x.part1, over_nil x.received 0) refl

module _ (d : Drive) (x : Lent) where
  abbrev o : Operation
  o = operation_of (code_of x.cmd)

  abbrev pub Tests : List (Bool × Stop)
  Tests = tests (operation_of (code_of x.cmd)) d x.cmd (seen (operation_of (code_of x.cmd)) d x) x.sent (length x.received)

  -- what the act makes of the slices
  abbrev pub ActedOn : Outcome
  ActedOn = applied (acted (operation_of (code_of x.cmd)) d x.cmd x.sent (seen (operation_of (code_of x.cmd)) d x)) (looks_at (operation_of (code_of x.cmd)) d x.cmd) x

  pub step_stops : (s : Stop) → first Tests ≡ some s → step_of d x ≡ stopped_at s d x
  unfolding step_of step unless
  step_stops s e = rw e (quiet s d (looks_at o d x.cmd) x)

  pub step_acts : first Tests ≡ none → step_of d x ≡ ActedOn
  unfolding step_of step unless
  step_acts e = rw e refl

module _ (rec : List ℕ) (x : Lent) where
  -- ---- what the call leaves

  -- a refusal by number leaves every byte
  pub refused_leaves : (n : ℕ) → 0 < n → written rec (stopped_at (refuse n) (decode_of rec) x) ≡ result_of (refused n) rec x
  unfolding stopped
  refused_leaves n h = rw (ne_eqb n 0 (λ e. omega arith)) refl

  -- where the list stops it, the call leaves what the stop leaves
  pub call_stops : (s : Stop) → first (command_tests rec x) ≡ some s → command_call rec x ≡ written rec (stopped_at s (decode_of rec) x)
  unfolding command_call command_tests called
  call_stops s e = ap (written rec) (go (too_short x.cmd) (faulty (well_record rec) (decode_of rec) x) e)
    where
      short : (n : ℕ) → refuse n ≡ s → outcome (refused n) (decode_of rec) x ≡ stopped_at s (decode_of rec) x
      short n q = subst (λ (t : Stop). outcome (refused n) (decode_of rec) x ≡ stopped_at t (decode_of rec) x) q (unfold stopped in refl)

      go : (a b : Bool) → first ((a, refuse command_short) ∷ (b, refuse record_fault) ∷ Tests (decode_of rec) x) ≡ some s
          → cond a (outcome (refused command_short) (decode_of rec) x) (cond b (outcome (refused record_fault) (decode_of rec) x) (step_of (decode_of rec) x)) ≡ stopped_at s (decode_of rec) x
      go true b e = unfold first in short command_short cc
      go false true e = unfold first in short record_fault cc
      go false false e = unfold first in step_stops (decode_of rec) x s e

  -- and where no test holds, it acts
  pub call_acts : first (command_tests rec x) ≡ none → command_call rec x ≡ written rec (ActedOn (decode_of rec) x)
  unfolding command_call command_tests called
  call_acts e = ap (written rec) (go (too_short x.cmd) (faulty (well_record rec) (decode_of rec) x) e)
    where
      go : (a b : Bool) → first ((a, refuse command_short) ∷ (b, refuse record_fault) ∷ Tests (decode_of rec) x) ≡ none
          → cond a (outcome (refused command_short) (decode_of rec) x) (cond b (outcome (refused record_fault) (decode_of rec) x) (step_of (decode_of rec) x)) ≡ ActedOn (decode_of rec) x
      go true b e = absurd (unfold first in let z : ◌≡◌ {A = ℕ} 0 1 = cc in omega arith)
      go false true e = absurd (unfold first in let z : ◌≡◌ {A = ℕ} 0 1 = cc in omega arith)
      go false false e = unfold first in step_acts (decode_of rec) x e
