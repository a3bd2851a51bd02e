-- The tests look at the partition only for its protection, and only where the command writes.
-- Assumes nothing.
use Prim.Native.Nat.{ℕ}
use mathlib.Core.Path.{◌≡◌, refl}
use mathlib.Core.Bool.{Bool, true, false, ◌&&◌}
use mathlib.Core.List.{List}
use Rattle.record.specs.declared.drive.Drive.{Drive}
use Rattle.codes.specs.declared.operation.Operation.{Operation}
use Rattle.answers.specs.Answers.{first}
use Rattle.commands.specs.Kinds.{writes}
use Rattle.commands.specs.Act.{Seen}
use Rattle.commands.specs.Tests.{tests}

module _ (d : Drive) (cmd : List ℕ) (v w : Seen) where
  guard_alike : (t : Bool) → (t ≡ true → v.guarded ≡ w.guarded) → t && v.guarded ≡ t && w.guarded
  guard_alike true h = h refl
  guard_alike false h = refl

  pub tests_alike : (o : Operation) (sent : List ℕ) (room : ℕ) → (writes o ≡ true → v.guarded ≡ w.guarded) → first (tests o d cmd v sent room) ≡ first (tests o d cmd w sent room)
  unfolding tests
  tests_alike o sent room h = rw (guard_alike (writes o) h) refl
