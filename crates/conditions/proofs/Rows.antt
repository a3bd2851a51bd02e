-- One command and another, told apart by their numbers.
-- Assumes nothing.
use Prim.Native.Nat.{ℕ}
use mathlib.Core.Path.{◌≡◌, refl}
use mathlib.Core.Bool.{Bool, true, false, cond}
use mathlib.Core.List.{[], ◌∷◌}
use lib.Dec.{eqb}
use Rattle.codes.specs.declared.operation.Operation.{Operation}
use Rattle.codes.specs.Codes.{number_of}
use Rattle.commands.specs.Kinds.{among}

pub same_numbers : (o x : Operation) (n m : ℕ) → n ≡ number_of o → m ≡ number_of x → eqb n m ≡ among (x ∷ []) o
same_numbers o x n m en em = rw (en, em) (itself (eqb (number_of o) (number_of x)))
  where
    itself : (t : Bool) → t ≡ cond t true false
    itself true = refl
    itself false = refl
