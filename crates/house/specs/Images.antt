-- The house services that alter an image: blank and protection (01, "Answers of a call").
-- Assumes nothing: these are definitions.
use Rattle.std.specs.Prelude.{ℕ, Bool, not, List, [], ◌∷◌}
use Rattle.answers.specs.Answers.{Settled, first, refusal_of, settled_by, wrong_length}
use Rattle.image.specs.Image.{right_length, fault_of}
use Rattle.trailers.specs.Trailers.{blank, protect}

-- blank: 7, else done
abbrev pub blank_tests : List ℕ → List (Bool × ℕ)
blank_tests s = (not (right_length s), wrong_length) ∷ []

unfoldable pub blank_call : List ℕ → Settled
blank_call s = settled_by (refusal_of (first (blank_tests s))) s (blank s)

-- protection: 7, then 6, else flag bit 0
unfoldable pub protect_call : Bool → List ℕ → Settled
protect_call on s = settled_by (fault_of s) s (protect on s)
