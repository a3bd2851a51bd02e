-- What a caller needs to know of a part, whatever part it is.
-- Assumes nothing: this is a definition.
use Rattle.std.specs.Prelude.{ℕ, ◌+◌, ◌≤◌, List, length}
use Rattle.image.specs.declared.part.Part.{Part}

-- a part lies within s
pub record Within (s : List ℕ) (p : Part) : Type 0 where
  pub inside : p.start + p.len ≤ length s
