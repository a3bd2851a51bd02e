-- The view: which part of which of the two lent partition slices it hands out (01, "Answers of a call").
-- Assumes nothing: these are definitions.
use Rattle.std.specs.Prelude.{ℕ, Bool, false, cond, List, eqb}
use Rattle.answers.specs.Answers.{packed_part}
use Rattle.image.specs.declared.part.Part.{Part}
use Rattle.image.specs.Parts.{empty_part, has_block, part_of}

-- "Partition numbers are 0 and 1; others give the empty part."
unfoldable pub view_of : List ℕ → List ℕ → ℕ → ℕ → Part
view_of p0 p1 k i = cond (eqb k 0) (part_of p0 i) (cond (eqb k 1) (part_of p1 i) empty_part)

-- it is a block
abbrev pub has_view : List ℕ → List ℕ → ℕ → ℕ → Bool
has_view p0 p1 k i = cond (eqb k 0) (has_block p0 i) (cond (eqb k 1) (has_block p1 i) false)

-- the slice that a view is a part of: partition 1's for the number 1, else partition 0's (for another number the part is empty)
abbrev pub chosen : List ℕ → List ℕ → ℕ → List ℕ
chosen p0 p1 k = cond (eqb k 1) p1 p0

-- and where it lies in memory
abbrev pub chosen_place : ℕ × ℕ → ℕ × ℕ → ℕ → ℕ × ℕ
chosen_place q0 q1 k = cond (eqb k 1) q1 q0

-- what C gets of it: start and length in one number, 0 if empty
abbrev pub view_number : List ℕ → List ℕ → ℕ → ℕ → ℕ
view_number p0 p1 k i = let p = view_of p0 p1 k i in packed_part p.start p.len
