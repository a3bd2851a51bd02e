-- Document 01's worked SPACEs, LOCATE by file (Q-1), and the traps beside them, by computing the movement.
-- Assumes nothing.
use Prim.Native.Nat.{ℕ, ◌-◌, ◌^◌}
use mathlib.Core.Path.{◌≡◌, refl}
use mathlib.Core.List.{List, [], ◌∷◌}
use lib.IntN.{ℤ, pos, negsuc}
use Rattle.objects.specs.Object.{Object, filemark, block}
use Rattle.objects.specs.Movement.{Code, blocks, filemarks, Why, done, marked, edge, walk, before, ahead, astern, space, residue, to_file}

-- SPACE over c by the count k from position p of xs ends at q, for w, with the residue r
abbrev pub Ends : List Object → Code → ℤ → ℕ → ℕ → Why → ℤ → Type 0
Ends xs c k p q w r = ((space c k p xs).to ≡ q) × ((space c k p xs).why ≡ w) × (residue k (space c k p xs) ≡ r)

-- the cartridge E of 01: a block of three bytes and a filemark
abbrev pub objects_of_e : List Object
objects_of_e = block (1 ∷ 2 ∷ 3 ∷ []) ∷ filemark ∷ []

-- two blocks, a filemark, a block, a filemark
abbrev pub bbfbf : List Object
bbfbf = block (1 ∷ []) ∷ block (2 ∷ []) ∷ filemark ∷ block (3 ∷ []) ∷ filemark ∷ []

-- P10: back over a filemark ends before it, and counts nothing
pub blocks_back_marked : Ends objects_of_e blocks (negsuc 4) 2 1 marked (negsuc 4)
unfolding space walk before ahead astern residue
blocks_back_marked = (refl, refl, refl)

-- P11: back to the beginning counts the block
pub blocks_back_edge : Ends objects_of_e blocks (negsuc 4) 1 0 edge (negsuc 3)
unfolding space walk before ahead astern residue
blocks_back_edge = (refl, refl, refl)

-- a block counts before the filemark that ends the movement
pub blocks_back_some : Ends bbfbf blocks (negsuc 2) 4 2 marked (negsuc 1)
unfolding space walk before ahead astern residue
blocks_back_some = (refl, refl, refl)

pub filemarks_back_edge : Ends bbfbf filemarks (negsuc 2) 5 0 edge (negsuc 0)
unfolding space walk before ahead astern residue
filemarks_back_edge = (refl, refl, refl)

pub filemarks_back_done : Ends bbfbf filemarks (negsuc 1) 5 2 done (pos 0)
unfolding space walk before ahead astern residue
filemarks_back_done = (refl, refl, refl)

pub filemarks_on_edge : Ends bbfbf filemarks (pos 3) 0 5 edge (pos 1)
unfolding space walk before ahead astern residue
filemarks_on_edge = (refl, refl, refl)

-- the largest count of 64 bits: the walk ends with the objects, whatever the count
pub blocks_on_largest : Ends objects_of_e blocks (pos (2 ^ 63 - 1)) 0 2 marked (pos (2 ^ 63 - 2))
unfolding space walk before ahead astern residue
blocks_on_largest = (refl, refl, refl)

-- LOCATE to file f from position p of xs ends at q, for w
abbrev Lands : List Object → ℕ → ℕ → ℕ → Why → Type 0
Lands xs f p q w = ((to_file p f xs).to ≡ q) × ((to_file p f xs).why ≡ w)

-- file 0 is the beginning, file 1 lies just after the first filemark, the last file may be empty, and past it lies end of data
pub files_of_bbfbf : Lands bbfbf 0 4 0 done × Lands bbfbf 1 4 3 done × Lands bbfbf 2 0 5 done × Lands bbfbf 3 0 5 edge
unfolding to_file walk
files_of_bbfbf = ((refl, refl), (refl, refl), (refl, refl), (refl, refl))
