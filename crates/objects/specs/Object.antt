-- What stands on a partition: blocks and filemarks, in order.
-- Assumes nothing: these are definitions.
use Rattle.std.specs.Prelude.{ℕ, suc, ◌+◌, Bool, true, false, List, [], ◌∷◌, length}

-- a block has 1 to so many bytes. Q-7: "Raise the largest block from 65,536 to 1,048,576 bytes"; 01 had 65,536 for an image, the record, MODE SELECT
-- and variable WRITE, and 00 01 00 00 00 01 for READ BLOCK LIMITS: all cite this
abbrev pub largest_block : ℕ
largest_block = 1048576

pub data Object : Type 0 where
  filemark : Object
  block : List ℕ → Object

abbrev pub is_filemark : Object → Bool
is_filemark filemark = true
is_filemark (block bs) = false

-- the bytes of an object: a filemark has none
abbrev pub data_of : Object → List ℕ
data_of filemark = []
data_of (block bs) = bs

-- how many bytes the objects hold together
unfoldable pub bytes_in : List Object → ℕ
bytes_in [] = 0
bytes_in (x ∷ xs) = length (data_of x) + bytes_in xs

-- how many filemarks are among them
unfoldable pub filemarks_in : List Object → ℕ
filemarks_in [] = 0
filemarks_in (filemark ∷ xs) = suc (filemarks_in xs)
filemarks_in (block bs ∷ xs) = filemarks_in xs
