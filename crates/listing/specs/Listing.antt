-- What the listing program writes for an image (01, "The listing program").
-- Assumes nothing: these are definitions.
use Rattle.std.specs.Prelude.{ℕ, suc, cond, List, [], ◌∷◌, ◌++◌, length, leb, eqb}
use Rattle.answers.specs.Answers.{wrong_length}
use Rattle.objects.specs.Object.{Object, filemark, block}
use Rattle.image.specs.Image.{count, room, objects, fault_of}
use Rattle.listing.specs.Text.{decimal, word_objects, word_free, word_block, word_filemark, word_refused, newline}

-- "input above 65,536 bytes counts as 7"
abbrev pub most_input : ℕ
most_input = 65536

-- the refusal of an input: by mount's rules 7 and 6, or 0
unfoldable pub refusal : List ℕ → ℕ
refusal s = cond (leb (length s) most_input) (fault_of s) wrong_length

-- a line for the object at number i: its number, its kind, and for a block its length
unfoldable pub line : ℕ → Object → List ℕ
line i filemark = decimal i ++ word_filemark ++ newline
line i (block bs) = decimal i ++ word_block ++ decimal (length bs) ++ newline

-- the lines of the objects xs, the first of which has number i
unfoldable pub lines : ℕ → List Object → List ℕ
lines i [] = []
lines i (x ∷ xs) = line i x ++ lines (suc i) xs

-- "Line one: N, room at N."
unfoldable pub heading : List ℕ → List ℕ
heading s = word_objects ++ decimal (count s) ++ word_free ++ decimal (room s (count s)) ++ newline

-- "Input refused by mount's rule 7 or 6 gives the one line `refused 7` or `refused 6`"
unfoldable pub listing : List ℕ → List ℕ
listing s = cond (eqb (refusal s) 0) (heading s ++ lines 0 (objects s)) (word_refused ++ decimal (refusal s) ++ newline)
