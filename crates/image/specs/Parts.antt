-- The part of an image that a block is: where it lies, its bytes, its place in memory (01, "Answers of a call": the view).
-- Assumes nothing: these are definitions.
use Rattle.std.specs.Prelude.{ℕ, suc, ◌+◌, ◌-◌, Bool, cond, not, ◌&&◌, List, Option, Some, None, nat_lt}
use Rattle.std.proofs.Math.Seq.{slice}
use Rattle.image.specs.declared.part.Part.{Part}
use Rattle.image.specs.Image.{sound, count, entry, top_bit, end_at}

abbrev pub empty_part : Part
empty_part = record { start = 0; len = 0 }

-- object i is a block of a sound image
abbrev pub has_block : List ℕ → ℕ → Bool
has_block s i = sound s && nat_lt i (count s) && not (top_bit (entry s i))

-- where block i lies; "unsound, no such object or a filemark: the empty part"
unfoldable pub part_of : List ℕ → ℕ → Part
part_of s i = cond (has_block s i) (record { start = end_at s i; len = end_at s (suc i) - end_at s i }) empty_part

-- the part that was found, where none is the empty part
abbrev pub or_empty : Option Part → Part
or_empty (Some p) = p
or_empty None = empty_part

-- the bytes of a part
abbrev pub shown : List ℕ → Part → List ℕ
shown s p = slice p.start (p.start + p.len) s

-- its place in memory, for a slice that lies at q (which allocation, and the offset there)
abbrev pub place_of : ℕ × ℕ → Part → ℕ × ℕ
place_of q p = (q.0, p.start + q.1)
