-- Behind line one stand the lines of the first i objects, and the text's length is as it was.
-- Assumes nothing.
use mathlib.Core.Path.{◌≡◌}
use lib.ListN.{length}
use Rattle.image.specs.Image.{object_at, upto}
use Rattle.listing.specs.Listing.{lines}
use Rattle.listing.proofs.Appended.{Appended}
use Rattle.listing.proofs.text.list_objects.Given as goal

abbrev pub invariant-loop-i : goal.invariant-loop-i
invariant-loop-i l =
    (length l.text ≡ length l.initial.text) × Appended l.initial.text l.initial.at (lines 0 (upto (object_at l.image) l.i)) l.text l.at
