-- It calls itself on a tenth of its number, and the number is the measure.
use Rattle.listing.proofs.text.+append_number.Given as goal

abbrev pub decreases-append_number : goal.decreases-append_number
decreases-append_number l = l.n
