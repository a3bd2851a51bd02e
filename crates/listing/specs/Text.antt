-- Text in ASCII: a number in decimal, with no leading zero, and the words of the listing.
-- Assumes nothing: these are definitions.
use Rattle.std.specs.Prelude.{ℕ, zero, suc, ◌+◌, ◌/◌, ◌%◌, true, false, List, [], ◌∷◌, ◌++◌, ltb, codes}

-- the digit d
abbrev pub digit : ℕ → ℕ
digit d = 0x30 + d

-- the decimal digits of n, of which there are at most k + 1
unfoldable pub digits : ℕ → ℕ → List ℕ
digits zero n = digit n ∷ []
digits (suc k) n = elim (ltb n 10) [ true ↦ digit n ∷ [] | false ↦ digits k (n / 10) ++ digit (n % 10) ∷ [] ]

-- n in decimal: a number n has at most n + 1 digits
unfoldable pub decimal : ℕ → List ℕ
decimal n = digits n n

-- the words
abbrev pub word_objects : List ℕ
word_objects = codes "objects "

abbrev pub word_free : List ℕ
word_free = codes " free "

abbrev pub word_block : List ℕ
word_block = codes " block "

abbrev pub word_filemark : List ℕ
word_filemark = codes " filemark"

abbrev pub word_refused : List ℕ
word_refused = codes "refused "

-- the end of a line
abbrev pub newline : List ℕ
newline = codes "\n"
