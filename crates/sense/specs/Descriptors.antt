-- Sense in descriptor form (Q-4): made from the parts of a sense, and of the eighteen bytes that are kept.
-- Assumes nothing: these are definitions.
use Rattle.std.specs.Prelude.{ℕ, ◌%◌, Bool, cond, List, [], ◌∷◌, ◌++◌, length}
use Rattle.words.specs.Words.{bytes, zeros}
use Rattle.words.specs.Signed.{extended}
use Rattle.sense.specs.declared.Sense.{Sense}
use Rattle.sense.specs.Sense.{flag_bits, parts_of}

-- "response code 72h"
abbrev pub descriptor_code : ℕ
descriptor_code = 0x72

-- the types of the two descriptors
abbrev pub information_type : ℕ
information_type = 0x00

abbrev pub stream_type : ℕ
stream_type = 0x04

-- "an information descriptor (type 00h, length 0Ah, 80h in its byte 2, value in 4–11, sign-extended)"
unfoldable pub information_descriptor : Sense → List ℕ
information_descriptor s = (information_type ∷ 0x0A ∷ 0x80 ∷ 0x00 ∷ []) ++ bytes 8 (extended s.information)

-- "a stream descriptor (type 04h, length 02h, FILEMARK, EOM, ILI in byte 3)"
unfoldable pub stream_descriptor : Sense → List ℕ
stream_descriptor s = stream_type ∷ 0x02 ∷ 0x00 ∷ flag_bits s ∷ []

-- the first "exactly when VALID is set", "and" the second "always"
unfoldable pub descriptors : Sense → List ℕ
descriptors s = cond s.valid (information_descriptor s) [] ++ stream_descriptor s

-- "key, ASC and ASCQ in bytes 1 to 3, then" the descriptors; "Byte 7 is the length that follows; other bytes 0."
unfoldable pub descriptor_bytes : Sense → List ℕ
descriptor_bytes s = (descriptor_code ∷ s.key % 16 ∷ s.asc ∷ s.ascq ∷ []) ++ zeros 3 ++ (length (descriptors s) ∷ []) ++ descriptors s

-- eighteen bytes as they are told: taken apart and made anew where descriptors are asked for, else as they stand
unfoldable pub in_form : Bool → List ℕ → List ℕ
in_form descriptors b = cond descriptors (descriptor_bytes (parts_of b)) b

-- how long the form is with both descriptors, and with the stream's alone
abbrev pub both_length : ℕ
both_length = 24

abbrev pub stream_length : ℕ
stream_length = 12
