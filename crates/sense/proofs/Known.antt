-- The senses that 01 writes out, computed from the definitions.
-- Assumes nothing.
use mathlib.Core.Bool.{true, false}
use Prim.Native.Nat.{◌-◌, ◌^◌}
use mathlib.Core.Path.{◌≡◌, refl}
use mathlib.Core.List.{[], ◌∷◌}
use lib.IntN.{pos, negsuc}
use lib.ListN.{replicate}
use Rattle.words.specs.Words.{be, bytes}
use Rattle.words.specs.Signed.{wrapped, fits32, extended}
use Rattle.sense.specs.Sense.{no_sense, blank_check, illegal_request, sense_bytes, parts_of, reports, told, plainly, empty_sense, attention_sense}
use Rattle.sense.specs.Descriptors.{information_descriptor, stream_descriptor, descriptors, descriptor_bytes, in_form}

-- 70h first, 0Ah in byte 7, else 0
empty_is : empty_sense ≡ 0x70 ∷ 0 ∷ 0 ∷ 0 ∷ 0 ∷ 0 ∷ 0 ∷ 0x0A ∷ 0 ∷ 0 ∷ 0 ∷ 0 ∷ 0 ∷ 0 ∷ 0 ∷ 0 ∷ 0 ∷ 0 ∷ []
unfolding empty_sense sense_bytes reports told bytes
empty_is = refl

-- 6/28/00
attention_is : attention_sense 0x28 ≡ 0x70 ∷ 0 ∷ 0x06 ∷ 0 ∷ 0 ∷ 0 ∷ 0 ∷ 0x0A ∷ 0 ∷ 0 ∷ 0 ∷ 0 ∷ 0x28 ∷ 0 ∷ 0 ∷ 0 ∷ 0 ∷ 0 ∷ []
unfolding attention_sense sense_bytes reports told bytes
attention_is = refl

-- P10: F0 00 80 FF FF FF FB 0A, byte 13 01
marked_is : sense_bytes (told true true false false no_sense 0x00 0x01 (negsuc 4)) ≡ 0xF0 ∷ 0 ∷ 0x80 ∷ 0xFF ∷ 0xFF ∷ 0xFF ∷ 0xFB ∷ 0x0A ∷ 0 ∷ 0 ∷ 0 ∷ 0 ∷ 0 ∷ 0x01 ∷ 0 ∷ 0 ∷ 0 ∷ 0 ∷ []
unfolding sense_bytes reports told bytes wrapped fits32
marked_is = refl

-- key 5 reports no residue, nor does a command that counts nothing
field_is : (sense_bytes (told true false false false illegal_request 0x24 0x00 (pos 7)) ≡ sense_bytes (plainly illegal_request 0x24 0x00)) × (reports false blank_check (pos 0) ≡ false)
unfolding sense_bytes reports told bytes
field_is = (refl, refl)

-- Q-1: 2^31 − 1 is reported, 2^31 with VALID 0 and information 0; −2^31 is reported, −2^31 − 1 is not
largest_is : sense_bytes (told true true false false no_sense 0x00 0x01 (pos (2 ^ 31 - 1))) ≡ 0xF0 ∷ 0 ∷ 0x80 ∷ 0x7F ∷ 0xFF ∷ 0xFF ∷ 0xFF ∷ 0x0A ∷ 0 ∷ 0 ∷ 0 ∷ 0 ∷ 0 ∷ 0x01 ∷ 0 ∷ 0 ∷ 0 ∷ 0 ∷ []
unfolding sense_bytes reports told bytes wrapped fits32
largest_is = refl

past_is : sense_bytes (told true true false false no_sense 0x00 0x01 (pos (2 ^ 31))) ≡ 0x70 ∷ 0 ∷ 0x80 ∷ 0 ∷ 0 ∷ 0 ∷ 0 ∷ 0x0A ∷ 0 ∷ 0 ∷ 0 ∷ 0 ∷ 0 ∷ 0x01 ∷ 0 ∷ 0 ∷ 0 ∷ 0 ∷ []
unfolding sense_bytes reports told bytes fits32
past_is = refl

least_is : sense_bytes (told true false true false no_sense 0x00 0x04 (negsuc (2 ^ 31 - 1))) ≡ 0xF0 ∷ 0 ∷ 0x40 ∷ 0x80 ∷ 0 ∷ 0 ∷ 0 ∷ 0x0A ∷ 0 ∷ 0 ∷ 0 ∷ 0 ∷ 0 ∷ 0x04 ∷ 0 ∷ 0 ∷ 0 ∷ 0 ∷ []
unfolding sense_bytes reports told bytes wrapped fits32
least_is = refl

below_is : sense_bytes (told true false true false no_sense 0x00 0x04 (negsuc (2 ^ 31))) ≡ 0x70 ∷ 0 ∷ 0x40 ∷ 0 ∷ 0 ∷ 0 ∷ 0 ∷ 0x0A ∷ 0 ∷ 0 ∷ 0 ∷ 0 ∷ 0 ∷ 0x04 ∷ 0 ∷ 0 ∷ 0 ∷ 0 ∷ []
unfolding sense_bytes reports told bytes fits32
below_is = refl

-- ---- Q-4: the descriptor form of what is kept

-- empty: 12 bytes, and 4 of them behind byte 7
empty_form : in_form true empty_sense ≡ 0x72 ∷ 0 ∷ 0 ∷ 0 ∷ 0 ∷ 0 ∷ 0 ∷ 0x04 ∷ 0x04 ∷ 0x02 ∷ 0 ∷ 0 ∷ []
unfolding empty_sense sense_bytes reports told bytes be in_form parts_of descriptor_bytes descriptors information_descriptor stream_descriptor
empty_form = refl

-- P10's sense, of residue −5: the value is FFFFFFFFFFFFFFFBh
marked_form : in_form true (sense_bytes (told true true false false no_sense 0x00 0x01 (negsuc 4)))
    ≡ 0x72 ∷ 0 ∷ 0 ∷ 0x01 ∷ 0 ∷ 0 ∷ 0 ∷ 0x10 ∷ 0 ∷ 0x0A ∷ 0x80 ∷ 0 ∷ 0xFF ∷ 0xFF ∷ 0xFF ∷ 0xFF ∷ 0xFF ∷ 0xFF ∷ 0xFF ∷ 0xFB ∷ 0x04 ∷ 0x02 ∷ 0 ∷ 0x80 ∷ []
unfolding sense_bytes reports told bytes wrapped fits32 be extended in_form parts_of descriptor_bytes descriptors information_descriptor stream_descriptor
marked_form = refl

-- eighteen bytes of FFh, which no command leaves
ones_form : in_form true (replicate 18 0xFF)
    ≡ 0x72 ∷ 0x0F ∷ 0xFF ∷ 0xFF ∷ 0 ∷ 0 ∷ 0 ∷ 0x10 ∷ 0 ∷ 0x0A ∷ 0x80 ∷ 0 ∷ 0xFF ∷ 0xFF ∷ 0xFF ∷ 0xFF ∷ 0xFF ∷ 0xFF ∷ 0xFF ∷ 0xFF ∷ 0x04 ∷ 0x02 ∷ 0 ∷ 0xE0 ∷ []
unfolding bytes be extended in_form parts_of descriptor_bytes descriptors information_descriptor stream_descriptor
ones_form = refl
