-- The descriptor form of eighteen bytes, byte by byte (Q-4: "other kept bytes are turned by the same bits"): what it takes of them, by which
-- bits. All else is dropped: byte 0 below bit 7, byte 1, bit 4 of byte 2, bytes 7–11 and 14–17, and bytes 3–6 without VALID.
-- Assumes nothing: these are definitions.
use Rattle.std.specs.Prelude.{ℕ, cond, List, [], ◌∷◌, ◌++◌, get_or}
use Rattle.std.specs.Int.Bits.{bit_and}
use Rattle.sense.specs.Sense.{valid_bit}
use Rattle.sense.specs.Descriptors.{descriptor_code, information_type, stream_type}
use Rattle.sense.specs.Reading.{is_set}

unfoldable pub turned : List ℕ → List ℕ
turned b =
    let sign : ℕ = cond (is_set 0x80 (get_or b 3 0)) 0xFF 0x00 in
    (descriptor_code ∷ bit_and (get_or b 2 0) 0x0F ∷ get_or b 12 0 ∷ get_or b 13 0 ∷ 0 ∷ 0 ∷ 0 ∷ [])
    ++ cond (is_set valid_bit (get_or b 0 0))
    (0x10 ∷ information_type ∷ 0x0A ∷ 0x80 ∷ 0x00 ∷ sign ∷ sign ∷ sign ∷ sign ∷ get_or b 3 0 ∷ get_or b 4 0 ∷ get_or b 5 0 ∷ get_or b 6 0 ∷ [])
    (0x04 ∷ [])
    ++ (stream_type ∷ 0x02 ∷ 0x00 ∷ bit_and (get_or b 2 0) 0xE0 ∷ [])
