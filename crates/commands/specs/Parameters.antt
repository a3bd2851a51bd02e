-- Mode data: what MODE SENSE returns and MODE SELECT takes, and what READ BLOCK LIMITS and READ POSITION return (01, "What each command does").
-- Assumes nothing: these are definitions.
use Rattle.std.specs.Prelude.{ℕ, ◌+◌, Bool, cond, ◌&&◌, ◌||◌, List, [], ◌∷◌, ◌++◌, eqb, leb, get_or}
use Rattle.words.specs.Words.{be, bytes, zeros}
use Rattle.objects.specs.Object.{largest_block}

-- ---- how long each reply is

abbrev pub limits_length : ℕ
limits_length = 6

-- MODE SENSE without and with a descriptor; MODE SELECT's lists are as long
abbrev pub header_length : ℕ
header_length = 4

abbrev pub whole_length : ℕ
whole_length = 12

-- READ POSITION in its two forms
abbrev pub short_length : ℕ
short_length = 20

abbrev pub long_length : ℕ
long_length = 32

-- ---- the pages of MODE SENSE: none, and all

abbrev pub no_page : ℕ
no_page = 0x00

abbrev pub all_pages : ℕ
all_pages = 0x3F

-- ---- their bytes

-- READ BLOCK LIMITS: Q-7: "00 10 00 00 00 01", for 01's "00 01 00 00 00 01": the largest block in three bytes, the least, 1, in two
unfoldable pub block_limits : List ℕ
block_limits = (0x00 ∷ []) ++ bytes 3 largest_block ++ bytes 2 1

-- MODE SENSE: "0B 00 wp 08, then descriptor 0 ×5 and block length (3); DBD: 03 00 wp 00"; wp is 80h if protected
unfoldable pub mode_data : Bool → Bool → ℕ → List ℕ
mode_data dbd protected block_length =
    let wp : ℕ = cond protected 0x80 0x00 in
    cond dbd (0x03 ∷ 0x00 ∷ wp ∷ 0x00 ∷ []) ((0x0B ∷ 0x00 ∷ wp ∷ 0x08 ∷ []) ++ zeros 5 ++ bytes 3 block_length)

-- MODE SELECT: "List length 0 (no change), 4 or 12": its header, and with a descriptor
unfoldable pub list_length_known : ℕ → Bool
list_length_known n = eqb n 0 || eqb n header_length || eqb n whole_length

-- "Byte 0 ignored, 1 and 2 zero, 3 is 0 or 8 as the length says; descriptor bytes 0–3 zero, 4 ignored, block length at most 65,536",
-- since Q-7 1,048,576
unfoldable pub header_right : ℕ → List ℕ → Bool
header_right n s = eqb (get_or s 1 0) 0 && eqb (get_or s 2 0) 0 && eqb (get_or s 3 0) (cond (eqb n whole_length) 8 0)

-- the block length that a descriptor gives
abbrev pub new_length : List ℕ → ℕ
new_length s = be 3 s 9

unfoldable pub descriptor_right : List ℕ → Bool
descriptor_right s = eqb (be 4 s 4) 0 && leb (new_length s) largest_block

unfoldable pub list_right : ℕ → List ℕ → Bool
list_right n s = header_right n s && cond (eqb n whole_length) (descriptor_right s) (eqb n header_length)

-- READ POSITION: "byte 0 BOP 80h, zone 40h"
abbrev pub position_flags : ℕ → Bool → ℕ
position_flags position zone = cond (eqb position 0) 0x80 0 + cond zone 0x40 0

-- "Form 00h, 20 bytes: .. 1 partition; 4–7 and 8–11 position"
unfoldable pub short_position : ℕ → ℕ → Bool → List ℕ
short_position partition position zone = (position_flags position zone ∷ partition ∷ []) ++ zeros 2 ++ bytes 4 position ++ bytes 4 position ++ zeros 8

-- "Form 06h, 32 bytes: byte 0 the same; 4–7 partition; 8–15 position; 16–23 filemarks before it. Other bytes 0"
unfoldable pub long_position : ℕ → ℕ → Bool → ℕ → List ℕ
long_position partition position zone filemarks =
    (position_flags position zone ∷ []) ++ zeros 3 ++ bytes 4 partition ++ bytes 8 position ++ bytes 8 filemarks ++ zeros 8
