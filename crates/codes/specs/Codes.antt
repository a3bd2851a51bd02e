-- The lengths of command blocks, the commands served and the masks of their bytes (01, "Command lengths and masks"; Q-1; Q-4).
-- Assumes nothing: these are definitions.
use Rattle.std.specs.Prelude.{Bool, true, cond, ◌&&◌, ◌||◌, List, [], ◌∷◌, ◌++◌, ℕ, zero, suc, ◌-◌, eqb, ltb, length, get_or, take, replicate}
use Rattle.std.specs.Int.Bits.{bit_and}
use Rattle.codes.specs.declared.operation.Operation.{Operation}
use Rattle.codes.specs.declared.operation.Operation.TheVariants.{TestUnitReady, Rewind, RequestSense, ReadBlockLimits, Read, Write, WriteFilemarks, Space, ModeSelect, Erase, ModeSense, LoadUnload, Locate, ReadPosition, Space16, Locate16, NotServed}

-- 00–1F 6, 20–5F 10, 80–9F 16, A0–BF 12, others 0
abbrev pub length_of : ℕ → ℕ
length_of op = cond (ltb op 0x20) 6 (cond (ltb op 0x60) 10 (cond (ltb op 0x80) 0 (cond (ltb op 0xA0) 16 (cond (ltb op 0xC0) 12 0))))

-- the operation code of a command block
abbrev pub code_of : List ℕ → ℕ
code_of cmd = get_or cmd 0 0

-- "command block empty, or shorter than its length in the table"; where that is 0, one byte is enough
unfoldable pub too_short : List ℕ → Bool
too_short cmd = eqb (length cmd) 0 || ltb (length cmd) (length_of (code_of cmd))

-- ---- the commands served

-- the number of each: its operation code; for what is not served, a number that is no byte
abbrev pub number_of : Operation → ℕ
number_of TestUnitReady = 0x00
number_of Rewind = 0x01
number_of RequestSense = 0x03
number_of ReadBlockLimits = 0x05
number_of Read = 0x08
number_of Write = 0x0A
number_of WriteFilemarks = 0x10
number_of Space = 0x11
number_of ModeSelect = 0x15
number_of Erase = 0x19
number_of ModeSense = 0x1A
number_of LoadUnload = 0x1B
number_of Locate = 0x2B
number_of ReadPosition = 0x34
number_of Space16 = 0x91
number_of Locate16 = 0x92
number_of NotServed = 0x100

-- a command, and the masks of its bytes from byte 1 on: byte:bits, others 00
pub record Row : Type 0 where
  pub operation : Operation
  pub masks : List ℕ

abbrev pub row : Operation → List ℕ → Row
row o m = record { operation = o; masks = m }

-- one line a command, as 01 and 02 write them
abbrev pub rows : List Row
rows =
    -- 00 TEST UNIT READY none
    row TestUnitReady [] ∷
    -- 01 REWIND 1:01
    row Rewind (0x01 ∷ []) ∷
    -- 03 REQUEST SENSE 4:FF; Q-4: "The mask of 03h gains the bit", bit 0 of byte 1
    row RequestSense (0x01 ∷ 0x00 ∷ 0x00 ∷ 0xFF ∷ []) ∷
    -- 05 READ BLOCK LIMITS none
    row ReadBlockLimits [] ∷
    -- 08 READ 1:03 2–4:FF
    row Read (0x03 ∷ 0xFF ∷ 0xFF ∷ 0xFF ∷ []) ∷
    -- 0A WRITE 1:01 2–4:FF
    row Write (0x01 ∷ 0xFF ∷ 0xFF ∷ 0xFF ∷ []) ∷
    -- 10 WRITE FILEMARKS 2–4:FF
    row WriteFilemarks (0x00 ∷ 0xFF ∷ 0xFF ∷ 0xFF ∷ []) ∷
    -- 11 SPACE 1:0F 2–4:FF
    row Space (0x0F ∷ 0xFF ∷ 0xFF ∷ 0xFF ∷ []) ∷
    -- 15 MODE SELECT 1:10 4:FF
    row ModeSelect (0x10 ∷ 0x00 ∷ 0x00 ∷ 0xFF ∷ []) ∷
    -- 19 ERASE 1:03
    row Erase (0x03 ∷ []) ∷
    -- 1A MODE SENSE 1:08 2:3F 4:FF
    row ModeSense (0x08 ∷ 0x3F ∷ 0x00 ∷ 0xFF ∷ []) ∷
    -- 1B LOAD UNLOAD 1:01 4:01
    row LoadUnload (0x01 ∷ 0x00 ∷ 0x00 ∷ 0x01 ∷ []) ∷
    -- 2B LOCATE 1:03 3–6:FF 8:FF
    row Locate (0x03 ∷ 0x00 ∷ 0xFF ∷ 0xFF ∷ 0xFF ∷ 0xFF ∷ 0x00 ∷ 0xFF ∷ []) ∷
    -- 34 READ POSITION 1:1F
    row ReadPosition (0x1F ∷ []) ∷
    -- Q-1: 91 SPACE (16) 1:0F 4–11:FF
    row Space16 (0x0F ∷ 0x00 ∷ 0x00 ∷ 0xFF ∷ 0xFF ∷ 0xFF ∷ 0xFF ∷ 0xFF ∷ 0xFF ∷ 0xFF ∷ 0xFF ∷ []) ∷
    -- Q-1: 92 LOCATE (16) 1:3B 3–11:FF
    row Locate16 (0x3B ∷ 0x00 ∷ 0xFF ∷ 0xFF ∷ 0xFF ∷ 0xFF ∷ 0xFF ∷ 0xFF ∷ 0xFF ∷ 0xFF ∷ 0xFF ∷ []) ∷
    []

-- "operation code not served"
abbrev pub no_row : Row
no_row = row NotServed []

-- the row of an operation code: the one whose command has it for its number
abbrev pub find : List Row → ℕ → Row
find [] op = no_row
find (r ∷ rs) op = cond (eqb (number_of r.operation) op) r (find rs op)

abbrev pub row_of : ℕ → Row
row_of op = find rows op

-- the command of an operation code, and its masks
abbrev pub operation_of : ℕ → Operation
operation_of op = (row_of op).operation

abbrev pub masks_of : ℕ → List ℕ
masks_of op = (row_of op).masks

-- ---- "A bit outside its mask is a field error"

-- the mask of byte k + 1, "others 00"
abbrev pub mask_at : List ℕ → ℕ → ℕ
mask_at m k = get_or m k 0

-- a row of the code's table has a mask for each of bytes 1 to 15, since the longest command block has 16 bytes
abbrev pub mask_count : ℕ
mask_count = 15

abbrev pub spread : List ℕ → List ℕ
spread m = take mask_count (m ++ replicate mask_count 0)

-- every bit of the n bytes from byte 1 on lies within its mask
unfoldable pub in_masks : List ℕ → List ℕ → ℕ → Bool
in_masks m cmd zero = true
in_masks m cmd (suc k) = in_masks m cmd k && eqb (bit_and (get_or cmd (suc k) 0) (mask_at m k)) (get_or cmd (suc k) 0)

-- the same for a command block of its length; extra bytes are ignored
unfoldable pub masks_hold : List ℕ → Bool
masks_hold cmd = in_masks (masks_of (code_of cmd)) cmd (length_of (code_of cmd) - 1)
