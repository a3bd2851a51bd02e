-- The fields of the command blocks, by the bits that 01 gives them (01, "What each command does"), and 02 those of sixteen bytes (Q-1) and
-- the one for sense in descriptor form (Q-4).
-- Assumes nothing: these are definitions.
use Rattle.std.specs.Prelude.{Bool, List, ℕ, ◌/◌, ◌%◌, ◌^◌, eqb, ℤ, get_or}
use Rattle.words.specs.Words.{be}
use Rattle.words.specs.Signed.{signed}

-- bit k of a byte
abbrev pub bit : ℕ → ℕ → Bool
bit b k = eqb (b / 2 ^ k % 2) 1

-- READ, WRITE: FIXED, SILI; with WRITE FILEMARKS: the length or count in bytes 2–4
unfoldable pub fixed_of : List ℕ → Bool
fixed_of cmd = bit (get_or cmd 1 0) 0

unfoldable pub sili_of : List ℕ → Bool
sili_of cmd = bit (get_or cmd 1 0) 1

unfoldable pub transfer_of : List ℕ → ℕ
transfer_of cmd = be 3 cmd 2

-- SPACE: what it counts, and "count in 24-bit two's complement"
unfoldable pub space_code_of : List ℕ → ℕ
space_code_of cmd = get_or cmd 1 0 % 2 ^ 4

unfoldable pub space_count_of : List ℕ → ℤ
space_count_of cmd = signed (2 ^ 23) (be 3 cmd 2)

-- SPACE (16): "an eight-byte signed count in bytes 4–11"
unfoldable pub space_count16_of : List ℕ → ℤ
space_count16_of cmd = signed (2 ^ 63) (be 8 cmd 4)

-- ERASE: LONG
unfoldable pub long_of : List ℕ → Bool
long_of cmd = bit (get_or cmd 1 0) 0

-- LOCATE: CP, object in bytes 3–6, partition in byte 8
unfoldable pub changes_partition : List ℕ → Bool
changes_partition cmd = bit (get_or cmd 1 0) 1

unfoldable pub object_of : List ℕ → ℕ
object_of cmd = be 4 cmd 3

unfoldable pub partition_of : List ℕ → ℕ
partition_of cmd = get_or cmd 8 0

-- LOCATE (16), by table 65 of source document 000: destination in bits 5–3 of byte 1, partition in byte 3, identifier in bytes 4–11
unfoldable pub destination_of : List ℕ → ℕ
destination_of cmd = get_or cmd 1 0 / 2 ^ 3 % 2 ^ 3

unfoldable pub partition16_of : List ℕ → ℕ
partition16_of cmd = get_or cmd 3 0

unfoldable pub identifier_of : List ℕ → ℕ
identifier_of cmd = be 8 cmd 4

-- LOAD UNLOAD: LOAD, bit 0 of byte 4
unfoldable pub load_of : List ℕ → Bool
load_of cmd = bit (get_or cmd 4 0) 0

-- READ POSITION: the form
unfoldable pub form_of : List ℕ → ℕ
form_of cmd = get_or cmd 1 0 % 2 ^ 5

-- MODE SENSE: DBD and the page; MODE SELECT: PF
unfoldable pub dbd_of : List ℕ → Bool
dbd_of cmd = bit (get_or cmd 1 0) 3

unfoldable pub page_of : List ℕ → ℕ
page_of cmd = get_or cmd 2 0 % 2 ^ 6

unfoldable pub pf_of : List ℕ → Bool
pf_of cmd = bit (get_or cmd 1 0) 4

-- REQUEST SENSE: "Newer hosts set bit 0 of byte 1"
unfoldable pub asks_descriptors : List ℕ → Bool
asks_descriptors cmd = bit (get_or cmd 1 0) 0

-- REQUEST SENSE, MODE SENSE: the allocation; MODE SELECT: the list length
unfoldable pub allocation_of : List ℕ → ℕ
allocation_of cmd = get_or cmd 4 0
