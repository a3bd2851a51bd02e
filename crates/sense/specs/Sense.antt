-- The eighteen sense bytes (01, "What each command does": "Sense: ..").
-- Assumes nothing: these are definitions.
use Rattle.std.specs.Prelude.{ℕ, ◌+◌, ◌/◌, ◌%◌, ◌≡◌, Bool, false, cond, ◌&&◌, ◌||◌, List, [], ◌∷◌, ◌++◌, Result, Ok, Err, eqb, ℤ, pos, get_or}
use Rattle.words.specs.Words.{be, bytes, zeros}
use Rattle.words.specs.Signed.{wrapped, fits32}
use Rattle.sense.specs.declared.Sense.{Sense}

abbrev pub sense_length : ℕ
sense_length = 18

-- ---- the sense keys that 01 uses

abbrev pub no_sense : ℕ
no_sense = 0x0

abbrev pub not_ready : ℕ
not_ready = 0x2

abbrev pub illegal_request : ℕ
illegal_request = 0x5

abbrev pub unit_attention : ℕ
unit_attention = 0x6

abbrev pub data_protect : ℕ
data_protect = 0x7

abbrev pub blank_check : ℕ
blank_check = 0x8

abbrev pub volume_overflow : ℕ
volume_overflow = 0xD

-- ---- the additional sense codes (ASC) and their qualifiers (ASCQ) that 01 uses

-- ASC 00h, which these qualifiers go with: nothing more, filemark detected, end of partition, beginning of partition, end of data
abbrev pub no_additional : ℕ
no_additional = 0x00

abbrev pub unqualified : ℕ
unqualified = 0x00

abbrev pub filemark_detected : ℕ
filemark_detected = 0x01

abbrev pub end_of_partition : ℕ
end_of_partition = 0x02

abbrev pub beginning_of_partition : ℕ
beginning_of_partition = 0x04

abbrev pub end_of_data_detected : ℕ
end_of_data_detected = 0x05

-- those that go unqualified: parameter list length error, invalid operation code, invalid field in the command and in the
-- parameter list, write protected, medium not present
abbrev pub list_length_error : ℕ
list_length_error = 0x1A

abbrev pub invalid_operation_code : ℕ
invalid_operation_code = 0x20

abbrev pub invalid_field : ℕ
invalid_field = 0x24

abbrev pub invalid_list_field : ℕ
invalid_list_field = 0x26

abbrev pub write_protected : ℕ
write_protected = 0x27

abbrev pub medium_not_present : ℕ
medium_not_present = 0x3A

-- ---- the bits and the fixed byte

-- VALID, in byte 0
abbrev pub valid_bit : ℕ
valid_bit = 0x80

abbrev pub filemark_bit : ℕ
filemark_bit = 0x80

abbrev pub eom_bit : ℕ
eom_bit = 0x40

abbrev pub ili_bit : ℕ
ili_bit = 0x20

-- how many bytes follow byte 7
abbrev pub additional_length : ℕ
additional_length = 0x0A

-- ---- made

-- byte 0 F0h with VALID, else 70h
abbrev pub byte0 : Sense → ℕ
byte0 s = cond s.valid 0xF0 0x70

-- FILEMARK 80h, EOM 40h, ILI 20h
abbrev pub flag_bits : Sense → ℕ
flag_bits s = cond s.filemark filemark_bit 0 + cond s.eom eom_bit 0 + cond s.ili ili_bit 0

-- byte 2: the flags, key below
abbrev pub byte2 : Sense → ℕ
byte2 s = flag_bits s + s.key % 16

-- bytes 3–6 information; 7 0Ah; 12 ASC; 13 ASCQ; other bytes 0
unfoldable pub sense_bytes : Sense → List ℕ
sense_bytes s = (byte0 s ∷ 0 ∷ byte2 s ∷ []) ++ bytes 4 s.information ++ (additional_length ∷ []) ++ zeros 4 ++ (s.asc ∷ s.ascq ∷ []) ++ zeros 4

-- ---- and taken apart

unfoldable pub parts_of : List ℕ → Sense
parts_of b = record {
  valid = eqb (get_or b 0 0 / valid_bit) 1;
  filemark = eqb (get_or b 2 0 / filemark_bit % 2) 1;
  eom = eqb (get_or b 2 0 / eom_bit % 2) 1;
  ili = eqb (get_or b 2 0 / ili_bit % 2) 1;
  key = get_or b 2 0 % 16;
  information = be 4 b 3;
  asc = get_or b 12 0;
  ascq = get_or b 13 0;
}

-- ---- what a command tells

-- "VALID is set for READ, WRITE, WRITE FILEMARKS and SPACE with key 0, 8 or D": `counts` says that the command is one of these four;
-- Q-1: "residues that don't fit 32 signed bits are reported with VALID 0 and information 0"
unfoldable pub reports : Bool → ℕ → ℤ → Bool
reports counts key residue = counts && (eqb key no_sense || eqb key blank_check || eqb key volume_overflow) && fits32 residue

-- "otherwise it and information are 0"; else the information is the residue, in 32 bits
unfoldable pub told : Bool → Bool → Bool → Bool → ℕ → ℕ → ℕ → ℤ → Sense
told counts filemark eom ili key asc ascq residue = record {
  valid = reports counts key residue;
  filemark = filemark;
  eom = eom;
  ili = ili;
  key = key;
  information = cond (reports counts key residue) (wrapped residue) 0;
  asc = asc;
  ascq = ascq;
}

-- what the code has of a residue z: its encoding in 32 bits, and whether it fits
abbrev pub Shows : Result ℕ ℕ → ℤ → Type 0
Shows r z = r ≡ cond (fits32 z) (Ok (wrapped z)) (Err (wrapped z))

-- key, ASC and ASCQ alone
abbrev pub plainly : ℕ → ℕ → ℕ → Sense
plainly key asc ascq = told false false false false key asc ascq (pos 0)

-- "sense empty (70h first, 0Ah in byte 7, else 0)"
unfoldable pub empty_sense : List ℕ
empty_sense = sense_bytes (plainly no_sense no_additional unqualified)

-- "Attention answers 6 with 28/00 or 29/00"
unfoldable pub attention_sense : ℕ → List ℕ
attention_sense attention = sense_bytes (plainly unit_attention attention unqualified)
