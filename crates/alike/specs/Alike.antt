-- Q-1: SPACE (16) and LOCATE (16) beside the short forms, as a host sees them: command blocks that say the same, and ways that end at the same place.
-- That the calls leave the same: proofs/Alike.antt, proofs/Files.antt.
-- Assumes nothing: these are definitions.
use Rattle.std.specs.Prelude.{ℕ, suc, ◌-◌, ◌^◌, ◌<◌, ◌≡◌, ◌⊎◌, true, false, List, [], ◌∷◌, ◌++◌, ℤ, pos, negsuc}
use Rattle.words.specs.Words.{bytes}
use Rattle.codes.specs.declared.operation.Operation.{Operation}
use Rattle.codes.specs.declared.operation.Operation.TheVariants.{Rewind, Space, Locate, Space16, Locate16}
use Rattle.codes.specs.Codes.{code_of, too_short, number_of, operation_of, masks_hold}
use Rattle.codes.specs.Fields.{space_code_of, space_count_of, space_count16_of, changes_partition, object_of, partition_of, destination_of, partition16_of, identifier_of}
use Rattle.codes.specs.Six.{six}
use Rattle.codes.specs.Sixteen.{sixteen}
use Rattle.commands.specs.Act.{over_filemarks, by_object, by_file}
use Rattle.commands.specs.Call.{lent, Result, result_of}

-- what a call leaves, had the command block been cmd: the block is lent, and stays what it is
abbrev pub under : List ℕ → Result → Result
under cmd r = result_of r.answer r.rec (lent cmd r.lent.part0 r.lent.part1 r.lent.sent r.lent.received)

-- ---- two command blocks of a short and a long form: neither is too short, and both or neither has a bit outside its masks

pub record Pair (o p : Operation) (short long : List ℕ) : Type 0 where
  pub is_short : operation_of (code_of short) ≡ o
  pub is_long : operation_of (code_of long) ≡ p
  pub short_whole : too_short short ≡ false
  pub long_whole : too_short long ≡ false
  pub masks : masks_hold short ≡ masks_hold long

-- SPACE (6) and SPACE (16) with the same code and the same count, which then fits 24 bits
pub record SameSpace (short long : List ℕ) : Type 0 where
  pub pair : Pair Space Space16 short long
  pub code : space_code_of short ≡ space_code_of long
  pub count : space_count_of short ≡ space_count16_of long

-- LOCATE (10) and LOCATE (16) to the same object, which is then below 2^32, of the same partition
pub record SameLocate (short long : List ℕ) : Type 0 where
  pub pair : Pair Locate Locate16 short long
  pub by_object_lem : destination_of long ≡ by_object
  pub changes : changes_partition short ≡ changes_partition long
  pub partition : changes_partition short ≡ true → partition_of short ≡ partition16_of long
  pub identifier : object_of short ≡ identifier_of long

-- ---- as hosts write them

-- an integer in n bits; and that it fits n bits and one for its sign, 24 with n = 23
abbrev pub in_bits : ℕ → ℤ → ℕ
in_bits n (pos m) = m
in_bits n (negsuc m) = 2 ^ n - suc m

abbrev pub Fits : ℕ → ℤ → Type 0
Fits n (pos m) = m < 2 ^ n
Fits n (negsuc m) = m < 2 ^ n

abbrev pub Fits24 : ℤ → Type 0
Fits24 k = Fits 23 k

abbrev pub space_short : ℕ → ℤ → List ℕ
space_short code k = six (number_of Space) code (in_bits 24 k)

abbrev pub space_long : ℕ → ℤ → List ℕ
space_long code k = sixteen (number_of Space16) code 0 (in_bits 64 k)

-- flags: CP (bit 1) and IMMED (bit 0)
abbrev pub locate_short : ℕ → ℕ → ℕ → List ℕ
locate_short flags partition k = (number_of Locate ∷ flags ∷ 0 ∷ []) ++ bytes 4 k ++ (0 ∷ partition ∷ 0 ∷ [])

abbrev pub locate_long : ℕ → ℕ → ℕ → List ℕ
locate_long flags partition k = sixteen (number_of Locate16) flags partition k

-- ---- SPACE of either length, with the code c and the count k

pub record SpacesBy (c : ℕ) (k : ℤ) (cmd : List ℕ) : Type 0 where
  pub is : ((operation_of (code_of cmd) ≡ Space) × (space_count_of cmd ≡ k)) ⊎ ((operation_of (code_of cmd) ≡ Space16) × (space_count16_of cmd ≡ k))
  pub code : space_code_of cmd ≡ c

-- ---- to file f of the current partition: by LOCATE (16), or by REWIND and SPACE (of either length) over f filemarks

pub record ToFile (f : ℕ) (cmd : List ℕ) : Type 0 where
  pub is : operation_of (code_of cmd) ≡ Locate16
  pub stays : changes_partition cmd ≡ false
  pub by_file_lem : destination_of cmd ≡ by_file
  pub identifier : identifier_of cmd ≡ f

abbrev pub OverMarks : ℕ → List ℕ → Type 0
OverMarks f cmd = SpacesBy over_filemarks (pos f) cmd

abbrev pub Rewinds : List ℕ → Type 0
Rewinds cmd = operation_of (code_of cmd) ≡ Rewind
