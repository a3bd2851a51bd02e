-- The drive record (01, "Drive record"): its thirty bytes as a drive and back, when it is well formed, and what fresh, mount, LOAD and
-- unload make of it.
-- Assumes nothing: these are definitions.
use Rattle.std.specs.Prelude.{Bool, cond, ◌&&◌, ◌||◌, List, [], ◌∷◌, ◌++◌, ℕ, eqb, leb, ltb, length, get_or, take, drop}
use Rattle.words.specs.Words.{be, bytes}
use Rattle.objects.specs.Object.{largest_block}
use Rattle.sense.specs.Sense.{sense_length, empty_sense}
use Rattle.record.specs.declared.drive.Drive.{Drive}

-- ---- the numbers of 01, each once

-- "30 bytes"
abbrev pub record_length : ℕ
record_length = 30

-- where each field starts: loaded; partitions; current partition; pending attention; position (4); block length (4); kept sense (18)
abbrev pub loaded_at : ℕ
loaded_at = 0

abbrev pub partitions_at : ℕ
partitions_at = 1

abbrev pub current_at : ℕ
current_at = 2

abbrev pub attention_at : ℕ
attention_at = 3

abbrev pub position_at : ℕ
position_at = 4

abbrev pub block_length_at : ℕ
block_length_at = 8

abbrev pub sense_at : ℕ
sense_at = 12

-- "pending attention (00h, 28h, 29h)": none, the medium may have changed, power on or reset
abbrev pub no_attention : ℕ
no_attention = 0x00

abbrev pub medium_changed : ℕ
medium_changed = 0x28

abbrev pub power_on : ℕ
power_on = 0x29

-- what a mount sets: "After a mount the block length shall be 32,768" (Q-3), in place of 01's "block length 0"
abbrev pub mounted_block_length : ℕ
mounted_block_length = 32768

-- ---- thirty bytes as a drive, and back

unfoldable pub decode_of : List ℕ → Drive
decode_of s = record {
  loaded = get_or s loaded_at 0;
  partitions = get_or s partitions_at 0;
  current = get_or s current_at 0;
  attention = get_or s attention_at 0;
  position = be 4 s position_at;
  block_length = be 4 s block_length_at;
  sense = take sense_length (drop sense_at s);
}

unfoldable pub encode_of : Drive → List ℕ
encode_of d = (d.loaded ∷ d.partitions ∷ d.current ∷ d.attention ∷ []) ++ bytes 4 d.position ++ bytes 4 d.block_length ++ d.sense

-- ---- well formed, the record alone

unfoldable pub attention_known : ℕ → Bool
attention_known a = eqb a no_attention || eqb a medium_changed || eqb a power_on

-- "Unloaded: partitions, current and position are 0."
unfoldable pub empty_handed : Drive → Bool
empty_handed d = eqb d.partitions 0 && eqb d.current 0 && eqb d.position 0

-- "Loaded: 1 or 2 partitions, current below that": the position against N is for the partition to say
unfoldable pub placed : Drive → Bool
placed d = leb 1 d.partitions && leb d.partitions 2 && ltb d.current d.partitions

-- "loaded 0/1"; "Block length at most 65,536", since Q-7 1,048,576; "Any kept sense is well formed."
unfoldable pub well_formed : Drive → Bool
well_formed d =
    attention_known d.attention
    && leb d.block_length largest_block
    && cond (eqb d.loaded 0) (empty_handed d) (eqb d.loaded 1 && placed d)

-- a record of thirty bytes that is well formed
unfoldable pub well_record : List ℕ → Bool
well_record s = eqb (length s) record_length && well_formed (decode_of s)

-- ---- a drive made, and one changed

abbrev pub drive : ℕ → ℕ → ℕ → ℕ → ℕ → ℕ → List ℕ → Drive
drive loaded partitions current attention position block_length sense =
    record { loaded = loaded; partitions = partitions; current = current; attention = attention; position = position; block_length = block_length; sense = sense }

-- with another cartridge, or at another place of it
abbrev pub holding : Drive → ℕ → ℕ → ℕ → ℕ → Drive
holding d loaded partitions current position = drive loaded partitions current d.attention position d.block_length d.sense

-- the kept sense replaced whole
unfoldable pub with_sense : Drive → List ℕ → Drive
with_sense d s = drive d.loaded d.partitions d.current d.attention d.position d.block_length s

-- ---- what the services and LOAD UNLOAD set

-- "Fresh: all 0, attention 29h, sense empty"
unfoldable pub fresh_drive : Drive
fresh_drive = drive 0 0 0 power_on 0 0 empty_sense

-- "Mount sets loaded, 1 or 2 partitions, partition 0, position 0, block length 0, attention 28h, empty sense."; Q-3: block length 32,768
unfoldable pub mounted_drive : ℕ → Drive
mounted_drive n = drive 1 n 0 medium_changed 0 mounted_block_length empty_sense

-- "LOAD: partition 0, position 0."
unfoldable pub loaded_anew : Drive → Drive
loaded_anew d = holding d d.loaded d.partitions 0 0

-- "LOAD bit 0: unloaded, block length stays."
unfoldable pub unloaded : Drive → Drive
unloaded d = holding d 0 0 0 0
