-- Q-4: "every sense the server can produce": whatever its services leave in a record; and the kinds of these, one by one.
-- Assumes nothing: these are definitions.
use Rattle.std.specs.Prelude.{ℕ, ◌≡◌, Bool, true, false, not, ◌&&◌, ◌||◌, List, [], ◌∷◌, eqb}
use Rattle.answers.specs.Answers.{done}
use Rattle.sense.specs.declared.Sense.{Sense}
use Rattle.sense.specs.Sense.{no_sense, not_ready, illegal_request, unit_attention, data_protect, blank_check, volume_overflow}
use Rattle.sense.specs.Sense.{no_additional, unqualified, filemark_detected, end_of_partition, beginning_of_partition, end_of_data_detected}
use Rattle.sense.specs.Sense.{list_length_error, invalid_operation_code, invalid_field, invalid_list_field, write_protected, medium_not_present}
use Rattle.sense.specs.Sense.{filemark_bit, eom_bit, ili_bit, flag_bits, parts_of}
use Rattle.record.specs.Record.{medium_changed, power_on, decode_of}
use Rattle.house.specs.Mount.{fresh_call, mount_call}
use Rattle.commands.specs.Act.{sense_asked}
use Rattle.commands.specs.Call.{Lent, command_call}

-- ---- what the services leave

-- a record as a call of a service leaves it that is not refused, from any record whatever; the other services have no record
pub data Left (rec : List ℕ) : Type 0 where
  by_fresh : (old : List ℕ) → (fresh_call old).answer ≡ done → rec ≡ (fresh_call old).lent → Left rec
  by_mount : (old p0 p1 : List ℕ) → (mount_call old p0 p1).answer ≡ done → rec ≡ (mount_call old p0 p1).lent → Left rec
  by_command : (old : List ℕ) (x : Lent) → (command_call old x).answer.refusal ≡ 0 → rec ≡ (command_call old x).rec → Left rec

-- a sense of such a record: the one that it keeps, or the one that REQUEST SENSE answers, which is the attention's while one waits
pub data Produced (b : List ℕ) : Type 0 where
  kept : (rec : List ℕ) → Left rec → b ≡ (decode_of rec).sense → Produced b
  asked : (rec : List ℕ) → Left rec → b ≡ sense_asked (decode_of rec) → Produced b

-- ---- the kinds

-- what VALID and the information are: VALID 0 and information 0; VALID and information 0; VALID and any residue
pub data Information : Type 0 where
  absent : Information
  zero : Information
  residue : Information

abbrev pub carries : Information → Bool → ℕ → Bool
carries absent valid n = not valid && eqb n 0
carries zero valid n = valid && eqb n 0
carries residue valid n = valid

pub record Kind : Type 0 where
  pub key : ℕ
  pub asc : ℕ
  pub ascq : ℕ
  pub flags : ℕ
  pub information : Information

abbrev kind : ℕ → ℕ → ℕ → ℕ → Information → Kind
kind key asc ascq flags information = record { key = key; asc = asc; ascq = ascq; flags = flags; information = information }

-- all of them
unfoldable pub kinds : List Kind
kinds =
    -- empty
    kind no_sense no_additional unqualified 0 absent ∷
    -- 6/28/00, 6/29/00
    kind unit_attention medium_changed unqualified 0 absent ∷
    kind unit_attention power_on unqualified 0 absent ∷
    -- 5/20/00, 5/24/00, 5/1A/00, 5/26/00
    kind illegal_request invalid_operation_code unqualified 0 absent ∷
    kind illegal_request invalid_field unqualified 0 absent ∷
    kind illegal_request list_length_error unqualified 0 absent ∷
    kind illegal_request invalid_list_field unqualified 0 absent ∷
    -- 2/3A/00, 7/27/00
    kind not_ready medium_not_present unqualified 0 absent ∷
    kind data_protect write_protected unqualified 0 absent ∷
    -- 0/00/00 ILI
    kind no_sense no_additional unqualified ili_bit residue ∷
    -- 0/00/01 FILEMARK, with VALID and, by SPACE (16), without (Q-1)
    kind no_sense no_additional filemark_detected filemark_bit residue ∷
    kind no_sense no_additional filemark_detected filemark_bit absent ∷
    -- 0/00/02 EOM, information 0
    kind no_sense no_additional end_of_partition eom_bit zero ∷
    -- 0/00/04 EOM, likewise
    kind no_sense no_additional beginning_of_partition eom_bit residue ∷
    kind no_sense no_additional beginning_of_partition eom_bit absent ∷
    -- 8/00/05, with EOM or not (Q-2), and by LOCATE without VALID
    kind blank_check no_additional end_of_data_detected 0 residue ∷
    kind blank_check no_additional end_of_data_detected 0 absent ∷
    kind blank_check no_additional end_of_data_detected eom_bit residue ∷
    kind blank_check no_additional end_of_data_detected eom_bit absent ∷
    -- D/00/02 EOM
    kind volume_overflow no_additional end_of_partition eom_bit residue ∷
    []

-- a sense is of a kind, and of one of several
abbrev pub is_of : Kind → Sense → Bool
is_of k s = eqb s.key k.key && eqb s.asc k.asc && eqb s.ascq k.ascq && eqb (flag_bits s) k.flags && carries k.information s.valid s.information

abbrev pub is_of_one : List Kind → Sense → Bool
is_of_one [] s = false
is_of_one (k ∷ ks) s = is_of k s || is_of_one ks s

-- some sense of a kind is produced; and of each of several
pub record Occurs (k : Kind) : Type 0 where
  pub bytes : List ℕ
  pub produced : Produced bytes
  pub is : is_of k (parts_of bytes) ≡ true

unfoldable pub AllOccur : List Kind → Type 0
AllOccur [] = Unit {0}
AllOccur (k ∷ ks) = Occurs k × AllOccur ks
