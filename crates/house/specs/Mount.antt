-- A cartridge of one or two partition slices, and the services fresh and mount on a drive record (01, "Answers of a call").
-- Assumes nothing: these are definitions.
use Rattle.std.specs.Prelude.{Bool, cond, not, ◌&&◌, ◌||◌, List, [], ◌∷◌, ℕ, eqb, length}
use Rattle.answers.specs.Answers.{record_fault, already_loaded, unsound_image, wrong_length, Settled, first, refusal_of, settled_by}
use Rattle.image.specs.Image.{right_length, sound, absent}
use Rattle.record.specs.Record.{record_length, decode_of, encode_of, well_record, fresh_drive, mounted_drive}

-- how many partitions are lent
abbrev pub partitions_of : List ℕ → ℕ
partitions_of p1 = cond (absent p1) 1 2

-- both slices of a right length, and both sound, as far as they are lent
unfoldable pub right_lengths : List ℕ → List ℕ → Bool
right_lengths p0 p1 = right_length p0 && (absent p1 || right_length p1)

unfoldable pub both_sound : List ℕ → List ℕ → Bool
both_sound p0 p1 = sound p0 && (absent p1 || sound p1)

-- fresh: 4 for a record that is not 30 bytes
abbrev pub fresh_tests : List ℕ → List (Bool × ℕ)
fresh_tests rec = (not (eqb (length rec) record_length), record_fault) ∷ []

unfoldable pub fresh_call : List ℕ → Settled
fresh_call rec = settled_by (refusal_of (first (fresh_tests rec))) rec (encode_of fresh_drive)

-- "Mount tests 4 (record only), 5, then 7 for both slices, then 6."
abbrev pub mount_tests : List ℕ → List ℕ → List ℕ → List (Bool × ℕ)
mount_tests rec p0 p1 =
    (not (well_record rec), record_fault)
    ∷ (eqb (decode_of rec).loaded 1, already_loaded)
    ∷ (not (right_lengths p0 p1), wrong_length)
    ∷ (not (both_sound p0 p1), unsound_image)
    ∷ []

unfoldable pub mount_fault : List ℕ → List ℕ → List ℕ → ℕ
mount_fault rec p0 p1 = refusal_of (first (mount_tests rec p0 p1))

unfoldable pub mount_call : List ℕ → List ℕ → List ℕ → Settled
mount_call rec p0 p1 = settled_by (mount_fault rec p0 p1) rec (encode_of (mounted_drive (partitions_of p1)))
