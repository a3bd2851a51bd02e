-- The refusal of a mount, in the words of what the code tests, and the one for its lengths; a mount that is not refused has a record.
-- Assumes nothing.
use mathlib.Core.Bool.{Bool, true, false, not, ◌&&◌, ◌||◌}
use mathlib.Core.List.{List, [], ◌∷◌}
use mathlib.Core.Path.{◌≡◌, refl}
use Prim.Native.Nat.{ℕ}
use native.Mathlib.Omega.{arith}
use borrow.Author.Tests.{ne_eqb, not-true, not-false}
use lib.Dec.{eqb}
use lib.ListN.{get_or}
use Rattle.std.proofs.lemmas.Grind.{common_steps}
use Rattle.answers.specs.Answers.{record_fault, already_loaded, unsound_image, wrong_length, first, refusal_of}
use Rattle.record.specs.Record.{decode_of, well_record}
use Rattle.image.specs.Image.{right_length, sound, absent}
use Rattle.house.specs.Mount.{right_lengths, both_sound, mount_fault}

-- what the code tests before it refuses a mount for its lengths
module _ (rec p0 p1 : List ℕ) (a : Bool) (ea : a ≡ well_record rec) where
  module _ (ha : not a ≡ false) where
    module _ (hl : get_or rec 0 0 ≡ 1 → ⊥) (b : Bool) (eb : b ≡ right_lengths p0 p1) where
      pub mount_lengths : not b ≡ true → wrong_length ≡ mount_fault rec p0 p1
      unfolding mount_fault decode_of first
      mount_lengths h = rw (← ea, not-false a ha, ne_eqb (get_or rec 0 0) 1 hl, ← eb, not-true b h) refl

pub faults : (rec p0 p1 : List ℕ) → mount_fault rec p0 p1 ≡ refusal_of (first (
    (not (well_record rec), record_fault)
    ∷ (eqb (get_or rec 0 0) 1, already_loaded)
    ∷ (not (right_length p0 && (absent p1 || right_length p1)), wrong_length)
    ∷ (not (sound p0 && (absent p1 || sound p1)), unsound_image)
    ∷ []))
unfolding mount_fault right_lengths both_sound decode_of
faults rec p0 p1 = refl

pub mountable : (rec p0 p1 : List ℕ) → mount_fault rec p0 p1 ≡ 0 → well_record rec ≡ true
unfolding mount_fault first
mountable rec p0 p1 h = grind (arith, common_steps)
