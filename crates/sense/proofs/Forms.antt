-- How long a sense is in descriptor form.
-- Assumes nothing.
use Prim.Native.Nat.{ℕ, ◌≤◌}
use mathlib.Core.Path.{◌≡◌, refl}
use mathlib.Core.Bool.{Bool, true, false, cond}
use mathlib.Core.List.{List}
use native.Mathlib.Omega.{arith}
use lib.ListN.{length}
use Rattle.words.specs.Words.{bytes}
use Rattle.sense.specs.declared.Sense.{Sense}
use Rattle.sense.specs.Sense.{parts_of}
use Rattle.sense.specs.Descriptors.{information_descriptor, stream_descriptor, descriptors, descriptor_bytes, in_form, both_length, stream_length}

-- 24 bytes with an information descriptor, 12 without
pub form_length_lem : (s : Sense) → length (descriptor_bytes s) ≡ cond s.valid both_length stream_length
unfolding descriptor_bytes descriptors information_descriptor stream_descriptor bytes
form_length_lem s = by s.valid refl
  where
    by : (t : Bool) → s.valid ≡ t → length (descriptor_bytes s) ≡ cond s.valid both_length stream_length
    by true h = rw h refl
    by false h = rw h refl

pub form_most : (s : Sense) → length (descriptor_bytes s) ≤ both_length
form_most s = rw (form_length_lem s) (by s.valid)
  where
    by : (t : Bool) → cond t both_length stream_length ≤ both_length
    by true = omega arith
    by false = omega arith

-- in the form asked for
pub in_form_length : (t : Bool) (b : List ℕ) → length (in_form t b) ≡ cond t (cond (parts_of b).valid both_length stream_length) (length b)
unfolding in_form
in_form_length true b = form_length_lem (parts_of b)
in_form_length false b = refl
