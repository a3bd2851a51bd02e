-- The refusal of an input as the code finds it, and what an input that is not refused is: a sound image of at most 65,536 bytes.
-- Assumes nothing.
use Prim.Native.Nat.{ℕ, ◌<◌, ◌≤◌}
use mathlib.Core.Bool.{Bool, true, false, cond, not}
use mathlib.Core.Path.{◌≡◌, refl}
use mathlib.Core.List.{List, [], ◌∷◌}
use native.Mathlib.Omega.{arith}
use lib.ListN.{length}
use lib.Dec.{leb}
use borrow.Author.Tests.{le-leb, lt-leb, leb-true}
use Rattle.answers.specs.Answers.{wrong_length, unsound_image, first, refusal_of}
use Rattle.image.specs.Image.{right_length, sound}
use Rattle.image.specs.Image.{fault_of}
use Rattle.image.proofs.Facts.{Sound, sound_parts}
use Rattle.listing.specs.Text.{decimal}
use Rattle.listing.specs.Listing.{most_input, refusal}
use Rattle.listing.proofs.Digits.{length_decimal}

pub refused_long : (s : List ℕ) → most_input < length s → wrong_length ≡ refusal s
unfolding refusal
refused_long s h = rw (lt-leb (length s) most_input h) refl

pub refused_fault : (s : List ℕ) (f : ℕ) → length s ≤ most_input → f ≡ fault_of s → f ≡ refusal s
unfolding refusal
refused_fault s f h e = rw (le-leb (length s) most_input h) e

-- the refusal by its three tests: short enough, of a right length, sound
abbrev judged : Bool → Bool → Bool → ℕ
judged short right ok = cond short (refusal_of (first ((not right, wrong_length) ∷ (not ok, unsound_image) ∷ []))) wrong_length

judged_none : (short right ok : Bool) → judged short right ok ≡ 0 → (short ≡ true) × (ok ≡ true)
unfolding first
judged_none true true true h = (refl, refl)
judged_none true true false h = let never : ⊥ = omega arith in absurd never
judged_none true false ok h = let never : ⊥ = omega arith in absurd never
judged_none false right ok h = let never : ⊥ = omega arith in absurd never

judged_small : (short right ok : Bool) → judged short right ok < 10
unfolding first
judged_small true true true = omega arith
judged_small true true false = omega arith
judged_small true false ok = omega arith
judged_small false right ok = omega arith

pub not_refused : (s : List ℕ) → refusal s ≡ 0 → Sound s × (length s ≤ most_input)
unfolding refusal fault_of
not_refused s none =
    let j = judged_none (leb (length s) most_input) (right_length s) (sound s) none in
    (sound_parts s j.1, leb-true (length s) most_input j.0)

-- one digit writes it
pub refusal_short : (s : List ℕ) (r : ℕ) → r ≡ refusal s → length (decimal r) ≤ 1
unfolding refusal fault_of
refusal_short s r e = length_decimal 0 r (rw e (judged_small (leb (length s) most_input) (right_length s) (sound s)))
