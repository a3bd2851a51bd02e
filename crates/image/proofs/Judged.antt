-- What the tests of an image tell: its length, its refusal, and where an object lies.
-- Assumes nothing.
use Rattle.std.proofs.Common.{◌≡◌, ℕ, ◌+◌, ◌*◌, ◌/◌, ◌^◌, ◌<◌, ◌≤◌, Bool, true, false, not, ◌&&◌, eqb, leb, List, [], ◌∷◌, length, sym, refl, ap, ◌∙◌, ap₂, arith, eq-eqb}
use borrow.Author.Tests.{not-false}
use Rattle.answers.specs.Answers.{unsound_image, wrong_length, first, refusal_of}
use Rattle.objects.specs.Room.{trailer_length, entry_length}
use Rattle.image.specs.Image.{flag_bits, count, flags, directory, size, end_at, ordered, right_length, sound}
use Rattle.image.specs.Image.{fault_of}
use Rattle.image.specs.Parts.{empty_part}
use Rattle.image.specs.Within.{Within}
use Rattle.image.proofs.Tests.{cases}
use Rattle.image.proofs.Facts.{Sound, sound_parts, ends_in, ends_grow, ordered_below}

-- ---- soundness

pub unsound : (s : List ℕ) → (Sound s → ⊥) → false ≡ sound s
unsound s h = cases (sound s) (λ e. absurd (h (sound_parts s e))) (λ e. sym e)

pub never_both : {t : Bool} → t ≡ true → t ≡ false → ⊥
never_both p q = let z : ◌≡◌ {A = ℕ} 0 1 = cc in omega arith

-- the last test, when all before it hold
pub tested_all : (s : List ℕ) (r o : Bool) (z f d n : ℕ)
    → r ≡ right_length s → not r ≡ false → z ≡ size s → z ≡ length s → f ≡ flags s → f / 2 ^ flag_bits ≡ 0 → d ≡ directory s → n ≡ count s
    → d + entry_length * n + trailer_length ≡ length s → o ≡ (ordered s n && leb (end_at s n) d) → o ≡ sound s
unfolding sound
tested_all s r o z f d n er hr ez hz ef hf ed en hd eo =
    let right : right_length s ≡ true = sym er ∙ not-false r hr in
    let whole : eqb (size s) (length s) ≡ true = eq-eqb (size s) (length s) (sym ez ∙ hz) in
    let known : eqb (flags s / 2 ^ flag_bits) 0 ≡ true = eq-eqb (flags s / 2 ^ flag_bits) 0 (ap (λ (k : ℕ). k / 2 ^ flag_bits) (sym ef) ∙ hf) in
    let points : eqb (directory s + entry_length * count s + trailer_length) (length s) ≡ true = eq-eqb (directory s + entry_length * count s + trailer_length) (length s) (rw (← ed, ← en) hd) in
    rw (right, whole, known, points) (eo ∙ ap₂ (λ (k b : ℕ). ordered s k && leb (end_at s k) b) en ed)

-- ---- the refusal of an image

-- an image that is not refused is sound
pub fault_free : (s : List ℕ) → fault_of s ≡ 0 → Sound s
unfolding fault_of first
fault_free s h = by (right_length s) (sound s) refl h
  where
    by : (r t : Bool) → sound s ≡ t → refusal_of (first ((not r, wrong_length) ∷ (not t, unsound_image) ∷ [])) ≡ 0 → Sound s
    by true true e h = sound_parts s e
    by true false e h = absurd (let z : ◌≡◌ {A = ℕ} unsound_image 0 = h in omega arith)
    by false t e h = absurd (let z : ◌≡◌ {A = ℕ} wrong_length 0 = h in omega arith)

-- ---- where an object lies

pub nothing_within : (s : List ℕ) → Within s empty_part
nothing_within s = record { inside = omega arith }

-- the ends of object i, at `i + 1` as the code has it
pub object_in : (s : List ℕ) → Sound s → (i : ℕ) → i < count s → (end_at s i ≤ end_at s (i + 1)) × (end_at s (i + 1) ≤ directory s)
object_in s k i h =
    let o = ordered_below s (i + 1) (count s) (omega arith) k.in_order in
    (ends_grow s i (i + 1) (omega arith) o, ends_in s k (i + 1) (omega arith))
