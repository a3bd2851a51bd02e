-- The lines of a listing: one more behind others, what each consists of by its object's entry, and the most bytes that they have.
-- An input that is not refused holds at most 16,380 objects, and every number in its listing is below 100,000.
-- Assumes nothing.
use Prim.Native.Nat.{ℕ, zero, suc, ◌+◌, ◌-◌, ◌*◌, ◌<◌, ◌≤◌}
use mathlib.Core.Bool.{true, false}
use mathlib.Core.Path.{◌≡◌, refl, sym, ap, ◌∙◌}
use mathlib.Core.List.{List, [], ◌∷◌, ◌++◌, append_assoc, append-nil}
use native.Mathlib.Nat.{add-zero, zero-add}
use native.Mathlib.Numerals.{add-one}
use native.Mathlib.Omega.{arith}
use lib.ListN.{length, length-append}
use lib.Seq.{length-slice}
use Rattle.objects.specs.Object.{Object}
use Rattle.objects.specs.Room.{trailer_length, entry_length}
use Rattle.image.specs.Image.{count, entry, top_bit, end_at, room, object_at, upto}
use Rattle.image.proofs.Tests.{cases}
use Rattle.image.proofs.Facts.{entries_in}
use Rattle.image.proofs.Objects.{length_upto}
use Rattle.image.proofs.Judged.{object_in}
use Rattle.listing.specs.Text.{decimal, word_block, word_filemark, newline}
use Rattle.listing.specs.Listing.{most_input, refusal, line, lines, heading}
use Rattle.listing.specs.Room.{heading_room, line_room}
use Rattle.listing.proofs.Digits.{five_digits}
use Rattle.listing.proofs.Refused.{not_refused}

-- ---- one line more

lines_snoc : (k : ℕ) (xs : List Object) (x : Object) → lines k (xs ++ x ∷ []) ≡ lines k xs ++ line (k + length xs) x
unfolding lines
lines_snoc k [] x = rw (append-nil, add-zero) refl
lines_snoc k (y ∷ xs) x =
    let e : suc k + length xs ≡ k + suc (length xs) = omega arith in
    ap (λ (l : List ℕ). line k y ++ l) (lines_snoc (suc k) xs x)
    ∙ sym (append_assoc (line k y) (lines (suc k) xs) (line (suc k + length xs) x))
    ∙ ap (λ (n : ℕ). line k y ++ lines (suc k) xs ++ line n x) e

-- at `i + 1`, as the loop has it
pub lines_next : (f : ℕ → Object) (i : ℕ) → lines 0 (upto f (i + 1)) ≡ lines 0 (upto f i) ++ line i (f i)
unfolding upto
lines_next f i =
    let e : 0 + length (upto f i) ≡ i = zero-add (length (upto f i)) ∙ length_upto f i in
    rw add-one (lines_snoc 0 (upto f i) (f i) ∙ ap (λ (n : ℕ). lines 0 (upto f i) ++ line n (f i)) e)

-- ---- a line by its object's entry

pub filemark_line : (s : List ℕ) (i : ℕ) → top_bit (entry s i) ≡ true → line i (object_at s i) ≡ decimal i ++ word_filemark ++ newline
unfolding object_at line
filemark_line s i h = rw h refl

pub block_line : (s : List ℕ) (i : ℕ) → top_bit (entry s i) ≡ false → end_at s (i + 1) ≤ length s
    → line i (object_at s i) ≡ decimal i ++ word_block ++ decimal (end_at s (i + 1) - end_at s i) ++ newline
unfolding object_at line
block_line s i h l =
    let e : end_at s (i + 1) ≡ end_at s (suc i) = ap (end_at s) (add-one i) in
    rw (h, e, length-slice (end_at s i) (end_at s (suc i)) s (omega arith)) refl

-- ---- an input that is not refused

module _ (s : List ℕ) (none : refusal s ≡ 0) where
  -- where the code reads it
  pub count_fits : (n : ℕ) → n ≡ count s → entry_length * n + trailer_length ≤ length s
  count_fits n e = entries_in s (not_refused s none).0 n (omega arith)

  pub entry_fits : (i : ℕ) → i < count s → entry_length * (i + 1) + trailer_length ≤ length s
  entry_fits i h = entries_in s (not_refused s none).0 (i + 1) (omega arith)

  pub trailer_fits : trailer_length ≤ length s
  trailer_fits = omega (arith, count_fits (count s) refl)

  -- how large what it reads is
  pub count_small : count s ≤ 16380
  count_small = omega (arith, count_fits (count s) refl, (not_refused s none).1)

  pub room_small : (n f : ℕ) → f ≡ room s n → f ≤ most_input
  unfolding room
  room_small n f e = omega (arith, (not_refused s none).1)

  pub ends_small : (i : ℕ) → i < count s → (end_at s i ≤ end_at s (i + 1)) × (end_at s (i + 1) ≤ length s)
  ends_small i h =
      let k = (not_refused s none).0 in
      let o = object_in s k i h in
      (o.0, omega (arith, k.dir_is))

  -- each number has at most five digits: N, the room, an object's number, a block's length
  pub count_short : (n : ℕ) → n ≡ count s → length (decimal n) ≤ 5
  count_short n e = five_digits n (omega (arith, count_small))

  pub number_short : (i : ℕ) → i < count s → length (decimal i) ≤ 5
  number_short i h = five_digits i (omega (arith, count_small))

  pub heading_digits : (n m f : ℕ) → n ≡ count s → f ≡ room s m → (length (decimal n) ≤ 5) × (length (decimal f) ≤ 5)
  heading_digits n m f en ef = (count_short n en, five_digits f (omega (arith, room_small m f ef)))

  pub block_digits : (i a b : ℕ) → i < count s → a ≡ end_at s i → b ≡ end_at s (i + 1) → (length (decimal i) ≤ 5) × (length (decimal (b - a)) ≤ 5)
  block_digits i a b h ea eb = (number_short i h, five_digits (b - a) (omega (arith, ends_small i h, (not_refused s none).1)))

  -- so the lines are short
  pub heading_short : length (heading s) ≤ heading_room
  unfolding heading
  heading_short = simp length-append (omega (arith, heading_digits (count s) (count s) (room s (count s)) refl refl))

  pub line_short : (i : ℕ) → i < count s → length (line i (object_at s i)) ≤ line_room
  line_short i h =
      let digits = block_digits i (end_at s i) (end_at s (i + 1)) h refl refl in
      cases (top_bit (entry s i))
      (λ t. rw (filemark_line s i t) (simp length-append (omega arith)))
      (λ t. rw (block_line s i t (ends_small i h).1) (simp length-append (omega arith)))

  pub lines_short : (i : ℕ) → i ≤ count s → length (lines 0 (upto (object_at s) i)) ≤ line_room * i
  lines_short zero h = unfold upto lines in omega arith
  lines_short (suc i) h =
      let e : i + 1 ≡ suc i = add-one i in
      rw (← e, lines_next (object_at s) i, length-append) (omega (arith, lines_short i (omega arith), line_short i h))
