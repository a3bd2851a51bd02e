-- How the code comes to a listing, from run to run: line one, a filemark's line, a block's line, the lines one by one, the line of
-- a refusal. And the listing of any input has room in `text_room` bytes.
-- Assumes nothing.
use Prim.Native.Nat.{ℕ, ◌+◌, ◌-◌, ◌<◌, ◌≤◌}
use mathlib.Core.Bool.{Bool, true, false}
use mathlib.Core.Path.{◌≡◌, refl, sym, ap, ap₂, subst, ◌∙◌}
use mathlib.Core.List.{List, ◌++◌}
use native.Mathlib.Nat.{zero-add, add-zero}
use native.Mathlib.Omega.{arith}
use lib.ListN.{length, length-append}
use lib.Dec.{eqb}
use borrow.Author.Tests.{eq-eqb, ne_eqb, eqb-true, eqb-false}
use Rattle.words.specs.Words.{over}
use Rattle.words.proofs.Laws.{over_nil}
use Rattle.image.specs.Image.{count, entry, top_bit, end_at, room, object_at, upto, objects}
use Rattle.image.proofs.Tests.{cases}
use Rattle.listing.specs.Text.{decimal, word_objects, word_free, word_block, word_filemark, word_refused, newline}
use Rattle.listing.specs.Listing.{refusal, line, lines, heading, listing}
use Rattle.listing.specs.Room.{heading_room, line_room, text_room}
use Rattle.listing.proofs.Appended.{Appended, appended_both, appended_three}
use Rattle.listing.proofs.Refused.{refusal_short}
use Rattle.listing.proofs.Lines.{lines_next, filemark_line, block_line, count_small, ends_small, heading_short, line_short, lines_short}

-- ---- the listing by the refusal, and its length

listing_objects : (s : List ℕ) → refusal s ≡ 0 → heading s ++ lines 0 (objects s) ≡ listing s
unfolding listing
listing_objects s none = rw (eq-eqb (refusal s) 0 none) refl

listing_refused : (s : List ℕ) → (refusal s ≡ 0 → ⊥) → word_refused ++ decimal (refusal s) ++ newline ≡ listing s
unfolding listing
listing_refused s some = rw (ne_eqb (refusal s) 0 some) refl

listing_fits : (s : List ℕ) → length (listing s) ≤ text_room
unfolding objects
listing_fits s =
    cases (eqb (refusal s) 0)
    (λ t.
    let none : refusal s ≡ 0 = eqb-true (refusal s) 0 t in
    rw (← listing_objects s none, length-append) (omega (arith, heading_short s none, lines_short s none (count s) (omega arith), count_small s none)))
    (λ t. rw (← listing_refused s (eqb-false (refusal s) 0 t)) (simp length-append (omega (arith, refusal_short s (refusal s) refl))))

pub listing_ends : (s : List ℕ) (p : ℕ) → p ≡ length (listing s) → p ≤ text_room
listing_ends s p e = omega (arith, listing_fits s)

-- a text from its very start on
from_start : (s a t : List ℕ) (p : ℕ) → Appended s 0 a t p → (t ≡ over s 0 a) × (p ≡ length a)
from_start s a t p x = (x.0, x.1 ∙ zero-add (length a))

-- ---- line one

pub heading_listed : (s : List ℕ) → refusal s ≡ 0 → (n f : ℕ) → n ≡ count s → f ≡ room s n
    → (t₀ t₁ t₂ t₃ t₄ t₅ : List ℕ) (p₁ p₂ p₃ p₄ p₅ : ℕ) → heading_room ≤ length t₀
    → Appended t₀ 0 word_objects t₁ p₁ → Appended t₁ p₁ (decimal n) t₂ p₂ → Appended t₂ p₂ word_free t₃ p₃ → Appended t₃ p₃ (decimal f) t₄ p₄
    → Appended t₄ p₄ newline t₅ p₅ → (t₅ ≡ over t₀ 0 (heading s)) × (p₅ ≡ length (heading s))
heading_listed s none n f en ef t₀ t₁ t₂ t₃ t₄ t₅ p₁ p₂ p₃ p₄ p₅ fits a b c d e =
    let whole : word_objects ++ decimal n ++ word_free ++ decimal f ++ newline ≡ heading s = unfold heading in rw (ef, en) refl in
    let short : length (word_objects ++ decimal n ++ word_free ++ decimal f ++ newline) ≤ heading_room = subst (λ (x : List ℕ). length x ≤ heading_room) (sym whole) (heading_short s none) in
    let l = length-append (word_objects ++ decimal n ++ word_free) (decimal f) in
    let m = length-append (word_objects ++ decimal n ++ word_free ++ decimal f) newline in
    let front = appended_three t₀ 0 word_objects t₁ p₁ (decimal n) t₂ p₂ word_free t₃ p₃ a b c (omega arith) in
    let all = appended_three t₀ 0 (word_objects ++ decimal n ++ word_free) t₃ p₃ (decimal f) t₄ p₄ newline t₅ p₅ front d e (omega arith) in
    rw (← whole) (from_start _ _ _ _ all)

-- ---- an object's line

module _ (s : List ℕ) (none : refusal s ≡ 0) (i : ℕ) (h : i < count s) (m : Bool) (em : m ≡ top_bit (entry s i))
    (t₀ : List ℕ) (p₀ : ℕ) (fits : p₀ + line_room ≤ length t₀) (t₁ t₂ t₃ : List ℕ) (p₁ p₂ p₃ : ℕ) where
  pub filemark_listed : m ≡ true → Appended t₀ p₀ (decimal i) t₁ p₁ → Appended t₁ p₁ word_filemark t₂ p₂ → Appended t₂ p₂ newline t₃ p₃
      → Appended t₀ p₀ (line i (object_at s i)) t₃ p₃
  filemark_listed t a b c =
      let whole = filemark_line s i (sym em ∙ t) in
      let short = line_short s none i h in
      rw whole (appended_three t₀ p₀ (decimal i) t₁ p₁ word_filemark t₂ p₂ newline t₃ p₃ a b c (omega (arith, rw whole at short)))

  pub block_listed : m ≡ false → (x y : ℕ) → x ≡ end_at s i → y ≡ end_at s (i + 1) → (t₄ : List ℕ) (p₄ : ℕ)
      → Appended t₀ p₀ (decimal i) t₁ p₁ → Appended t₁ p₁ word_block t₂ p₂ → Appended t₂ p₂ (decimal (y - x)) t₃ p₃ → Appended t₃ p₃ newline t₄ p₄
      → Appended t₀ p₀ (line i (object_at s i)) t₄ p₄
  block_listed t x y ex ey t₄ p₄ a b c d =
      let size : end_at s (i + 1) - end_at s i ≡ y - x = ap₂ (λ (u v : ℕ). u - v) (sym ey) (sym ex) in
      let whole = block_line s i (sym em ∙ t) (ends_small s none i h).1 ∙ ap (λ (n : ℕ). decimal i ++ word_block ++ decimal n ++ newline) size in
      let short = rw whole at (line_short s none i h) in
      let l = length-append (decimal i ++ word_block) (decimal (y - x)) in
      let k = length-append (decimal i ++ word_block ++ decimal (y - x)) newline in
      let front = appended_both t₀ p₀ (decimal i) t₁ p₁ word_block t₂ p₂ a b (omega arith) in
      rw whole (appended_three t₀ p₀ (decimal i ++ word_block) t₂ p₂ (decimal (y - x)) t₃ p₃ newline t₄ p₄ front c d (omega arith))

-- ---- the lines, one by one behind line one

pub lines_none : (s t : List ℕ) (p : ℕ) → Appended t p (lines 0 (upto (object_at s) 0)) t p
unfolding upto lines
lines_none s t p = (sym (over_nil t p), sym (add-zero p))

module _ (s : List ℕ) (none : refusal s ≡ 0) (n : ℕ) (en : n ≡ count s) (i : ℕ) where
  -- there is room for one more
  pub lines_fit : i < n → (p q : ℕ) → p ≡ length (heading s) → q ≡ p + length (lines 0 (upto (object_at s) i)) → q + line_room ≤ text_room
  lines_fit h p q ep eq = omega (arith, heading_short s none, lines_short s none i (omega arith), count_small s none)

  pub lines_more : i < n → (t₀ t₁ t₂ : List ℕ) (p₀ p₁ p₂ : ℕ) → p₀ ≡ length (heading s) → text_room ≤ length t₀
      → Appended t₀ p₀ (lines 0 (upto (object_at s) i)) t₁ p₁ → Appended t₁ p₁ (line i (object_at s i)) t₂ p₂
      → Appended t₀ p₀ (lines 0 (upto (object_at s) (i + 1))) t₂ p₂
  lines_more h t₀ t₁ t₂ p₀ p₁ p₂ e fits a b =
      let short = lines_fit h p₀ (p₀ + length (lines 0 (upto (object_at s) i))) e refl in
      let l = length-append (lines 0 (upto (object_at s) i)) (line i (object_at s i)) in
      let one = line_short s none i (omega arith) in
      rw (lines_next (object_at s) i) (appended_both t₀ p₀ (lines 0 (upto (object_at s) i)) t₁ p₁ (line i (object_at s i)) t₂ p₂ a b (omega arith))

  pub objects_listed : i ≤ n → n ≤ i → (t₀ t₁ t₂ : List ℕ) (p₁ p₂ : ℕ) → text_room ≤ length t₀
      → (t₁ ≡ over t₀ 0 (heading s)) × (p₁ ≡ length (heading s)) → Appended t₁ p₁ (lines 0 (upto (object_at s) i)) t₂ p₂
      → (t₂ ≡ over t₀ 0 (listing s)) × (p₂ ≡ length (listing s))
  unfolding objects
  objects_listed h k t₀ t₁ t₂ p₁ p₂ fits a b =
      let done : i ≡ count s = omega arith in
      let whole = listing_objects s none in
      let short = rw (← whole) at (listing_fits s) in
      let front : Appended t₀ 0 (heading s) t₁ p₁ = (a.0, a.1 ∙ sym (zero-add (length (heading s)))) in
      let all = appended_both t₀ 0 (heading s) t₁ p₁ (lines 0 (upto (object_at s) (count s))) t₂ p₂ front (rw done at b) (omega arith) in
      rw (← whole) (from_start _ _ _ _ all)

-- ---- the line of a refusal

pub refusal_listed : (s : List ℕ) (r : ℕ) → r ≡ refusal s → (r ≡ 0 → ⊥) → (t₀ t₁ t₂ t₃ : List ℕ) (p₁ p₂ p₃ : ℕ) → text_room ≤ length t₀
    → Appended t₀ 0 word_refused t₁ p₁ → Appended t₁ p₁ (decimal r) t₂ p₂ → Appended t₂ p₂ newline t₃ p₃
    → (t₃ ≡ over t₀ 0 (listing s)) × (p₃ ≡ length (listing s))
refusal_listed s r e some t₀ t₁ t₂ t₃ p₁ p₂ p₃ fits a b c =
    let whole = ap (λ (n : ℕ). word_refused ++ decimal n ++ newline) e ∙ listing_refused s (λ z. some (e ∙ z)) in
    let short = rw (← whole) at (listing_fits s) in
    let all = appended_three t₀ 0 word_refused t₁ p₁ (decimal r) t₂ p₂ newline t₃ p₃ a b c (omega arith) in
    rw (← whole) (from_start _ _ _ _ all)
