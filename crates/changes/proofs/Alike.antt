-- Two images that agree on the first p entries, and on the data before them, have the same first p objects.
-- Assumes nothing.
use Prim.Native.Nat.{ℕ, zero, suc, ◌+◌, ◌-◌, ◌*◌, ◌<◌, ◌≤◌}
use mathlib.Core.Bool.{cond}
use mathlib.Core.Path.{◌≡◌, refl, sym, ap, ◌∙◌}
use mathlib.Core.List.{List}
use native.Mathlib.Omega.{arith}
use lib.ListN.{length, get_or, take}
use lib.Seq.{slice, length-slice, get_or-take, get_or-drop, ext_get_or}
use Rattle.words.proofs.Laws.{be_same}
use Rattle.objects.specs.Object.{filemark, block}
use Rattle.objects.specs.Room.{trailer_length, entry_length}
use Rattle.image.specs.Image.{entry_place, entry, top_bit, low31, end_at, ordered, object_at}

-- the bytes of a and b from f up to t are the same
abbrev pub Matching : ℕ → ℕ → List ℕ → List ℕ → Type 0
Matching f t a b = (j : ℕ) → f ≤ j → j < t → get_or a j 0 ≡ get_or b j 0

pub slice_agree : (a b : List ℕ) (f t : ℕ) → t ≤ length a → t ≤ length b → Matching f t a b → slice f t a ≡ slice f t b
slice_agree a b f t la lb h =
    ext_get_or 0 (slice f t a) (slice f t b) (length-slice f t a la ∙ sym (length-slice f t b lb)) (λ i k.
    let m : i < t - f = omega (arith, length-slice f t a la) in
    get_or-drop f (take t a) i 0 ∙ get_or-take t a (f + i) 0 (omega arith) ∙ h (f + i) (omega arith) (omega arith)
    ∙ sym (get_or-drop f (take t b) i 0 ∙ get_or-take t b (f + i) 0 (omega arith)))

module _ (a b : List ℕ) (p : ℕ) (len : length b ≡ length a) (fit : entry_length * p + trailer_length ≤ length a)
    (same : Matching (length a - trailer_length - entry_length * p) (length a - trailer_length) b a) where
  pub alike_entry : (i : ℕ) → i < p → entry b i ≡ entry a i
  unfolding entry
  alike_entry i h = rw len (be_same 4 b (entry_place (length a) i) a (entry_place (length a) i) (λ j k. same (entry_place (length a) i + j) (omega arith) (omega arith)))

  pub alike_end : (i : ℕ) → i ≤ p → end_at b i ≡ end_at a i
  unfolding end_at
  alike_end zero h = refl
  alike_end (suc i) h = ap low31 (alike_entry i h)

  pub alike_ordered : (i : ℕ) → i ≤ p → ordered b i ≡ ordered a i
  unfolding ordered
  alike_ordered zero h = refl
  alike_ordered (suc i) h = rw (alike_ordered i (omega arith), alike_end i (omega arith), alike_entry i h) refl

  pub alike_object : (i : ℕ) → i < p → end_at a (suc i) ≤ length a → Matching 0 (end_at a (suc i)) b a → object_at b i ≡ object_at a i
  unfolding object_at
  alike_object i h m d =
      rw (alike_entry i h, alike_end i (omega arith), alike_end (suc i) h)
      (ap (λ (x : List ℕ). cond (top_bit (entry a i)) filemark (block x))
      (slice_agree b a (end_at a i) (end_at a (suc i)) (omega arith) m (λ j u v. d j (omega arith) v)))
