-- An object put where it fits, into a sound image: the image is sound, of the same length and flags; the objects below it are as they
-- were, it stands at its number with its bytes, and nothing behind it.
-- Assumes nothing.
use Prim.Native.Nat.{ℕ, suc, ◌+◌, ◌-◌, ◌*◌, ◌^◌, ◌<◌, ◌≤◌}
use mathlib.Core.Bool.{true, cond}
use mathlib.Core.Path.{◌≡◌, refl, sym, ap, ap₂, ◌∙◌}
use mathlib.Core.List.{List, [], ◌∷◌, ◌++◌}
use native.Mathlib.Nat.{le_refl}
use native.Mathlib.Numerals.{add-one}
use native.Mathlib.Omega.{arith}
use lib.ListN.{length, take, get_or}
use lib.Seq.{slice}
use Rattle.words.specs.Words.{be, over}
use Rattle.words.proofs.Laws.{length_over, get_d_over_lt, get_d_over_ge, slice_over, length_put, get_d_put_lt, get_d_put_ge, be_put, be_same}
use Rattle.objects.specs.Object.{Object, filemark, block, data_of}
use Rattle.objects.specs.Room.{trailer_length, entry_length}
use Rattle.image.specs.Image.{entry_place, count, flags, directory, size, entry, top_bit, low31, end_at, follows, ordered, object_at, objects, upto}
use Rattle.changes.specs.Changes.{retitle, entry_of, enter}
use Rattle.changes.specs.Holdable.{Holdable}
use Rattle.image.proofs.Facts.{Sound, top_block, top_filemark, low_block, low_filemark, follows_block, follows_filemark, ordered_below, ends_grow, entries_in}
use Rattle.changes.proofs.Alike.{Matching, slice_agree, alike_end, alike_ordered, alike_object}
use Rattle.image.proofs.Objects.{upto_cong, take_objects}
use Rattle.changes.proofs.Retitled.{retitle_length, retitle_front, retitle_flags, retitle_size, retitle_count, retitle_dir}

-- the room at n holds the object's entry and its data
abbrev pub Fits : List ℕ → ℕ → Object → Type 0
Fits s n o = entry_length * n + end_at s n + entry_length + length (data_of o) + trailer_length ≤ length s

-- ---- the entry of an object after the end p

module _ (p : ℕ) where
  entry_lt : (o : Object) → p + length (data_of o) < 2 ^ 31 → entry_of o p < 2 ^ 32
  unfolding entry_of
  entry_lt filemark h = omega arith
  entry_lt (block bs) h = omega arith

  entry_low : (o : Object) → p + length (data_of o) < 2 ^ 31 → low31 (entry_of o p) ≡ p + length (data_of o)
  unfolding entry_of
  entry_low filemark h = low_filemark p (omega arith) ∙ omega arith
  entry_low (block bs) h = low_block (p + length bs) h

  entry_follows : (o : Object) → Holdable o → p + length (data_of o) < 2 ^ 31 → follows p (entry_of o p) ≡ true
  unfolding entry_of
  entry_follows filemark k h = follows_filemark p (omega arith)
  entry_follows (block bs) k h = follows_block p (p + length bs) (omega arith) (omega arith) h

  entry_kind : (o : Object) → p + length (data_of o) < 2 ^ 31 → cond (top_bit (entry_of o p)) filemark (block (data_of o)) ≡ o
  unfolding entry_of
  entry_kind filemark h = rw (top_filemark (2 ^ 31 + p) (omega arith) (omega arith)) refl
  entry_kind (block bs) h = rw (top_block (p + length bs) h) refl

module _ (a : List ℕ) (s : Sound a) (p : ℕ) (o : Object) (h : p ≤ count a) (q : Holdable o) (f : Fits a p o) where
  small : end_at a p + length (data_of o) < 2 ^ 31
  small = omega (arith, s.most)

  -- ---- data and entry laid down

  laid_length : length (over a (end_at a p) (data_of o)) ≡ length a
  laid_length = length_over a (end_at a p) (data_of o) (omega arith)

  enter_length : length (enter a p o) ≡ length a
  unfolding enter
  enter_length = length_put 4 (over a (end_at a p) (data_of o)) (entry_place (length a) p) (entry_of o (end_at a p)) (omega (arith, laid_length)) ∙ laid_length

  enter_front : (j : ℕ) → j < end_at a p → get_or (enter a p o) j 0 ≡ get_or a j 0
  unfolding enter
  enter_front j k =
      get_d_put_lt 4 (over a (end_at a p) (data_of o)) (entry_place (length a) p) (entry_of o (end_at a p)) (omega (arith, laid_length)) j (omega arith)
      ∙ get_d_over_lt a (end_at a p) (data_of o) j k (omega arith)

  enter_back : (j : ℕ) → length a - trailer_length - entry_length * p ≤ j → get_or (enter a p o) j 0 ≡ get_or a j 0
  unfolding enter
  enter_back j k =
      get_d_put_ge 4 (over a (end_at a p) (data_of o)) (entry_place (length a) p) (entry_of o (end_at a p)) (omega (arith, laid_length)) j (omega arith)
      ∙ get_d_over_ge a (end_at a p) (data_of o) j (omega arith) (omega arith)

  enter_entry : be 4 (enter a p o) (entry_place (length a) p) ≡ entry_of o (end_at a p)
  unfolding enter
  enter_entry = be_put 4 (over a (end_at a p) (data_of o)) (entry_place (length a) p) (entry_of o (end_at a p)) (omega (arith, laid_length)) (entry_lt (end_at a p) o small)

  enter_data : slice (end_at a p) (end_at a p + length (data_of o)) (enter a p o) ≡ data_of o
  unfolding enter
  enter_data =
      slice_agree (enter a p o) (over a (end_at a p) (data_of o)) (end_at a p) (end_at a p + length (data_of o))
      (omega (arith, enter_length)) (omega (arith, laid_length))
      (λ j u v. get_d_put_lt 4 (over a (end_at a p) (data_of o)) (entry_place (length a) p) (entry_of o (end_at a p)) (omega (arith, laid_length)) j (omega arith))
      ∙ slice_over a (end_at a p) (data_of o) (omega arith)

  -- ---- then N and D

  pub put_length : length (retitle (length a) (p + 1) (enter a p o)) ≡ length a
  put_length = retitle_length (length a) (p + 1) (enter a p o) enter_length s.least

  put_front : (j : ℕ) → j < length a - trailer_length → get_or (retitle (length a) (p + 1) (enter a p o)) j 0 ≡ get_or (enter a p o) j 0
  put_front j k = retitle_front (length a) (p + 1) (enter a p o) enter_length s.least j k

  put_agree : Matching (length a - trailer_length - entry_length * p) (length a - trailer_length) (retitle (length a) (p + 1) (enter a p o)) a
  put_agree j u v = put_front j v ∙ enter_back j u

  pub put_count : count (retitle (length a) (p + 1) (enter a p o)) ≡ suc p
  unfolding count
  put_count = rw put_length (retitle_count (length a) (p + 1) (enter a p o) enter_length s.least (omega (arith, s.most)) ∙ add-one p)

  trailer_kept : (at : ℕ) → length a - trailer_length ≤ at → be 4 (enter a p o) at ≡ be 4 a at
  trailer_kept at k = be_same 4 (enter a p o) at a at (λ j l. enter_back (at + j) (omega arith))

  pub put_flags : flags (retitle (length a) (p + 1) (enter a p o)) ≡ flags a
  unfolding flags
  put_flags = rw put_length (retitle_flags (length a) (p + 1) (enter a p o) enter_length s.least ∙ trailer_kept (length a - 12) (omega (arith, s.least)))

  put_size : size (retitle (length a) (p + 1) (enter a p o)) ≡ size a
  unfolding size
  put_size = rw put_length (retitle_size (length a) (p + 1) (enter a p o) enter_length s.least ∙ trailer_kept (length a - 4) (omega (arith, s.least)))

  put_dir : directory (retitle (length a) (p + 1) (enter a p o)) ≡ length a - trailer_length - entry_length * (p + 1)
  unfolding directory
  put_dir = rw put_length (retitle_dir (length a) (p + 1) (enter a p o) enter_length s.least (omega (arith, s.most)))

  put_end : (i : ℕ) → i ≤ p → end_at (retitle (length a) (p + 1) (enter a p o)) i ≡ end_at a i
  put_end i k = alike_end a (retitle (length a) (p + 1) (enter a p o)) p put_length (entries_in a s p h) put_agree i k

  put_entry : entry (retitle (length a) (p + 1) (enter a p o)) p ≡ entry_of o (end_at a p)
  unfolding entry
  put_entry =
      rw put_length (be_same 4 (retitle (length a) (p + 1) (enter a p o)) (entry_place (length a) p) (enter a p o) (entry_place (length a) p) (λ j k. put_front (entry_place (length a) p + j) (omega arith))
      ∙ enter_entry)

  pub put_end_new : end_at (retitle (length a) (p + 1) (enter a p o)) (suc p) ≡ end_at a p + length (data_of o)
  unfolding end_at
  put_end_new = ap low31 put_entry ∙ entry_low (end_at a p) o small

  put_object : (i : ℕ) → i < p → object_at (retitle (length a) (p + 1) (enter a p o)) i ≡ object_at a i
  put_object i k =
      let m : end_at a (suc i) ≤ end_at a p = ends_grow a (suc i) p k (ordered_below a p (count a) h s.in_order) in
      alike_object a (retitle (length a) (p + 1) (enter a p o)) p put_length (entries_in a s p h) put_agree i k (omega arith)
      (λ j u v. put_front j (omega arith) ∙ enter_front j (omega arith))

  put_data : slice (end_at a p) (end_at a p + length (data_of o)) (retitle (length a) (p + 1) (enter a p o)) ≡ data_of o
  put_data =
      slice_agree (retitle (length a) (p + 1) (enter a p o)) (enter a p o) (end_at a p) (end_at a p + length (data_of o))
      (omega (arith, put_length)) (omega (arith, enter_length)) (λ j u v. put_front j (omega arith))
      ∙ enter_data

  put_object_new : object_at (retitle (length a) (p + 1) (enter a p o)) p ≡ o
  unfolding object_at
  put_object_new = rw (put_entry, put_end p (le_refl p), put_end_new, put_data) (entry_kind (end_at a p) o small)

  pub put_objects : objects (retitle (length a) (p + 1) (enter a p o)) ≡ take p (objects a) ++ o ∷ []
  unfolding objects upto
  put_objects =
      rw put_count (ap₂ {C = List Object} (λ x y. x ++ y ∷ [])
      (upto_cong (object_at (retitle (length a) (p + 1) (enter a p o))) (object_at a) p put_object ∙ sym (take_objects a p h))
      put_object_new)

  put_ordered : ordered (retitle (length a) (p + 1) (enter a p o)) (suc p) ≡ true
  unfolding ordered
  put_ordered =
      rw (alike_ordered a (retitle (length a) (p + 1) (enter a p o)) p put_length (entries_in a s p h) put_agree p (le_refl p), put_end p (le_refl p), put_entry, ordered_below a p (count a) h s.in_order)
      (entry_follows (end_at a p) o q small)

  pub put_sound : Sound (retitle (length a) (p + 1) (enter a p o))
  put_sound = record {
    least = rw put_length s.least;
    most = rw put_length s.most;
    size_is = put_size ∙ s.size_is ∙ sym put_length;
    flags_are = rw put_flags s.flags_are;
    dir_is = rw (put_dir, put_count, put_length) (omega arith);
    in_order = rw put_count put_ordered;
    data_in = rw (put_count, put_dir, put_end_new) (omega arith);
  }
