-- A sound image cut at a number is sound, of the same length and flags, and holds the objects before that number.
-- Assumes nothing.
use Prim.Native.Nat.{ℕ, suc, ◌-◌, ◌*◌, ◌<◌, ◌≤◌}
use mathlib.Core.Path.{◌≡◌, refl, sym, ◌∙◌}
use mathlib.Core.List.{List}
use native.Mathlib.Nat.{le_refl}
use native.Mathlib.Omega.{arith}
use lib.ListN.{length, take, get_or}
use Rattle.objects.specs.Room.{trailer_length, entry_length}
use Rattle.image.specs.Image.{count, flags, directory, size, end_at, object_at, objects}
use Rattle.changes.specs.Changes.{retitle}
use Rattle.image.proofs.Facts.{Sound, ordered_below, ends_in, entries_in}
use Rattle.changes.proofs.Alike.{Matching, alike_end, alike_ordered, alike_object}
use Rattle.image.proofs.Objects.{upto_cong, take_objects}
use Rattle.changes.proofs.Retitled.{retitle_length, retitle_front, retitle_flags, retitle_size, retitle_count, retitle_dir}

module _ (a : List ℕ) (s : Sound a) (p : ℕ) (h : p ≤ count a) where
  pub cut_length : length (retitle (length a) p a) ≡ length a
  cut_length = retitle_length (length a) p a refl s.least

  cut_front : (j : ℕ) → j < length a - trailer_length → get_or (retitle (length a) p a) j 0 ≡ get_or a j 0
  cut_front j k = retitle_front (length a) p a refl s.least j k

  cut_agree : Matching (length a - trailer_length - entry_length * p) (length a - trailer_length) (retitle (length a) p a) a
  cut_agree j u v = cut_front j v

  pub cut_count : count (retitle (length a) p a) ≡ p
  unfolding count
  cut_count = rw cut_length (retitle_count (length a) p a refl s.least (omega (arith, s.dir_is, s.most)))

  pub cut_flags : flags (retitle (length a) p a) ≡ flags a
  unfolding flags
  cut_flags = rw cut_length (retitle_flags (length a) p a refl s.least)

  cut_dir : directory (retitle (length a) p a) ≡ length a - trailer_length - entry_length * p
  unfolding directory
  cut_dir = rw cut_length (retitle_dir (length a) p a refl s.least (omega (arith, s.most)))

  cut_end : (i : ℕ) → i ≤ p → end_at (retitle (length a) p a) i ≡ end_at a i
  cut_end i k = alike_end a (retitle (length a) p a) p cut_length (entries_in a s p h) cut_agree i k

  cut_object : (i : ℕ) → i < p → object_at (retitle (length a) p a) i ≡ object_at a i
  cut_object i k =
      let d : end_at a (suc i) ≤ directory a = ends_in a s (suc i) (omega arith) in
      alike_object a (retitle (length a) p a) p cut_length (entries_in a s p h) cut_agree i k (omega (arith, s.dir_is))
      (λ j u v. cut_front j (omega (arith, s.dir_is)))

  pub cut_objects : objects (retitle (length a) p a) ≡ take p (objects a)
  unfolding objects
  cut_objects = rw cut_count (upto_cong (object_at (retitle (length a) p a)) (object_at a) p cut_object) ∙ sym (take_objects a p h)

  pub cut_sound : Sound (retitle (length a) p a)
  unfolding size
  cut_sound = record {
    least = rw cut_length s.least;
    most = rw cut_length s.most;
    size_is = rw cut_length (retitle_size (length a) p a refl s.least ∙ s.size_is);
    flags_are = rw cut_flags s.flags_are;
    dir_is = rw (cut_dir, cut_count, cut_length) (omega (arith, s.dir_is));
    in_order = rw cut_count (alike_ordered a (retitle (length a) p a) p cut_length (entries_in a s p h) cut_agree p (le_refl p) ∙ ordered_below a p (count a) h s.in_order);
    data_in = rw (cut_count, cut_dir, cut_end p (le_refl p)) (omega (arith, ends_in a s p h, s.dir_is));
  }
