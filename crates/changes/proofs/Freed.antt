-- Zeroing what lies between the data and the directory of a sound image leaves it sound, with the same objects and the same other bytes.
-- Assumes nothing.
use Prim.Native.Nat.{ℕ, suc, ◌+◌, ◌-◌, ◌*◌, ◌<◌, ◌≤◌}
use mathlib.Core.Path.{◌≡◌, sym, ◌∙◌}
use mathlib.Core.List.{List}
use native.Mathlib.Nat.{le_refl}
use native.Mathlib.Omega.{arith}
use lib.ListN.{length, get_or, length-replicate}
use Rattle.words.specs.Words.{be, zeros}
use Rattle.words.proofs.Laws.{Outside, length_over, be_over_ge, get_d_over_lt, get_d_over_ge, get_d_over_out}
use Rattle.objects.specs.Room.{trailer_length, entry_length}
use Rattle.image.specs.Image.{count, flags, directory, size, end_at, object_at, objects}
use Rattle.changes.specs.Changes.{cleared}
use Rattle.image.proofs.Facts.{Sound, ends_grow, entries_in}
use Rattle.changes.proofs.Alike.{Matching, alike_end, alike_ordered, alike_object}
use Rattle.image.proofs.Objects.{upto_cong}

pub record Freed (s : List ℕ) : Type 0 where
  pub sound : Sound (cleared s)
  pub same_length : length (cleared s) ≡ length s
  pub same_flags : flags (cleared s) ≡ flags s
  pub same_objects : objects (cleared s) ≡ objects s
  pub stays : (j : ℕ) → Outside j (end_at s (count s)) (directory s - end_at s (count s)) → get_or (cleared s) j 0 ≡ get_or s j 0

module _ (a : List ℕ) (s : Sound a) where
  gap : length (zeros (directory a - end_at a (count a))) ≡ directory a - end_at a (count a)
  gap = length-replicate (directory a - end_at a (count a)) 0

  in_image : end_at a (count a) + length (zeros (directory a - end_at a (count a))) ≤ length a
  in_image = omega (arith, gap, s.data_in, s.dir_is)

  cleared_length : length (cleared a) ≡ length a
  unfolding cleared
  cleared_length = length_over a (end_at a (count a)) (zeros (directory a - end_at a (count a))) in_image

  cleared_back : (q : ℕ) → length a - trailer_length ≤ q → be 4 (cleared a) q ≡ be 4 a q
  unfolding cleared
  cleared_back q h = be_over_ge 4 a (end_at a (count a)) (zeros (directory a - end_at a (count a))) q (omega (arith, gap, s.data_in, s.dir_is)) in_image

  cleared_agree : Matching (length a - trailer_length - entry_length * count a) (length a - trailer_length) (cleared a) a
  unfolding cleared
  cleared_agree j u v = get_d_over_ge a (end_at a (count a)) (zeros (directory a - end_at a (count a))) j (omega (arith, gap, s.data_in, s.dir_is)) in_image

  cleared_front : (j : ℕ) → j < end_at a (count a) → get_or (cleared a) j 0 ≡ get_or a j 0
  unfolding cleared
  cleared_front j h = get_d_over_lt a (end_at a (count a)) (zeros (directory a - end_at a (count a))) j h in_image

  cleared_stays : (j : ℕ) → Outside j (end_at a (count a)) (directory a - end_at a (count a)) → get_or (cleared a) j 0 ≡ get_or a j 0
  unfolding cleared
  cleared_stays j h = get_d_over_out a (end_at a (count a)) (zeros (directory a - end_at a (count a))) j in_image (rw gap h)

  cleared_count : count (cleared a) ≡ count a
  unfolding count
  cleared_count = rw cleared_length (cleared_back (length a - trailer_length) (le_refl (length a - trailer_length)))

  cleared_flags : flags (cleared a) ≡ flags a
  unfolding flags
  cleared_flags = rw cleared_length (cleared_back (length a - 12) (omega arith))

  cleared_dir : directory (cleared a) ≡ directory a
  unfolding directory
  cleared_dir = rw cleared_length (cleared_back (length a - 8) (omega arith))

  cleared_size : size (cleared a) ≡ size a
  unfolding size
  cleared_size = rw cleared_length (cleared_back (length a - 4) (omega arith))

  whole : entry_length * count a + trailer_length ≤ length a
  whole = entries_in a s (count a) (le_refl (count a))

  cleared_end : (i : ℕ) → i ≤ count a → end_at (cleared a) i ≡ end_at a i
  cleared_end i k = alike_end a (cleared a) (count a) cleared_length whole cleared_agree i k

  cleared_objects : objects (cleared a) ≡ objects a
  unfolding objects
  cleared_objects =
      rw cleared_count (upto_cong (object_at (cleared a)) (object_at a) (count a) (λ i k.
      let g : end_at a (suc i) ≤ end_at a (count a) = ends_grow a (suc i) (count a) k s.in_order in
      alike_object a (cleared a) (count a) cleared_length whole cleared_agree i k (omega (arith, s.data_in, s.dir_is)) (λ j u v. cleared_front j (omega arith))))

  pub frees : Freed a
  frees = record {
    sound = record {
      least = rw cleared_length s.least;
      most = rw cleared_length s.most;
      size_is = cleared_size ∙ s.size_is ∙ sym cleared_length;
      flags_are = rw cleared_flags s.flags_are;
      dir_is = rw (cleared_dir, cleared_count, cleared_length) s.dir_is;
      in_order = rw cleared_count (alike_ordered a (cleared a) (count a) cleared_length whole cleared_agree (count a) (le_refl (count a)) ∙ s.in_order);
      data_in = rw (cleared_count, cleared_dir, cleared_end (count a) (le_refl (count a))) s.data_in;
    };
    same_length = cleared_length;
    same_flags = cleared_flags;
    same_objects = cleared_objects;
    stays = cleared_stays;
  }
