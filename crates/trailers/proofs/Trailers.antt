-- The flags anew and a blank image: an image with other known flags is as sound and holds the same objects; a blank one is sound and
-- holds none.
-- Assumes nothing.
use Prim.Native.Nat.{ℕ, suc, ◌+◌, ◌-◌, ◌*◌, ◌/◌, ◌%◌, ◌^◌, ◌<◌, ◌≤◌}
use mathlib.Core.Bool.{Bool, true, false, cond}
use mathlib.Core.Path.{◌≡◌, refl, sym, ap, ◌∙◌}
use mathlib.Core.Logic.{inl}
use mathlib.Core.List.{List, []}
use native.Mathlib.Nat.{le_refl}
use native.Mathlib.Omega.{arith}
use lib.ListN.{length, get_or}
use lib.Dec.{eqb}
use borrow.Author.Tests.{eq-eqb, ne_eqb}
use Rattle.words.specs.Words.{be, bytes, over}
use Rattle.words.proofs.Laws.{Outside, length_bytes_lem, length_put, be_put, be_put_lt, be_put_ge, get_d_put_lt, get_d_over_out}
use Rattle.objects.specs.Room.{trailer_length, entry_length}
use Rattle.image.specs.Image.{least_length, most_length, flag_bits, count, flags, protected, directory, size, end_at, ordered, object_at, objects, upto}
use Rattle.changes.specs.Changes.{retitle}
use Rattle.trailers.specs.Trailers.{reflag, protect, blank}
use Rattle.image.proofs.Facts.{Sound, ends_in, entries_in}
use Rattle.changes.proofs.Alike.{Matching, alike_end, alike_ordered, alike_object}
use Rattle.image.proofs.Objects.{upto_cong}
use Rattle.changes.proofs.Retitled.{retitle_length, retitle_out, retitle_count, retitle_dir}

-- ---- the flags alone

module _ (a : List ℕ) (s : Sound a) (f : ℕ) (known : f < 2 ^ flag_bits) where
  at_flags : length a - 12 + 4 ≤ length a
  at_flags = omega (arith, s.least)

  pub reflag_length : length (reflag f a) ≡ length a
  unfolding reflag
  reflag_length = length_put 4 a (length a - 12) f at_flags

  reflag_front : (j : ℕ) → j < length a - 12 → get_or (reflag f a) j 0 ≡ get_or a j 0
  unfolding reflag
  reflag_front j k = get_d_put_lt 4 a (length a - 12) f at_flags j k

  pub reflag_stays : (j : ℕ) → Outside j (length a - 12) 4 → get_or (reflag f a) j 0 ≡ get_or a j 0
  unfolding reflag
  reflag_stays j k = get_d_over_out a (length a - 12) (bytes 4 f) j (rw length_bytes_lem at_flags) (rw length_bytes_lem k)

  pub reflag_count : count (reflag f a) ≡ count a
  unfolding count reflag
  reflag_count = rw reflag_length (be_put_lt 4 a (length a - 12) f at_flags 4 (length a - trailer_length) (omega (arith, s.least)))

  reflag_dir : directory (reflag f a) ≡ directory a
  unfolding directory reflag
  reflag_dir = rw reflag_length (be_put_ge 4 a (length a - 12) f at_flags 4 (length a - 8) (omega (arith, s.least)))

  reflag_size : size (reflag f a) ≡ size a
  unfolding size reflag
  reflag_size = rw reflag_length (be_put_ge 4 a (length a - 12) f at_flags 4 (length a - 4) (omega (arith, s.least)))

  pub reflag_flags : flags (reflag f a) ≡ f
  unfolding flags reflag
  reflag_flags = rw reflag_length (be_put 4 a (length a - 12) f at_flags (omega arith))

  reflag_agree : Matching (length a - trailer_length - entry_length * count a) (length a - trailer_length) (reflag f a) a
  reflag_agree j u v = reflag_front j (omega (arith, s.least))

  reflag_end : (i : ℕ) → i ≤ count a → end_at (reflag f a) i ≡ end_at a i
  reflag_end i k = alike_end a (reflag f a) (count a) reflag_length (entries_in a s (count a) (le_refl (count a))) reflag_agree i k

  pub reflag_objects : objects (reflag f a) ≡ objects a
  unfolding objects
  reflag_objects =
      rw reflag_count (upto_cong (object_at (reflag f a)) (object_at a) (count a) (λ i k.
      let d : end_at a (suc i) ≤ directory a = ends_in a s (suc i) k in
      alike_object a (reflag f a) (count a) reflag_length (entries_in a s (count a) (le_refl (count a))) reflag_agree i k (omega (arith, s.dir_is))
      (λ j u v. reflag_front j (omega (arith, s.dir_is)))))

  pub reflag_sound : Sound (reflag f a)
  reflag_sound = record {
    least = rw reflag_length s.least;
    most = rw reflag_length s.most;
    size_is = reflag_size ∙ s.size_is ∙ sym reflag_length;
    flags_are = rw reflag_flags (omega arith);
    dir_is = rw (reflag_dir, reflag_count, reflag_length) s.dir_is;
    in_order = rw reflag_count (alike_ordered a (reflag f a) (count a) reflag_length (entries_in a s (count a) (le_refl (count a))) reflag_agree (count a) (le_refl (count a)) ∙ s.in_order);
    data_in = rw (reflag_count, reflag_dir, reflag_end (count a) (le_refl (count a))) s.data_in;
  }

-- ---- protection: bit 0 is what was asked, the other bits and all else as before

pub record Protected (on : Bool) (s : List ℕ) : Type 0 where
  pub sound : Sound (protect on s)
  pub same_length : length (protect on s) ≡ length s
  pub asked : protected (protect on s) ≡ on
  pub other_flags : flags (protect on s) / 2 ≡ flags s / 2
  pub same_objects : objects (protect on s) ≡ objects s
  pub stays : (j : ℕ) → Outside j (length s - 12) 4 → get_or (protect on s) j 0 ≡ get_or s j 0

bit_of : (on : Bool) (f : ℕ) → eqb ((f / 2 * 2 + cond on 1 0) % 2) 1 ≡ on
bit_of true f = eq-eqb ((f / 2 * 2 + 1) % 2) 1 (omega arith)
bit_of false f = ne_eqb ((f / 2 * 2 + 0) % 2) 1 (omega arith)

rest_of : (on : Bool) (f : ℕ) → (f / 2 * 2 + cond on 1 0) / 2 ≡ f / 2
rest_of true f = omega arith
rest_of false f = omega arith

still_known : (on : Bool) (f : ℕ) → f / 2 ^ flag_bits ≡ 0 → f / 2 * 2 + cond on 1 0 < 2 ^ flag_bits
still_known true f h = omega arith
still_known false f h = omega arith

pub protects : (on : Bool) (s : List ℕ) → Sound s → Protected on s
unfolding protect protected
protects on s k =
    let f : ℕ = flags s / 2 * 2 + cond on 1 0 in
    let known : f < 2 ^ flag_bits = still_known on (flags s) k.flags_are in
    record {
      sound = reflag_sound s k f known;
      same_length = reflag_length s k f known;
      asked = ap (λ (n : ℕ). eqb (n % 2) 1) (reflag_flags s k f known) ∙ bit_of on (flags s);
      other_flags = ap (λ (n : ℕ). n / 2) (reflag_flags s k f known) ∙ rest_of on (flags s);
      same_objects = reflag_objects s k f known;
      stays = reflag_stays s k f known;
    }

-- ---- a blank image

pub record Blanked (s : List ℕ) : Type 0 where
  pub sound : Sound (blank s)
  pub same_length : length (blank s) ≡ length s
  pub no_flags : flags (blank s) ≡ 0
  pub no_objects : objects (blank s) ≡ []
  pub stays : (j : ℕ) → j < length s - trailer_length → get_or (blank s) j 0 ≡ get_or s j 0

module _ (s : List ℕ) (low : least_length ≤ length s) (high : length s ≤ most_length) where
  bare : length (retitle (length s) 0 s) ≡ length s
  bare = retitle_length (length s) 0 s refl low

  unflagged : length (over (retitle (length s) 0 s) (length s - 12) (bytes 4 0)) ≡ length s
  unflagged = length_put 4 (retitle (length s) 0 s) (length s - 12) 0 (omega (arith, bare)) ∙ bare

  at_12 : length s - 12 + 4 ≤ length (retitle (length s) 0 s)
  at_12 = omega (arith, bare)

  at_4 : length s - 4 + 4 ≤ length (over (retitle (length s) 0 s) (length s - 12) (bytes 4 0))
  at_4 = omega (arith, unflagged)

  blank_length : length (blank s) ≡ length s
  unfolding blank
  blank_length = length_put 4 (over (retitle (length s) 0 s) (length s - 12) (bytes 4 0)) (length s - 4) (length s) at_4 ∙ unflagged

  -- a number of the trailer before the flags, and the one between flags and L
  blank_lt : (q : ℕ) → q + 4 ≤ length s - 12 → be 4 (blank s) q ≡ be 4 (retitle (length s) 0 s) q
  unfolding blank
  blank_lt q h =
      be_put_lt 4 (over (retitle (length s) 0 s) (length s - 12) (bytes 4 0)) (length s - 4) (length s) at_4 4 q (omega arith)
      ∙ be_put_lt 4 (retitle (length s) 0 s) (length s - 12) 0 at_12 4 q h

  blank_count : count (blank s) ≡ 0
  unfolding count
  blank_count = rw blank_length (blank_lt (length s - trailer_length) (omega arith) ∙ retitle_count (length s) 0 s refl low (omega arith))

  blank_flags : flags (blank s) ≡ 0
  unfolding flags blank
  blank_flags =
      rw blank_length (be_put_lt 4 (over (retitle (length s) 0 s) (length s - 12) (bytes 4 0)) (length s - 4) (length s) at_4 4 (length s - 12) (omega arith)
      ∙ be_put 4 (retitle (length s) 0 s) (length s - 12) 0 at_12 (omega arith))

  blank_dir : directory (blank s) ≡ length s - trailer_length - entry_length * 0
  unfolding directory blank
  blank_dir =
      rw blank_length (be_put_lt 4 (over (retitle (length s) 0 s) (length s - 12) (bytes 4 0)) (length s - 4) (length s) at_4 4 (length s - 8) (omega arith)
      ∙ be_put_ge 4 (retitle (length s) 0 s) (length s - 12) 0 at_12 4 (length s - 8) (omega arith)
      ∙ retitle_dir (length s) 0 s refl low (omega arith))

  blank_size : size (blank s) ≡ length s
  unfolding size blank
  blank_size = rw blank_length (be_put 4 (over (retitle (length s) 0 s) (length s - 12) (bytes 4 0)) (length s - 4) (length s) at_4 (omega arith))

  blank_stays : (j : ℕ) → j < length s - trailer_length → get_or (blank s) j 0 ≡ get_or s j 0
  unfolding blank
  blank_stays j h =
      get_d_put_lt 4 (over (retitle (length s) 0 s) (length s - 12) (bytes 4 0)) (length s - 4) (length s) at_4 j (omega arith)
      ∙ get_d_put_lt 4 (retitle (length s) 0 s) (length s - 12) 0 at_12 j (omega arith)
      ∙ retitle_out (length s) 0 s refl low j (inl h) (inl (omega arith))

  blank_objects : objects (blank s) ≡ []
  unfolding objects upto
  blank_objects = rw blank_count refl

  no_end : end_at (blank s) 0 ≡ 0
  unfolding end_at
  no_end = refl

  no_entries : ordered (blank s) 0 ≡ true
  unfolding ordered
  no_entries = refl

  pub blanks : Blanked s
  blanks = record {
    sound = record {
      least = rw blank_length low;
      most = rw blank_length high;
      size_is = blank_size ∙ sym blank_length;
      flags_are = rw blank_flags (omega arith);
      dir_is = rw (blank_dir, blank_count, blank_length) (omega arith);
      in_order = rw blank_count no_entries;
      data_in = rw (blank_count, blank_dir, no_end) (omega arith);
    };
    same_length = blank_length;
    no_flags = blank_flags;
    no_objects = blank_objects;
    stays = blank_stays;
  }
