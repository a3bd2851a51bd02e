-- Where an object of a sound image lies, in numbers that the code can hold.
-- Assumes nothing.
use Rattle.std.proofs.Common.{◌≡◌, ℕ, zero, suc, ◌+◌, ◌*◌, ◌^◌, ◌<◌, ◌≤◌, Bool, true, false, cond, List, length, add-one, arith}
use Rattle.objects.specs.Room.{trailer_length, entry_length}
use Rattle.image.specs.Image.{most_length, count, entry, top_bit, end_at, sound, filemarks_before}
use Rattle.image.proofs.Facts.{sound_parts, ordered_below, ends_grow, ends_in, entries_in, end_next}

pub record Lies (s : List ℕ) (i : ℕ) : Type 0 where
  pub number : i < 2 ^ 29
  pub entry_in : entry_length * (i + 1) + trailer_length ≤ length s
  pub grows : end_at s i ≤ end_at s (i + 1)
  pub inside : end_at s (i + 1) ≤ length s

pub lies : (s : List ℕ) → sound s ≡ true → (i : ℕ) → i < count s → Lies s i
lies s h i l =
    let k = sound_parts s h in
    record {
      number = omega (arith, k.dir_is, k.most);
      entry_in = omega (arith, entries_in s k (suc i) l);
      grows = rw (add-one i) (ends_grow s i (suc i) (omega arith) (ordered_below s (suc i) (count s) l k.in_order));
      inside = rw (add-one i) (omega (arith, ends_in s k (suc i) l, k.dir_is));
    }

pub few : (s : List ℕ) → sound s ≡ true → (trailer_length ≤ length s) × (count s < 2 ^ 29)
few s h = let k = sound_parts s h in (omega (arith, k.least), omega (arith, k.dir_is, k.most))

pub entries_lie : (s : List ℕ) → sound s ≡ true → (n : ℕ) → n ≤ count s → (entry_length * n + trailer_length ≤ length s) × (length s ≤ most_length)
entries_lie s h n l = let k = sound_parts s h in (omega (arith, entries_in s k n l), k.most)

pub filemarks_fewer : (s : List ℕ) (n : ℕ) → filemarks_before s n ≤ n
unfolding filemarks_before
filemarks_fewer s zero = omega arith
filemarks_fewer s (suc i) = by (top_bit (entry s i)) (filemarks_fewer s i)
  where
    by : (t : Bool) → filemarks_before s i ≤ i → filemarks_before s i + cond t 1 0 ≤ suc i
    by true h = omega arith
    by false h = omega arith

pub ruleset object_lies = (lies, few, end_next)
