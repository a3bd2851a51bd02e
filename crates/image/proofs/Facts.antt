-- What the definitions of the image say, as facts: entries, ends that only grow, a sound image's parts, and both ways between
-- the test `sound` and them.
-- Assumes nothing.
use Rattle.std.proofs.Common.{◌≡◌, ℕ, zero, suc, ◌+◌, ◌-◌, ◌*◌, ◌/◌, ◌%◌, ◌^◌, ◌<◌, ◌≤◌, Bool, true, false, cond, ◌&&◌, eqb, ltb, leb, List, length, map, sym, refl, ap, ap₂, ◌∙◌, zero-add, add-one, arith, ltb-true, le-ltb, lt-ltb, eq-eqb, ne_eqb, eqb-true, le-leb, leb-true}
use native.Mathlib.Decide.{le_ind}
use lib.Bits.{bit_or, bit_and, or_shifted, or_shifted_r, and_mask}
use mir.Val.{bool_byte}
use borrow.Author.Tests.{eqb-false, lt-leb}
use Rattle.std.specs.List.{range_with_len, sum}
use Rattle.std.proofs.lemmas.List.FromFn.{sum_by-map-range_with_len_more}
use Rattle.objects.specs.Object.{largest_block}
use Rattle.objects.specs.Room.{trailer_length, entry_length}
use Rattle.image.specs.Image.{least_length, most_length, flag_bits, count, flags, directory, size, entry, top_bit, low31, end_at, follows, ordered, right_length, sound, used, room, fits, filemarks_before}
use Rattle.image.proofs.Tests.{both, cases, split}

-- ---- an entry's two parts

pub top_block : (e : ℕ) → e < 2 ^ 31 → top_bit e ≡ false
unfolding top_bit
top_block e h = ne_eqb (e / 2 ^ 31) 1 (omega arith)

pub top_filemark : (e : ℕ) → 2 ^ 31 ≤ e → e < 2 ^ 32 → top_bit e ≡ true
unfolding top_bit
top_filemark e h k = eq-eqb (e / 2 ^ 31) 1 (omega arith)

pub low_block : (e : ℕ) → e < 2 ^ 31 → low31 e ≡ e
unfolding low31
low_block e h = omega arith

pub low_filemark : (p : ℕ) → p < 2 ^ 31 → low31 (2 ^ 31 + p) ≡ p
unfolding low31
low_filemark p h = omega arith

pub low_lt : (e : ℕ) → low31 e < 2 ^ 31
unfolding low31
low_lt e = omega arith

-- as the code masks and sets them
pub masked : (e : ℕ) → bit_and e 2147483647 ≡ low31 e
unfolding low31
masked e = and_mask e 31

pub marked : (p : ℕ) → p < 2 ^ 31 → bit_or p 2147483648 ≡ 2 ^ 31 + p
marked p h = or_shifted_r 1 31 p h

-- the top bit as the number 0 or 1
pub top_number : (e : ℕ) → e < 2 ^ 32 → cond (top_bit e) 1 0 ≡ e / 2 ^ 31
unfolding top_bit
top_number e h = by (eqb (e / 2 ^ 31) 1) refl
  where
    by : (t : Bool) → eqb (e / 2 ^ 31) 1 ≡ t → cond t 1 0 ≡ e / 2 ^ 31
    by true q = sym (eqb-true (e / 2 ^ 31) 1 q)
    by false q =
        let small : e / 2 ^ 31 < 2 = omega arith in
        let other : e / 2 ^ 31 ≡ 1 → ⊥ = eqb-false (e / 2 ^ 31) 1 q in
        omega arith

-- ---- one entry after an end

pub follows_block : (p e : ℕ) → p < e → e ≤ p + largest_block → e < 2 ^ 31 → follows p e ≡ true
unfolding follows
follows_block p e h k l = simp (top_block e l, low_block e l, lt-ltb p e h, le-leb e (p + largest_block) k)

pub follows_filemark : (p : ℕ) → p < 2 ^ 31 → follows p (2 ^ 31 + p) ≡ true
unfolding follows
follows_filemark p h = simp (top_filemark (2 ^ 31 + p) (omega arith) (omega arith), low_filemark p h, eq-eqb p p refl)

chosen_le : (m : Bool) (p t : ℕ) → cond m (eqb t p) (ltb p t && leb t (p + largest_block)) ≡ true → p ≤ t
chosen_le true p t h = omega (arith, eqb-true t p h)
chosen_le false p t h = omega (arith, ltb-true p t (both _ _ h).0)

pub follows_le : (p e : ℕ) → follows p e ≡ true → p ≤ low31 e
unfolding follows
follows_le p e h = chosen_le (top_bit e) p (low31 e) h

-- what an entry promises of its block: 1 to 1,048,576 bytes
chosen_size : (p t : ℕ) → ltb p t && leb t (p + largest_block) ≡ true → (p < t) × (t ≤ p + largest_block)
chosen_size p t h = let b = both _ _ h in (ltb-true p t b.0, leb-true t (p + largest_block) b.1)

pub follows_size : (p e : ℕ) → follows p e ≡ true → top_bit e ≡ false → (p < low31 e) × (low31 e ≤ p + largest_block)
unfolding follows
follows_size p e h t = chosen_size p (low31 e) (rw t at h)

pub follows_same : (p e : ℕ) → follows p e ≡ true → top_bit e ≡ true → low31 e ≡ p
unfolding follows
follows_same p e h t = eqb-true (low31 e) p (rw t at h)

-- ---- the first n entries

pub ordered_below : (s : List ℕ) (i n : ℕ) → i ≤ n → ordered s n ≡ true → ordered s i ≡ true
unfolding ordered
ordered_below s i n = le_ind (λ (m : ℕ). ordered s m ≡ true → ordered s i ≡ true) (λ h. h) (λ m _ ih h. ih (both (ordered s m) _ h).0) n

pub ordered_at : (s : List ℕ) (i n : ℕ) → i < n → ordered s n ≡ true → follows (end_at s i) (entry s i) ≡ true
unfolding ordered
ordered_at s i n h o = (both (ordered s i) _ (ordered_below s (suc i) n h o)).1

pub ends_grow : (s : List ℕ) (i n : ℕ) → i ≤ n → ordered s n ≡ true → end_at s i ≤ end_at s n
unfolding ordered end_at
ends_grow s i n =
    le_ind (λ (m : ℕ). ordered s m ≡ true → end_at s i ≤ end_at s m) (λ h. omega arith)
    (λ m _ ih h.
    let b = both (ordered s m) _ h in
    let g : end_at s i ≤ end_at s m = ih b.0 in
    omega (arith, follows_le (end_at s m) (entry s m) b.1))
    n

pub end_lt : (s : List ℕ) (n : ℕ) → end_at s n < 2 ^ 31
unfolding end_at
end_lt s zero = omega arith
end_lt s (suc i) = low_lt (entry s i)

-- at `i + 1`, as the code has it
pub end_next : (s : List ℕ) (i : ℕ) → end_at s (i + 1) ≡ low31 (entry s i)
unfolding end_at
end_next s i = rw add-one refl

pub end_before : (s : List ℕ) (n : ℕ) → 0 < n → low31 (entry s (n - 1)) ≡ end_at s n
end_before s n h =
    let e : n - 1 + 1 ≡ n = omega arith in
    sym (end_next s (n - 1)) ∙ ap (end_at s) e

pub ordered_next : (s : List ℕ) (i : ℕ) → ordered s i && follows (end_at s i) (entry s i) ≡ ordered s (i + 1)
unfolding ordered
ordered_next s i = rw add-one refl

pub ruleset entry_steps = (end_lt, end_next, ordered_next)

-- ---- a sound image

pub record Sound (s : List ℕ) : Type 0 where
  pub least : least_length ≤ length s
  pub most : length s ≤ most_length
  pub size_is : size s ≡ length s
  pub flags_are : flags s / 2 ^ flag_bits ≡ 0
  pub dir_is : directory s + entry_length * count s + trailer_length ≡ length s
  pub in_order : ordered s (count s) ≡ true
  pub data_in : end_at s (count s) ≤ directory s

pub right_parts : (s : List ℕ) → right_length s ≡ true → (least_length ≤ length s) × (length s ≤ most_length)
unfolding right_length
right_parts s h = let b = both (leb least_length (length s)) (leb (length s) most_length) h in (leb-true _ _ b.0, leb-true _ _ b.1)

pub right_of : (s : List ℕ) → least_length ≤ length s → length s ≤ most_length → right_length s ≡ true
unfolding right_length
right_of s h k = simp (le-leb least_length (length s) h, le-leb (length s) most_length k)

pub sound_parts : (s : List ℕ) → sound s ≡ true → Sound s
unfolding sound
sound_parts s h =
    let h5 = both _ _ h in
    let h4 = both _ _ h5.0 in
    let h3 = both _ _ h4.0 in
    let h2 = both _ _ h3.0 in
    let h1 = both (right_length s) _ h2.0 in
    let l = right_parts s h1.0 in
    record { least = l.0; most = l.1; size_is = eqb-true _ _ h1.1; flags_are = eqb-true _ _ h2.1; dir_is = eqb-true _ _ h3.1; in_order = h4.1; data_in = leb-true _ _ h5.1 }

pub sound_of : (s : List ℕ) → Sound s → sound s ≡ true
unfolding sound
sound_of s k = simp (right_of s k.least k.most, eq-eqb _ _ k.size_is, eq-eqb _ _ k.flags_are, eq-eqb _ _ k.dir_is, k.in_order, le-leb _ _ k.data_in)

-- every number up to N has its entries within the image, and its data before the directory
pub entries_in : (s : List ℕ) → Sound s → (n : ℕ) → n ≤ count s → entry_length * n + trailer_length ≤ length s
entries_in s k n h = omega (arith, k.dir_is)

pub ends_in : (s : List ℕ) → Sound s → (n : ℕ) → n ≤ count s → end_at s n ≤ directory s
ends_in s k n h = omega (arith, ends_grow s n (count s) h k.in_order, k.data_in)

-- ---- room, as a sum

pub fits_room : (s : List ℕ) (n k : ℕ) → fits s n k ≡ true → entry_length * n + end_at s n + entry_length + k + trailer_length ≤ length s
unfolding fits room used
fits_room s n k h =
    let l : entry_length + k ≤ length s - trailer_length - (entry_length * n + end_at s n) = leb-true _ _ h in
    omega arith

pub room_fits : (s : List ℕ) (n k : ℕ) → entry_length * n + end_at s n + entry_length + k + trailer_length ≤ length s → fits s n k ≡ true
unfolding fits room used
room_fits s n k h = le-leb (entry_length + k) (length s - trailer_length - (entry_length * n + end_at s n)) (omega arith)

-- ---- as the code tests an entry: what e adds to p, less the byte that a block must add, wrapped

module _ (p e more : ℕ) (hp : p < 2 ^ 31) (he : e < 2 ^ 32) (hm : more < 2 ^ 32) where
  tested_filemark : e / 2 ^ 31 ≡ 1 → (more + p) % 2 ^ 32 ≡ low31 e → leb more 0 ≡ eqb (low31 e) p
  unfolding low31
  tested_filemark t w =
      split more 1
      (λ l. le-leb more 0 (omega arith) ∙ sym (eq-eqb (e % 2 ^ 31) p (omega arith)))
      (λ l. lt-leb more 0 l ∙ sym (ne_eqb (e % 2 ^ 31) p (omega arith)))

  tested_block : (more + (p + 1)) % 2 ^ 32 ≡ low31 e → leb more (largest_block - 1) ≡ ltb p (low31 e) && leb (low31 e) (p + largest_block)
  unfolding low31
  tested_block w =
      split p (e % 2 ^ 31)
      (λ l. rw (lt-ltb p (e % 2 ^ 31) l) (split (largest_block - 1) more
      (λ k. lt-leb more (largest_block - 1) k ∙ sym (lt-leb (e % 2 ^ 31) (p + largest_block) (omega arith)))
      (λ k. le-leb more (largest_block - 1) k ∙ sym (le-leb (e % 2 ^ 31) (p + largest_block) (omega arith)))))
      (λ l. rw (le-ltb p (e % 2 ^ 31) l) (lt-leb more (largest_block - 1) (omega arith)))

  pub tested_entry : (block end : ℕ) → block ≡ 1 - e / 2 ^ 31 → end ≡ low31 e → (more + (p + block)) % 2 ^ 32 ≡ end → leb more (block * (largest_block - 1)) ≡ follows p e
  unfolding follows top_bit
  tested_entry block end hb hend w = by (eqb (e / 2 ^ 31) 1) refl
    where
      by : (t : Bool) → eqb (e / 2 ^ 31) 1 ≡ t → leb more (block * (largest_block - 1)) ≡ cond t (eqb (low31 e) p) (ltb p (low31 e) && leb (low31 e) (p + largest_block))
      by true q =
          let one : e / 2 ^ 31 ≡ 1 = eqb-true (e / 2 ^ 31) 1 q in
          let none : block ≡ 0 = omega arith in
          let w₀ : (more + p) % 2 ^ 32 ≡ low31 e = omega arith in
          rw none (tested_filemark one w₀)
      by false q =
          let other : e / 2 ^ 31 ≡ 1 → ⊥ = eqb-false (e / 2 ^ 31) 1 q in
          let one : block ≡ 1 = omega arith in
          let w₁ : (more + (p + 1)) % 2 ^ 32 ≡ low31 e = omega arith in
          rw one (tested_block w₁)

-- ---- filemarks counted by a sum over the entries

pub filemarks_sum : (s : List ℕ) (n : ℕ) → sum (map (λ i. bool_byte (top_bit (entry s i))) (range_with_len 0 n)) ≡ filemarks_before s n
unfolding filemarks_before
filemarks_sum s zero = refl
filemarks_sum s (suc n) =
    let next = sum_by-map-range_with_len_more (λ x. x) (λ i. bool_byte (top_bit (entry s i))) 0 n n (zero-add n) in
    (rw add-one at next) ∙ ap₂ (λ (a b : ℕ). a + b) (filemarks_sum s n) (cases (top_bit (entry s n)) (λ e. rw e refl) (λ e. rw e refl))

-- ---- as the code sets flag bit 0

pub bit_set : (on : Bool) (f : ℕ) → f < 2 ^ 32 → bit_or (f / 2 * 2 % 2 ^ 32) (bool_byte on) ≡ f / 2 * 2 + cond on 1 0
bit_set true f h =
    let e : f / 2 * 2 % 2 ^ 32 ≡ f / 2 * 2 = omega arith in
    rw e (or_shifted (f / 2) 1 1 (omega arith))
bit_set false f h =
    let e : f / 2 * 2 % 2 ^ 32 ≡ f / 2 * 2 = omega arith in
    rw e (or_shifted (f / 2) 1 0 (omega arith))
