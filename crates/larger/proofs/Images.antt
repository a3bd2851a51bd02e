-- "Older images stay sound": what the image rule by one largest block says of the rule by another.
-- Assumes nothing.
use Prim.Native.Nat.{ℕ, zero, suc, ◌+◌, ◌*◌, ◌/◌, ◌^◌, ◌≤◌, ◌<◌}
use native.Mathlib.Omega.{arith}
use mathlib.Core.Path.{◌≡◌, refl, sym, ap, ◌∙◌, subst}
use mathlib.Core.Bool.{Bool, true, false, cond, ◌&&◌}
use mathlib.Core.Option.{none, some}
use mathlib.Core.List.{List}
use native.Mathlib.Decide.{le_ind}
use borrow.Author.Tests.{le-leb, lt-ltb, eq-eqb, leb-true}
use lib.Dec.{eqb, leb, ltb}
use lib.ListN.{length, get_elem?}
use lib.Seq.{slice}
use Rattle.objects.specs.Object.{Object, filemark, block, data_of, largest_block}
use Rattle.objects.specs.Room.{entry_length, trailer_length}
use Rattle.image.specs.Image.{flag_bits, count, flags, directory, size, right_length, entry, top_bit, low31, end_at, follows, ordered, sound, object_at, objects}
use Rattle.image.proofs.Facts.{Sound, sound_parts, sound_of, ordered_at, follows_size, follows_same}
use Rattle.image.proofs.Objects.{object_there}
use Rattle.image.proofs.Tests.{both}
use Rattle.history.proofs.ReadBack.{promised}
use Rattle.larger.specs.Rules.{largest_before, follows_by, ordered_by, sound_by, held, none_above, NoLarger}
use Rattle.larger.proofs.Above.{none_at, none_by}

-- ---- by 1,048,576 it is the rule of image/specs

ordered_so : (s : List ℕ) (n : ℕ) → ordered_by largest_block s n ≡ ordered s n
unfolding ordered_by ordered follows_by follows
ordered_so s zero = refl
ordered_so s (suc i) = ap (λ (t : Bool). t && follows (end_at s i) (entry s i)) (ordered_so s i)

pub sound_so : (s : List ℕ) → sound_by largest_block s ≡ sound s
unfolding sound_by sound
sound_so s = rw (ordered_so s (count s)) refl

-- ---- the rest of the rule, which names no block

abbrev rest : List ℕ → Bool
rest s = right_length s && eqb (size s) (length s) && eqb (flags s / 2 ^ flag_bits) 0 && eqb (directory s + entry_length * count s + trailer_length) (length s)

abbrev last : List ℕ → Bool
last s = leb (end_at s (count s)) (directory s)

module _ (s : List ℕ) where
  parts_by : (m : ℕ) → sound_by m s ≡ true → (rest s ≡ true) × (ordered_by m s (count s) ≡ true) × (last s ≡ true)
  unfolding sound_by
  parts_by m h =
      let a = both (rest s && ordered_by m s (count s)) (last s) h in
      let b = both (rest s) (ordered_by m s (count s)) a.0 in
      (b.0, b.1, a.1)

  of_parts : (m : ℕ) → rest s ≡ true → ordered_by m s (count s) ≡ true → last s ≡ true → sound_by m s ≡ true
  unfolding sound_by
  of_parts m r o l = ap (λ (t : Bool). t && ordered_by m s (count s) && last s) r ∙ ap (λ (t : Bool). t && last s) o ∙ l

-- ---- by more

follows_more : (m n p e : ℕ) → m ≤ n → follows_by m p e ≡ true → follows_by n p e ≡ true
unfolding follows_by
follows_more m n p e l = go (top_bit e)
  where
    go : (t : Bool) → cond t (eqb (low31 e) p) (ltb p (low31 e) && leb (low31 e) (p + m)) ≡ true → cond t (eqb (low31 e) p) (ltb p (low31 e) && leb (low31 e) (p + n)) ≡ true
    go true h = h
    go false h =
        let b = both (ltb p (low31 e)) (leb (low31 e) (p + m)) h in
        let k = leb-true (low31 e) (p + m) b.1 in
        rw (b.0, le-leb (low31 e) (p + n) (omega arith)) refl

ordered_by_lem : (m : ℕ) (s : List ℕ) (i n : ℕ) → i < n → ordered_by m s n ≡ true → follows_by m (end_at s i) (entry s i) ≡ true
unfolding ordered_by
ordered_by_lem m s i n h o = (both (ordered_by m s i) _ (le_ind (λ (j : ℕ). ordered_by m s j ≡ true → ordered_by m s (suc i) ≡ true) (λ q. q) (λ j _ ih q. ih (both (ordered_by m s j) _ q).0) n h o)).1

ordered_more : (m n : ℕ) (s : List ℕ) (k : ℕ) → m ≤ n → ordered_by m s k ≡ true → ordered_by n s k ≡ true
unfolding ordered_by
ordered_more m n s zero l h = refl
ordered_more m n s (suc i) l h = let b = both (ordered_by m s i) (follows_by m (end_at s i) (entry s i)) h in rw (ordered_more m n s i l b.0, follows_more m n (end_at s i) (entry s i) l b.1) refl

pub sound_more : (m n : ℕ) (s : List ℕ) → m ≤ n → sound_by m s ≡ true → sound_by n s ≡ true
sound_more m n s l h = let q = parts_by s m h in of_parts s n q.0 (ordered_more m n s (count s) l q.1) q.2

-- ---- by less, where no block has more

module _ (m : ℕ) (s : List ℕ) (k : Sound s) where
  follows_less : (i : ℕ) → i < count s → none_above m (objects s) ≡ true → follows_by m (end_at s i) (entry s i) ≡ true
  unfolding follows_by
  follows_less i h a = go (top_bit (entry s i)) refl (ordered_at s i (count s) h k.in_order)
    where
      go : (t : Bool) → top_bit (entry s i) ≡ t → follows (end_at s i) (entry s i) ≡ true → cond t (eqb (low31 (entry s i)) (end_at s i)) (ltb (end_at s i) (low31 (entry s i)) && leb (low31 (entry s i)) (end_at s i + m)) ≡ true
      go true t f = eq-eqb (low31 (entry s i)) (end_at s i) (follows_same (end_at s i) (entry s i) f t)
      go false t f =
          let o : object_at s i ≡ block (slice (end_at s i) (end_at s (suc i)) s) = unfold object_at in rw t refl in
          let e : get_elem? (objects s) i ≡ some (block (slice (end_at s i) (end_at s (suc i)) s)) = object_there s i h ∙ ap some o in
          let l : low31 (entry s i) ≤ end_at s i + m = omega (arith, (promised s k i _ e).2, none_at m (objects s) i _ a e) in
          rw (lt-ltb (end_at s i) (low31 (entry s i)) (follows_size (end_at s i) (entry s i) f t).0, le-leb (low31 (entry s i)) (end_at s i + m) l) refl

  ordered_less : none_above m (objects s) ≡ true → (n : ℕ) → n ≤ count s → ordered_by m s n ≡ true
  unfolding ordered_by
  ordered_less a zero h = refl
  ordered_less a (suc i) h = rw (ordered_less a i (omega arith), follows_less i h a) refl

  sound_less : none_above m (objects s) ≡ true → sound_by m s ≡ true
  sound_less a = let q = parts_by s largest_block (sound_so s ∙ sound_of s k) in of_parts s m q.0 (ordered_less a (count s) (omega arith)) q.2

  -- and what is sound by m has no block that is longer
  small_by : sound_by m s ≡ true → none_above m (objects s) ≡ true
  small_by h = none_by m (objects s) go
    where
      go : (i : ℕ) (x : Object) → get_elem? (objects s) i ≡ some x → length (data_of x) ≤ m
      go i filemark e = omega arith
      go i (block bs) e =
          let q = promised s k i bs e in
          let f = ordered_by_lem m s i (count s) q.0 (parts_by s m h).1 in
          let g : ltb (end_at s i) (low31 (entry s i)) && leb (low31 (entry s i)) (end_at s i + m) ≡ true = unfold follows_by in rw q.1 at f in
          let b = both (ltb (end_at s i) (low31 (entry s i))) (leb (low31 (entry s i)) (end_at s i + m)) g in
          omega (arith, leb-true (low31 (entry s i)) (end_at s i + m) b.1, q.2)

-- so, where no block has more, both rules say the same of any bytes
pub same_sound : (m : ℕ) (s : List ℕ) → m ≤ largest_block → NoLarger m s → sound_by m s ≡ sound_by largest_block s
same_sound m s l a = go (sound_by m s) (sound_by largest_block s) refl refl
  where
    go : (t u : Bool) → sound_by m s ≡ t → sound_by largest_block s ≡ u → t ≡ u
    go true u e f = sym (sound_more m largest_block s l e) ∙ f
    go false true e f = let h = sym (sound_so s) ∙ f in sym e ∙ sound_less m s (sound_parts s h) (a h)
    go false false e f = refl

-- ---- Q-7: "Older images stay sound", with the same objects; and an image that is sound now was so before exactly if no block has more than 65,536 bytes

older : (s : List ℕ) → sound_by largest_before s ≡ true → sound s ≡ true
older s h = sym (sound_so s) ∙ sound_more largest_before largest_block s (omega arith) h

pub older_stay : (s : List ℕ) (xs : List Object) → held largest_before s ≡ some xs → (sound s ≡ true) × (objects s ≡ xs)
older_stay s xs h = go (sound_by largest_before s) refl h
  where
    go : (t : Bool) → sound_by largest_before s ≡ t → cond t (some (objects s)) none ≡ some xs → (sound s ≡ true) × (objects s ≡ xs)
    go true e q = (older s e, cc)
    go false e q = absurd (let z : ◌≡◌ {A = ℕ} 0 1 = cc in omega arith)

pub stayed_so : (s : List ℕ) (xs : List Object) → sound s ≡ true → objects s ≡ xs → none_above largest_before xs ≡ true → held largest_before s ≡ some xs
stayed_so s xs h e a = rw (sound_less largest_before s (sound_parts s h) (rw e a)) (ap some e)

pub older_small : (s : List ℕ) (xs : List Object) → held largest_before s ≡ some xs → none_above largest_before xs ≡ true
older_small s xs h =
    let q = older_stay s xs h in
    subst (λ (ys : List Object). none_above largest_before ys ≡ true) q.1 (small_by largest_before s (sound_parts s q.0) (go (sound_by largest_before s) h))
  where
    go : (t : Bool) → cond t (some (objects s)) none ≡ some xs → t ≡ true
    go true q = refl
    go false q = absurd (let z : ◌≡◌ {A = ℕ} 0 1 = cc in omega arith)
