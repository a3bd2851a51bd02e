-- A count of more than 32 bits asks for more than any image holds: cut to what 32 bits hold, a walk over as many goes as far, and where it ends short
-- neither residue fits 32 signed bits. So what a movement leaves is the same.
-- Assumes nothing.
use Prim.Native.Nat.{ℕ, zero, suc, ◌-◌, ◌^◌, ◌≤◌, ◌<◌, min}
use native.Mathlib.Omega.{arith}
use native.Mathlib.Decide.{dec_le}
use mathlib.Core.Path.{◌≡◌, refl, sym, ap, ◌∙◌, subst}
use mathlib.Core.Bool.{true, false}
use mathlib.Core.Option.{some}
use mathlib.Core.List.{List}
use borrow.Author.Tests.{le-ltb}
use lib.IntN.{ℤ, pos, negsuc, neg_ℤ, nat_abs}
use lib.Signed.{lt_z}
use lib.ListN.{length, drop, length-drop}
use Rattle.words.specs.Signed.{fits32}
use Rattle.objects.specs.Object.{Object}
use Rattle.objects.specs.Movement.{Code, Why, done, marked, edge, walk, before, Move, ahead, astern, space, residue}
use Rattle.objects.proofs.Walk.{walk_beyond, walk_within, counted_crossed, length_before}
use Rattle.objects.proofs.Residue.{residue_on, residue_back_lem}
use Rattle.image.specs.Image.{count, sound, objects}
use Rattle.image.proofs.Facts.{sound_parts}
use Rattle.image.proofs.Objects.{length_objects}
use Rattle.sense.proofs.Packing.{told_unfit}
use Rattle.record.specs.declared.drive.Drive.{Drive}
use Rattle.commands.specs.Act.{Seen, Deed, moved, space_tells}

-- as many as 32 bits hold
abbrev pub most : ℕ
most = 2 ^ 32 - 1

-- ---- of the objects of an image there are fewer

pub few : (s : List ℕ) → sound s ≡ true → length (objects s) < 2 ^ 30
few s h = omega (arith, length_objects s, (sound_parts s h).dir_is, (sound_parts s h).most)

pub walk_bounded : (c : Code) (n : ℕ) (xs : List Object) → length xs < 2 ^ 30 → walk c (min n most) xs ≡ walk c n xs
walk_bounded c n xs h = go (dec_le n most)
  where
    go : Dec (n ≤ most) → walk c (min n most) xs ≡ walk c n xs
    go (yes k) = ap (λ (m : ℕ). walk c m xs) (let e : min n most ≡ n = omega arith in e)
    go (no k) = walk_beyond c (min n most) n xs (omega arith) (omega arith)

-- over the objects of an image
pub walk_cut : (c : Code) (n : ℕ) (s : List ℕ) → sound s ≡ true → walk c (min n most) (objects s) ≡ walk c n (objects s)
walk_cut c n s h = walk_bounded c n (objects s) (few s h)

-- ---- two counts that go one way, and whose residues do not fit, leave the same

abbrev OneWay : ℤ → ℤ → Type 0
OneWay (pos n) (pos n') = Unit {0}
OneWay (pos n) (negsuc n') = ⊥
OneWay (negsuc n) (pos n') = ⊥
OneWay (negsuc n) (negsuc n') = Unit {0}

unfit : (d : Drive) (v : Seen) (m : Move) (k k' : ℤ) → OneWay k k' → fits32 (residue k m) ≡ false → fits32 (residue k' m) ≡ false → moved d v k m ≡ moved d v k' m
unfit d v m k k' w a b = rw (tells m.why refl k k' w a b) refl
  where
    tells : (y : Why) → m.why ≡ y → (k k' : ℤ) → OneWay k k' → fits32 (residue k m) ≡ false → fits32 (residue k' m) ≡ false → space_tells v k m ≡ space_tells v k' m
    tells done e k k' w a b = unfold space_tells in rw e refl
    tells marked e k k' w a b = unfold space_tells residue in rw e (ap some (told_unfit _ _ _ _ _ _ _ (residue k m) (residue k' m) a b))
    tells edge e (pos n) (pos n') w a b = unfold space_tells residue in rw e (ap some (told_unfit _ _ _ _ _ _ _ (residue (pos n) m) (residue (pos n') m) a b))
    tells edge e (pos n) (negsuc n') w a b = absurd w
    tells edge e (negsuc n) (pos n') w a b = absurd w
    tells edge e (negsuc n) (negsuc n') w a b = unfold space_tells residue in rw e (ap some (told_unfit _ _ _ _ _ _ _ (residue (negsuc n) m) (residue (negsuc n') m) a b))

-- ---- what does not fit

past_on : (n : ℕ) → 2 ^ 31 ≤ n → fits32 (pos n) ≡ false
unfolding fits32
past_on n h = le-ltb n (2 ^ 31) h

past_back : (n : ℕ) → 2 ^ 31 < n → fits32 (neg_ℤ (pos n)) ≡ false
unfolding fits32
past_back zero h = absurd (let z : ⊥ = omega arith in z)
past_back (suc n) h = le-ltb n (2 ^ 31) (omega arith)

-- ---- a movement by n is one by as many as 32 bits hold

module _ (d : Drive) (s : List ℕ) (v : Seen) (h : sound s ≡ true) (l : d.position ≤ count s) (c : Code) where
  abbrev p : ℕ
  p = d.position

  abbrev xs : List Object
  xs = objects s

  ahead_few : length (drop p xs) < 2 ^ 30
  ahead_few = omega (arith, length-drop p xs, few s h)

  before_few : length (before p xs) < 2 ^ 30
  before_few = omega (arith, length_before p xs, length_objects s, few s h)

  counted_few : (n : ℕ) (ys : List Object) → length ys < 2 ^ 30 → (walk c n ys).counted < 2 ^ 30
  counted_few n ys k = omega (arith, counted_crossed c n ys, walk_within c n ys)

  abbrev by : ℤ → Deed
  by k = moved d v k (space c k p xs)

  abbrev Unfit : ℤ → Type 0
  Unfit k = fits32 (residue k (space c k p xs)) ≡ false

  far : (k k' : ℤ) → OneWay k k' → space c k p xs ≡ space c k' p xs → Unfit k → Unfit k' → by k ≡ by k'
  far k k' w e a b = ap (λ (m : Move). moved d v k m) e ∙ unfit d v (space c k' p xs) k k' w (subst (λ (m : Move). fits32 (residue k m) ≡ false) e a) b

  pub far_on : (n : ℕ) → by (pos (min n most)) ≡ by (pos n)
  far_on n = go (dec_le n most)
    where
      same : space c (pos (min n most)) p xs ≡ space c (pos n) p xs
      same = unfold space in ap (ahead p) (walk_bounded c n (drop p xs) ahead_few)

      rest : (m : ℕ) → most ≤ m → Unfit (pos m)
      rest m k = ap fits32 (residue_on c m p xs) ∙ past_on (m - (walk c m (drop p xs)).counted) (omega (arith, counted_few m (drop p xs) ahead_few))

      go : Dec (n ≤ most) → by (pos (min n most)) ≡ by (pos n)
      go (yes k) = ap (λ (m : ℕ). by (pos m)) (let e : min n most ≡ n = omega arith in e)
      go (no k) = far (pos (min n most)) (pos n) tt same (rest (min n most) (omega arith)) (rest n (omega arith))

  back_as : (n m : ℕ) → suc m ≡ min (suc n) most → by (negsuc m) ≡ by (negsuc n)
  back_as n m e = go (dec_le (suc n) most)
    where
      same : space c (negsuc m) p xs ≡ space c (negsuc n) p xs
      same = unfold space in ap (astern p) (ap (λ (k : ℕ). walk c k (before p xs)) e ∙ walk_bounded c (suc n) (before p xs) before_few)

      rest : (k : ℕ) → most ≤ suc k → Unfit (negsuc k)
      rest k q = ap fits32 (residue_back_lem c k p xs) ∙ past_back (suc k - (walk c (suc k) (before p xs)).counted) (omega (arith, counted_few (suc k) (before p xs) before_few))

      go : Dec (suc n ≤ most) → by (negsuc m) ≡ by (negsuc n)
      go (yes k) = ap (λ (j : ℕ). by (negsuc j)) (let q : m ≡ n = omega arith in q)
      go (no k) = far (negsuc m) (negsuc n) tt same (rest m (omega arith)) (rest n (omega arith))

  pub far_back : (n : ℕ) → 0 < n → by (neg_ℤ (pos (min n most))) ≡ by (neg_ℤ (pos n))
  far_back zero k = absurd (let z : ⊥ = omega arith in z)
  far_back (suc n) k =
      let e : min (suc n) most ≡ suc (min (suc n) most - 1) = omega arith in
      ap (λ (m : ℕ). by (neg_ℤ (pos m))) e ∙ back_as n (min (suc n) most - 1) (sym e)

  -- by as many as 32 bits hold of what the count z asks for
  pub as_far_on : (z : ℤ) → lt_z z (pos 0) ≡ false → by (pos (min (nat_abs z) most)) ≡ by z
  as_far_on (pos n) e = far_on n
  as_far_on (negsuc n) e = absurd (let w : ◌≡◌ {A = ℕ} 0 1 = cc in omega arith)

  pub as_far_back : (z : ℤ) → lt_z z (pos 0) ≡ true → by (neg_ℤ (pos (min (nat_abs z) most))) ≡ by z
  as_far_back (pos n) e = absurd (let w : ⊥ = grind arith in w)
  as_far_back (negsuc n) e = far_back (suc n) (omega arith)
