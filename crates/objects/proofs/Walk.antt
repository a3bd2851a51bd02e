-- How far a movement goes and what it counts: by induction on what lies ahead, so that both directions share one proof.
-- Assumes nothing.
use Prim.Native.Nat.{ℕ, zero, suc, ◌-◌, ◌≤◌, ◌<◌, zero-le, suc-le-suc, max, min}
use native.Mathlib.Nat.{add-zero}
use native.Mathlib.Omega.{arith}
use mathlib.Core.Path.{◌≡◌, refl, sym, ap, ◌∙◌, subst}
use mathlib.Core.Bool.{Bool, true, false, cond}
use mathlib.Core.List.{List, [], ◌∷◌}
use lib.Dec.{T, leb, leb→le}
use lib.ListN.{length, drop, length-drop}
use lib.IntN.{ℤ, pos, negsuc}
use Rattle.objects.specs.Object.{Object, filemark, block}
use Rattle.objects.specs.Movement.{Code, blocks, filemarks, done, edge, counting, uncounted, walk, before, ahead, astern, space, straight, to_end_of_data, to_object, to_file, Destination, object, file, end_of_data, locate}

-- a walk crosses nothing that does not lie ahead
pub walk_within : (c : Code) (n : ℕ) (xs : List Object) → (walk c n xs).crossed ≤ length xs
unfolding walk
walk_within c zero xs = zero-le
walk_within c (suc n) [] = zero-le
walk_within blocks (suc n) (filemark ∷ xs) = omega arith
walk_within blocks (suc n) (block bs ∷ xs) = suc-le-suc (walk_within blocks n xs)
walk_within filemarks (suc n) (filemark ∷ xs) = suc-le-suc (walk_within filemarks n xs)
walk_within filemarks (suc n) (block bs ∷ xs) = suc-le-suc (walk_within filemarks (suc n) xs)

-- a walk counts no more than was asked for
pub counted_le : (c : Code) (n : ℕ) (xs : List Object) → (walk c n xs).counted ≤ n
unfolding walk
counted_le c zero xs = zero-le
counted_le c (suc n) [] = zero-le
counted_le blocks (suc n) (filemark ∷ xs) = zero-le
counted_le blocks (suc n) (block bs ∷ xs) = suc-le-suc (counted_le blocks n xs)
counted_le filemarks (suc n) (filemark ∷ xs) = suc-le-suc (counted_le filemarks n xs)
counted_le filemarks (suc n) (block bs ∷ xs) = counted_le filemarks (suc n) xs

-- what is counted is crossed
pub counted_crossed : (c : Code) (n : ℕ) (xs : List Object) → (walk c n xs).counted ≤ (walk c n xs).crossed
unfolding walk
counted_crossed c zero xs = zero-le
counted_crossed c (suc n) [] = zero-le
counted_crossed blocks (suc n) (filemark ∷ xs) = zero-le
counted_crossed blocks (suc n) (block bs ∷ xs) = suc-le-suc (counted_crossed blocks n xs)
counted_crossed filemarks (suc n) (filemark ∷ xs) = suc-le-suc (counted_crossed filemarks n xs)
counted_crossed filemarks (suc n) (block bs ∷ xs) = omega (arith, counted_crossed filemarks (suc n) xs)

-- a walk that is done counted all that was asked for
pub walk_done : (c : Code) (n : ℕ) (xs : List Object) → (walk c n xs).why ≡ done → (walk c n xs).counted ≡ n
unfolding walk
walk_done c zero xs e = refl
walk_done c (suc n) [] e = cc
walk_done blocks (suc n) (filemark ∷ xs) e = cc
walk_done blocks (suc n) (block bs ∷ xs) e = ap suc (walk_done blocks n xs e)
walk_done filemarks (suc n) (filemark ∷ xs) e = ap suc (walk_done filemarks n xs e)
walk_done filemarks (suc n) (block bs ∷ xs) e = walk_done filemarks (suc n) xs e

-- a walk that is asked for more than lies ahead goes as far, whatever it is asked for
pub walk_beyond : (c : Code) (n m : ℕ) (xs : List Object) → length xs < n → length xs < m → walk c n xs ≡ walk c m xs
unfolding walk
walk_beyond c zero m xs h k = absurd (let z : ⊥ = omega arith in z)
walk_beyond c (suc n) zero xs h k = absurd (let z : ⊥ = omega arith in z)
walk_beyond c (suc n) (suc m) [] h k = refl
walk_beyond blocks (suc n) (suc m) (filemark ∷ xs) h k = refl
walk_beyond blocks (suc n) (suc m) (block bs ∷ xs) h k = ap counting (walk_beyond blocks n m xs (omega arith) (omega arith))
walk_beyond filemarks (suc n) (suc m) (filemark ∷ xs) h k = ap counting (walk_beyond filemarks n m xs (omega arith) (omega arith))
walk_beyond filemarks (suc n) (suc m) (block bs ∷ xs) h k = ap uncounted (walk_beyond filemarks (suc n) (suc m) xs (omega arith) (omega arith))

-- before position p lie p objects, and the i-th of them from p is number p - 1 - i
pub length_before : (p : ℕ) (xs : List Object) → length (before p xs) ≡ p
unfolding before
length_before zero xs = refl
length_before (suc p) xs = ap suc (length_before p xs)

-- going back c objects from p leaves before it what lies before p - c
pub drop_before : (c p : ℕ) (xs : List Object) → drop c (before p xs) ≡ before (p - c) xs
unfolding before
drop_before zero p xs = ap (λ (k : ℕ). before k xs) (let e : p ≡ p - 0 = omega arith in e)
drop_before (suc c) zero xs = ap (λ (k : ℕ). before k xs) (let e : 0 ≡ 0 - suc c = omega arith in e)
drop_before (suc c) (suc p) xs = drop_before c p xs ∙ ap (λ (k : ℕ). before k xs) (let e : p - c ≡ suc p - suc c = omega arith in e)

-- a movement from p to q over d objects, of N: d is how far q is from p, and q is a position
pub record Went (p q d N : ℕ) : Type 0 where
  pub apart : max p q - min p q ≡ d
  pub within : d ≤ N
  pub stays : q ≤ N

pub went : (c : Code) (k : ℤ) (p : ℕ) (xs : List Object) → p ≤ length xs
    → Went p (space c k p xs).to (space c k p xs).distance (length xs)
unfolding space ahead astern
went c (pos n) p xs h =
    let w : (walk c n (drop p xs)).crossed ≤ length (drop p xs) = walk_within c n (drop p xs) in
    let l : length (drop p xs) ≡ length xs - p = length-drop p xs in
    record { apart = omega arith; within = omega arith; stays = omega arith }
went c (negsuc n) p xs h =
    let w : (walk c (suc n) (before p xs)).crossed ≤ length (before p xs) = walk_within c (suc n) (before p xs) in
    let l : length (before p xs) ≡ p = length_before p xs in
    record { apart = omega arith; within = omega arith; stays = omega arith }

-- a count of zero moves nothing, and is done
pub still : (c : Code) (p : ℕ) (xs : List Object)
    → space c (pos zero) p xs ≡ record { to = p; moved = pos zero; why = done; distance = zero }
unfolding space ahead walk
still c p xs = rw (add-zero p)

-- ---- straight to a number

pub went_end : (p : ℕ) (xs : List Object) → p ≤ length xs → Went p (to_end_of_data p xs).to (to_end_of_data p xs).distance (length xs)
unfolding to_end_of_data
went_end p xs h = record { apart = omega arith; within = omega arith; stays = omega arith }

pub went_object : (p k : ℕ) (xs : List Object) → p ≤ length xs → Went p (to_object p k xs).to (to_object p k xs).distance (length xs)
unfolding to_object
went_object p k xs h = go (leb k (length xs)) refl
  where
    go : (t : Bool) → leb k (length xs) ≡ t → Went p (cond t (straight p k done) (straight p (length xs) edge)).to (cond t (straight p k done) (straight p (length xs) edge)).distance (length xs)
    go true e = let l = leb→le k (length xs) (subst T (sym e) tt) in record { apart = omega arith; within = omega arith; stays = omega arith }
    go false e = record { apart = omega arith; within = omega arith; stays = omega arith }

pub went_file : (p f : ℕ) (xs : List Object) → p ≤ length xs → Went p (to_file p f xs).to (to_file p f xs).distance (length xs)
unfolding to_file
went_file p f xs h = let w = walk_within filemarks f xs in record { apart = omega arith; within = omega arith; stays = omega arith }

pub went_there : (t : Destination) (p : ℕ) (xs : List Object) → p ≤ length xs → Went p (locate t p xs).to (locate t p xs).distance (length xs)
unfolding locate
went_there (object k) p xs h = went_object p k xs h
went_there (file f) p xs h = went_file p f xs h
went_there end_of_data p xs h = went_end p xs h
