-- Objects of which no block has more than m bytes: by number, in part, and after the events of a command that puts none that is longer.
-- Assumes nothing.
use Prim.Native.Nat.{ℕ, zero, suc, ◌≤◌}
use native.Mathlib.Omega.{arith}
use mathlib.Core.Path.{◌≡◌, refl}
use mathlib.Core.Bool.{true}
use mathlib.Core.Option.{some}
use mathlib.Core.List.{List, [], ◌∷◌, ◌++◌}
use borrow.Author.Tests.{le-leb, leb-true}
use lib.Dec.{leb}
use lib.ListN.{length, take, drop, get_elem?, length-take}
use Rattle.objects.specs.Object.{Object, filemark, block, data_of}
use Rattle.objects.specs.Events.{cut, happen, happens}
use Rattle.objects.specs.Transfer.{blocks_of, marks_of, put_from}
use Rattle.image.proofs.Tests.{both}
use Rattle.larger.specs.Rules.{none_above}

module _ (m : ℕ) where
  parts : (x : Object) (xs : List Object) → none_above m (x ∷ xs) ≡ true → (length (data_of x) ≤ m) × (none_above m xs ≡ true)
  unfolding none_above
  parts x xs a = let b = both (leb (length (data_of x)) m) (none_above m xs) a in (leb-true (length (data_of x)) m b.0, b.1)

  one_more : (x : Object) (xs : List Object) → length (data_of x) ≤ m → none_above m xs ≡ true → none_above m (x ∷ xs) ≡ true
  unfolding none_above
  one_more x xs h a = rw (le-leb (length (data_of x)) m h, a) refl

  pub none_at : (xs : List Object) (i : ℕ) (x : Object) → none_above m xs ≡ true → get_elem? xs i ≡ some x → length (data_of x) ≤ m
  none_at [] i x a e = absurd (let z : ◌≡◌ {A = ℕ} 0 1 = cc in omega arith)
  none_at (y ∷ xs) zero x a e = let q : y ≡ x = cc in rw (← q) (parts y xs a).0
  none_at (y ∷ xs) (suc i) x a e = none_at xs i x (parts y xs a).1 e

  pub none_by : (xs : List Object) → ((i : ℕ) (x : Object) → get_elem? xs i ≡ some x → length (data_of x) ≤ m) → none_above m xs ≡ true
  none_by [] f = unfold none_above in refl
  none_by (x ∷ xs) f = one_more x xs (f 0 x refl) (none_by xs (λ i y e. f (suc i) y e))

  pub none_take : (k : ℕ) (xs : List Object) → none_above m xs ≡ true → none_above m (take k xs) ≡ true
  none_take zero xs a = unfold none_above in refl
  none_take (suc k) [] a = a
  none_take (suc k) (x ∷ xs) a = let b = parts x xs a in one_more x (take k xs) b.0 (none_take k xs b.1)

  none_append : (xs ys : List Object) → none_above m xs ≡ true → none_above m ys ≡ true → none_above m (xs ++ ys) ≡ true
  none_append [] ys a b = b
  none_append (x ∷ xs) ys a b = let c = parts x xs a in one_more x (xs ++ ys) c.0 (none_append xs ys c.1 b)

  -- ---- what is offered

  pub none_blocks : (b n : ℕ) (s : List ℕ) → b ≤ m → none_above m (blocks_of b n s) ≡ true
  unfolding blocks_of
  none_blocks b zero s h = unfold none_above in refl
  none_blocks b (suc n) s h = one_more (block (take b s)) (blocks_of b n (drop b s)) (omega (arith, length-take b s)) (none_blocks b n (drop b s) h)

  pub none_marks : (n : ℕ) → none_above m (marks_of n) ≡ true
  unfolding marks_of
  none_marks zero = unfold none_above in refl
  none_marks (suc n) = one_more filemark (marks_of n) (omega arith) (none_marks n)

  -- ---- what events leave

  pub none_put : (os : List Object) (p : ℕ) (xs : List Object) → none_above m os ≡ true → none_above m xs ≡ true → none_above m (happens (put_from p os) xs) ≡ true
  unfolding put_from happens happen
  none_put [] p xs a b = b
  none_put (o ∷ os) p xs a b =
      let c = parts o os a in
      none_put os (suc p) (take p xs ++ o ∷ []) c.1 (none_append (take p xs) (o ∷ []) (none_take p xs b) (one_more o [] c.0 (unfold none_above in refl)))

  pub none_cut : (p : ℕ) (xs : List Object) → none_above m xs ≡ true → none_above m (happens (cut p ∷ []) xs) ≡ true
  unfolding happens happen
  none_cut p xs b = none_take p xs b
