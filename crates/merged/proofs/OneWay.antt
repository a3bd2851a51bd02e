-- Two movements one way, over blocks or filemarks: one by their sum is the two in a row, whatever their end. By what lies ahead, so that both directions
-- share one proof.
-- Assumes nothing.
use Prim.Native.Nat.{ℕ, zero, suc, ◌+◌, ◌-◌, ◌≤◌}
use native.Mathlib.Nat.{zero-add, suc-add}
use native.Mathlib.Omega.{arith}
use mathlib.Core.Path.{◌≡◌, refl, sym, ap, ◌∙◌}
use mathlib.Core.Bool.{true}
use mathlib.Core.List.{List, [], ◌∷◌}
use lib.ListN.{drop}
use lib.Seq.{drop-drop}
use lib.IntN.{ℤ, pos, negsuc, ◌+ℤ◌, neg_ℤ, nat_abs, neg_ℤ-+ℤ}
use Rattle.objects.specs.Object.{Object, filemark, block}
use Rattle.objects.specs.Movement as M
use Rattle.objects.proofs.Walk.{counted_crossed, walk_done, drop_before}
use Rattle.merged.specs.Merged.{at_least0, at_most0, one_way, second, Done, following, in_row}

-- v, of what lies behind w; where w ended early it is all there is
unfoldable onward : M.Why → M.Walk → M.Walk → M.Walk
onward M.done w v = record { crossed = w.crossed + v.crossed; counted = w.counted + v.counted; why = v.why }
onward M.marked w v = w
onward M.edge w v = w

counting_onward : (y : M.Why) (w v : M.Walk) → M.counting (onward y w v) ≡ onward y (M.counting w) v
unfolding onward
counting_onward M.done w v = simp suc-add
counting_onward M.marked w v = refl
counting_onward M.edge w v = refl

uncounted_onward : (y : M.Why) (w v : M.Walk) → M.uncounted (onward y w v) ≡ onward y (M.uncounted w) v
unfolding onward
uncounted_onward M.done w v = simp suc-add
uncounted_onward M.marked w v = refl
uncounted_onward M.edge w v = refl

-- a walk over m + n is one over m, and then one over n of what lies behind it
walk_add : (c : M.Code) (m n : ℕ) (xs : List Object) → let w = M.walk c m xs in M.walk c (m + n) xs ≡ onward w.why w (M.walk c n (drop w.crossed xs))
unfolding M.walk onward
walk_add c zero n xs = rw (zero-add n) (simp zero-add)
walk_add c (suc m) n [] = rw (suc-add m n) refl
walk_add M.blocks (suc m) n (filemark ∷ xs) = rw (suc-add m n) refl
walk_add M.blocks (suc m) n (block bs ∷ xs) =
    let w = M.walk M.blocks m xs in
    rw (suc-add m n) (ap M.counting (walk_add M.blocks m n xs) ∙ counting_onward w.why w _)
walk_add M.filemarks (suc m) n (filemark ∷ xs) =
    let w = M.walk M.filemarks m xs in
    rw (suc-add m n) (ap M.counting (walk_add M.filemarks m n xs) ∙ counting_onward w.why w _)
walk_add M.filemarks (suc m) n (block bs ∷ xs) =
    let w = M.walk M.filemarks (suc m) xs in
    rw (suc-add m n) (ap M.uncounted (rw (suc-add m n) at (walk_add M.filemarks (suc m) n xs)) ∙ uncounted_onward w.why w _)

-- so two movements on are one, and two back
ahead_onward : (p : ℕ) (w v : M.Walk) → M.ahead p (onward w.why w v) ≡ in_row (M.ahead p w) (M.ahead (p + w.crossed) v)
unfolding M.ahead following onward
ahead_onward p w v = go w.why
  where
    go : (y : M.Why) → M.ahead p (onward y w v) ≡ following y (M.ahead p w) (M.ahead (p + w.crossed) v)
    go M.done = λ i. record { to = (let e : p + (w.crossed + v.crossed) ≡ p + w.crossed + v.crossed = omega arith in e) i; moved = pos (w.counted + v.counted); why = v.why; distance = w.crossed + v.crossed }
    go M.marked = refl
    go M.edge = refl

backs_add : (m n : ℕ) → neg_ℤ (pos m) +ℤ neg_ℤ (pos n) ≡ neg_ℤ (pos (m + n))
backs_add m n = sym (neg_ℤ-+ℤ (pos m) (pos n))

astern_onward : (p : ℕ) (w v : M.Walk) → M.astern p (onward w.why w v) ≡ in_row (M.astern p w) (M.astern (p - w.crossed) v)
unfolding M.astern following onward
astern_onward p w v = go w.why
  where
    go : (y : M.Why) → M.astern p (onward y w v) ≡ following y (M.astern p w) (M.astern (p - w.crossed) v)
    go M.done = λ i. record { to = (let e : p - (w.crossed + v.crossed) ≡ p - w.crossed - v.crossed = omega arith in e) i; moved = sym (backs_add w.counted v.counted) i; why = v.why; distance = w.crossed + v.crossed }
    go M.marked = refl
    go M.edge = refl

-- a movement back by n, 0 too
space_back_lem : (c : M.Code) (n p : ℕ) (xs : List Object) → M.space c (neg_ℤ (pos n)) p xs ≡ M.astern p (M.walk c n (M.before p xs))
unfolding M.space M.ahead M.astern M.walk
space_back_lem c zero p xs = λ i. record { to = (let e : p + 0 ≡ p - 0 = omega arith in e) i; moved = pos zero; why = M.done; distance = zero }
space_back_lem c (suc n) p xs = refl

two_on : (c : M.Code) (m n p : ℕ) (xs : List Object) → M.space c (pos (m + n)) p xs ≡ in_row (M.space c (pos m) p xs) (second c (pos m) (pos n) p xs)
unfolding M.space
two_on c m n p xs =
    let w = M.walk c m (drop p xs) in
    ap (M.ahead p) (rw drop-drop at (walk_add c m n (drop p xs))) ∙ ahead_onward p w (M.walk c n (drop (p + w.crossed) xs))

two_back : (c : M.Code) (m n p : ℕ) (xs : List Object) → M.space c (neg_ℤ (pos m) +ℤ neg_ℤ (pos n)) p xs ≡ in_row (M.space c (neg_ℤ (pos m)) p xs) (second c (neg_ℤ (pos m)) (neg_ℤ (pos n)) p xs)
unfolding M.astern
two_back c m n p xs =
    let w = M.walk c m (M.before p xs) in
    rw (backs_add m n, space_back_lem c (m + n) p xs, space_back_lem c m p xs, space_back_lem c n (p - w.crossed) xs)
    (ap (M.astern p) (rw (drop_before w.crossed p xs) at (walk_add c m n (M.before p xs))) ∙ astern_onward p w (M.walk c n (M.before (p - w.crossed) xs)))

-- Q-12, both at least 0 or both at most 0, over blocks or filemarks: one movement by a + b is the two in a row, whatever their end
pub one_way_lem : (c : M.Code) (a b : ℤ) (p : ℕ) (xs : List Object) → one_way a b ≡ true → M.space c (a +ℤ b) p xs ≡ in_row (M.space c a p xs) (second c a b p xs)
unfolding one_way at_least0 at_most0
one_way_lem c (pos m) (pos n) p xs h = two_on c m n p xs
one_way_lem c (pos zero) (negsuc n) p xs h = two_back c zero (suc n) p xs
one_way_lem c (pos (suc m)) (negsuc n) p xs h = absurd (let z : ◌≡◌ {A = ℕ} 0 1 = cc in omega arith)
one_way_lem c (negsuc m) (pos zero) p xs h = two_back c (suc m) zero p xs
one_way_lem c (negsuc m) (pos (suc n)) p xs h = absurd (let z : ◌≡◌ {A = ℕ} 0 1 = cc in omega arith)
one_way_lem c (negsuc m) (negsuc n) p xs h = two_back c (suc m) (suc n) p xs

-- a first that is not done is all there is
pub in_row_early : (m n : M.Move) → (Done m → ⊥) → in_row m n ≡ m
in_row_early m n h = go m.why refl
  where
    go : (y : M.Why) → m.why ≡ y → following m.why m n ≡ m
    go M.done e = absurd (h e)
    go M.marked e = unfold following in rw e refl
    go M.edge e = unfold following in rw e refl

-- one way, the one is done exactly if both are
pub both_or_none : (c : M.Code) (a b : ℤ) (p : ℕ) (xs : List Object) → one_way a b ≡ true → Done (M.space c (a +ℤ b) p xs) → Done (M.space c a p xs) × Done (second c a b p xs)
unfolding following
both_or_none c a b p xs w h = go m.why refl (sym (ap (λ (k : M.Move). k.why) (one_way_lem c a b p xs w)) ∙ h)
  where
    m : M.Move
    m = M.space c a p xs

    go : (y : M.Why) → m.why ≡ y → (following y m (second c a b p xs)).why ≡ M.done → Done m × Done (second c a b p xs)
    go M.done e f = (e, f)
    go M.marked e f = absurd (let z : ◌≡◌ {A = ℕ} 0 1 = cc in omega arith)
    go M.edge e f = absurd (let z : ◌≡◌ {A = ℕ} 0 1 = cc in omega arith)

-- ---- of one that is done

-- a movement that is done counted all that was asked for
pub all_moved : (c : M.Code) (k : ℤ) (p : ℕ) (xs : List Object) → Done (M.space c k p xs) → (M.space c k p xs).moved ≡ k
unfolding M.space M.ahead M.astern
all_moved c (pos n) p xs e = ap pos (walk_done c n (drop p xs) e)
all_moved c (negsuc n) p xs e = ap (λ (m : ℕ). neg_ℤ (pos m)) (walk_done c (suc n) (M.before p xs) e)

-- and crossed no fewer
pub done_far : (c : M.Code) (k : ℤ) (p : ℕ) (xs : List Object) → Done (M.space c k p xs) → nat_abs k ≤ (M.space c k p xs).distance
unfolding M.space M.ahead M.astern
done_far c (pos n) p xs e = omega (arith, walk_done c n (drop p xs) e, counted_crossed c n (drop p xs))
done_far c (negsuc n) p xs e = omega (arith, walk_done c (suc n) (M.before p xs) e, counted_crossed c (suc n) (M.before p xs))
