-- Q-12 over objects: over blocks for all signs, over filemarks both at least 0 or both at most 0; and the way home.
-- Assumes nothing.
use Prim.Native.Nat.{ℕ, ◌+◌}
use mathlib.Core.Path.{◌≡◌, sym, ap, ap₂, ◌∙◌}
use mathlib.Core.Bool.{true}
use mathlib.Core.List.{List}
use lib.IntN.{ℤ, ◌+ℤ◌, neg_ℤ, nat_abs, +ℤ_invr}
use Rattle.answers.proofs.First.{not_both}
use Rattle.objects.specs.Object.{Object}
use Rattle.objects.specs.Movement as M
use Rattle.objects.proofs.Walk.{still}
use Rattle.merged.specs.Merged.{one_way, may_merge, second, Done, Adds, Merges, following}
use Rattle.merged.proofs.OneWay.{one_way_lem, all_moved}
use Rattle.merged.proofs.Blocks.{good_shifted, good_between, between_good, blocks_good, shifted_add, between_add, sizes_add}

-- of sizes that are known
adds_of : (a b : ℤ) (x y z : ℕ) → x ≡ nat_abs a → y ≡ nat_abs b → z ≡ nat_abs (a +ℤ b) → Adds a b x y z
adds_of a b x y z e f g = rw (e, f, g) (sizes_add a b)

-- over blocks, for all signs
over_blocks_lem : (a b : ℤ) (p : ℕ) (xs : List Object) → Done (M.space M.blocks a p xs) → Done (second M.blocks a b p xs) → Merges M.blocks a b p xs
over_blocks_lem a b p xs e f =
    let q = (M.space M.blocks a p xs).to in
    let r = (second M.blocks a b p xs).to in
    let one = between_good (a +ℤ b) p r xs (shifted_add a b p q r (good_shifted a p xs e) (good_shifted b q xs f)) (between_add xs p q r (good_between a p xs e) (good_between b q xs f)) in
    record {
      good = ap (λ (m : M.Move). m.why) one;
      place = ap (λ (m : M.Move). m.to) one;
      counted = ap (λ (m : M.Move). m.moved) one;
      crossed = adds_of a b _ _ _ (ap (λ (m : M.Move). m.distance) (blocks_good a p xs e)) (ap (λ (m : M.Move). m.distance) (blocks_good b q xs f)) (ap (λ (m : M.Move). m.distance) one);
    }

-- one way, over blocks or filemarks
along_one_way : (c : M.Code) (a b : ℤ) (p : ℕ) (xs : List Object) → one_way a b ≡ true → Done (M.space c a p xs) → Done (second c a b p xs) → Merges c a b p xs
unfolding following
along_one_way c a b p xs w e f =
    let m = M.space c a p xs in
    let n = second c a b p xs in
    let one : M.space c (a +ℤ b) p xs ≡ record { to = n.to; moved = m.moved +ℤ n.moved; why = n.why; distance = m.distance + n.distance } = rw e at (one_way_lem c a b p xs w) in
    record {
      good = ap (λ (k : M.Move). k.why) one ∙ f;
      place = ap (λ (k : M.Move). k.to) one;
      counted = ap (λ (k : M.Move). k.moved) one ∙ ap₂ (λ (i j : ℤ). i +ℤ j) (all_moved c a p xs e) (all_moved c b m.to xs f);
      crossed = record { along = λ _. ap (λ (k : M.Move). k.distance) one; turned = λ z. absurd (not_both (sym w ∙ z)); less = λ z. absurd (not_both (sym w ∙ z)) };
    }

-- "if SPACE .. by a and then by b both end GOOD .., SPACE by a + b from the start ends GOOD at the same place"
pub two_or_one : (c : M.Code) (a b : ℤ) (p : ℕ) (xs : List Object) → may_merge c a b ≡ true → Done (M.space c a p xs) → Done (second c a b p xs) → Merges c a b p xs
unfolding may_merge
two_or_one M.blocks a b p xs w e f = over_blocks_lem a b p xs e f
two_or_one M.filemarks a b p xs w e f = along_one_way M.filemarks a b p xs w e f

-- "so a followed by −a comes home when both are GOOD"
pub comes_home : (a : ℤ) (p : ℕ) (xs : List Object) → Done (M.space M.blocks a p xs) → Done (second M.blocks a (neg_ℤ a) p xs) → (second M.blocks a (neg_ℤ a) p xs).to ≡ p
comes_home a p xs e f =
    sym (over_blocks_lem a (neg_ℤ a) p xs e f).place
    ∙ ap (λ (k : ℤ). (M.space M.blocks k p xs).to) (+ℤ_invr a)
    ∙ ap (λ (m : M.Move). m.to) (still M.blocks p xs)
