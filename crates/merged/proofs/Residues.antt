-- One way, which of two movements stopped: the residue of the one in their place tells.
-- Assumes nothing.
use Prim.Native.Nat.{ℕ, zero, suc, ◌+◌, ◌-◌, ◌<◌, suc-le-suc}
use native.Mathlib.Omega.{arith}
use mathlib.Core.Path.{◌≡◌, refl, sym, ap, ap₂, ◌∙◌}
use mathlib.Core.Bool.{true}
use mathlib.Core.List.{List, [], ◌∷◌}
use lib.ListN.{drop}
use lib.IntN.{ℤ, pos, negsuc, ◌+ℤ◌, ◌-ℤ◌, neg_ℤ, nat_abs, +ℤ_idl, +ℤ_assoc, +ℤ_comm, +ℤ_invr, neg_ℤ-+ℤ}
use Rattle.objects.specs.Object.{Object, filemark, block}
use Rattle.objects.specs.Movement as M
use Rattle.objects.proofs.Residue.{size_back_lem, residue_on, residue_back_lem}
use Rattle.objects.proofs.Walk.{counted_le}
use Rattle.merged.specs.Merged.{one_way, second, Done, following, ToldBy}
use Rattle.merged.proofs.OneWay.{in_row_early, one_way_lem, all_moved}
use Rattle.merged.proofs.Blocks.{sizes_add}

-- what is left of a + b behind a and q is what is left of b behind q
pub left_over : (a b q : ℤ) → (a +ℤ b) -ℤ (a +ℤ q) ≡ b -ℤ q
left_over a b q =
    ap₂ (λ (i j : ℤ). i +ℤ j) (+ℤ_comm a b) (neg_ℤ-+ℤ a q)
    ∙ +ℤ_assoc b a (neg_ℤ a +ℤ neg_ℤ q)
    ∙ ap (λ (i : ℤ). b +ℤ i) (sym (+ℤ_assoc a (neg_ℤ a) (neg_ℤ q)) ∙ ap (λ (i : ℤ). i +ℤ neg_ℤ q) (+ℤ_invr a) ∙ +ℤ_idl (neg_ℤ q))

-- a walk that is not done counted less than was asked for
stops_short : (c : M.Code) (n : ℕ) (xs : List Object) → ((M.walk c n xs).why ≡ M.done → ⊥) → (M.walk c n xs).counted < n
unfolding M.walk
stops_short c zero xs h = absurd (h refl)
stops_short c (suc n) [] h = omega arith
stops_short M.blocks (suc n) (filemark ∷ xs) h = omega arith
stops_short M.blocks (suc n) (block bs ∷ xs) h = suc-le-suc (stops_short M.blocks n xs h)
stops_short M.filemarks (suc n) (filemark ∷ xs) h = suc-le-suc (stops_short M.filemarks n xs h)
stops_short M.filemarks (suc n) (block bs ∷ xs) h = stops_short M.filemarks (suc n) xs h

-- what is left of a count, and what was counted, make up the count
left_size : (c : M.Code) (k : ℤ) (p : ℕ) (xs : List Object) → let m = M.space c k p xs in nat_abs (M.residue k m) + nat_abs m.moved ≡ nat_abs k
unfolding M.space M.ahead M.astern M.residue
left_size c (pos n) p xs = omega (arith, ap nat_abs (residue_on c n p xs), counted_le c n (drop p xs))
left_size c (negsuc n) p xs =
    let q = (M.walk c (suc n) (M.before p xs)).counted in
    omega (arith, ap nat_abs (residue_back_lem c n p xs), size_back_lem (suc n - q), size_back_lem q, counted_le c (suc n) (M.before p xs))

moved_short : (c : M.Code) (k : ℤ) (p : ℕ) (xs : List Object) → (Done (M.space c k p xs) → ⊥) → nat_abs (M.space c k p xs).moved < nat_abs k
unfolding M.space M.ahead M.astern
moved_short c (pos n) p xs h = stops_short c n (drop p xs) h
moved_short c (negsuc n) p xs h = rw (size_back_lem (M.walk c (suc n) (M.before p xs)).counted) (stops_short c (suc n) (M.before p xs) h)

-- the residue of the one is that of the second, at most b; or that of the first and all of b, which is more
pub which_stopped : (c : M.Code) (a b : ℤ) (p : ℕ) (xs : List Object) → one_way a b ≡ true → ToldBy c a b p xs
unfolding following M.residue
which_stopped c a b p xs w = record {
  second_left = after;
  most = λ e. rw (after e) (omega (arith, left_size c b m.to xs));
  first_left = early;
  more = λ h. omega (arith, left_size c (a +ℤ b) p xs, (sizes_add a b).along w, moved_short c a p xs h, ap (λ (k : M.Move). nat_abs k.moved) (first_alone h));
}
  where
    m : M.Move
    m = M.space c a p xs

    n : M.Move
    n = second c a b p xs

    after : Done m → (a +ℤ b) -ℤ (M.space c (a +ℤ b) p xs).moved ≡ b -ℤ n.moved
    after e = ap (λ (k : M.Move). (a +ℤ b) -ℤ k.moved) (one_way_lem c a b p xs w ∙ ap (λ (y : M.Why). following y m n) e) ∙ ap (λ (k : ℤ). (a +ℤ b) -ℤ (k +ℤ n.moved)) (all_moved c a p xs e) ∙ left_over a b n.moved

    first_alone : (Done m → ⊥) → M.space c (a +ℤ b) p xs ≡ m
    first_alone h = one_way_lem c a b p xs w ∙ in_row_early m n h

    early : (Done m → ⊥) → (a +ℤ b) -ℤ (M.space c (a +ℤ b) p xs).moved ≡ a -ℤ m.moved +ℤ b
    early h = ap (λ (k : M.Move). (a +ℤ b) -ℤ k.moved) (first_alone h) ∙ +ℤ_assoc a b (neg_ℤ m.moved) ∙ ap (λ (k : ℤ). a +ℤ k) (+ℤ_comm b (neg_ℤ m.moved)) ∙ sym (+ℤ_assoc a (neg_ℤ m.moved) b)
