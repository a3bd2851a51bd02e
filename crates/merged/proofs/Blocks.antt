-- A movement over blocks is done exactly if all between its two ends are blocks, and its count is how far they lie apart. So two that are done add up,
-- whatever their signs.
-- Assumes nothing.
use Prim.Native.Nat.{ℕ, zero, suc, ◌+◌, ◌-◌, ◌≤◌, ◌<◌, zero-le, suc-le-suc, max, min}
use native.Mathlib.Nat.{not-suc-le-zero, le_of_suc-le-suc}
use native.Mathlib.Omega.{arith}
use native.Mathlib.Decide.{dec_le}
use mathlib.Core.Path.{◌≡◌, refl, sym, ap, ◌∙◌, subst}
use mathlib.Core.Bool.{Bool, not}
use mathlib.Core.List.{List, [], ◌∷◌}
use lib.Dec.{T}
use lib.ListN.{drop, get_or}
use lib.Seq.{get_or-drop}
use lib.IntN.{ℤ, pos, negsuc, sub_ℕ, ◌+ℤ◌, nat_abs}
use Rattle.words.proofs.Wraps.{subℕ_cases}
use Rattle.answers.proofs.First.{not_both}
use Rattle.objects.specs.Object.{Object, filemark, block, is_filemark}
use Rattle.objects.specs.Movement as M
use Rattle.objects.proofs.Walk.{walk_within, length_before}
use Rattle.merged.specs.Merged.{at_least0, at_most0, one_way, Done, Adds}

-- a block is there
abbrev pub block_at : List Object → ℕ → Bool
block_at xs i = not (is_filemark (get_or xs i filemark))

blocks_done : (n : ℕ) (xs : List Object) → (M.walk M.blocks n xs).why ≡ M.done → (i : ℕ) → i < n → T (block_at xs i)
unfolding M.walk
blocks_done zero xs e i h = absurd (not-suc-le-zero h)
blocks_done (suc n) [] e i h = absurd (let z : ◌≡◌ {A = ℕ} 0 1 = cc in omega arith)
blocks_done (suc n) (filemark ∷ xs) e i h = absurd (let z : ◌≡◌ {A = ℕ} 0 1 = cc in omega arith)
blocks_done (suc n) (block bs ∷ xs) e zero h = tt
blocks_done (suc n) (block bs ∷ xs) e (suc i) h = blocks_done n xs e i (le_of_suc-le-suc h)

abbrev whole : ℕ → M.Walk
whole n = record { crossed = n; counted = n; why = M.done }

all_blocks : (n : ℕ) (xs : List Object) → ((i : ℕ) → i < n → T (block_at xs i)) → M.walk M.blocks n xs ≡ whole n
unfolding M.walk
all_blocks zero xs f = refl
all_blocks (suc n) [] f = absurd (f zero (suc-le-suc zero-le))
all_blocks (suc n) (filemark ∷ xs) f = absurd (f zero (suc-le-suc zero-le))
all_blocks (suc n) (block bs ∷ xs) f = ap M.counting (all_blocks n xs (λ i h. f (suc i) (suc-le-suc h)))

walk_whole : (n : ℕ) (xs : List Object) → (M.walk M.blocks n xs).why ≡ M.done → M.walk M.blocks n xs ≡ whole n
walk_whole n xs e = all_blocks n xs (blocks_done n xs e)

get_d_before : (p : ℕ) (xs : List Object) (i : ℕ) → i < p → get_or (M.before p xs) i filemark ≡ get_or xs (p - suc i) filemark
unfolding M.before
get_d_before zero xs i h = absurd (not-suc-le-zero h)
get_d_before (suc p) xs zero h = ap (λ (k : ℕ). get_or xs k filemark) (let e : p ≡ suc p - 1 = omega arith in e)
get_d_before (suc p) xs (suc i) h = get_d_before p xs i (le_of_suc-le-suc h) ∙ ap (λ (k : ℕ). get_or xs k filemark) (let e : p - suc i ≡ suc p - suc (suc i) = omega arith in e)

-- q is p moved by k, and every number between holds a block
unfoldable pub Shifted : ℤ → ℕ → ℕ → Type 0
Shifted (pos n) p q = p + n ≡ q
Shifted (negsuc n) p q = q + suc n ≡ p

abbrev pub Between : List Object → ℕ → ℕ → Type 0
Between xs p q = (i : ℕ) → min p q ≤ i → i < max p q → T (block_at xs i)

-- SPACE over blocks is done exactly if it is so
pub good_shifted : (k : ℤ) (p : ℕ) (xs : List Object) → Done (M.space M.blocks k p xs) → Shifted k p (M.space M.blocks k p xs).to
unfolding M.space M.ahead M.astern Shifted
good_shifted (pos n) p xs e = ap (λ (w : M.Walk). p + w.crossed) (sym (walk_whole n (drop p xs) e))
good_shifted (negsuc n) p xs e =
    let c : (M.walk M.blocks (suc n) (M.before p xs)).crossed ≡ suc n = ap (λ (w : M.Walk). w.crossed) (walk_whole (suc n) (M.before p xs) e) in
    omega (arith, c, walk_within M.blocks (suc n) (M.before p xs), length_before p xs)

pub good_between : (k : ℤ) (p : ℕ) (xs : List Object) → Done (M.space M.blocks k p xs) → Between xs p (M.space M.blocks k p xs).to
unfolding M.space M.ahead M.astern Shifted
good_between (pos n) p xs e i lo hi =
    let s : p + n ≡ (M.space M.blocks (pos n) p xs).to = good_shifted (pos n) p xs e in
    let f : p + (i - p) ≡ i = omega arith in
    subst (λ (k : ℕ). T (block_at xs k)) f (subst (λ (o : Object). T (not (is_filemark o))) (get_or-drop p xs (i - p) filemark) (blocks_done n (drop p xs) e (i - p) (omega arith)))
good_between (negsuc n) p xs e i lo hi =
    let s : (M.space M.blocks (negsuc n) p xs).to + suc n ≡ p = good_shifted (negsuc n) p xs e in
    let f : p - suc (p - suc i) ≡ i = omega arith in
    subst (λ (k : ℕ). T (block_at xs k)) f (subst (λ (o : Object). T (not (is_filemark o))) (get_d_before p xs (p - suc i) (omega arith)) (blocks_done (suc n) (M.before p xs) e (p - suc i) (omega arith)))

abbrev pub all_counted : ℤ → ℕ → M.Move
all_counted k q = record { to = q; moved = k; why = M.done; distance = nat_abs k }

pub between_good : (k : ℤ) (p q : ℕ) (xs : List Object) → Shifted k p q → Between xs p q → M.space M.blocks k p xs ≡ all_counted k q
unfolding M.space M.ahead M.astern Shifted
between_good (pos n) p q xs s b =
    let w : M.walk M.blocks n (drop p xs) ≡ whole n = all_blocks n (drop p xs) (λ i h. subst (λ (o : Object). T (not (is_filemark o))) (sym (get_or-drop p xs i filemark)) (b (p + i) (omega arith) (omega arith))) in
    rw w (λ i. record { to = s i; moved = pos n; why = M.done; distance = n })
between_good (negsuc n) p q xs s b =
    let w : M.walk M.blocks (suc n) (M.before p xs) ≡ whole (suc n) = all_blocks (suc n) (M.before p xs) (λ i h. subst (λ (o : Object). T (not (is_filemark o))) (sym (get_d_before p xs i (omega arith))) (b (p - suc i) (omega arith) (omega arith))) in
    let t : p - suc n ≡ q = omega arith in
    rw w (λ i. record { to = t i; moved = negsuc n; why = M.done; distance = suc n })

-- over blocks a movement that is done crosses as many as it counts, which is all that was asked for
pub blocks_good : (k : ℤ) (p : ℕ) (xs : List Object) → Done (M.space M.blocks k p xs) → M.space M.blocks k p xs ≡ all_counted k (M.space M.blocks k p xs).to
blocks_good k p xs e = between_good k p (M.space M.blocks k p xs).to xs (good_shifted k p xs e) (good_between k p xs e)

-- ---- shifts add up, whatever their signs

pub shifted_add : (a b : ℤ) (p q r : ℕ) → Shifted a p q → Shifted b q r → Shifted (a +ℤ b) p r
unfolding Shifted
shifted_add (pos a) (pos b) p q r s t = omega arith
shifted_add (pos a) (negsuc b) p q r s t = subℕ_cases (λ k. Shifted k p r) a (suc b) (λ h. omega arith) (λ h. omega arith)
shifted_add (negsuc a) (pos b) p q r s t = subℕ_cases (λ k. Shifted k p r) b (suc a) (λ h. omega arith) (λ h. omega arith)
shifted_add (negsuc a) (negsuc b) p q r s t = omega arith

pub between_add : (xs : List Object) (p q r : ℕ) → Between xs p q → Between xs q r → Between xs p r
between_add xs p q r f g i lo hi = go (dec_le (min p q) i) (dec_le (suc i) (max p q))
  where
    go : Dec (min p q ≤ i) → Dec (i < max p q) → T (block_at xs i)
    go (yes u) (yes v) = f i u v
    go (yes u) (no v) = g i (omega arith) (omega arith)
    go (no u) (yes v) = g i (omega arith) (omega arith)
    go (no u) (no v) = g i (omega arith) (omega arith)

-- and so do their sizes one way, but not there and back
size_between : (m n : ℕ) → nat_abs (sub_ℕ m n) ≡ max m n - min m n
size_between m n = subℕ_cases (λ k. nat_abs k ≡ max m n - min m n) m n (λ h. omega arith) (λ h. omega arith)

pub sizes_add : (a b : ℤ) → Adds a b (nat_abs a) (nat_abs b) (nat_abs (a +ℤ b))
unfolding one_way at_least0 at_most0
sizes_add (pos m) (pos n) = record { along = λ e. refl; turned = λ e. absurd (not_both e); less = λ e. absurd (not_both e) }
sizes_add (pos zero) (negsuc n) = record { along = λ e. omega (arith, size_between 0 (suc n)); turned = λ e. absurd (not_both e); less = λ e. absurd (not_both e) }
sizes_add (pos (suc m)) (negsuc n) = record { along = λ e. absurd (not_both (sym e)); turned = λ e. omega (arith, size_between (suc m) (suc n)); less = λ e. omega (arith, size_between (suc m) (suc n)) }
sizes_add (negsuc m) (pos zero) = record { along = λ e. omega (arith, size_between 0 (suc m)); turned = λ e. absurd (not_both e); less = λ e. absurd (not_both e) }
sizes_add (negsuc m) (pos (suc n)) = record { along = λ e. absurd (not_both (sym e)); turned = λ e. omega (arith, size_between (suc n) (suc m)); less = λ e. omega (arith, size_between (suc n) (suc m)) }
sizes_add (negsuc m) (negsuc n) = record { along = λ e. omega arith; turned = λ e. absurd (not_both e); less = λ e. absurd (not_both e) }

-- over blocks a movement that is done ends as far on as was asked for, or as far back
pub blocks_place : (k : ℤ) (p : ℕ) (xs : List Object) → Done (M.space M.blocks k p xs) → pos (M.space M.blocks k p xs).to ≡ pos p +ℤ k
unfolding Shifted
blocks_place k p xs e = go k (good_shifted k p xs e)
  where
    q : ℕ
    q = (M.space M.blocks k p xs).to

    go : (j : ℤ) → Shifted j p q → pos q ≡ pos p +ℤ j
    go (pos n) h = ap pos (sym h)
    go (negsuc n) h = subℕ_cases (λ (z : ℤ). pos q ≡ z) p (suc n) (λ l. absurd (omega arith)) (λ l. ap pos (omega arith))
