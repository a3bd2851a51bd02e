-- A walk over objects so far: how many it crossed and counted, and the walk over what still lies ahead. Each turn of the loop carries
-- this on, and each return ends it.
-- Assumes nothing.
use Prim.Native.Nat.{ℕ, zero, suc, ◌+◌, ◌-◌, ◌≤◌, ◌<◌}
use native.Mathlib.Nat.{not-suc-le-zero}
use native.Mathlib.Omega.{arith}
use mathlib.Core.Bool.{Bool, true, false}
use mathlib.Core.Path.{◌≡◌, refl, sym, ap, ◌∙◌}
use mathlib.Core.List.{List, [], ◌∷◌}
use lib.ListN.{length, get_or, drop, drop_of_length-le}
use Rattle.std.proofs.lemmas.List.{drop_more}
use Rattle.objects.specs.Object.{Object, filemark, block, is_filemark}
use Rattle.objects.specs.Movement.{Code, blocks, filemarks, Why, done, marked, edge, Walk, walk, halt, uncounted, counting}
use Rattle.image.specs.Image.{count, entry, top_bit, objects}
use Rattle.image.proofs.Objects.{length_objects, object_is, object_filemark}
use Rattle.walks.specs.Walks.{counts}
use Rattle.walks.specs.Directions.{DirectionLaws}

-- ---- the walk by what lies nearest

walk_none : (c : Code) (zs : List Object) → walk c 0 zs ≡ halt done
unfolding walk
walk_none c zs = refl

walk_edge : (c : Code) (left : ℕ) → 0 < left → walk c left [] ≡ halt edge
unfolding walk
walk_edge c zero h = absurd (not-suc-le-zero h)
walk_edge c (suc left) h = refl

module _ (zs : List Object) where
  walk_counts : (c : Code) (left : ℕ) (o : Object) → counts c (is_filemark o) ≡ true → 0 < left → walk c left (o ∷ zs) ≡ counting (walk c (left - 1) zs)
  unfolding walk
  walk_counts c zero o e h = absurd (not-suc-le-zero h)
  walk_counts blocks (suc left) filemark e h = absurd (let z : ◌≡◌ {A = ℕ} 0 1 = cc in omega arith)
  walk_counts blocks (suc left) (block bs) e h = ap (λ (m : ℕ). counting (walk blocks m zs)) (let z : left ≡ suc left - 1 = omega arith in z)
  walk_counts filemarks (suc left) filemark e h = ap (λ (m : ℕ). counting (walk filemarks m zs)) (let z : left ≡ suc left - 1 = omega arith in z)
  walk_counts filemarks (suc left) (block bs) e h = absurd (let z : ◌≡◌ {A = ℕ} 0 1 = cc in omega arith)

  walk_stops : (c : Code) (left : ℕ) (o : Object) → counts c (is_filemark o) ≡ false → is_filemark o ≡ true → 0 < left → walk c left (o ∷ zs) ≡ uncounted (halt marked)
  unfolding walk
  walk_stops c zero o d e h = absurd (not-suc-le-zero h)
  walk_stops blocks (suc left) filemark d e h = refl
  walk_stops filemarks (suc left) filemark d e h = absurd (let z : ◌≡◌ {A = ℕ} 0 1 = cc in omega arith)
  walk_stops c (suc left) (block bs) d e h = absurd (let z : ◌≡◌ {A = ℕ} 0 1 = cc in omega arith)

  walk_passes : (c : Code) (left : ℕ) (o : Object) → counts c (is_filemark o) ≡ false → is_filemark o ≡ false → 0 < left → walk c left (o ∷ zs) ≡ uncounted (walk c left zs)
  unfolding walk
  walk_passes c zero o d e h = absurd (not-suc-le-zero h)
  walk_passes blocks (suc left) (block bs) d e h = absurd (let z : ◌≡◌ {A = ℕ} 0 1 = cc in omega arith)
  walk_passes filemarks (suc left) (block bs) d e h = refl
  walk_passes c (suc left) filemark d e h = absurd (let z : ◌≡◌ {A = ℕ} 0 1 = cc in omega arith)

-- ---- w after k objects more, m of them counted

abbrev further : ℕ → ℕ → Walk → Walk
further k m w = record { crossed = k + w.crossed; counted = m + w.counted; why = w.why }

further_none : (w : Walk) → w ≡ further 0 0 w
further_none w = λ i. record {
  crossed = (let e : w.crossed ≡ 0 + w.crossed = omega arith in e) i;
  counted = (let e : w.counted ≡ 0 + w.counted = omega arith in e) i;
  why = w.why;
}

further_uncounted : (k m : ℕ) (w : Walk) → further k m (uncounted w) ≡ further (suc k) m w
further_uncounted k m w = λ i. record {
  crossed = (let e : k + suc w.crossed ≡ suc k + w.crossed = omega arith in e) i;
  counted = m + w.counted;
  why = w.why;
}

further_counting : (k m : ℕ) (w : Walk) → further k m (counting w) ≡ further (suc k) (suc m) w
further_counting k m w = λ i. record {
  crossed = (let e : k + suc w.crossed ≡ suc k + w.crossed = omega arith in e) i;
  counted = (let e : m + suc w.counted ≡ suc m + w.counted = omega arith in e) i;
  why = w.why;
}

-- ---- n were asked for over ys; k are crossed, and so many are left to be counted

pub record Along (c : Code) (n : ℕ) (ys : List Object) (k left : ℕ) : Type 0 where
  pub fewer : left ≤ n
  pub same : walk c n ys ≡ further k (n - left) (walk c left (drop k ys))

pub starts : (c : Code) (n : ℕ) (ys : List Object) → Along c n ys 0 n
starts c n ys = record { fewer = omega arith; same = rw (let e : n - n ≡ 0 = omega arith in e) (further_none (walk c n ys)) }

module _ {c : Code} {n : ℕ} {ys : List Object} {k left : ℕ} (a : Along c n ys k left) where
  -- the walk over what lies ahead crosses j objects more, counts none, and ends
  ends : (j : ℕ) (y : Why) → walk c left (drop k ys) ≡ record { crossed = j; counted = 0; why = y }
      → record { crossed = k + j; counted = n - left; why = y } ≡ walk c n ys
  ends j y e = rw (a.same, e) (λ i. record {
    crossed = k + j;
    counted = (let z : n - left ≡ n - left + 0 = omega arith in z) i;
    why = y;
  })

  pub ends_done : left ≡ 0 → record { crossed = k; counted = n - left; why = done } ≡ walk c n ys
  ends_done z =
      (λ i. record { crossed = (let e : k ≡ k + 0 = omega arith in e) i; counted = n - left; why = done })
      ∙ ends 0 done (ap (λ (x : ℕ). walk c x (drop k ys)) z ∙ walk_none c (drop k ys))

  pub ends_edge : 0 < left → length ys ≤ k → record { crossed = k; counted = n - left; why = edge } ≡ walk c n ys
  ends_edge l h =
      (λ i. record { crossed = (let e : k ≡ k + 0 = omega arith in e) i; counted = n - left; why = edge })
      ∙ ends 0 edge (ap (walk c left) (drop_of_length-le ys h) ∙ walk_edge c left l)

  module _ (h : k < length ys) (l : 0 < left) where
    abbrev nearest : Object
    nearest = get_or ys k filemark

    abbrev rest : List Object
    rest = drop (k + 1) ys

    ahead_is : drop k ys ≡ nearest ∷ rest
    ahead_is = drop_more ys k filemark h

    -- the nearest object is counted, or ends the walk, or is passed; x is whether it is a filemark, and v whether it is counted, as
    -- the code finds them
    module _ (x v : Bool) (kind : is_filemark nearest ≡ x) (found : v ≡ counts c x) where
      counts_so : (t : Bool) → v ≡ t → counts c (is_filemark nearest) ≡ t
      counts_so t e = ap (counts c) kind ∙ sym found ∙ e

      pub counted : v ≡ true → Along c n ys (k + 1) (left - 1)
      counted e = record {
        fewer = omega (arith, a.fewer);
        same = a.same
            ∙ ap (λ (w : Walk). further k (n - left) w) (ap (walk c left) ahead_is ∙ walk_counts rest c left nearest (counts_so true e) l)
            ∙ further_counting k (n - left) (walk c (left - 1) rest)
            ∙ rw ((let z : suc (n - left) ≡ n - (left - 1) = omega (arith, a.fewer) in z), (let z : suc k ≡ k + 1 = omega arith in z)) refl;
      }

      pub ends_marked : v ≡ false → x ≡ true → (m : ℕ) → m ≡ k + 1 → record { crossed = m; counted = n - left; why = marked } ≡ walk c n ys
      ends_marked d e m z =
          (λ i. record { crossed = z i; counted = n - left; why = marked })
          ∙ ends 1 marked (ap (walk c left) ahead_is ∙ walk_stops rest c left nearest (counts_so false d) (kind ∙ e) l)

      pub passed : v ≡ false → x ≡ false → Along c n ys (k + 1) left
      passed d e = record {
        fewer = a.fewer;
        same = a.same
            ∙ ap (λ (w : Walk). further k (n - left) w) (ap (walk c left) ahead_is ∙ walk_passes rest c left nearest (counts_so false d) (kind ∙ e) l)
            ∙ further_uncounted k (n - left) (walk c left rest)
            ∙ rw (let z : suc k ≡ k + 1 = omega arith in z) refl;
      }

-- ---- the code's numbers: all is how many objects the image has, far how many of them lie ahead of p, i the number of the k-th

module _ {ahead : ℕ → List Object → List Object} {reach : ℕ → ℕ → ℕ} {number : ℕ → ℕ → ℕ → ℕ} (laws : DirectionLaws ahead reach number)
    (s : List ℕ) (p : ℕ) (h : p ≤ count s) (all : ℕ) (ea : all ≡ count s) (far : ℕ) (ef : far ≡ reach p all) where
  among : all ≡ length (objects s)
  among = ea ∙ sym (length_objects s)

  pub so_many : length (ahead p (objects s)) ≡ far
  so_many = laws.as_many p (objects s) (omega (arith, length_objects s)) ∙ ap (reach p) (sym among) ∙ sym ef

  module _ (k : ℕ) (l : k < far) (i : ℕ) (ei : i ≡ number p all k) where
    pub there : i < count s
    there = omega (arith, laws.is_number p all k (rw ea h) (rw (← ef) l))

    pub read : (t : Bool) → t ≡ top_bit (entry s i) → is_filemark (get_or (ahead p (objects s)) k filemark) ≡ t
    read t e =
        let kth = laws.kth p k (objects s) (omega (arith, length_objects s)) (rw (← among, ← ef) l) in
        ap is_filemark (kth ∙ rw (← among, ← ei) (object_is s i filemark there)) ∙ object_filemark s i ∙ sym e
