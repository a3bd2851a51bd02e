-- What SPACE leaves of the partition s: a movement ends where its walk does, for its reason, and tells its residue.
-- Assumes nothing.
use Prim.Native.Nat.{ℕ, zero, suc, ◌+◌, ◌-◌, ◌^◌, ◌≤◌, ◌<◌, min}
use native.Mathlib.Nat.{not-suc-le-zero}
use native.Mathlib.Omega.{arith}
use mathlib.Core.Path.{◌≡◌, refl, sym, ap, ◌∙◌}
use mathlib.Core.Bool.{true, false, cond}
use mathlib.Core.List.{List, []}
use mathlib.Core.Option.{Option, none, some}
use borrow.Author.Tests.{ne_eqb}
use lib.Dec.{eqb, leb}
use lib.IntN.{ℤ, pos, negsuc, neg_ℤ, sub_ℕ, nat_abs, ◌-ℤ◌}
use lib.ListN.{drop, length-drop}
use lib.Signed.{lt_z}
use Rattle.words.specs.Signed.{wrapped, fits32}
use Rattle.words.proofs.Wraps.{subℕ_cases, wrapped_sub}
use Rattle.objects.specs.Object.{Object}
use Rattle.objects.specs.Movement.{Code, blocks, filemarks, Why, done, marked, edge, Walk, walk, before, space, residue, ahead, astern, to_end_of_data}
use Rattle.objects.proofs.Walk.{walk_within, counted_le, length_before}
use Rattle.objects.proofs.Residue.{left_back}
use Rattle.image.specs.Image.{count, sound, objects}
use Rattle.image.proofs.Facts.{sound_parts}
use Rattle.image.proofs.Objects.{length_objects}
use Rattle.sense.specs.declared.Sense.{Sense}
use Rattle.sense.proofs.Packing.{one_less}
use Rattle.record.specs.declared.drive.Drive.{Drive}
use Rattle.commands.specs.Act.{Seen, Deed, at, moved, space_tells, filemark_met, end_met, beginning_met, over_blocks, to_end, movement, spacing}
use Rattle.commands.specs.Call.{seen_of}
use Rattle.moving.proofs.Beyond.{most, as_far_on, as_far_back}

-- ---- no walk leaves the partition

module _ (s : List ℕ) (c : Code) (n p : ℕ) (w : Walk) where
  pub stays_in : w ≡ walk c n (drop p (objects s)) → sound s ≡ true → p ≤ count s → p + w.crossed < 2 ^ 32
  stays_in e h l =
      let k : w.crossed ≡ (walk c n (drop p (objects s))).crossed = ap (λ (x : Walk). x.crossed) e in
      omega (arith, walk_within c n (drop p (objects s)), length-drop p (objects s), length_objects s, (sound_parts s h).dir_is, (sound_parts s h).most)

  pub stays_above : w ≡ walk c n (before p (objects s)) → w.crossed ≤ p
  stays_above e =
      let k : w.crossed ≡ (walk c n (before p (objects s))).crossed = ap (λ (x : Walk). x.crossed) e in
      omega (arith, walk_within c n (before p (objects s)), length_before p (objects s))

-- ---- the residue: going on, n less c; going back by n, of which c are counted, -n less -c, which is the opposite of what is left

rest_on : (n c : ℕ) → pos n -ℤ pos c ≡ sub_ℕ n c
rest_on n zero = subℕ_cases (λ z. pos n -ℤ pos zero ≡ z) n 0 (λ h. absurd (not-suc-le-zero h)) (λ h. ap pos (let e : n + 0 ≡ n - 0 = omega arith in e))
rest_on n (suc c) = refl

minus : (n : ℕ) → sub_ℕ 0 n ≡ neg_ℤ (pos n)
minus zero = refl
minus (suc n) = subℕ_cases (λ z. z ≡ negsuc n) 0 (suc n) (λ h. ap negsuc (let e : suc n - 1 ≡ n = omega arith in e)) (λ h. absurd (not-suc-le-zero h))

opposite : (n c : ℕ) → c ≤ n → neg_ℤ (pos n) -ℤ neg_ℤ (pos c) ≡ neg_ℤ (pos (n - c))
opposite zero zero h = refl
opposite zero (suc c) h = absurd (not-suc-le-zero h)
opposite (suc n) c h = left_back n c h

fits_back : (n : ℕ) → leb n (2 ^ 31) ≡ fits32 (neg_ℤ (pos n))
unfolding fits32
fits_back zero = refl
fits_back (suc n) = one_less n (2 ^ 31)

pub shown_back : (n c q a : ℕ) → c ≤ n → q ≡ wrapped (sub_ℕ 0 n) → a ≡ wrapped (sub_ℕ 0 c)
    → (leb (n - c) (2 ^ 31) ≡ fits32 (neg_ℤ (pos n) -ℤ neg_ℤ (pos c))) × (wrapped (sub_ℕ q a) ≡ wrapped (neg_ℤ (pos n) -ℤ neg_ℤ (pos c)))
shown_back n c q a h eq ea = (fits_back (n - c) ∙ ap fits32 (sym (opposite n c h)), rw (eq ∙ ap wrapped (minus n), ea ∙ ap wrapped (minus c)) (wrapped_sub (neg_ℤ (pos n)) (neg_ℤ (pos c))))

-- ---- what the walk w on by n, and the walk w back by n, leave

abbrev tells_on : Seen → ℤ → Why → Option Sense
tells_on v z done = none
tells_on v z marked = some (filemark_met z)
tells_on v z edge = some (end_met v z)

abbrev tells_back : ℤ → Why → Option Sense
tells_back z done = none
tells_back z marked = some (filemark_met z)
tells_back z edge = some (beginning_met z)

module _ (d : Drive) (v : Seen) (c : Code) (n : ℕ) (xs : List Object) where
  pub moved_on :
      let w = walk c n (drop d.position xs) in
      moved d v (pos n) (space c (pos n) d.position xs)
      ≡ record { drive = at d (d.position + w.crossed); tells = tells_on v (sub_ℕ n w.counted) w.why; received = []; carried = 0; crossed = w.crossed }
  unfolding space_tells space ahead residue
  moved_on = grind (arith, rest_on)

  pub moved_back : 0 < n →
      let w = walk c n (before d.position xs) in
      moved d v (neg_ℤ (pos n)) (space c (neg_ℤ (pos n)) d.position xs)
      ≡ record { drive = at d (d.position - w.crossed); tells = tells_back (neg_ℤ (pos n) -ℤ neg_ℤ (pos w.counted)) w.why; received = []; carried = 0; crossed = w.crossed }
  unfolding space_tells space astern residue
  moved_back h = grind arith

-- ---- SPACE by the code and the count z: to the end; or on or back by as many of what z asks for as can matter

module _ (d : Drive) (s : List ℕ) (code : ℕ) (z : ℤ) where
  pub goes_to_end : code ≡ to_end → d.position ≤ count s
      → spacing d code z (seen_of s) ≡ record { drive = at d (count s); tells = none; received = []; carried = 0; crossed = count s - d.position }
  unfolding spacing movement to_end_of_data space_tells seen_of
  goes_to_end h l = grind (arith, length_objects)

  abbrev by : ℤ → Deed
  by k = moved d (seen_of s) k (space (cond (eqb code over_blocks) blocks filemarks) k d.position (objects s))

  module _ (u : code ≡ to_end → ⊥) (h : sound s ≡ true) (l : d.position ≤ count s) where
    goes : spacing d code z (seen_of s) ≡ by z
    unfolding spacing movement seen_of
    goes = rw (ne_eqb code to_end u) refl

    pub goes_on : lt_z z (pos 0) ≡ false → spacing d code z (seen_of s) ≡ by (pos (min (nat_abs z) most))
    goes_on e = goes ∙ sym (as_far_on d s (seen_of s) h l (cond (eqb code over_blocks) blocks filemarks) z e)

    pub goes_back : lt_z z (pos 0) ≡ true → spacing d code z (seen_of s) ≡ by (neg_ℤ (pos (min (nat_abs z) most)))
    goes_back e = goes ∙ sym (as_far_back d s (seen_of s) h l (cond (eqb code over_blocks) blocks filemarks) z e)

-- ---- for the functions that go on, go back, and go by a code and a count

pub ruleset going_on = (moved_on, stays_in)

pub ruleset going_back = (moved_back, stays_above, counted_le)

pub ruleset going_by = (goes_to_end, goes_on, goes_back)
