-- That on and back are directions.
-- Assumes nothing.
use Rattle.std.proofs.Common.{◌≡◌, ℕ, zero, suc, ◌+◌, ◌-◌, ◌<◌, List, get_or, not-suc-le-zero, ap, ◌∙◌, arith, length-drop}
use Rattle.std.proofs.lemmas.List.{get_or-drop}
use Rattle.objects.specs.Object.{Object, filemark}
use Rattle.objects.specs.Movement.{before}
use Rattle.objects.proofs.Walk.{length_before}
use Rattle.walks.specs.Directions.{DirectionLaws, ahead_on, reach_on, number_on, ahead_back, reach_back, number_back}

pub on_laws : DirectionLaws ahead_on reach_on number_on
on_laws = record {
  as_many = λ p xs h. length-drop p xs;
  is_number = λ p n k h l. omega arith;
  kth = λ p k xs h l. get_or-drop p xs k filemark;
}

-- the k-th object before p
kth_before : (p k : ℕ) (xs : List Object) → k < p → get_or (before p xs) k filemark ≡ get_or xs (p - (k + 1)) filemark
unfolding before
kth_before zero k xs h = absurd (not-suc-le-zero h)
kth_before (suc p) zero xs h = ap (λ (i : ℕ). get_or xs i filemark) (let e : p ≡ suc p - (0 + 1) = omega arith in e)
kth_before (suc p) (suc k) xs h = kth_before p k xs (omega arith) ∙ ap (λ (i : ℕ). get_or xs i filemark) (let e : p - (k + 1) ≡ suc p - (suc k + 1) = omega arith in e)

pub back_laws : DirectionLaws ahead_back reach_back number_back
back_laws = record {
  as_many = λ p xs h. length_before p xs;
  is_number = λ p n k h l. omega arith;
  kth = λ p k xs h l. kth_before p k xs l;
}
