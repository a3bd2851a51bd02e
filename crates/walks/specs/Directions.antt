-- What a direction is: which of the objects xs lie ahead of a position p, how many they are, and the number of the k-th.
-- Assumes nothing: these are definitions.
use Rattle.std.specs.Prelude.{ℕ, ◌-◌, ◌+◌, ◌≤◌, ◌<◌, ◌≡◌, List, length, get_or, drop}
use Rattle.objects.specs.Object.{Object, filemark}
use Rattle.objects.specs.Movement.{before}

pub record DirectionLaws (ahead : ℕ → List Object → List Object) (reach : ℕ → ℕ → ℕ) (number : ℕ → ℕ → ℕ → ℕ) : Type 0 where
  pub as_many : (p : ℕ) (xs : List Object) → p ≤ length xs → length (ahead p xs) ≡ reach p (length xs)
  pub is_number : (p n k : ℕ) → p ≤ n → k < reach p n → number p n k < n
  pub kth : (p k : ℕ) (xs : List Object) → p ≤ length xs → k < reach p (length xs) → get_or (ahead p xs) k filemark ≡ get_or xs (number p (length xs) k) filemark

-- on: what lies from p to the end
abbrev pub ahead_on : ℕ → List Object → List Object
ahead_on p xs = drop p xs

abbrev pub reach_on : ℕ → ℕ → ℕ
reach_on p n = n - p

abbrev pub number_on : ℕ → ℕ → ℕ → ℕ
number_on p n k = p + k

-- back: what lies before p
abbrev pub ahead_back : ℕ → List Object → List Object
ahead_back p xs = before p xs

abbrev pub reach_back : ℕ → ℕ → ℕ
reach_back p n = p

abbrev pub number_back : ℕ → ℕ → ℕ → ℕ
number_back p n k = p - (k + 1)
