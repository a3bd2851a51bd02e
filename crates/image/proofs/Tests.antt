-- Tests and facts: cases on a test, the parts of a conjunction.
-- Assumes nothing.
use Rattle.std.proofs.Common.{◌≡◌, ℕ, ◌<◌, ◌≤◌, Bool, true, false, ◌&&◌, ltb, refl, ltb-false, ltb-true}

pub cases : {P : Type 0} (t : Bool) → (t ≡ true → P) → (t ≡ false → P) → P
cases true f g = f refl
cases false f g = g refl

pub split : {P : Type 0} (a b : ℕ) → (a < b → P) → (b ≤ a → P) → P
split a b f g = cases (ltb a b) (λ e. f (ltb-true a b e)) (λ e. g (ltb-false a b e))

pub both : (a b : Bool) → a && b ≡ true → (a ≡ true) × (b ≡ true)
both true b h = (refl, h)
both false b h = ((cc), (cc))
