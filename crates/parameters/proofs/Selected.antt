-- What a list length of MODE SELECT that is known says.
-- Assumes nothing.
use Prim.Native.Nat.{ℕ, zero, suc, ◌≤◌}
use native.Mathlib.Omega.{arith}
use mathlib.Core.Path.{◌≡◌, refl}
use mathlib.Core.Bool.{true}
use Rattle.commands.specs.Parameters.{list_length_known}

-- a list length that is known and not 0 is at least the header's
pub known_least : (n : ℕ) → list_length_known n ≡ true → (n ≡ 0 → ⊥) → 4 ≤ n
unfolding list_length_known
known_least zero h z = absurd (z refl)
known_least (suc zero) h z = absurd (let w : ◌≡◌ {A = ℕ} 0 1 = cc in omega arith)
known_least (suc (suc zero)) h z = absurd (let w : ◌≡◌ {A = ℕ} 0 1 = cc in omega arith)
known_least (suc (suc (suc zero))) h z = absurd (let w : ◌≡◌ {A = ℕ} 0 1 = cc in omega arith)
known_least (suc (suc (suc (suc n)))) h z = omega arith
