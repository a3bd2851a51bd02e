-- What is found in a list of objects by number, and what lies from a number on.
-- Assumes nothing.
use Prim.Native.Nat.{ℕ, zero, suc, ◌<◌}
use native.Mathlib.Omega.{arith}
use mathlib.Core.Path.{◌≡◌, refl, ap}
use mathlib.Core.Option.{none, some}
use mathlib.Core.List.{List, [], ◌∷◌}
use lib.ListN.{length, drop, get_or, get_elem?}
use Rattle.objects.specs.Object.{Object}

pub get_lt : (xs : List Object) (i : ℕ) (x : Object) → get_elem? xs i ≡ some x → i < length xs
get_lt [] i x e = absurd (let z : ◌≡◌ {A = ℕ} 0 1 = cc in omega arith)
get_lt (y ∷ xs) zero x e = omega arith
get_lt (y ∷ xs) (suc i) x e = omega (arith, get_lt xs i x e)

pub get_get_d : (xs : List Object) (i : ℕ) (x d : Object) → get_elem? xs i ≡ some x → get_or xs i d ≡ x
get_get_d [] i x d e = absurd (let z : ◌≡◌ {A = ℕ} 0 1 = cc in omega arith)
get_get_d (y ∷ xs) zero x d e = cc
get_get_d (y ∷ xs) (suc i) x d e = get_get_d xs i x d e

pub drop_none : (xs : List Object) (i : ℕ) → get_elem? xs i ≡ none → drop i xs ≡ []
drop_none [] zero e = refl
drop_none [] (suc i) e = refl
drop_none (x ∷ xs) zero e = absurd (let z : ◌≡◌ {A = ℕ} 0 1 = cc in omega arith)
drop_none (x ∷ xs) (suc i) e = drop_none xs i e

pub drop_some : (xs : List Object) (i : ℕ) (x : Object) → get_elem? xs i ≡ some x → drop i xs ≡ x ∷ drop (suc i) xs
drop_some [] i x e = absurd (let z : ◌≡◌ {A = ℕ} 0 1 = cc in omega arith)
drop_some (y ∷ xs) zero x e = let q : y ≡ x = cc in ap (λ (z : Object). z ∷ xs) q
drop_some (y ∷ xs) (suc i) x e = drop_some xs i x e
