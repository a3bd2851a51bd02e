-- One object offered to the tape, that goes down or not; and where block k of n blocks of b bytes each lies in a buffer.
-- Assumes nothing.
use Prim.Native.Nat.{ℕ, suc, ◌+◌, ◌*◌, ◌<◌, ◌≤◌}
use native.Mathlib.Nat.{suc-mul, mul-le-mul_right}
use native.Mathlib.Numerals.{add-one}
use native.Mathlib.Omega.{arith}
use mathlib.Core.Bool.{true, false}
use mathlib.Core.Path.{◌≡◌, refl, ap, ◌∙◌}
use mathlib.Core.List.{List, [], ◌∷◌}
use lib.ListN.{length}
use Rattle.objects.specs.Object.{Object, data_of}
use Rattle.objects.specs.Room.{room_of, fits_in}
use Rattle.objects.specs.Transfer.{fitting}

pub fitting_more : (l n e : ℕ) (o : Object) (os : List Object) → fits_in (room_of l n e) (length (data_of o)) ≡ true → fitting l n e (o ∷ os) ≡ o ∷ fitting l (suc n) (e + length (data_of o)) os
unfolding fitting
fitting_more l n e o os h = rw (h, fitting) refl

pub fitting_none : (l n e : ℕ) (o : Object) (os : List Object) → fits_in (room_of l n e) (length (data_of o)) ≡ false → fitting l n e (o ∷ os) ≡ []
unfolding fitting
fitting_none l n e o os h = rw (h, fitting) refl

pub next_place : (k b : ℕ) → (k + 1) * b ≡ k * b + b
next_place k b = ap (λ (m : ℕ). m * b) (add-one k) ∙ suc-mul k b

pub place_in : (n k b l : ℕ) → k < n → n * b ≤ l → k * b + b ≤ l
place_in n k b l h m =
    let e = suc-mul k b in
    let u : suc k * b ≤ n * b = mul-le-mul_right b h in
    omega arith
