-- Objects put one by one, each if it fits, against the definition that picks those that fit first: after k of them the whole outcome
-- is that of the rest from where the image now stands.
-- Assumes nothing.
use Prim.Native.Nat.{ℕ, suc, ◌+◌, ◌≤◌}
use native.Mathlib.Nat.{add-zero}
use native.Mathlib.Omega.{arith}
use mathlib.Core.Bool.{Bool, true, false}
use mathlib.Core.Path.{◌≡◌, refl, sym, ap, ap₂, ◌∙◌}
use mathlib.Core.List.{List, [], ◌∷◌}
use lib.ListN.{length}
use Rattle.std.specs.Prelude.{Option, Some, None}
use Rattle.objects.specs.Object as O
use Rattle.objects.specs.Object.{data_of}
use Rattle.objects.specs.Events.{put}
use Rattle.objects.specs.Room.{room_of, fits_in}
use Rattle.image.specs.Image.{count, end_at, room, fits, sound}
use Rattle.changes.specs.Changes.{occur, occurs}
use Rattle.image.proofs.Facts.{Sound, sound_parts}
use Rattle.changes.specs.Object.{object_of}
use Rattle.changes.specs.Holdable.{Holdable, AllHoldable}
use Rattle.changes.specs.declared.events.Object.{Object}
use Rattle.transfer.specs.Offers.{Offers}
use Rattle.changes.proofs.Obeys.{obeys, put_next}
use Rattle.objects.specs.Transfer.{fitting, put_from}
use Rattle.objects.proofs.Fitting.{fitting_more, fitting_none}

-- ---- one object offered

pub fits_is : (t : List ℕ) (n m l : ℕ) (v : Bool) → length t ≡ l → fits t n m ≡ v → fits_in (room_of l n (end_at t n)) m ≡ v
unfolding fits room
fits_is t n m l v e h = rw (← e) h

pub put_one : (n : ℕ) (o : O.Object) (fs : List O.Object) (t : List ℕ) → occurs (put_from n (o ∷ fs)) t ≡ occurs (put_from (suc n) fs) (occur (put n o) t)
unfolding occurs put_from
put_one n o fs t = refl

-- ---- the objects os offered from number p of s on: t stands with those before number n put, and rest is still offered

pub record Going (p : ℕ) (os : List O.Object) (s : List ℕ) (n : ℕ) (rest : List O.Object) (t : List ℕ) : Type 0 where
  pub right : Sound t
  pub same_length : length t ≡ length s
  pub there : n ≤ count t
  pub outcome : occurs (put_from p (fitting (length s) p (end_at s p) os)) s ≡ occurs (put_from n (fitting (length s) n (end_at t n) rest)) t
  pub many : p + length (fitting (length s) p (end_at s p) os) ≡ n + length (fitting (length s) n (end_at t n) rest)

-- what is left behind: the image of the definition, and how many went down
pub record Gone (p : ℕ) (os : List O.Object) (s : List ℕ) (n : ℕ) (t : List ℕ) : Type 0 where
  pub image : t ≡ occurs (put_from p (fitting (length s) p (end_at s p) os)) s
  pub down : p + length (fitting (length s) p (end_at s p) os) ≡ n

pub begin : (p : ℕ) (os : List O.Object) (s : List ℕ) → sound s ≡ true → p ≤ count s → Going p os s p os s
begin p os s k h = record { right = sound_parts s k; same_length = refl; there = h; outcome = refl; many = refl }

module _ (p : ℕ) (os : List O.Object) (s : List ℕ) (n : ℕ) (o : O.Object) (rest : List O.Object) (t : List ℕ) (g : Going p os s n (o ∷ rest) t) where
  pub turn : Holdable o → fits t n (length (data_of o)) ≡ true → Going p os s (n + 1) rest (occur (put n o) t)
  turn q f =
      let b = obeys (put n o) t g.right (g.there, q, f) in
      let x = put_next n o t g.right (g.there, q, f) in
      let m = fitting_more (length s) n (end_at t n) o rest (fits_is t n (length (data_of o)) (length s) true g.same_length f) in
      let z : suc n ≡ n + 1 = omega arith in
      let y : end_at t n + length (data_of o) ≡ end_at (occur (put n o) t) (n + 1) = sym x.1 ∙ ap (end_at (occur (put n o) t)) z in
      record {
        right = b.sound;
        same_length = b.same_length ∙ g.same_length;
        there = omega (arith, x.0);
        outcome =
            g.outcome
            ∙ ap (λ (fs : List O.Object). occurs (put_from n fs) t) m
            ∙ put_one n o (fitting (length s) (suc n) (end_at t n + length (data_of o)) rest) t
            ∙ ap₂ (λ (k e : ℕ). occurs (put_from k (fitting (length s) k e rest)) (occur (put n o) t)) z y;
        many =
            g.many
            ∙ ap (λ (fs : List O.Object). n + length fs) (m ∙ ap₂ {C = List O.Object} (λ (k e : ℕ). o ∷ fitting (length s) k e rest) z y)
            ∙ omega arith;
      }

  pub stops : fits t n (length (data_of o)) ≡ false → Gone p os s n t
  unfolding occurs put_from
  stops f =
      let m = fitting_none (length s) n (end_at t n) o rest (fits_is t n (length (data_of o)) (length s) false g.same_length f) in
      record {
        image = sym (g.outcome ∙ ap (λ (fs : List O.Object). occurs (put_from n fs) t) m);
        down = g.many ∙ ap (λ (fs : List O.Object). n + length fs) m ∙ add-zero n;
      }

pub ends : (p : ℕ) (os : List O.Object) (s : List ℕ) (n : ℕ) (t : List ℕ) → Going p os s n [] t → Gone p os s n t
unfolding occurs put_from fitting
ends p os s n t g = record { image = sym g.outcome; down = g.many ∙ add-zero n }

-- ---- objects that an iterator gives

module _ {S : Type 0} (steps : S → Option Object → S → Type 0) where
  -- k of the objects os are put from number p of s on, and i offers the rest where t stands
  pub record Giving (p : ℕ) (os : List O.Object) (s : List ℕ) (k : ℕ) (i : S) (t : List ℕ) : Type 0 where
    pub rest : List O.Object
    pub offered : Offers steps i rest
    pub going : Going p os s (p + k) rest t

  pub gives_first : (p : ℕ) (os : List O.Object) (s : List ℕ) (i : S) → sound s ≡ true → p ≤ count s → Offers steps i os → Giving p os s 0 i s
  gives_first p os s i h b a = record { rest = os; offered = a; going = rw (add-zero p) (begin p os s h b) }

  module _ {p : ℕ} {os : List O.Object} {s : List ℕ} {k : ℕ} {i : S} {t : List ℕ} (j : S) (g : Giving p os s k i t) where
    pub gives_end : steps i None j → Gone p os s (p + k) t
    gives_end h = go g.rest g.offered g.going
      where
        go : (rest : List O.Object) → Offers steps i rest → Going p os s (p + k) rest t → Gone p os s (p + k) t
        go [] a w = ends p os s (p + k) t w
        go (o ∷ rest) a w = absurd (a.0.0 j h)

    -- n is the number, and m the length, that the code comes to
    module _ (x : Object) (h : steps i (Some x) j) (n m : ℕ) (number : n ≡ p + k) (long : m ≡ length (data_of (object_of x))) where
      pub gives_stop : (r : Bool) → r ≡ fits t n m → r ≡ false → Gone p os s (p + k) t
      gives_stop r d f = go g.rest g.offered g.going
        where
          go : (rest : List O.Object) → Offers steps i rest → Going p os s (p + k) rest t → Gone p os s (p + k) t
          go [] a w = absurd (a.0 x j h)
          go (o ∷ rest) a w = stops p os s (p + k) (object_of x) rest t (rw (a.0.1 x j h).0 w) (rw (← number, ← long, ← d) f)

      pub gives_turn : (r : Bool) → r ≡ fits t n m → r ≡ true → (l : ℕ) → l ≡ p + k → Giving p os s (k + 1) j (occur (put l (object_of x)) t)
      unfolding AllHoldable
      gives_turn r d f l place = go g.rest g.offered g.going
        where
          z : p + (k + 1) ≡ p + k + 1
          z = omega arith

          go : (rest : List O.Object) → Offers steps i rest → Going p os s (p + k) rest t → Giving p os s (k + 1) j (occur (put l (object_of x)) t)
          go [] a w = absurd (a.0 x j h)
          go (o ∷ rest) a w =
              let e = a.0.1 x j h in
              record { rest = rest; offered = (e.1, a.1.1); going = rw (z, place) (turn p os s (p + k) (object_of x) rest t (rw e.0 w) (rw e.0 a.1.0) (rw (← number, ← long, ← d) f)) }
