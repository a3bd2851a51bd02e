-- Where the image stands when the objects that fit have gone down: sound, of the same length, and its data ends where theirs does. And how many bytes
-- they hold.
-- Assumes nothing.
use Prim.Native.Nat.{ℕ, zero, suc, ◌+◌, ◌*◌, ◌≤◌}
use native.Mathlib.Nat.{add-zero, add_assoc, suc-mul, zero-mul}
use native.Mathlib.Omega.{arith}
use mathlib.Core.Bool.{Bool, true, false}
use mathlib.Core.Path.{◌≡◌, refl, sym, ap, ap₂, ◌∙◌, subst}
use mathlib.Core.List.{List, [], ◌∷◌}
use lib.ListN.{length, drop, length-drop}
use lib.Seq.{length-take-le}
use Rattle.objects.specs.Object.{Object, data_of, bytes_in, largest_block}
use Rattle.objects.specs.Events.{put}
use Rattle.objects.specs.Room.{room_of, fits_in}
use Rattle.image.specs.Image.{count, end_at, room, fits}
use Rattle.changes.specs.Changes.{occur, occurs}
use Rattle.changes.specs.Holdable.{AllHoldable}
use Rattle.image.proofs.Facts.{Sound, ends_in}
use Rattle.changes.proofs.Obeys.{Admits, obeys, put_next}
use Rattle.objects.specs.Transfer.{marks_of, blocks_of, fitting, put_from}
use Rattle.objects.proofs.Fitting.{fitting_more, fitting_none}

-- the objects os put from number p of s on
pub record Down (p : ℕ) (os : List Object) (s : List ℕ) : Type 0 where
  pub right : Sound (occurs (put_from p os) s)
  pub same_length : length (occurs (put_from p os) s) ≡ length s
  pub there : p + length os ≤ count (occurs (put_from p os) s)
  pub end : end_at (occurs (put_from p os) s) (p + length os) ≡ end_at s p + bytes_in os

none_down : (p : ℕ) (s : List ℕ) → Sound s → p ≤ count s → Down p [] s
unfolding occurs put_from bytes_in
none_down p s k h = record { right = k; same_length = refl; there = omega arith; end = ap (end_at s) (add-zero p) ∙ sym (add-zero (end_at s p)) }

one_more : (p : ℕ) (o : Object) (os : List Object) (s : List ℕ) → Sound s → Admits (put p o) s → Down (suc p) os (occur (put p o) s) → Down p (o ∷ os) s
unfolding bytes_in occurs put_from
one_more p o os s k a d =
    let b = obeys (put p o) s k a in
    let x = put_next p o s k a in
    let z : suc p + length os ≡ p + suc (length os) = omega arith in
    record {
      right = d.right;
      same_length = d.same_length ∙ b.same_length;
      there = omega (arith, d.there);
      end = ap (end_at (occurs (put_from (suc p) os) (occur (put p o) s))) (sym z) ∙ d.end ∙ ap (λ (e : ℕ). e + bytes_in os) x.1 ∙ add_assoc (end_at s p) (length (data_of o)) (bytes_in os);
    }

fits_of : (s : List ℕ) (n m : ℕ) → fits_in (room_of (length s) n (end_at s n)) m ≡ true → fits s n m ≡ true
unfolding fits room
fits_of s n m h = h

pub down : (os : List Object) (p : ℕ) (s : List ℕ) → Sound s → p ≤ count s → AllHoldable os → Down p (fitting (length s) p (end_at s p) os) s
unfolding AllHoldable fitting
down [] p s k h a = none_down p s k h
down (o ∷ os) p s k h a = go (fits_in (room_of (length s) p (end_at s p)) (length (data_of o))) refl (down os (suc p) (occur (put p o) s))
  where
    go : (t : Bool) → fits_in (room_of (length s) p (end_at s p)) (length (data_of o)) ≡ t
        → (Sound (occur (put p o) s) → suc p ≤ count (occur (put p o) s) → AllHoldable os → Down (suc p) (fitting (length (occur (put p o) s)) (suc p) (end_at (occur (put p o) s) (suc p)) os) (occur (put p o) s))
        → Down p (fitting (length s) p (end_at s p) (o ∷ os)) s
    go false e i = subst (λ (fs : List Object). Down p fs s) (sym (fitting_none (length s) p (end_at s p) o os e)) (none_down p s k h)
    go true e i =
        let w : Admits (put p o) s = (h, a.0, fits_of s p (length (data_of o)) e) in
        let b = obeys (put p o) s k w in
        let x = put_next p o s k w in
        let j = i b.sound (omega (arith, x.0)) a.1 in
        subst (λ (fs : List Object). Down p fs s) (sym (fitting_more (length s) p (end_at s p) o os e))
        (one_more p o (fitting (length s) (suc p) (end_at s p + length (data_of o)) os) s k w
        (subst (λ (fs : List Object). Down (suc p) fs (occur (put p o) s)) (ap₂ (λ (l e : ℕ). fitting l (suc p) e os) b.same_length x.1) j))

-- what went down lies within the image
pub down_inside : (p : ℕ) (os : List Object) (s : List ℕ) → Down p os s → end_at s p + bytes_in os ≤ length s
down_inside p os s d =
    let i = ends_in (occurs (put_from p os) s) d.right (p + length os) d.there in
    omega (arith, d.end, d.same_length, d.right.dir_is)

-- ---- filemarks and blocks may be held

pub marks_kept : (n : ℕ) → AllHoldable (marks_of n)
unfolding AllHoldable marks_of
marks_kept zero = tt
marks_kept (suc n) = (tt, marks_kept n)

pub blocks_kept : (b n : ℕ) (x : List ℕ) → 1 ≤ b → b ≤ largest_block → n * b ≤ length x → AllHoldable (blocks_of b n x)
unfolding AllHoldable blocks_of
blocks_kept b zero x u v m = tt
blocks_kept b (suc n) x u v m =
    let e = suc-mul n b in
    let l = length-take-le b x (omega arith) in
    ((omega arith, omega arith), blocks_kept b n (drop b x) u v (omega (arith, length-drop b x)))

-- ---- their bytes

-- b bytes each
unfoldable pub AllOf : ℕ → List Object → Type 0
AllOf b [] = Unit {0}
AllOf b (o ∷ os) = (length (data_of o) ≡ b) × AllOf b os

pub blocks_of_lem : (b n : ℕ) (x : List ℕ) → n * b ≤ length x → AllOf b (blocks_of b n x)
unfolding AllOf blocks_of
blocks_of_lem b zero x m = tt
blocks_of_lem b (suc n) x m =
    let e = suc-mul n b in
    (length-take-le b x (omega arith), blocks_of_lem b n (drop b x) (omega (arith, length-drop b x)))

pub marks_of_lem : (n : ℕ) → AllOf 0 (marks_of n)
unfolding AllOf marks_of
marks_of_lem zero = tt
marks_of_lem (suc n) = (refl, marks_of_lem n)

pub fitting_bytes : (l n e b : ℕ) (os : List Object) → AllOf b os → bytes_in (fitting l n e os) ≡ length (fitting l n e os) * b
unfolding bytes_in fitting AllOf
fitting_bytes l n e b [] a = sym (zero-mul b)
fitting_bytes l n e b (o ∷ os) a = go (fits_in (room_of l n e) (length (data_of o))) refl (fitting_bytes l (suc n) (e + length (data_of o)) b os a.1)
  where
    go : (t : Bool) → fits_in (room_of l n e) (length (data_of o)) ≡ t → bytes_in (fitting l (suc n) (e + length (data_of o)) os) ≡ length (fitting l (suc n) (e + length (data_of o)) os) * b
        → bytes_in (fitting l n e (o ∷ os)) ≡ length (fitting l n e (o ∷ os)) * b
    go false h i = rw (fitting_none l n e o os h) (sym (zero-mul b))
    go true h i =
        let m = fitting_more l n e o os h in
        ap bytes_in m ∙ ap₂ {C = ℕ} ◌+◌ a.0 i ∙ omega (arith, suc-mul (length (fitting l (suc n) (e + length (data_of o)) os)) b) ∙ ap (λ (fs : List Object). length fs * b) (sym m)
