-- The events of a step laid out in an image: where they have room by the objects, the image is sound again, and its objects are those of the events.
-- Assumes nothing.
use Prim.Native.Nat.{ℕ, ◌-◌, ◌≤◌}
use native.Mathlib.Omega.{arith}
use mathlib.Core.Path.{◌≡◌, refl, ◌∙◌}
use mathlib.Core.Bool.{Bool, true, false, cond}
use mathlib.Core.List.{List, [], ◌∷◌}
use lib.ListN.{length, take}
use Rattle.objects.specs.Object.{data_of, bytes_in}
use Rattle.objects.specs.Room.{trailer_length}
use Rattle.objects.specs.Events.{Event, put, cut, happens, Lawful}
use Rattle.image.specs.Image.{count, end_at, objects}
use Rattle.changes.specs.Changes.{occur, occurs, cleared}
use Rattle.image.proofs.Facts.{Sound, room_fits}
use Rattle.image.proofs.Objects.{length_objects, end_bytes}
use Rattle.changes.proofs.Obeys.{Admits, AdmitsAll, Made, made, obeys}
use Rattle.changes.proofs.Freed.{frees}
use Rattle.commands.specs.Step.{Stepped}
use Rattle.commands.specs.Call.{laid_out}
use Rattle.commands.proofs.Goes.{Goes, GoAll}

-- by the events es the partition p became q
pub record Turned (es : List Event) (p q : List ℕ) : Type 0 where
  pub sound : Sound q
  pub makes : objects q ≡ happens es (objects p)
  pub lawful : Lawful es (objects p)

pub still : (p : List ℕ) → Sound p → Turned [] p p
unfolding happens Lawful
still p k = record { sound = k; makes = refl; lawful = tt }

admits : (e : Event) (p : List ℕ) → Sound p → Goes (length p - trailer_length) e (objects p) → Admits e p
admits (put n o) p k g =
    let h : n ≤ count p = omega (arith, g.0, length_objects p) in
    let e : end_at p n ≡ bytes_in (take n (objects p)) = end_bytes p k n h in
    (h, g.1, room_fits p n (length (data_of o)) (omega (arith, e, g.2, k.least)))
admits (cut n) p k g = omega (arith, length_objects p)

image_admits : (es : List Event) (p : List ℕ) → Sound p → GoAll (length p - trailer_length) es (objects p) → AdmitsAll es p
unfolding GoAll AdmitsAll
image_admits [] p k g = tt
image_admits (e ∷ es) p k g =
    let a = admits e p k g.0 in
    let b = obeys e p k a in
    (a, image_admits es (occur e p) b.sound (rw (b.same_length, b.makes) g.1))

pub laid_turned : (t : Stepped) (p : List ℕ) → Sound p → GoAll (length p - trailer_length) t.events (objects p) → Turned t.events p (laid_out t p)
unfolding laid_out
laid_turned t p k g = go t.clears
  where
    m : Made t.events p
    m = made t.events p k (image_admits t.events p k g)

    go : (b : Bool) → Turned t.events p (cond b (cleared (occurs t.events p)) (occurs t.events p))
    go false = record { sound = m.sound; makes = m.makes; lawful = m.lawful }
    go true = let f = frees (occurs t.events p) m.sound in record { sound = f.sound; makes = f.same_objects ∙ m.makes; lawful = m.lawful }
