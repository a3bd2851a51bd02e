-- What an event that a sound image admits makes of it: sound again, same length and flags, the objects those of the event, every
-- byte that 01 does not name as it was. The same for a run of events.
-- Assumes nothing.
use Prim.Native.Nat.{ℕ, suc, ◌+◌, ◌-◌, ◌≤◌}
use mathlib.Core.Bool.{true}
use mathlib.Core.Path.{◌≡◌, refl, ap, ◌∙◌}
use mathlib.Core.List.{List, [], ◌∷◌}
use native.Mathlib.Omega.{arith}
use lib.ListN.{length, get_or}
use Rattle.words.specs.Words.{bytes, over}
use Rattle.words.proofs.Laws.{Outside, length_bytes_lem, length_over, length_put, get_d_over_out}
use Rattle.objects.specs.Object.{Object, data_of}
use Rattle.objects.specs.Events.{Event, put, cut, place, happen, happens, Lawful}
use Rattle.objects.specs.Room.{trailer_length}
use Rattle.image.specs.Image.{entry_place, count, flags, end_at, fits, objects}
use Rattle.changes.specs.Changes.{retitle, entry_of, enter, occur, occurs}
use Rattle.changes.specs.Holdable.{Holdable}
use Rattle.image.proofs.Facts.{Sound, fits_room}
use Rattle.image.proofs.Objects.{length_objects}
use Rattle.changes.proofs.Retitled.{retitle_out}
use Rattle.changes.proofs.Erased.{cut_length, cut_flags, cut_objects, cut_sound}
use Rattle.changes.proofs.Placed.{Fits, put_length, put_flags, put_count, put_end_new, put_objects, put_sound}

-- an event that the image admits: at a number that stands or is next, and what is put may be held and fits there
abbrev pub Admits : Event → List ℕ → Type 0
Admits (put n o) s = (n ≤ count s) × Holdable o × (fits s n (length (data_of o)) ≡ true)
Admits (cut n) s = n ≤ count s

-- a byte that 01 does not name for the event: none of the data, the entry, N and D
abbrev pub Unnamed : Event → List ℕ → ℕ → Type 0
Unnamed (put n o) s j = Outside j (end_at s n) (length (data_of o)) × Outside j (entry_place (length s) n) 4 × Outside j (length s - trailer_length) 4 × Outside j (length s - 8) 4
Unnamed (cut n) s j = Outside j (length s - trailer_length) 4 × Outside j (length s - 8) 4

pub record Obeys (e : Event) (s : List ℕ) : Type 0 where
  pub sound : Sound (occur e s)
  pub same_length : length (occur e s) ≡ length s
  pub same_flags : flags (occur e s) ≡ flags s
  pub makes : objects (occur e s) ≡ happen e (objects s)
  pub stays : (j : ℕ) → Unnamed e s j → get_or (occur e s) j 0 ≡ get_or s j 0

module _ (s : List ℕ) (k : Sound s) (n : ℕ) (o : Object) (room : Fits s n o) where
  laid : length (over s (end_at s n) (data_of o)) ≡ length s
  laid = length_over s (end_at s n) (data_of o) (omega arith)

  entered : length (enter s n o) ≡ length s
  unfolding enter
  entered = length_put 4 (over s (end_at s n) (data_of o)) (entry_place (length s) n) (entry_of o (end_at s n)) (omega (arith, laid)) ∙ laid

  put_stays : (j : ℕ) → Unnamed (put n o) s j → get_or (retitle (length s) (n + 1) (enter s n o)) j 0 ≡ get_or s j 0
  unfolding enter
  put_stays j (d, e, c, g) =
      retitle_out (length s) (n + 1) (enter s n o) entered k.least j c g
      ∙ get_d_over_out (over s (end_at s n) (data_of o)) (entry_place (length s) n) (bytes 4 (entry_of o (end_at s n))) j (rw length_bytes_lem (omega (arith, laid))) (rw length_bytes_lem e)
      ∙ get_d_over_out s (end_at s n) (data_of o) j (omega arith) d

pub obeys : (e : Event) (s : List ℕ) → Sound s → Admits e s → Obeys e s
unfolding occur happen
obeys (put n o) s k (h, q, f) =
    let r : Fits s n o = fits_room s n (length (data_of o)) f in
    record {
      sound = put_sound s k n o h q r;
      same_length = put_length s k n o h q r;
      same_flags = put_flags s k n o h q r;
      makes = put_objects s k n o h q r;
      stays = put_stays s k n o r;
    }
obeys (cut n) s k h =
    record {
      sound = cut_sound s k n h;
      same_length = cut_length s k n h;
      same_flags = cut_flags s k n h;
      makes = cut_objects s k n h;
      stays = λ j u. retitle_out (length s) n s refl k.least j u.0 u.1;
    }

-- where the next object goes: N and end(N) after a put
pub put_next : (n : ℕ) (o : Object) (s : List ℕ) → Sound s → Admits (put n o) s → (count (occur (put n o) s) ≡ suc n) × (end_at (occur (put n o) s) (suc n) ≡ end_at s n + length (data_of o))
unfolding occur
put_next n o s k (h, q, f) =
    let r : Fits s n o = fits_room s n (length (data_of o)) f in
    (put_count s k n o h q r, put_end_new s k n o h q r)

-- ---- a run of events

unfoldable pub AdmitsAll : List Event → List ℕ → Type 0
AdmitsAll [] s = Unit {0}
AdmitsAll (e ∷ es) s = Admits e s × AdmitsAll es (occur e s)

pub record Made (es : List Event) (s : List ℕ) : Type 0 where
  pub sound : Sound (occurs es s)
  pub same_length : length (occurs es s) ≡ length s
  pub same_flags : flags (occurs es s) ≡ flags s
  pub makes : objects (occurs es s) ≡ happens es (objects s)
  pub lawful : Lawful es (objects s)

place_in : (e : Event) (s : List ℕ) → Admits e s → place e ≤ length (objects s)
place_in (put n o) s a = omega (arith, length_objects s, a.0)
place_in (cut n) s a = omega (arith, length_objects s)

pub made : (es : List Event) (s : List ℕ) → Sound s → AdmitsAll es s → Made es s
unfolding occurs happens Lawful AdmitsAll
made [] s k a = record { sound = k; same_length = refl; same_flags = refl; makes = refl; lawful = tt }
made (e ∷ es) s k a =
    let o = obeys e s k a.0 in
    let m = made es (occur e s) o.sound a.1 in
    record {
      sound = m.sound;
      same_length = m.same_length ∙ o.same_length;
      same_flags = m.same_flags ∙ o.same_flags;
      makes = m.makes ∙ ap (happens es) o.makes;
      lawful = (place_in e s a.0, rw o.makes at m.lawful);
    }
