-- What commands do to the objects of a partition, and what stands after a run of such events, in the words of demand 3.
-- Assumes nothing: these are definitions.
use Rattle.std.specs.Prelude.{ℕ, ◌≤◌, ◌<◌, ◌≡◌, ◌⊎◌, List, [], ◌∷◌, ◌++◌, length, take}
use Rattle.objects.specs.Object.{Object}

-- an object is put at a number, or the partition is erased from a number on
pub data Event : Type 0 where
  put : ℕ → Object → Event
  cut : ℕ → Event

abbrev pub place : Event → ℕ
place (put k o) = k
place (cut k) = k

-- what an event makes of the objects: all from its number on are gone, and the one put stands there
unfoldable pub happen : Event → List Object → List Object
happen (put k o) xs = take k xs ++ o ∷ []
happen (cut k) xs = take k xs

unfoldable pub happens : List Event → List Object → List Object
happens [] xs = xs
happens (e ∷ es) xs = happens es (happen e xs)

-- no event has put an object at number k or lower, or erased from such a number
unfoldable pub Clear : ℕ → List Event → Type 0
Clear k [] = Unit {0}
Clear k (e ∷ es) = (k < place e) × Clear k es

-- some event put o at number k, and since then the events are clear of k
unfoldable pub Stands : List Event → ℕ → Object → Type 0
Stands [] k o = ⊥
Stands (e ∷ es) k o = ((e ≡ put k o) × Clear k es) ⊎ Stands es k o

-- each event finds its number at most at the end of what stands
unfoldable pub Lawful : List Event → List Object → Type 0
Lawful [] xs = Unit {0}
Lawful (e ∷ es) xs = (place e ≤ length xs) × Lawful es (happen e xs)
