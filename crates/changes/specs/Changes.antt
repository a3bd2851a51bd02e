-- What the bytes of an image become: by an event on its objects, and by erasing its free part.
-- Every change is a run of bytes laid over others; what is not named stays.
-- Assumes nothing: these are definitions.
use Rattle.std.specs.Prelude.{ℕ, ◌+◌, ◌-◌, ◌*◌, List, [], ◌∷◌, length}
use Rattle.words.specs.Words.{bytes, over, zeros}
use Rattle.objects.specs.Object.{Object, filemark, block, data_of}
use Rattle.objects.specs.Events.{Event, put, cut}
use Rattle.objects.specs.Room.{trailer_length, entry_length}
use Rattle.image.specs.Image.{directory_back, top_of_entry, entry_place, count, directory, end_at}

-- the trailer's N and D for n objects, in an image of l bytes: D = L − 16 − 4N
unfoldable pub retitle : ℕ → ℕ → List ℕ → List ℕ
retitle l n s = over (over s (l - trailer_length) (bytes 4 n)) (l - directory_back) (bytes 4 (l - trailer_length - entry_length * n))

-- the entry of an object that follows the end p: top bit 1 for a filemark, below it the end of the object's data
unfoldable pub entry_of : Object → ℕ → ℕ
entry_of filemark p = top_of_entry + p
entry_of (block bs) p = p + length bs

-- the data and the entry of the object o at number n
unfoldable pub enter : List ℕ → ℕ → Object → List ℕ
enter s n o = over (over s (end_at s n) (data_of o)) (entry_place (length s) n) (bytes 4 (entry_of o (end_at s n)))

-- an object put: its data, its entry, N and D; a cut: N and D
unfoldable pub occur : Event → List ℕ → List ℕ
occur (put n o) s = retitle (length s) (n + 1) (enter s n o)
occur (cut n) s = retitle (length s) n s

unfoldable pub occurs : List Event → List ℕ → List ℕ
occurs [] s = s
occurs (e ∷ es) s = occurs es (occur e s)

-- "LONG also zeroes end(N) up to the new D"
unfoldable pub cleared : List ℕ → List ℕ
cleared s = over s (end_at s (count s)) (zeros (directory s - end_at s (count s)))
