-- What READ, WRITE and WRITE FILEMARKS move between a buffer and the objects (01, "What each command does").
-- Assumes nothing: these are definitions.
use Rattle.std.specs.Prelude.{ℕ, zero, suc, ◌+◌, true, false, List, [], ◌∷◌, ◌++◌, eqb, length, take, drop}
use Rattle.objects.specs.Object.{Object, filemark, block, data_of}
use Rattle.objects.specs.Events.{Event, put}
use Rattle.objects.specs.Room.{room_of, fits_in}

-- ---- FIXED reading: "reads whole blocks of the set length"

-- why a run of blocks ends: all were read, one had another length, a filemark, end of data
pub data Ended : Type 0 where
  whole odd_length at_filemark at_end : Ended

-- how many whole blocks were read, their bytes, how many objects were crossed, and why the run ended
pub record Run : Type 0 where
  pub blocks : ℕ
  pub bytes : List ℕ
  pub crossed : ℕ
  pub why : Ended

abbrev pub halted : ℕ → Ended → Run
halted crossed why = record { blocks = 0; bytes = []; crossed = crossed; why = why }

-- one whole block before r
abbrev pub whole_before : List ℕ → Run → Run
whole_before bs r = record { blocks = suc r.blocks; bytes = bs ++ r.bytes; crossed = suc r.crossed; why = r.why }

-- n blocks of length b from what lies ahead: one of another length carries none of its bytes, and is crossed; so is a filemark
unfoldable pub run_of : ℕ → ℕ → List Object → Run
run_of b zero xs = halted 0 whole
run_of b (suc n) [] = halted 0 at_end
run_of b (suc n) (filemark ∷ xs) = halted 1 at_filemark
run_of b (suc n) (block bs ∷ xs) = elim (eqb (length bs) b) [ true ↦ whole_before bs (run_of b n xs) | false ↦ halted 1 odd_length ]

-- ---- writing: "Objects go down while each fits by the room at its own number, the first at the position"

-- n blocks of b bytes each, from the bytes sent
unfoldable pub blocks_of : ℕ → ℕ → List ℕ → List Object
blocks_of b zero s = []
blocks_of b (suc n) s = block (take b s) ∷ blocks_of b n (drop b s)

-- n filemarks
unfoldable pub marks_of : ℕ → List Object
marks_of zero = []
marks_of (suc n) = filemark ∷ marks_of n

-- those of the objects os that go down, the first at number n behind e bytes of data, in a partition of l bytes
unfoldable pub fitting : ℕ → ℕ → ℕ → List Object → List Object
fitting l n e [] = []
fitting l n e (o ∷ os) = elim (fits_in (room_of l n e) (length (data_of o))) [ true ↦ o ∷ fitting l (suc n) (e + length (data_of o)) os | false ↦ [] ]

-- put at numbers from n on
unfoldable pub put_from : ℕ → List Object → List Event
put_from n [] = []
put_from n (o ∷ os) = put n o ∷ put_from (suc n) os
