-- The movements of SPACE and LOCATE (01, "What each command does"; Q-1): one walk over what lies ahead, in either direction; and straight to a number.
-- Assumes nothing: these are definitions.
use Rattle.std.specs.Prelude.{ℕ, zero, suc, ◌+◌, ◌-◌, cond, List, [], ◌∷◌, leb, length, drop, get_or, ℤ, pos, negsuc, neg_ℤ, ◌-ℤ◌}
use Rattle.objects.specs.Object.{Object, filemark, block}

-- what is counted
pub data Code : Type 0 where
  blocks filemarks : Code

-- why a walk ends: all that was asked for is counted, a filemark was crossed that was not, nothing more lies ahead
pub data Why : Type 0 where
  done marked edge : Why

-- how many objects were crossed, how many of them were counted, and why the walk ended
pub record Walk : Type 0 where
  pub crossed : ℕ
  pub counted : ℕ
  pub why : Why

abbrev pub halt : Why → Walk
halt w = record { crossed = 0; counted = 0; why = w }

-- w after one object more, crossed only, and after one crossed and counted
abbrev pub uncounted : Walk → Walk
uncounted w = record { crossed = suc w.crossed; counted = w.counted; why = w.why }

abbrev pub counting : Walk → Walk
counting w = record { crossed = suc w.crossed; counted = suc w.counted; why = w.why }

-- the walk over n of what is counted, where xs lie ahead, the nearest first:
-- over blocks a filemark is crossed, uncounted, and ends it; over filemarks blocks are crossed, uncounted
unfoldable pub walk : Code → ℕ → List Object → Walk
walk c zero xs = halt done
walk c (suc n) [] = halt edge
walk blocks (suc n) (filemark ∷ xs) = uncounted (halt marked)
walk blocks (suc n) (block bs ∷ xs) = counting (walk blocks n xs)
walk filemarks (suc n) (filemark ∷ xs) = counting (walk filemarks n xs)
walk filemarks (suc n) (block bs ∷ xs) = uncounted (walk filemarks (suc n) xs)

-- what lies before position p, the nearest first
unfoldable pub before : ℕ → List Object → List Object
before zero xs = []
before (suc p) xs = get_or xs p filemark ∷ before p xs

-- where a movement ends, the signed movement of what is counted, why it ended, and how many objects it crossed
pub record Move : Type 0 where
  pub to : ℕ
  pub moved : ℤ
  pub why : Why
  pub distance : ℕ

unfoldable pub ahead : ℕ → Walk → Move
ahead p w = record { to = p + w.crossed; moved = pos w.counted; why = w.why; distance = w.crossed }

unfoldable pub astern : ℕ → Walk → Move
astern p w = record { to = p - w.crossed; moved = neg_ℤ (pos w.counted); why = w.why; distance = w.crossed }

-- SPACE over c by the count k from position p of the objects xs
unfoldable pub space : Code → ℤ → ℕ → List Object → Move
unfolding walk before ahead astern
space c (pos n) p xs = ahead p (walk c n (drop p xs))
space c (negsuc n) p xs = astern p (walk c (suc n) (before p xs))

-- count − signed movement of what is counted
unfoldable pub residue : ℤ → Move → ℤ
residue k m = k -ℤ m.moved

-- ---- straight to a number

-- to q, from p, for w; nothing is counted on the way
abbrev pub straight : ℕ → ℕ → Why → Move
straight p q w = record { to = q; moved = pos 0; why = w; distance = (p - q) + (q - p) }

-- SPACE to end of data
unfoldable pub to_end_of_data : ℕ → List Object → Move
to_end_of_data p xs = straight p (length xs) done

-- LOCATE: to object k, or to end of data where it lies above
unfoldable pub to_object : ℕ → ℕ → List Object → Move
to_object p k xs = cond (leb k (length xs)) (straight p k done) (straight p (length xs) edge)

-- Q-1: LOCATE "to a file number (just after that many filemarks, 0 being the beginning)": where the walk over f filemarks from the beginning ends,
-- which is end of data where there are fewer
unfoldable pub to_file : ℕ → ℕ → List Object → Move
to_file p f xs = straight p (walk filemarks f xs).crossed (walk filemarks f xs).why

-- Q-1: "LOCATE (16) goes to an object number, to a file number .. or to end of data"
pub data Destination : Type 0 where
  object file : ℕ → Destination
  end_of_data : Destination

-- LOCATE from position p of the objects xs
unfoldable pub locate : Destination → ℕ → List Object → Move
locate (object k) p xs = to_object p k xs
locate (file f) p xs = to_file p f xs
locate end_of_data p xs = to_end_of_data p xs
