-- The partition image (01, "Partition image"), over the list of its bytes, in 01's order.
-- Assumes nothing: these are definitions.
use Rattle.std.specs.Prelude.{ℕ, zero, suc, ◌+◌, ◌-◌, ◌*◌, ◌/◌, ◌%◌, ◌^◌, Bool, true, cond, not, ◌&&◌, List, [], ◌∷◌, ◌++◌, length, ◌==◌, nat_le, nat_lt}
use Rattle.std.proofs.Math.Seq.{slice}
use Rattle.words.specs.Words.{be}
use Rattle.answers.specs.Answers.{unsound_image, wrong_length, first, refusal_of}
use Rattle.objects.specs.Object.{Object, filemark, block, largest_block}
use Rattle.objects.specs.Room.{trailer_length, entry_length, used_of, room_of, fits_in, zone_in}

-- ---- the numbers of 01, each once

-- "L bytes, 64 to 1,073,741,824"
abbrev pub least_length : ℕ
least_length = 64

abbrev pub most_length : ℕ
most_length = 1073741824

-- "bit 0 = protected, others 0": how many flag bits have a meaning
abbrev pub flag_bits : ℕ
flag_bits = 1

-- ---- the trailer: N, flags, D, L, four bytes each, so N stands at its start, and the others so far from the image's end

abbrev pub flags_back : ℕ
flags_back = 12

abbrev pub directory_back : ℕ
directory_back = 8

abbrev pub size_back : ℕ
size_back = 4

unfoldable pub count : List ℕ → ℕ
count s = be 4 s (length s - trailer_length)

unfoldable pub flags : List ℕ → ℕ
flags s = be 4 s (length s - flags_back)

unfoldable pub directory : List ℕ → ℕ
directory s = be 4 s (length s - directory_back)

unfoldable pub size : List ℕ → ℕ
size s = be 4 s (length s - size_back)

-- flag bit 0
unfoldable pub protected : List ℕ → Bool
protected s = flags s % 2 == 1

-- ---- the directory

-- the entry of object i: the four bytes at L − 16 − 4(i + 1)
abbrev pub entry_place : ℕ → ℕ → ℕ
entry_place l i = l - trailer_length - entry_length * (i + 1)

unfoldable pub entry : List ℕ → ℕ → ℕ
entry s i = be 4 s (entry_place (length s) i)

-- "top bit 1 for a filemark, low 31 bits the end of its data"
abbrev pub top_of_entry : ℕ
top_of_entry = 2 ^ 31

unfoldable pub top_bit : ℕ → Bool
top_bit e = e / top_of_entry == 1

unfoldable pub low31 : ℕ → ℕ
low31 e = e % top_of_entry

-- end(n): the end of object n − 1; end(0) = 0
unfoldable pub end_at : List ℕ → ℕ → ℕ
end_at s zero = 0
end_at s (suc i) = low31 (entry s i)

-- after the end p the entry e is right: a block's end exceeds p by 1 to the largest block (Q-7; 01 had "1 to 65,536"), a filemark's equals it
unfoldable pub follows : ℕ → ℕ → Bool
follows p e = cond (top_bit e) (low31 e == p) (nat_lt p (low31 e) && nat_le (low31 e) (p + largest_block))

-- the entries of the first n objects are right
unfoldable pub ordered : List ℕ → ℕ → Bool
ordered s zero = true
ordered s (suc i) = ordered s i && follows (end_at s i) (entry s i)

-- ---- "An image that meets all this is sound."

-- L bytes, 64 to 1,073,741,824
unfoldable pub right_length : List ℕ → Bool
right_length s = nat_le least_length (length s) && nat_le (length s) most_length

-- and: the trailer's L is the length, no unknown flag, D = L − 16 − 4N, the entries right, end(N) ≤ D.
-- (D + 4N + 16 = L, so that no difference is cut off at 0.)
unfoldable pub sound : List ℕ → Bool
sound s =
    right_length s
    && size s == length s
    && flags s / 2 ^ flag_bits == 0
    && directory s + entry_length * count s + trailer_length == length s
    && ordered s (count s)
    && nat_le (end_at s (count s)) (directory s)

-- the two refusals of an image: 7 for its length, then 6 where it is not sound
abbrev pub image_tests : List ℕ → List (Bool × ℕ)
image_tests s = (not (right_length s), wrong_length) ∷ (not (sound s), unsound_image) ∷ []

unfoldable pub fault_of : List ℕ → ℕ
fault_of s = refusal_of (first (image_tests s))

-- "an empty second slice is absent"
abbrev pub absent : List ℕ → Bool
absent s = length s == 0

-- ---- room, of an image
unfoldable pub used : List ℕ → ℕ → ℕ
used s n = used_of n (end_at s n)

unfoldable pub room : List ℕ → ℕ → ℕ
room s n = room_of (length s) n (end_at s n)

unfoldable pub fits : List ℕ → ℕ → ℕ → Bool
fits s n k = fits_in (room s n) k

unfoldable pub zone : List ℕ → ℕ → Bool
zone s n = zone_in (length s) (room s n)

-- ---- objects

unfoldable pub object_at : List ℕ → ℕ → Object
object_at s i = cond (top_bit (entry s i)) filemark (block (slice (end_at s i) (end_at s (suc i)) s))

-- f 0, .., f (n − 1)
unfoldable pub upto : (ℕ → Object) → ℕ → List Object
upto f zero = []
upto f (suc n) = upto f n ++ f n ∷ []

unfoldable pub objects : List ℕ → List Object
objects s = upto (object_at s) (count s)

-- filemarks among the first n objects, by their entries
unfoldable pub filemarks_before : List ℕ → ℕ → ℕ
filemarks_before s zero = 0
filemarks_before s (suc i) = filemarks_before s i + cond (top_bit (entry s i)) 1 0
