-- Q-4's cases: REQUEST SENSE in descriptor form of kept bytes that a command leaves and of others, cut at each allocation, into a buffer just long enough
-- and one byte short; of a waiting attention; with bits that are in no mask; and each kind of sense, by a call that leaves it, asked for in both forms.
-- Assumes nothing: these are definitions.
use Rattle.std.specs.Prelude.{ℕ, suc, ◌-◌, ◌^◌, ◌≡◌, true, List, [], ◌∷◌, ◌++◌, length, take, replicate}
use Rattle.words.specs.Words.{bytes, over, zeros}
use Rattle.answers.specs.Answers.{refused}
use Rattle.image.specs.Example.{E}
use Rattle.sense.specs.Sense.{parts_of}
use Rattle.record.specs.Record.{medium_changed, power_on, mounted_block_length, decode_of}
use Rattle.codes.specs.Six.{six}
use Rattle.codes.specs.Sixteen.{sixteen}
use Rattle.forms.specs.Produced.{Kind, is_of}
use Rattle.edges.specs.Cases.{sense18, nothing_kept, bare64, full, locate}
use Rattle.edges.specs.Traps.{Trap, loaded, bare, plain, good_answer, check, crossed_check, alone, turns, guarded}

-- ---- replies, byte by byte

-- with the stream descriptor alone: key, ASC, ASCQ, flags
abbrev stream : ℕ → ℕ → ℕ → ℕ → List ℕ
stream key asc ascq flags = 0x72 ∷ key ∷ asc ∷ ascq ∷ 0 ∷ 0 ∷ 0 ∷ 0x04 ∷ 0x04 ∷ 0x02 ∷ 0x00 ∷ flags ∷ []

-- with both, the value in two parts of four bytes
abbrev both : ℕ → ℕ → ℕ → ℕ → ℕ → ℕ → List ℕ
both key asc ascq flags high low = (0x72 ∷ key ∷ asc ∷ ascq ∷ 0 ∷ 0 ∷ 0 ∷ 0x10 ∷ 0x00 ∷ 0x0A ∷ 0x80 ∷ 0x00 ∷ []) ++ bytes 4 high ++ bytes 4 low ++ (0x04 ∷ 0x02 ∷ 0x00 ∷ flags ∷ [])

-- four bytes of ones
abbrev ones : ℕ
ones = 0xFFFFFFFF

-- ---- a REQUEST SENSE by its byte 1 and its allocation, of a drive with nothing loaded

-- a buffer of n bytes that shows what is not carried
abbrev nines : ℕ → List ℕ
nines n = replicate n 9

abbrev ask : ℕ → ℕ → List ℕ
ask byte1 allocation = six 0x03 byte1 allocation

-- an attention, the kept sense, the command, the reply before it is cut, the buffer's length; the number of bytes carried
abbrev gives : ℕ → List ℕ → ℕ → ℕ → List ℕ → ℕ → ℕ → Trap
gives attention sense byte1 allocation reply room n =
    alone (bare attention 0 sense) (ask byte1 allocation) [] [] (nines room) (good_answer n) (bare 0 0 nothing_kept) [] (over (nines room) 0 (take n reply))

-- refused by 3: everything stays
abbrev lacks : ℕ → List ℕ → ℕ → ℕ → ℕ → Trap
lacks attention sense byte1 allocation room =
    alone (bare attention 0 sense) (ask byte1 allocation) [] [] (nines room) (refused 3) (bare attention 0 sense) [] (nines room)

-- into a buffer of n + 1 bytes, which is enough, and of n, which is not
abbrev just_and : ℕ → List ℕ → ℕ → ℕ → List ℕ → ℕ → List Trap
just_and attention sense byte1 allocation reply n = gives attention sense byte1 allocation reply (suc n) (suc n) ∷ lacks attention sense byte1 allocation n ∷ []

-- at the allocations 0, 7, 8, 11, 12, 13, 23, 24 and 255, where the reply has 24 bytes, and where it has 12
abbrev of24 : ℕ → List ℕ → List ℕ → List Trap
of24 attention sense reply =
    (gives attention sense 1 0 reply 0 0 ∷ [])
    ++ just_and attention sense 1 7 reply 6
    ++ just_and attention sense 1 8 reply 7
    ++ just_and attention sense 1 11 reply 10
    ++ just_and attention sense 1 12 reply 11
    ++ just_and attention sense 1 13 reply 12
    ++ just_and attention sense 1 23 reply 22
    ++ just_and attention sense 1 24 reply 23
    ++ just_and attention sense 1 255 reply 23

abbrev of12 : ℕ → List ℕ → List ℕ → List Trap
of12 attention sense reply =
    (gives attention sense 1 0 reply 0 0 ∷ [])
    ++ just_and attention sense 1 7 reply 6
    ++ just_and attention sense 1 8 reply 7
    ++ just_and attention sense 1 11 reply 10
    ++ just_and attention sense 1 12 reply 11
    ++ just_and attention sense 1 13 reply 11
    ++ just_and attention sense 1 23 reply 11
    ++ just_and attention sense 1 24 reply 11
    ++ just_and attention sense 1 255 reply 11

-- ---- kept bytes that a command leaves: a filemark with residue −5, and with one that did not fit

abbrev marked : List ℕ
marked = sense18 0xF0 0x80 0xFFFFFFFB 0x00 0x01

abbrev unfit : List ℕ
unfit = sense18 0x70 0x80 0 0x00 0x01

abbrev all_ones : List ℕ
all_ones = replicate 18 0xFF

unfoldable pub empty_turned : List Trap
empty_turned = of12 0 nothing_kept (stream 0x0 0x00 0x00 0x00)

unfoldable pub marked_turned : List Trap
marked_turned = of24 0 marked (both 0x0 0x00 0x01 0x80 ones 0xFFFFFFFB)

unfoldable pub unfit_turned : List Trap
unfit_turned = of12 0 unfit (stream 0x0 0x00 0x01 0x80)

unfoldable pub ones_turned : List Trap
ones_turned = of24 0 all_ones (both 0xF 0xFF 0xFF 0xE0 ones ones)

-- ---- an attention is told in this form as well, and not what is kept

unfoldable pub attention_turned : List Trap
attention_turned = of12 medium_changed all_ones (stream 0x6 0x28 0x00 0x00) ++ of12 power_on all_ones (stream 0x6 0x29 0x00 0x00)

-- ---- other kept bytes, the fixed form of any, buffers that are longer, and what is a field error still

unfoldable pub others_turned : List Trap
others_turned =
    -- all zeros, all 7Fh; VALID alone; the most and the least that four bytes hold
    gives 0 (zeros 18) 1 24 (stream 0x0 0x00 0x00 0x00) 12 12 ∷
    gives 0 (replicate 18 0x7F) 1 24 (stream 0xF 0x7F 0x7F 0x60) 12 12 ∷
    gives 0 (0x80 ∷ zeros 17) 1 24 (both 0x0 0x00 0x00 0x00 0 0) 24 24 ∷
    gives 0 (sense18 0xF0 0x20 0x7FFFFFFF 0x00 0x00) 1 24 (both 0x0 0x00 0x00 0x20 0 0x7FFFFFFF) 24 24 ∷
    gives 0 (sense18 0xF0 0x20 0x80000000 0x00 0x00) 1 24 (both 0x0 0x00 0x00 0x20 ones 0x80000000) 24 24 ∷
    -- all that is dropped; bit 4 of byte 2 amid the others; a value without VALID; bytes that stand in descriptor form themselves
    gives 0 ((0x7F ∷ 0xFF ∷ 0x10 ∷ []) ++ zeros 4 ++ replicate 5 0xFF ++ zeros 2 ++ replicate 4 0xFF) 1 24 (stream 0x0 0x00 0x00 0x00) 12 12 ∷
    gives 0 (sense18 0x70 0xFF 0 0x00 0x00) 1 24 (stream 0xF 0x00 0x00 0xE0) 12 12 ∷
    gives 0 (sense18 0x70 0x48 0xFFFFFFFB 0x00 0x05) 1 24 (stream 0x8 0x00 0x05 0x40) 12 12 ∷
    gives 0 ((0x72 ∷ 0x05 ∷ 0x24 ∷ []) ++ zeros 4 ++ (0x04 ∷ 0x04 ∷ 0x02 ∷ 0x00 ∷ 0x80 ∷ []) ++ zeros 6) 1 24 (stream 0x4 0x00 0x00 0x20) 12 12 ∷
    -- a longer buffer keeps what stands behind
    gives 0 marked 1 24 (both 0x0 0x00 0x01 0x80 ones 0xFFFFFFFB) 255 24 ∷
    gives 0 nothing_kept 1 255 (stream 0x0 0x00 0x00 0x00) 255 12 ∷
    -- with the bit clear: the eighteen bytes as they stand
    gives 0 all_ones 0 0 all_ones 0 0 ∷
    gives 0 all_ones 0 17 all_ones 17 17 ∷
    gives 0 all_ones 0 18 all_ones 18 18 ∷
    gives 0 all_ones 0 19 all_ones 18 18 ∷
    gives 0 all_ones 0 24 all_ones 18 18 ∷
    gives 0 all_ones 0 255 all_ones 18 18 ∷
    lacks 0 all_ones 0 24 17 ∷
    gives power_on marked 0 24 (plain 0x06 0x29 0x00) 18 18 ∷
    -- no other bit of byte 1 is in the mask, and an attention waits on
    alone (bare 0 0 all_ones) (ask 0x02 24) [] [] (nines 24) (check 0) (bare 0 0 (plain 5 0x24 0)) [] (nines 24) ∷
    alone (bare 0 0 all_ones) (ask 0x03 24) [] [] (nines 24) (check 0) (bare 0 0 (plain 5 0x24 0)) [] (nines 24) ∷
    alone (bare 0 0 all_ones) (ask 0x80 24) [] [] (nines 24) (check 0) (bare 0 0 (plain 5 0x24 0)) [] (nines 24) ∷
    turns (bare power_on 0 all_ones) (ask 0x03 0) [] (check 0) (bare power_on 0 (plain 5 0x24 0)) ∷
    turns (bare power_on 0 all_ones) (ask 0xFF 0) [] (check 0) (bare power_on 0 (plain 5 0x24 0)) ∷
    []

-- ---- a call that leaves each kind of sense; and then REQUEST SENSE in both forms, each clearing it

-- in a drive that a mount has left in blocks of 32,768 bytes
abbrev at : ℕ → List ℕ → List ℕ
at position sense = loaded 0 position mounted_block_length sense

abbrev minus : ℕ → ℕ
minus n = 2 ^ 64 - n

abbrev space16 : ℕ → ℕ → List ℕ
space16 code count = sixteen 0x91 code 0 count

-- in the order of the kinds
unfoldable pub leaving : List Trap
leaving =
    alone (at 1 (plain 6 0x28 0)) (ask 1 255) E [] (nines 12) (good_answer 12) (at 1 nothing_kept) E (stream 0x6 0x28 0x00 0x00) ∷
    turns (loaded medium_changed 1 mounted_block_length nothing_kept) (six 0x00 0 0) E (check 0) (at 1 (plain 6 0x28 0)) ∷
    turns (bare power_on 0 nothing_kept) (six 0x12 0 0) [] (check 0) (bare 0 0 (plain 6 0x29 0)) ∷
    turns (bare 0 0 nothing_kept) (six 0x12 0 0) [] (check 0) (bare 0 0 (plain 5 0x20 0)) ∷
    alone (bare 0 0 nothing_kept) (ask 0x03 24) [] [] (nines 24) (check 0) (bare 0 0 (plain 5 0x24 0)) [] (nines 24) ∷
    alone (at 1 nothing_kept) (six 0x15 0x10 5) E (zeros 5) [] (check 0) (at 1 (plain 5 0x1A 0)) E [] ∷
    alone (at 1 nothing_kept) (six 0x15 0x10 4) E (0 ∷ 1 ∷ 0 ∷ 0 ∷ []) [] (check 0) (at 1 (plain 5 0x26 0)) E [] ∷
    turns (bare 0 0 nothing_kept) (six 0x08 0 5) [] (check 0) (bare 0 0 (plain 2 0x3A 0)) ∷
    alone (at 2 nothing_kept) (six 0x0A 0 5) guarded (zeros 5) [] (check 0) (at 2 (plain 7 0x27 0)) guarded [] ∷
    alone (at 0 nothing_kept) (six 0x08 0 2) E [] (nines 5) (check 2) (at 1 (sense18 0xF0 0x20 ones 0x00 0x00)) E ((1 ∷ 2 ∷ []) ++ nines 3) ∷
    turns (at 2 nothing_kept) (six 0x11 0 0xFFFFFB) E (crossed_check 1) (at 1 marked) ∷
    turns (at 2 nothing_kept) (space16 0 (minus (2 ^ 40))) E (crossed_check 1) (at 1 unfit) ∷
    alone (at 0 nothing_kept) (six 0x0A 0 44) bare64 (replicate 44 7) [] (check 44) (at 1 (sense18 0xF0 0x40 0 0x00 0x02)) full [] ∷
    turns (at 1 nothing_kept) (six 0x11 0 0xFFFFFB) E (crossed_check 1) (at 0 (sense18 0xF0 0x40 0xFFFFFFFC 0x00 0x04)) ∷
    turns (at 2 nothing_kept) (space16 1 (minus (2 ^ 32))) E (crossed_check 2) (at 0 (plain 0x40 0x00 0x04)) ∷
    alone (at 2 nothing_kept) (six 0x08 0 5) E [] (nines 5) (check 0) (at 2 (sense18 0xF0 0x08 5 0x00 0x05)) E (nines 5) ∷
    turns (at 0 nothing_kept) (locate 3) E (check 0) (at 2 (plain 0x08 0x00 0x05)) ∷
    alone (at 1 nothing_kept) (six 0x08 0 5) full [] (nines 5) (check 0) (at 1 (sense18 0xF0 0x48 5 0x00 0x05)) full (nines 5) ∷
    turns (at 0 nothing_kept) (sixteen 0x92 8 0 1) full (check 0) (at 1 (plain 0x48 0x00 0x05)) ∷
    alone (at 0 nothing_kept) (six 0x0A 0 45) bare64 (replicate 45 7) [] (check 0) (at 0 (sense18 0xF0 0x4D 45 0x00 0x02)) bare64 [] ∷
    []

-- of the record that is left, on the same partition: the reply in descriptor form, and the kept bytes in fixed form
abbrev in_both : (List ℕ → List ℕ) → List ℕ → List ℕ → List ℕ → List Trap
in_both rec part sense reply =
    alone (rec sense) (ask 1 255) part [] (nines (length reply)) (good_answer (length reply)) (rec nothing_kept) part reply ∷
    alone (rec sense) (ask 0 255) part [] (nines (length sense)) (good_answer (length sense)) (rec nothing_kept) part sense ∷
    []

unfoldable pub asked : List Trap
asked =
    in_both (at 1) E nothing_kept (stream 0x0 0x00 0x00 0x00)
    ++ in_both (at 1) E (plain 6 0x28 0) (stream 0x6 0x28 0x00 0x00)
    ++ in_both (bare 0 0) [] (plain 6 0x29 0) (stream 0x6 0x29 0x00 0x00)
    ++ in_both (bare 0 0) [] (plain 5 0x20 0) (stream 0x5 0x20 0x00 0x00)
    ++ in_both (bare 0 0) [] (plain 5 0x24 0) (stream 0x5 0x24 0x00 0x00)
    ++ in_both (at 1) E (plain 5 0x1A 0) (stream 0x5 0x1A 0x00 0x00)
    ++ in_both (at 1) E (plain 5 0x26 0) (stream 0x5 0x26 0x00 0x00)
    ++ in_both (bare 0 0) [] (plain 2 0x3A 0) (stream 0x2 0x3A 0x00 0x00)
    ++ in_both (at 2) guarded (plain 7 0x27 0) (stream 0x7 0x27 0x00 0x00)
    ++ in_both (at 1) E (sense18 0xF0 0x20 ones 0x00 0x00) (both 0x0 0x00 0x00 0x20 ones ones)
    ++ in_both (at 1) E marked (both 0x0 0x00 0x01 0x80 ones 0xFFFFFFFB)
    ++ in_both (at 1) E unfit (stream 0x0 0x00 0x01 0x80)
    ++ in_both (at 1) full (sense18 0xF0 0x40 0 0x00 0x02) (both 0x0 0x00 0x02 0x40 0 0)
    ++ in_both (at 0) E (sense18 0xF0 0x40 0xFFFFFFFC 0x00 0x04) (both 0x0 0x00 0x04 0x40 ones 0xFFFFFFFC)
    ++ in_both (at 0) E (plain 0x40 0x00 0x04) (stream 0x0 0x00 0x04 0x40)
    ++ in_both (at 2) E (sense18 0xF0 0x08 5 0x00 0x05) (both 0x8 0x00 0x05 0x00 0 5)
    ++ in_both (at 2) E (plain 0x08 0x00 0x05) (stream 0x8 0x00 0x05 0x00)
    ++ in_both (at 1) full (sense18 0xF0 0x48 5 0x00 0x05) (both 0x8 0x00 0x05 0x40 0 5)
    ++ in_both (at 1) full (plain 0x48 0x00 0x05) (stream 0x8 0x00 0x05 0x40)
    ++ in_both (at 0) bare64 (sense18 0xF0 0x4D 45 0x00 0x02) (both 0xD 0x00 0x02 0x40 0 45)

-- a row for each kind: it is not refused, and what it leaves is of that kind
unfoldable pub EachLeft : List Kind → List Trap → Type 0
EachLeft [] [] = Unit {0}
EachLeft [] (t ∷ ts) = ⊥
EachLeft (k ∷ ks) [] = ⊥
EachLeft (k ∷ ks) (t ∷ ts) = (t.leaves.answer.refusal ≡ 0) × (is_of k (parts_of (decode_of t.leaves.rec).sense) ≡ true) × EachLeft ks ts
