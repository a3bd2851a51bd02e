-- What document 01 says of its example E, and edges of the image beside it: computed from the definitions.
-- Assumes nothing.
use mathlib.Core.Bool.{true, false}
use mathlib.Core.Path.{◌≡◌, refl}
use mathlib.Core.List.{[], ◌∷◌, ◌++◌}
use lib.ListN.{replicate}
use Rattle.words.specs.Words.{be, bytes, over}
use Rattle.objects.specs.Object.{filemark, block}
use Rattle.objects.specs.Events.{put, cut}
use Rattle.image.specs.Image.{count, flags, directory, size, entry, top_bit, low31, end_at, follows, ordered, right_length, sound, used, room, fits, zone, object_at, upto, objects, filemarks_before}
use Rattle.image.specs.Example.{E}
use Rattle.changes.specs.Changes.{retitle, entry_of, enter, occur, occurs, cleared}
use Rattle.trailers.specs.Least.{blank64}
use Rattle.trailers.specs.Trailers.{reflag, protect, blank}
use Rattle.image.specs.Parts.{part_of}
use Rattle.views.specs.Views.{view_of}
use Rattle.edges.specs.Cases.{bare64, three}

E_sound : sound E ≡ true
unfolding E be bytes count flags directory size entry top_bit low31 end_at follows ordered right_length sound
E_sound = refl

-- the room at N, and that it is not in the zone
E_room : (room E 2 ≡ 37) × (zone E 2 ≡ false)
unfolding E be bytes zone room used end_at entry low31
E_room = (refl, refl)

E_objects : objects E ≡ block (1 ∷ 2 ∷ 3 ∷ []) ∷ filemark ∷ []
unfolding E be bytes objects upto object_at count end_at entry top_bit low31
E_objects = refl

E_filemarks : filemarks_before E 2 ≡ 1
unfolding E be bytes filemarks_before entry top_bit
E_filemarks = refl

-- made from a blank image, object by object
E_made : occurs (put 0 (block (1 ∷ 2 ∷ 3 ∷ [])) ∷ put 1 filemark ∷ []) (blank (replicate 64 0)) ≡ E
unfolding E be bytes over occurs occur retitle enter entry_of blank end_at entry low31
E_made = refl

-- the blank of the table's cases is one that our software makes
bare_made : blank64 ≡ bare64
unfolding blank64 blank retitle bytes over bare64
bare_made = refl

-- its views: the block, the filemark, no such object, no such partition
E_view : (view_of E [] 0 0 ≡ record { start = 0; len = 3 }) × (view_of E [] 0 1 ≡ record { start = 0; len = 0 }) × (view_of [] E 1 2 ≡ record { start = 0; len = 0 }) × (view_of E E 2 0 ≡ record { start = 0; len = 0 })
unfolding E be bytes view_of part_of count flags directory size entry top_bit low31 end_at follows ordered right_length sound
E_view = (refl, refl, refl, refl)

-- protected, and erased from number 1 on with what is free zeroed: the filemark's entry too
E_protected : flags (protect true E) ≡ 1
unfolding E be bytes over protect reflag flags
E_protected = refl

E_erased : cleared (occur (cut 1) E) ≡ 1 ∷ 2 ∷ 3 ∷ replicate 41 0 ++ bytes 4 0x00000003 ++ bytes 4 0x00000001 ++ bytes 4 0x00000000 ++ bytes 4 0x0000002C ++ bytes 4 0x00000040
unfolding E be bytes over occur retitle cleared count directory end_at entry low31
E_erased = refl

-- a block of 44 bytes fits a blank image of 64, one of 45 does not
fits_44 : (fits (blank (replicate 64 0)) 0 44 ≡ true) × (fits (blank (replicate 64 0)) 0 45 ≡ false)
unfolding be bytes over blank retitle fits room used end_at
fits_44 = (refl, refl)

-- room 3 is in the zone of an image of 65 bytes (48 < 49), and not of one of 64 (48 < 48)
zone_edge : (room (occur (put 0 (block (replicate 42 7))) (blank (replicate 65 0))) 1 ≡ 3) × (zone (occur (put 0 (block (replicate 42 7))) (blank (replicate 65 0))) 1 ≡ true)
    × (room (occur (put 0 (block (replicate 41 7))) (blank (replicate 64 0))) 1 ≡ 3) × (zone (occur (put 0 (block (replicate 41 7))) (blank (replicate 64 0))) 1 ≡ false)
unfolding be bytes over occur retitle enter entry_of blank zone room used end_at entry low31
zone_edge = (refl, refl, refl, refl)

-- room at a number never counts what lies behind it: E's room at 0 and at 1
room_before : (room E 0 ≡ 48) × (room E 1 ≡ 41)
unfolding E be bytes room used end_at entry low31
room_before = (refl, refl)

-- 4N is never cut off: N = 40000000h with D = 30h is not sound
no_wrap : sound (replicate 48 0 ++ bytes 4 0x40000000 ++ bytes 4 0 ++ bytes 4 0x30 ++ bytes 4 0x40) ≡ false
unfolding be bytes right_length size flags directory count sound ordered
no_wrap = refl

-- the end is carried over a filemark: a block behind it starts there, and a filemark ends where the block before it does
over_a_filemark : (sound (three 0x00000003 0x80000003 0x00000005) ≡ true) × (sound (three 0x00000003 0x80000003 0x00000002) ≡ false)
    × (sound (three 0x00000003 0x80000003 0x00000003) ≡ false) × (sound (three 0x00000003 0x80000000 0x00000005) ≡ false)
unfolding be bytes count flags directory size entry top_bit low31 end_at follows ordered right_length sound
over_a_filemark = (refl, refl, refl, refl)

-- it is the end of the entry before: not the entry's own nor that of the one after, with which these filemarks agree, nor one further back
of_the_entry_before : (sound (three 0x80000005 0x80000005 0x80000005) ≡ false) × (sound (three 0x00000003 0x80000005 0x80000005) ≡ false)
    × (sound (three 0x00000003 0x00000003 0x80000003) ≡ false)
unfolding be bytes count flags directory size entry top_bit low31 end_at follows ordered right_length sound
of_the_entry_before = (refl, refl, refl)

-- the first object is judged against 0, not against end(1)
first_after_0 : (sound (three 0x80000000 0x80000000 0x00000001) ≡ true) × (sound (three 0x80000001 0x80000001 0x00000002) ≡ false)
    × (sound (three 0x00000001 0x00000002 0x80000002) ≡ true) × (sound (three 0x80000001 0x00000002 0x80000002) ≡ false)
    × (sound (three 0x00000000 0x00000001 0x00000002) ≡ false)
unfolding be bytes count flags directory size entry top_bit low31 end_at follows ordered right_length sound
first_after_0 = (refl, refl, refl, refl, refl)

-- the last end may be D, and no more
last_within : (sound (three 0x00000001 0x00000002 0x00000024) ≡ true) × (sound (three 0x00000001 0x00000002 0x00000025) ≡ false)
unfolding be bytes count flags directory size entry top_bit low31 end_at follows ordered right_length sound
last_within = (refl, refl)
