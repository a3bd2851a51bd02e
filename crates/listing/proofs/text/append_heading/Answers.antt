-- Line one is its five runs, one behind the other (`heading_listed`). There is room for each, since N and the room have at most
-- five digits (`heading_digits`).
-- Assumes nothing.
use native.Mathlib.Omega.{arith}
use Rattle.listing.proofs.Lines.{count_fits, trailer_fits, room_small, count_short, heading_digits}
use Rattle.listing.proofs.Listed.{heading_listed}
use Rattle.listing.proofs.text.append_heading.Goals as goal

pub count_of-n-requires : goal.count_of-n-requires
count_of-n-requires c = trailer_fits _ c.requires.0

pub room_at-room-requires : goal.room_at-room-requires
room_at-room-requires c = omega (arith, count_fits _ c.requires.0 _ c.count_of-n.ensures)

pub append_number-at-requires : goal.append_number-at-requires
append_number-at-requires c = omega (arith, count_short _ c.requires.0 _ c.count_of-n.ensures)

pub append-at-requires-2 : goal.append-at-requires-2
append-at-requires-2 c = omega (arith, count_short _ c.requires.0 _ c.count_of-n.ensures)

pub overflow_cast-room : goal.overflow_cast-room
overflow_cast-room c = omega (arith, room_small _ c.requires.0 _ _ c.room_at-room.ensures)

pub append_number-at-requires-2 : goal.append_number-at-requires-2
append_number-at-requires-2 c =
    omega (arith, heading_digits _ c.requires.0 _ _ _ c.count_of-n.ensures c.room_at-room.ensures)

pub append-requires : goal.append-requires
append-requires c =
    omega (arith, heading_digits _ c.requires.0 _ _ _ c.count_of-n.ensures c.room_at-room.ensures)

pub returns : goal.returns
returns c =
    heading_listed _ c.requires.0 _ _ c.count_of-n.ensures c.room_at-room.ensures _ _ _ _ _ _ _ _ _ _ _ c.requires.1
    c.append-at.ensures c.append_number-at.ensures c.append-at-2.ensures c.append_number-at-2.ensures c.append.ensures
