-- An object's line is its runs, one behind the other: three for a filemark (`filemark_listed`), four for a block (`block_listed`).
-- There is room for each, since the object's number and length have at most five digits (`block_digits`).
-- Assumes nothing.
use native.Mathlib.Omega.{arith}
use Rattle.listing.proofs.Lines.{entry_fits, count_small, ends_small, number_short, block_digits}
use Rattle.listing.proofs.Listed.{filemark_listed, block_listed}
use Rattle.listing.proofs.text.append_line.Goals as goal

pub overflow_cast-i : goal.overflow_cast-i
overflow_cast-i c = omega (arith, count_small _ c.requires.0)

pub append_number-end-requires : goal.append_number-end-requires
append_number-end-requires c = omega (arith, number_short _ c.requires.0 _ c.requires.1)

pub is_filemark-requires : goal.is_filemark-requires
is_filemark-requires c = entry_fits _ c.requires.0 _ c.requires.1

pub append-end-requires : goal.append-end-requires
append-end-requires c = omega (arith, number_short _ c.requires.0 _ c.requires.1)

pub append-requires : goal.append-requires
append-requires c = omega (arith, number_short _ c.requires.0 _ c.requires.1)

pub returns-then-is_filemark : goal.returns-then-is_filemark
returns-then-is_filemark c =
    filemark_listed _ c.requires.0 _ c.requires.1 _ c.is_filemark.ensures _ _ c.requires.2 _ _ _ _ _ _ c.if-is_filemark.true c.append_number-end.ensures c.append-end.ensures c.append.ensures

pub overflow_add-i : goal.overflow_add-i
overflow_add-i c = omega (arith, count_small _ c.requires.0)

pub end_at-requires : goal.end_at-requires
end_at-requires c = entry_fits _ c.requires.0 _ c.requires.1

pub end_at-requires-2 : goal.end_at-requires-2
end_at-requires-2 c = omega (arith, entry_fits _ c.requires.0 _ c.requires.1)

pub overflow_sub-len : goal.overflow_sub-len
overflow_sub-len c = omega (arith, ends_small _ c.requires.0 _ c.requires.1)

pub append-end-requires-2 : goal.append-end-requires-2
append-end-requires-2 c = omega (arith, number_short _ c.requires.0 _ c.requires.1)

pub append_number-end-requires-2 : goal.append_number-end-requires-2
append_number-end-requires-2 c =
    omega (arith, block_digits _ c.requires.0 _ _ _ c.requires.1 c.end_at-2.ensures.0 c.end_at.ensures.0)

pub append-requires-2 : goal.append-requires-2
append-requires-2 c =
    omega (arith, block_digits _ c.requires.0 _ _ _ c.requires.1 c.end_at-2.ensures.0 c.end_at.ensures.0)

pub returns : goal.returns
returns c =
    block_listed _ c.requires.0 _ c.requires.1 _ c.is_filemark.ensures _ _ c.requires.2 _ _ _ _ _ _ c.if-is_filemark.false _ _ c.end_at-2.ensures.0 c.end_at.ensures.0 _ _
    c.append_number-end.ensures c.append-end-2.ensures c.append_number-end-2.ensures c.append-2.ensures
