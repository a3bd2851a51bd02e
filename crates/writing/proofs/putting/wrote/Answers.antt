-- Not all went down, all and in the zone, or all.
-- Assumes nothing.
use native.Mathlib.Omega.{arith}
use Rattle.image.proofs.Facts.{sound_parts, entries_in}
use Rattle.image.proofs.Lies.{few}
use Rattle.writing.proofs.Wrote.{told_short, told_zone, told_good}
use Rattle.writing.proofs.putting.wrote.Goals as goal

pub overflow_add-there : goal.overflow_add-there
overflow_add-there c = let w = few _ c.requires.0 in let h = c.requires.1 in record { fits = omega arith }

pub returns-then-put-n : goal.returns-then-put-n
returns-then-put-n c = told_short _ _ _ _ _ _ _ _ c.at-e.ensures c.if-put-n.true _ c.overflowed.ensures c.checked.ensures

pub in_zone-requires : goal.in_zone-requires
in_zone-requires c = let w = sound_parts _ c.requires.0 in let i = entries_in _ w _ c.requires.1 in (omega arith, w.most)

pub returns-then-in_zone : goal.returns-then-in_zone
returns-then-in_zone c = told_zone _ _ _ _ _ _ _ _ c.at-e.ensures c.if-put-n.false _ c.in_zone.ensures c.if-in_zone.true _ c.warned.ensures c.checked-then-in_zone.ensures

pub returns : goal.returns
returns c = told_good _ _ _ _ _ _ _ _ c.at-e.ensures c.if-put-n.false _ c.in_zone.ensures c.if-in_zone.false c.good.ensures
