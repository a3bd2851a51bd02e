-- Cut at the position, and with LONG cleared behind it.
-- Assumes nothing.
use Rattle.image.proofs.Facts.{sound_parts, entries_in}
use Rattle.writing.proofs.Wrote.{erased, erased_long}
use Rattle.commands.specs.Act.{act}
use Rattle.writing.proofs.erasing.erase.Goals as goal

pub returns-then-long : goal.returns-then-long
unfolding act
returns-then-long c = (c.good.ensures, erased_long _ _ _ _ _ c.long.ensures c.if-long.true c.cut_clearing.ensures)

pub cut-requires : goal.cut-requires
cut-requires c = let w = sound_parts _ c.requires.0 in (entries_in _ w _ c.requires.1, w.most)

pub returns : goal.returns
unfolding act
returns c = (c.good-2.ensures, erased _ _ _ _ _ c.long.ensures c.if-long.false c.cut.ensures)
