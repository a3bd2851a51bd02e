-- One law for each thing that may lie at the position.
-- Assumes nothing.
use Rattle.std.proofs.Common.{arith}
use Rattle.image.proofs.Lies.{few}
use Rattle.reading.proofs.Meeting.{block_small, meets_end, meets_filemark, meets_block}
use Rattle.reading.proofs.blocks.read_variable.Goals as goal

pub returns-then-count-p : goal.returns-then-count-p
returns-then-count-p c = meets_end _ _ _ _ _ _ c.requires.1 _ (omega arith) _ c.end_met.ensures c.checked.ensures

pub returns-then-is_filemark : goal.returns-then-is_filemark
returns-then-is_filemark c = meets_filemark _ _ _ _ _ _ c.requires.1 _ (omega arith) (cc) _ c.at.ensures _ c.filemark_met.ensures c.checked-then-is_filemark.ensures

pub read_block-requires : goal.read_block-requires
read_block-requires c =
    let w = few _ c.args.image.now.is_sound in
    (omega arith, c.requires.0, c.requires.1, block_small _ c.args.image.now.is_sound _ (omega arith) _ c.block.ensures, c.requires.2)

pub returns : goal.returns
returns c = meets_block _ _ _ _ _ _ c.requires.1 _ (omega arith) (cc) _ c.block.ensures _ c.read_block.ensures
