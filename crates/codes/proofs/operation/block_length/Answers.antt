-- The rule of the table of lengths, proved once over the whole of it.
-- Assumes nothing.
use Rattle.codes.proofs.Table.{rule}
use Rattle.codes.specs.Codes.{length_of}
use Rattle.codes.proofs.operation.block_length.Goals as goal

pub returns : goal.returns
returns c = rule length_of 256 c.args.op c.ranges.op.fits
