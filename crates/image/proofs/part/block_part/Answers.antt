-- The entry of a block of a sound image stands within the image.
-- Assumes nothing.
use Rattle.std.proofs.Common.{arith, rules}
use Rattle.image.proofs.Lies.{lies}
use Rattle.image.proofs.part.block_part.Goals as goal

pub is_filemark-requires : goal.is_filemark-requires
is_filemark-requires c = let l = lies c.args.s.now (search rules) c.args.i (omega arith) in omega arith

pub end_at-start-requires : goal.end_at-start-requires
end_at-start-requires c = let l = lies c.args.s.now (search rules) c.args.i (omega arith) in omega arith
