-- What FIXED asks for, and has where the fields are right: a block length.
-- Assumes nothing.
use Rattle.std.proofs.Common.{arith}
use Rattle.std.proofs.lemmas.Grind.{common_steps}
use Rattle.commands.specs.Tests.{bytes_asked, field_error}
use Rattle.reading.proofs.blocks.read.Goals as goal

pub read_fixed-requires : goal.read_fixed-requires
unfolding bytes_asked field_error
read_fixed-requires c = grind (arith, common_steps)

pub read_variable-requires : goal.read_variable-requires
unfolding bytes_asked field_error
read_variable-requires c = grind (arith, common_steps)
