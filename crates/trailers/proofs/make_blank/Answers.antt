-- The four words laid down are the definition.
-- Assumes nothing.
use Rattle.trailers.specs.Trailers.{blank}
use Rattle.trailers.proofs.make_blank.Goals as goal

pub returns : goal.returns
unfolding blank
returns c = cc
