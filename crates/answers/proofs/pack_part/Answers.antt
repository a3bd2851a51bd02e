-- The shift and the `|` join two numbers that do not overlap (`joined`).
-- Assumes nothing.
use native.Mathlib.Omega.{arith}
use Rattle.answers.proofs.Fields.{joined}
use Rattle.answers.proofs.pack_part.Goals as goal

pub returns : goal.returns
returns c = joined c.args.start c.args.len (omega arith) (omega arith)
