-- The invariant of the loop; that it holds: Answers.antt.
-- Assumes nothing.
use Rattle.image.specs.Image.{objects}
use Rattle.walks.specs.Walks.{code_of}
use Rattle.walks.proofs.Along.{Along}
use Rattle.walks.proofs.walk_over.Given as goal

abbrev pub invariant-loop-k : goal.invariant-loop-k
invariant-loop-k g l = Along (code_of l.what) l.n (g.W.Direction.ahead l.p (objects l.image.bytes)) l.k l.left
