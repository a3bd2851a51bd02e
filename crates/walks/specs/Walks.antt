-- What the code's numbers and cases of a walk stand for.
-- Assumes nothing: these are definitions.
use Rattle.std.specs.Prelude.{Bool, not}
use Rattle.objects.specs.Movement as M
use Rattle.walks.specs.declared.Counted.{Counted}
use Rattle.walks.specs.declared.Counted.TheVariants.{Blocks, Filemarks}
use Rattle.walks.specs.declared.Why.{Why}
use Rattle.walks.specs.declared.Why.TheVariants.{Done, Marked, Edge}
use Rattle.walks.specs.declared.Walked.{Walked}

abbrev pub code_of : Counted → M.Code
code_of Blocks = M.blocks
code_of Filemarks = M.filemarks

-- whether an object is counted, by whether it is a filemark
abbrev pub counts : M.Code → Bool → Bool
counts M.blocks b = not b
counts M.filemarks b = b

abbrev pub why_of : Why → M.Why
why_of Done = M.done
why_of Marked = M.marked
why_of Edge = M.edge

abbrev pub walk_of : Walked → M.Walk
walk_of w = record { crossed = w.crossed; counted = w.counted; why = why_of w.why }
