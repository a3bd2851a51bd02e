-- The invariant of the loop; that it holds: Answers.antt.
-- Assumes nothing.
use Rattle.transfer.proofs.Whole.{ReadOn}
use Rattle.transfer.proofs.runs.read_blocks.Given as goal

abbrev pub invariant-loop-done : goal.invariant-loop-done
invariant-loop-done l = ReadOn l.image.bytes l.p l.n l.b l.initial.received l.done l.received
