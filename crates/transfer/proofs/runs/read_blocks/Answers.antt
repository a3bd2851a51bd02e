-- The loop has read `done` blocks into the start of `received`, and the run is they and the run from there on (`ReadOn`).
-- Assumes nothing.
use Rattle.std.proofs.Common.{arith}
use Rattle.transfer.proofs.Whole.{reads_begin, reads_whole, reads_end, reads_filemark, reads_odd, reads_turn}
use Rattle.transfer.proofs.runs.read_blocks.Goals as goal

pub loop-done-init : goal.loop-done-init
loop-done-init c = reads_begin _ _ _ _ _ c.requires.0

pub returns-then-count-at : goal.returns-then-count-at
returns-then-count-at c =
    let g = reads_end _ _ _ _ _ _ _ c.loop-done.invariant c.loop-done-test.true (omega arith) in
    (g.tells, g.carried)

pub returns-then-is_filemark : goal.returns-then-is_filemark
returns-then-is_filemark c =
    let g = reads_filemark _ _ _ _ _ _ _ c.loop-done.invariant c.loop-done-test.true (omega arith) (cc) in
    (g.tells, g.carried)

pub returns : goal.returns
returns c =
    let g = reads_whole _ _ _ _ _ _ _ c.loop-done.invariant (omega arith) in
    (g.tells, g.carried)

pub returns-then-block-b : goal.returns-then-block-b
returns-then-block-b c =
    let g = reads_odd _ _ _ _ _ _ _ c.loop-done.invariant c.loop-done-test.true (omega arith) (cc) _ c.block-block.ensures c.if-block-b.true in
    (g.tells, g.carried)

pub loop-done-preserved : goal.loop-done-preserved
loop-done-preserved c = rw c.copy_at.ensures
    (reads_turn _ _ _ _ _ _ _ c.loop-done.invariant c.loop-done-test.true (omega arith) (cc) _ c.block-block.ensures c.if-block-b.false c.requires.2)
