-- The loop has laid down the first i bytes of src (`paste`); at its end that is all of them.
-- Assumes nothing.
use Rattle.std.proofs.Common.{◌≡◌, length, refl, ◌∙◌, add-one, arith, length-set}
use lib.Seq.{paste-zero, paste-suc, take-length}
use Rattle.words.specs.Words.{over}
use Rattle.words.proofs.run.copy_at.Goals as goal

pub loop-i-init : goal.loop-i-init
loop-i-init c = (refl, paste-zero c.args.s.now c.args.at c.args.src.now)

pub loop-i-preserved : goal.loop-i-preserved
loop-i-preserved c =
    let l = c.loop-i in
    let a = c.args in
    (simp length-set l.invariant.0, rw (l.invariant.1, add-one) (paste-suc a.s.now a.at a.src.now l.i 0 (omega arith) (omega arith)))

pub returns : goal.returns
unfolding over
returns c =
    let a = c.args in
    let done : c.loop-i.i ≡ length a.src.now = omega arith in
    c.loop-i.invariant.1 ∙ rw (done, take-length) refl
