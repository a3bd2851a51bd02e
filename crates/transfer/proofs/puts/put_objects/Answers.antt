-- The iterator still offers the objects that are not put, and the definition's outcome is that of these from the image that now stands (`Giving`).
-- Assumes nothing.
use Rattle.std.proofs.Common.{◌+◌, arith, rules}
use Rattle.transfer.proofs.Going.{Gone, gives_first, gives_end, gives_stop, gives_turn}
use Rattle.transfer.proofs.puts.put_objects.Goals as goal
use Rattle.transfer.proofs.puts.put_objects.Goals.{in-None, in-Some+then-not-object_fits}

pub loop-object-init : goal.loop-object-init
loop-object-init g c = record {
  can = search rules;
  ends = search rules;
  gives = λ list a. rw c.into_iter-object-iterator.ensures.into_iter_gives (gives_first _ _ _ _ _ c.requires.image.0 c.requires.image.1 a);
}

pub loop-object-preserved : goal.loop-object-preserved
loop-object-preserved g c = record {
  can = search rules;
  ends = search rules;
  gives = λ list a. rw c.put.ensures (gives_turn _ _ (c.loop-object.invariant.gives list a) _ c.in-Some.ensures.steps _ _ (search rules) (search rules) _ c.object_fits.ensures c.if-not-object_fits.false _ (search rules));
}

pub returns : goal.returns
returns g c = λ list a.
    let w = c.loop-object.invariant.gives list a in
    let e : Gone c.args.p list c.args.s.now (c.args.p + c.loop-object.done) c.loop-object.s = elim c.match-next.branch [
      | in-None v ↦ gives_end _ _ w v.in-None.ensures.steps
      | in-Some+then-not-object_fits v ↦ gives_stop _ _ w _ v.in-Some.ensures.steps _ _ (search rules) (search rules) _ v.object_fits.ensures v.if-not-object_fits.true
    ] in
    (e.image, omega arith)
