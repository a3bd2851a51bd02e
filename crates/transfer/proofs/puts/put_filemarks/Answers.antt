-- The iterator gives the filemarks of the definition (`marks_yielded`).
-- Assumes nothing.
use Rattle.std.proofs.Common.{refl}
use Rattle.objects.specs.Transfer.{marks_of}
use Rattle.changes.proofs.Down.{marks_kept}
use Rattle.transfer.proofs.Yielded.{marks_yielded}
use Rattle.transfer.proofs.puts.put_filemarks.Goals as goal

pub put_objects-requires : goal.put_objects-requires
put_objects-requires c κs = ((refl, tt), (c.requires, ((tt, tt), (marks_of c.args.n, (marks_yielded _ _ c.repeat_n.ensures.item c.repeat_n.ensures.count, marks_kept _)))))

pub returns : goal.returns
returns c = c.put_objects.ensures (marks_of c.args.n) (marks_yielded _ _ c.repeat_n.ensures.item c.repeat_n.ensures.count, marks_kept _)
