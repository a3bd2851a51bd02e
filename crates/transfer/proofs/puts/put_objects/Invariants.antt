-- The invariant of the loop; that it holds: Answers.antt.
-- Assumes nothing.
use Rattle.std.specs.Prelude.{List}
use Rattle.objects.specs.Object.{Object}
use Rattle.transfer.specs.Offers.{Offers}
use Rattle.transfer.proofs.Going.{Giving}
use Rattle.transfer.proofs.puts.put_objects.Given as goal

abbrev pub invariant-loop-object : goal.invariant-loop-object
invariant-loop-object g l = record {
  can : (goal.iterator-loop-object g).can_next l.object-iterator;
  ends : (goal.iterator-loop-object g).is_finite l.object-iterator;
  gives : (list : List Object) → Offers g.I.Iterator.next_gives l.fn.objects list
      → Giving g.I.Iterator.next_gives l.p list l.initial.s l.done l.object-iterator l.s;
}
