-- The loop carries the end of the entry before, and whether the first i entries are right.
-- Assumes nothing.
use Rattle.std.proofs.Common.{◌≡◌}
use Rattle.image.specs.Image.{end_at, ordered}
use Rattle.image.proofs.sound.entries_within.Given as goal

abbrev pub invariant-loop-i : goal.invariant-loop-i
invariant-loop-i l = (l.before ≡ end_at l.s l.i) × (l.ok ≡ ordered l.s l.i)
