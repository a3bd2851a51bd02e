-- The current partition of a loaded drive has a trailer.
-- Assumes nothing.
use Rattle.step.proofs.Looked.{trailed}
use Rattle.step.proofs.partitions.is_guarded.Goals as goal

pub is_protected-requires : goal.is_protected-requires
is_protected-requires c = rw c.current.ensures (trailed _ _ _ c.requires.0 c.if-d-ne0.true c.requires.1)
