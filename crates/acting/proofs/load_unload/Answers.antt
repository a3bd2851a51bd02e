-- LOAD, or unload.
-- Assumes nothing.
use Rattle.acting.proofs.Acts.{loads, unloads}
use Rattle.acting.proofs.load_unload.Goals as goal

pub returns-then-load : goal.returns-then-load
returns-then-load c = loads _ _ _ c.load.ensures _ _ c.good.ensures c.if-load.true c.load_anew.ensures

pub returns : goal.returns
returns c = unloads _ _ _ c.load.ensures _ _ c.good-2.ensures c.if-load.false c.unload.ensures
