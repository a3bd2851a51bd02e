-- A sound image has room for its trailer (`few`).
-- Assumes nothing.
use Rattle.image.proofs.Lies.{few}
use Rattle.image.proofs.whole.Image.is_protected.Goals as goal

pub is_protected-requires : goal.is_protected-requires
is_protected-requires c = (few _ c.self.inside.is_sound).0
