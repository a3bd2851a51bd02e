-- A sound image has room for its trailer, and fewer than 2 ^ 29 objects (`few`).
-- Assumes nothing.
use Rattle.std.proofs.Common.{◌∙◌, ap, arith}
use Rattle.image.specs.Sound.{SoundImage}
use Rattle.image.specs.Image.{count}
use Rattle.image.proofs.Lies.{few}
use Rattle.image.proofs.whole.Image.count.Goals as goal

pub count_of-requires : goal.count_of-requires
count_of-requires c = (few _ c.self.inside.is_sound).0

pub returns : goal.returns
returns c =
    let e = c.count_of.ensures in
    let w = few _ c.self.inside.is_sound in
    (e ∙ ap (λ (i : SoundImage). count i.bytes) c.self.view_is, omega arith)
