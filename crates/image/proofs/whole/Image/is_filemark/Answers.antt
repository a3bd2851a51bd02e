-- The entry of an object lies in a sound image (`lies`).
-- Assumes nothing.
use Rattle.std.proofs.Common.{ap, ◌<◌}
use Rattle.image.specs.Sound.{SoundImage}
use Rattle.image.specs.Image.{count}
use Rattle.image.proofs.Lies.{lies}
use Rattle.image.proofs.whole.Image.is_filemark.Goals as goal

pub is_filemark-requires : goal.is_filemark-requires
is_filemark-requires c =
    let n : c.args.i < count c.self.inside.bytes.now = rw (← ap (λ (i : SoundImage). i.bytes) c.self.view_is) at c.requires in
    (lies _ c.self.inside.is_sound c.args.i n).entry_in
