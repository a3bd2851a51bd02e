-- The entries of the objects before n lie in a sound image (`entries_lie`).
-- Assumes nothing.
use Rattle.std.proofs.Common.{ap, ◌≤◌, arith}
use Rattle.image.specs.Sound.{SoundImage}
use Rattle.image.specs.Image.{count}
use Rattle.image.proofs.Lies.{entries_lie}
use Rattle.image.proofs.whole.Image.in_zone.Goals as goal

pub in_zone-requires : goal.in_zone-requires
in_zone-requires c =
    let n : c.args.n ≤ count c.self.inside.bytes.now = rw (← ap (λ (i : SoundImage). i.bytes) c.self.view_is) at c.requires in
    let e = entries_lie _ c.self.inside.is_sound c.args.n n in
    (omega arith, omega arith)
