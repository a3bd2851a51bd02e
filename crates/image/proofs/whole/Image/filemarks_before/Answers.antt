-- The entries of the objects before n lie in a sound image (`entries_lie`), and no more of them are filemarks than there are.
-- Assumes nothing.
use Rattle.std.proofs.Common.{ap, ◌≤◌, arith}
use Rattle.image.specs.Sound.{SoundImage}
use Rattle.image.specs.Image.{count}
use Rattle.image.proofs.Lies.{entries_lie, filemarks_fewer}
use Rattle.image.proofs.whole.Image.filemarks_before.Goals as goal

pub filemarks_before-requires : goal.filemarks_before-requires
filemarks_before-requires c =
    let n : c.args.n ≤ count c.self.inside.bytes.now = rw (← ap (λ (i : SoundImage). i.bytes) c.self.view_is) at c.requires in
    let e = entries_lie _ c.self.inside.is_sound c.args.n n in
    omega arith

pub overflow_cast-result : goal.overflow_cast-result
overflow_cast-result c =
    let e = c.filemarks_before.ensures in
    omega (arith, filemarks_fewer)
