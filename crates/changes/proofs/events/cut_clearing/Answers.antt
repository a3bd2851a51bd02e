-- A sound image that is cut is sound (`obeys`), so that its free part can be cleared.
-- Assumes nothing.
use mathlib.Core.Path.{ap, ◌∙◌}
use Rattle.image.proofs.Facts.{sound_parts, sound_of}
use Rattle.image.specs.Image.{sound}
use Rattle.objects.specs.Events.{cut}
use Rattle.changes.proofs.Obeys.{obeys}
use Rattle.changes.proofs.events.cut_clearing.Goals as goal

pub clear-requires : goal.clear-requires
clear-requires c =
    let o = obeys (cut c.args.n) c.args.s.now (sound_parts _ c.requires.0) c.requires.1 in
    ap sound c.cut.ensures ∙ sound_of _ o.sound
