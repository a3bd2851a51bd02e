-- EOM at end of data: the zone at N, as the objects show it.
-- Assumes nothing.
use Rattle.std.proofs.Common.{ap, ◌∙◌, arith}
use Rattle.image.specs.Image.{zone}
use Rattle.commands.proofs.Zone.{end_seen}
use Rattle.deeds.proofs.senses.eom_at_end.Goals as goal

pub in_zone-requires : goal.in_zone-requires
in_zone-requires c = omega arith

pub returns : goal.returns
returns c = c.in_zone.ensures ∙ ap (zone _) c.count.ensures.0 ∙ end_seen _ c.args.image.now.is_sound
