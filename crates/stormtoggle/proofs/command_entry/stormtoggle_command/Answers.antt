-- What the command answers fits its fields.
-- Assumes nothing.
use Rattle.stormtoggle.proofs.Commanded.{call_packs}
use Rattle.stormtoggle.proofs.command_entry.stormtoggle_command.Goals as goal

pub pack-requires : goal.pack-requires
pack-requires c = rw c.into.ensures (call_packs _ _ _ _ _ c.command.ensures)
