-- Three bytes are below 2^24.
-- Assumes nothing.
use Rattle.words.proofs.Laws.{be_lt}
use Rattle.codes.proofs.fields.space_count.Goals as goal

pub signed24-requires : goal.signed24-requires
signed24-requires c = rw c.be24_at.ensures (be_lt 3 c.args.cmd.now 2 (λ j. (c.type_inv.cmd j).fits))
