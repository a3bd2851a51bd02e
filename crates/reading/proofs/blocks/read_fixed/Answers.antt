-- The run's numbers fit, since no more is carried than the image holds; what it leaves is the definition's run.
-- Assumes nothing.
use Rattle.reading.proofs.Running.{carried_fits, place_fits, run_left}
use Rattle.reading.proofs.blocks.read_fixed.Goals as goal

pub overflow_mul-run : goal.overflow_mul-run
overflow_mul-run c = record { fits = carried_fits _ c.args.image.now.is_sound _ _ _ c.requires.0 c.read_blocks-run.result c.read_blocks-run.ensures.0 }

pub run_leaves-requires : goal.run_leaves-requires
run_leaves-requires c = place_fits _ c.args.image.now.is_sound _ _ _ c.requires.0 c.read_blocks-run.result c.read_blocks-run.ensures.0

pub returns : goal.returns
returns c = (run_left _ _ _ _ _ c.read_blocks-run.result c.read_blocks-run.ensures.0 _ c.run_leaves.ensures, c.read_blocks-run.ensures.1)
