-- What the code's numbers and cases of a run of blocks stand for.
-- Assumes nothing: these are definitions.
use Rattle.std.specs.Prelude.{List, ℕ}
use Rattle.objects.specs.Transfer as T
use Rattle.transfer.specs.declared.runs.Ended.{Ended}
use Rattle.transfer.specs.declared.runs.Ended.TheVariants.{Whole, OddLength, AtFilemark, AtEnd}
use Rattle.transfer.specs.declared.runs.Blocks.{Blocks}

abbrev pub ended_of : Ended → T.Ended
ended_of Whole = T.whole
ended_of OddLength = T.odd_length
ended_of AtFilemark = T.at_filemark
ended_of AtEnd = T.at_end

-- the run that r tells, with the bytes b
abbrev pub run_with : Blocks → List ℕ → T.Run
run_with r b = record { blocks = r.blocks; bytes = b; crossed = r.crossed; why = ended_of r.why }
