-- What a caller sees of a sense: status 02h, and the key, ASC and ASCQ of the kept sense in the record after the call.
-- Assumes nothing: these are definitions.
use Rattle.std.specs.Prelude.{ℕ, ◌≡◌}
use Rattle.answers.specs.Answers.{check_condition}
use Rattle.sense.specs.declared.Sense.{Sense}
use Rattle.sense.specs.Sense.{parts_of}
use Rattle.record.specs.Record.{decode_of}
use Rattle.commands.specs.Call.{Result}

abbrev pub sense_after : Result → Sense
sense_after r = parts_of (decode_of r.rec).sense

-- the call answers CHECK CONDITION with key/ASC/ASCQ
abbrev pub Tells : Result → ℕ → ℕ → ℕ → Type 0
Tells r key asc ascq = (r.answer.status ≡ check_condition) × (((sense_after r).key ≡ key) × (((sense_after r).asc ≡ asc) × ((sense_after r).ascq ≡ ascq)))
