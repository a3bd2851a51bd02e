-- What stands of a deed when the call returns: the drive with its kept sense replaced, the status, the bytes carried, the objects crossed.
-- Assumes nothing: these are definitions.
use Rattle.std.specs.Prelude.{ℕ, Bool, []}
use Rattle.record.specs.Record.{with_sense}
use Rattle.deeds.specs.declared.deeds.Left.{Left}
use Rattle.commands.specs.Act.{Seen, Deed}
use Rattle.commands.specs.Step.{status_of, kept_of}

abbrev pub left_by : Deed → Left
left_by e = record { drive = with_sense e.drive (kept_of e.tells); status = status_of e.tells; carried = e.carried; crossed = e.crossed }

-- with n objects crossed
abbrev pub left_crossing : ℕ → Left → Left
left_crossing n l = record { drive = l.drive; status = l.status; carried = l.carried; crossed = n }

-- what MODE SENSE looks at of a partition: its protection
abbrev pub protected_only : Bool → Seen
protected_only g = record { size = 0; guarded = g; objects = [] }
