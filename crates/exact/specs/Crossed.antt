-- Q-10, on the call: "how many objects it crossed, filemarks included, as a fourth number of the answer". That every call's answer says this, and that no
-- house service crosses anything: proofs/Crossed.antt.
-- Assumes nothing: these are definitions.
use Rattle.std.specs.Prelude.{ℕ, ◌+◌, ◌-◌, ◌≤◌, max, min, ◌≡◌, ◌≢◌, ◌⊎◌, List, pos, nat_abs}
use Rattle.objects.specs.Movement as M
use Rattle.image.specs.Image.{count}
use Rattle.record.specs.Record.{decode_of}
use Rattle.codes.specs.declared.operation.Operation.TheVariants.{Space, Space16}
use Rattle.codes.specs.Codes.{code_of, operation_of}
use Rattle.codes.specs.Fields.{space_code_of}
use Rattle.commands.specs.Act.{over_blocks, to_end, movement}
use Rattle.commands.specs.Call.{Lent, Result, partition, seen}
use Rattle.commands.specs.Conditions.{Acts}
use Rattle.exact.specs.Residues.{count_of}

-- SPACE, of either length
abbrev pub Spaces : List ℕ → Type 0
Spaces cmd = (operation_of (code_of cmd) ≡ Space) ⊎ (operation_of (code_of cmd) ≡ Space16)

-- its movement, by its code and its count, over the objects that it sees
abbrev pub movement_of : List ℕ → Lent → M.Move
movement_of rec x =
    let o = operation_of (code_of x.cmd) in
    movement (space_code_of x.cmd) (count_of o x.cmd) (decode_of rec).position (seen o (decode_of rec) x).objects

-- "the distance between old and new position"
abbrev pub apart : ℕ → ℕ → ℕ
apart p q = max p q - min p q

-- the filemark that ended a walk over blocks: crossed, and not counted
abbrev pub uncounted_mark : M.Why → ℕ
uncounted_mark M.done = 0
uncounted_mark M.marked = 1
uncounted_mark M.edge = 0

pub record Crossed (rec : List ℕ) (x : Lent) (r : Result) : Type 0 where
  -- "Tie this number to the definition of movement": of a SPACE that reached its act, GOOD or not
  pub moves : Spaces x.cmd → Acts rec x → r.answer.crossed ≡ (movement_of rec x).distance
  -- "it equals the distance between old and new position", of every SPACE
  pub distance : Spaces x.cmd → r.answer.crossed ≡ apart (decode_of rec).position (decode_of r.rec).position
  -- "is never above N", of the current partition
  pub most : r.answer.crossed ≤ count (partition (decode_of rec).current x.part0 x.part1)
  -- "and is 0 for a zero count of blocks or filemarks"
  pub zero : Spaces x.cmd → count_of (operation_of (code_of x.cmd)) x.cmd ≡ pos 0 → space_code_of x.cmd ≢ to_end → r.answer.crossed ≡ 0
  -- "Every other call, refusals included, answers 0 there": another command; one that is refused or ends in a test
  pub others : ¬ Spaces x.cmd → r.answer.crossed ≡ 0
  pub stopped : ¬ Acts rec x → r.answer.crossed ≡ 0
  -- beside what is counted, which is the count less its residue: all of that is crossed; over blocks nothing else, but for a filemark that ends it
  pub counted : Spaces x.cmd → Acts rec x → nat_abs (movement_of rec x).moved ≤ r.answer.crossed
  pub over_blocks_lem : Spaces x.cmd → Acts rec x → space_code_of x.cmd ≡ over_blocks → r.answer.crossed ≡ nat_abs (movement_of rec x).moved + uncounted_mark (movement_of rec x).why
