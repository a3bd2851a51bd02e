-- Q-7: what a variable WRITE of a block leaves, of any length; and how much a READ or a WRITE can ask for.
-- Assumes nothing: these are definitions.
use Rattle.std.specs.Prelude.{ℕ, suc, ◌-◌, ◌*◌, ◌^◌, ◌≤◌, ◌≡◌, true, false, cond, List, eqb, length, take}
use Rattle.answers.specs.Answers.{check_condition, answered}
use Rattle.objects.specs.Object.{Object, block, largest_block}
use Rattle.objects.specs.Events.{put}
use Rattle.image.specs.Image.{protected, zone}
use Rattle.changes.specs.Changes.{occur}
use Rattle.sense.specs.declared.Sense.{Sense}
use Rattle.sense.specs.Sense.{sense_bytes, empty_sense}
use Rattle.record.specs.Record.{decode_of, encode_of, with_sense}
use Rattle.codes.specs.declared.operation.Operation.TheVariants.{Write}
use Rattle.codes.specs.Codes.{code_of, too_short, operation_of, masks_hold}
use Rattle.codes.specs.Fields.{fixed_of, transfer_of}
use Rattle.commands.specs.Act.{at, warned}
use Rattle.commands.specs.Call.{Lent, lent, Result, result_of, partition}
use Rattle.history.specs.History.{cartridge}
use Rattle.history.specs.Demand3.{Mounted}

-- ---- a variable WRITE of n bytes, on a drive that is ready for it

abbrev pub current_of : List ℕ → Lent → List ℕ
current_of rec x = partition (decode_of rec).current x.part0 x.part1

pub record Writes (n : ℕ) (rec : List ℕ) (x : Lent) : Type 0 where
  pub is : operation_of (code_of x.cmd) ≡ Write
  pub whole : too_short x.cmd ≡ false
  pub masks : masks_hold x.cmd ≡ true
  pub variable : fixed_of x.cmd ≡ false
  pub asks : transfer_of x.cmd ≡ n
  pub mounted : Mounted rec (cartridge x.part0 x.part1)
  pub unguarded : protected (current_of rec x) ≡ false
  pub sends : n ≤ length x.sent

-- the block that it is to put, and the current partition with it
abbrev pub block_sent : ℕ → Lent → Object
block_sent n x = block (take n x.sent)

abbrev pub with_block : ℕ → List ℕ → Lent → List ℕ
with_block n rec x = occur (put (decode_of rec).position (block_sent n x)) (current_of rec x)

-- what it leaves where the block goes down: n bytes carried, the position after it; in the zone 0/00/02, else GOOD
abbrev pub block_put : ℕ → List ℕ → Lent → Result
block_put n rec x =
    let d = decode_of rec in
    let p = with_block n rec x in
    let z = zone p (suc d.position) in
    result_of (answered (cond z check_condition 0x00) n 0)
    (encode_of (with_sense (at d (suc d.position)) (cond z (sense_bytes warned) empty_sense)))
    (lent x.cmd (cond (eqb d.current 1) x.part0 p) (cond (eqb d.current 1) p x.part1) x.sent x.received)

-- what it leaves where nothing is put: all but the kept sense as it was
abbrev pub only_tells : List ℕ → Lent → Sense → Result
only_tells rec x s = result_of (answered check_condition 0 0) (encode_of (with_sense (decode_of rec) (sense_bytes s))) x

-- ---- "length × block length" at most: a count of 24 bits, and the largest block

abbrev pub most_count : ℕ
most_count = 2 ^ 24 - 1

abbrev pub most_asked : ℕ
most_asked = most_count * largest_block
