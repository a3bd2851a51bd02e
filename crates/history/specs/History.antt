-- The life of one cartridge (demand 3): the calls that it is lent to, what each leaves of it, and what each put on a partition of it or erased there.
-- Assumes nothing: these are definitions.
use Rattle.std.specs.Prelude.{ℕ, ◌-◌, ◌≡◌, Bool, false, cond, ◌&&◌, List, [], ◌∷◌, ◌++◌, eqb, take}
use Rattle.answers.specs.declared.Answer.{Answer}
use Rattle.answers.specs.Answers.{done}
use Rattle.objects.specs.Events.{Event, cut}
use Rattle.house.specs.Images.{blank_call, protect_call}
use Rattle.record.specs.Record.{decode_of}
use Rattle.codes.specs.Codes.{code_of, operation_of}
use Rattle.objects.specs.Transfer.{put_from}
use Rattle.commands.specs.Kinds.{erases}
use Rattle.commands.specs.Act.{offered}
use Rattle.commands.specs.Call.{lent, Result, command_call}

-- ---- "Follow one cartridge": its two partitions by their numbers; of a cartridge with one the second is empty

pub data Slot : Type 0 where
  slot0 slot1 : Slot

abbrev pub number : Slot → ℕ
number slot0 = 0
number slot1 = 1

pub record Cartridge : Type 0 where
  pub part0 : List ℕ
  pub part1 : List ℕ

abbrev pub cartridge : List ℕ → List ℕ → Cartridge
cartridge p0 p1 = record { part0 = p0; part1 = p1 }

abbrev pub part : Slot → Cartridge → List ℕ
part slot0 c = c.part0
part slot1 c = c.part1

-- "that our software made blank": what the service blank, done, left of the slice lent to it
pub record MadeBlank (p : List ℕ) : Type 0 where
  pub lent : List ℕ
  pub answered : (blank_call lent).answer ≡ done
  pub left : p ≡ (blank_call lent).lent

-- ---- "its partitions always lent in the same order": both together, each in its own slot of the call; or one alone, in either slot, beside any
-- slice that is not the cartridge's

pub data Lending : Type 0 where
  together : Lending
  alone : (whose place : Slot) → List ℕ → Lending

-- the two slices of the call
abbrev pub slices : Lending → Cartridge → Cartridge
slices together c = c
slices (alone s slot0 x) c = cartridge (part s c) x
slices (alone s slot1 x) c = cartridge x (part s c)

-- the cartridge c when the call has left the slices d
abbrev pub taken_back : Lending → Cartridge → Cartridge → Cartridge
taken_back together c d = d
taken_back (alone slot0 t x) c d = cartridge (part t d) c.part1
taken_back (alone slot1 t x) c d = cartridge c.part0 (part t d)

-- partition k of the call is the cartridge's partition s
abbrev pub is_lent_as : Slot → Lending → ℕ → Bool
is_lent_as s together k = eqb k (number s)
is_lent_as slot0 (alone slot0 t x) k = eqb k (number t)
is_lent_as slot0 (alone slot1 t x) k = false
is_lent_as slot1 (alone slot0 t x) k = false
is_lent_as slot1 (alone slot1 t x) k = eqb k (number t)

-- ---- "through any commands, refusals, unloads, mounts and protection changes, .. written by nothing else"

-- every byte beside the cartridge is any byte: the record may be one that a mount or a command left, a fresh, a foreign or a broken one. Fresh and
-- the view write no partition; blank would begin another life.
pub data Call : Type 0 where
  command : Lending → (rec cmd sent received : List ℕ) → Call
  mount : Lending → (rec : List ℕ) → Call
  protection : Slot → Bool → Call

-- the command, as demand 2 defines it
abbrev pub commanded : Lending → Cartridge → List ℕ → List ℕ → List ℕ → List ℕ → Result
commanded l c rec cmd sent received = command_call rec (lent cmd (slices l c).part0 (slices l c).part1 sent received)

-- the two slices that it leaves
abbrev pub slices_left : Result → Cartridge
slices_left r = cartridge r.lent.part0 r.lent.part1

-- the cartridge after a call; a mount alters the record alone
unfoldable pub after : Call → Cartridge → Cartridge
after (command l rec cmd sent received) c = taken_back l c (slices_left (commanded l c rec cmd sent received))
after (mount l rec) c = c
after (protection slot0 on) c = cartridge (protect_call on c.part0).lent c.part1
after (protection slot1 on) c = cartridge c.part0 (protect_call on c.part1).lent

-- ---- "some command put it there", "put an object at a number .. or erased from such a number": by what whoever sends the command sees of it

-- GOOD
abbrev pub is_good : Answer → Bool
is_good a = eqb a.refusal 0 && eqb a.status 0x00

-- ERASE that answers GOOD erased from the position. Any other put, from the position on, as many as the position moved of what it offered:
-- WRITE the bytes sent, as one block or as blocks of the block length, WRITE FILEMARKS filemarks, all else nothing.
unfoldable pub caused : List ℕ → List ℕ → List ℕ → Result → List Event
caused rec cmd sent r =
    let o = operation_of (code_of cmd) in
    let d = decode_of rec in
    cond (erases o) (cond (is_good r.answer) (cut d.position ∷ []) [])
    (put_from d.position (take ((decode_of r.rec).position - d.position) (offered o d cmd sent)))

-- on the cartridge's partition s: a command writes the partition that the record says is current
unfoldable pub events : Slot → Call → Cartridge → List Event
events s (command l rec cmd sent received) c =
    cond (is_lent_as s l (decode_of rec).current) (caused rec cmd sent (commanded l c rec cmd sent received)) []
events s (mount l rec) c = []
events s (protection t on) c = []

-- ---- one call after another: the cartridge at the end, and all that was put on its partition s or erased there

unfoldable pub ends : List Call → Cartridge → Cartridge
ends [] c = c
ends (x ∷ xs) c = ends xs (after x c)

unfoldable pub past : Slot → List Call → Cartridge → List Event
past s [] c = []
past s (x ∷ xs) c = events s x c ++ past s xs (after x c)
