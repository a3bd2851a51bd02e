-- Q-12, "Two moves or one": which two SPACEs may be merged, and what one in their place leaves; over objects, and as calls on bytes.
-- That it leaves this: over objects in proofs/Movement.antt, as calls in proofs/Calls.antt and Hosts.antt. That others may not be merged: proofs/Cases.antt.
-- Assumes nothing: these are definitions.
use Rattle.std.specs.Prelude.{ℕ, zero, suc, ◌+◌, ◌-◌, ◌*◌, ◌^◌, ◌≤◌, ◌<◌, min, ◌≡◌, Bool, true, false, ◌&&◌, ◌||◌, List, ◌++◌, ℤ, pos, negsuc, ◌+ℤ◌, nat_abs, take, drop}
use Rattle.answers.specs.Answers.{answered}
use Rattle.objects.specs.Object.{Object}
use Rattle.objects.specs.Movement as M
use Rattle.record.specs.Record.{decode_of, with_sense}
use Rattle.codes.specs.Codes.{too_short, masks_hold}
use Rattle.commands.specs.Act.{over_blocks, over_filemarks}
use Rattle.commands.specs.Call.{Lent, lent, Result, result_of, command_call}
use Rattle.history.specs.History.{is_good}
use Rattle.alike.specs.Alike.{Fits, Fits24, SpacesBy, space_short, space_long}

-- ---- which counts

unfoldable pub at_least0 : ℤ → Bool
at_least0 (pos n) = true
at_least0 (negsuc n) = false

unfoldable pub at_most0 : ℤ → Bool
at_most0 (pos zero) = true
at_most0 (pos (suc n)) = false
at_most0 (negsuc n) = true

-- "both at least 0 or both at most 0"
unfoldable pub one_way : ℤ → ℤ → Bool
one_way a b = (at_least0 a && at_least0 b) || (at_most0 a && at_most0 b)

-- over blocks "for all signs"; over filemarks "for a and b both at least 0 or both at most 0"
unfoldable pub may_merge : M.Code → ℤ → ℤ → Bool
may_merge M.blocks a b = true
may_merge M.filemarks a b = one_way a b

-- ---- over the objects xs, from position p

-- the second of two movements, by b from where the first, by a, ends
abbrev pub second : M.Code → ℤ → ℤ → ℕ → List Object → M.Move
second c a b p xs = M.space c b (M.space c a p xs).to xs

-- "ends GOOD"
abbrev pub Done : M.Move → Type 0
Done m = m.why ≡ M.done

-- Q-10, of x objects crossed by the first, y by the second, z by the one: one way, z is their sum; turned back over blocks, less by the shorter
-- way there and back
pub record Adds (a b : ℤ) (x y z : ℕ) : Type 0 where
  pub along : one_way a b ≡ true → z ≡ x + y
  pub turned : one_way a b ≡ false → z + 2 * min x y ≡ x + y
  pub less : one_way a b ≡ false → z < x + y

-- "SPACE by a + b from the start ends GOOD at the same place"
pub record Merges (c : M.Code) (a b : ℤ) (p : ℕ) (xs : List Object) : Type 0 where
  pub good : Done (M.space c (a +ℤ b) p xs)
  pub place : (M.space c (a +ℤ b) p xs).to ≡ (second c a b p xs).to
  pub counted : (M.space c (a +ℤ b) p xs).moved ≡ a +ℤ b
  pub crossed : Adds a b (M.space c a p xs).distance (second c a b p xs).distance (M.space c (a +ℤ b) p xs).distance

-- one way, whatever the end: a first movement m that is not done, but ended for y, is all there is; after one that is done the second, n, goes on
unfoldable pub following : M.Why → M.Move → M.Move → M.Move
following M.done m n = record { to = n.to; moved = m.moved +ℤ n.moved; why = n.why; distance = m.distance + n.distance }
following M.marked m n = m
following M.edge m n = m

abbrev pub in_row : M.Move → M.Move → M.Move
in_row m n = following m.why m n

-- one way, by the residue of the one it is told which of the two stopped: at most all of b is left, as the second left it; or more, as the first left it
-- and all of b
pub record ToldBy (c : M.Code) (a b : ℤ) (p : ℕ) (xs : List Object) : Type 0 where
  pub second_left : Done (M.space c a p xs) → M.residue (a +ℤ b) (M.space c (a +ℤ b) p xs) ≡ M.residue b (second c a b p xs)
  pub most : Done (M.space c a p xs) → nat_abs (M.residue (a +ℤ b) (M.space c (a +ℤ b) p xs)) ≤ nat_abs b
  pub first_left : (Done (M.space c a p xs) → ⊥) → M.residue (a +ℤ b) (M.space c (a +ℤ b) p xs) ≡ M.residue a (M.space c a p xs) +ℤ b
  pub more : (Done (M.space c a p xs) → ⊥) → nat_abs b < nat_abs (M.residue (a +ℤ b) (M.space c (a +ℤ b) p xs))

-- ---- as calls on bytes

-- a command block, with the buffers that it is lent
pub record Command : Type 0 where
  pub cmd : List ℕ
  pub sent : List ℕ
  pub received : List ℕ

-- what it is lent together with the partitions
abbrev pub lending : Command → List ℕ → List ℕ → Lent
lending x p0 p1 = lent x.cmd p0 p1 x.sent x.received

-- its call on a record and partitions, and on those that a call before it left
abbrev pub calling : Command → List ℕ → List ℕ → List ℕ → Result
calling x rec p0 p1 = command_call rec (lending x p0 p1)

abbrev pub then_calling : Command → Result → Result
then_calling x r = calling x r.rec r.lent.part0 r.lent.part1

abbrev pub Good : Result → Type 0
Good r = is_good r.answer ≡ true

abbrev pub code_over : M.Code → ℕ
code_over M.blocks = over_blocks
code_over M.filemarks = over_filemarks

-- SPACE over c by k, of six bytes or of sixteen; neither too short nor with a bit outside its masks
pub record SpaceOver (c : M.Code) (k : ℤ) (x : Command) : Type 0 where
  pub by : SpacesBy (code_over c) k x.cmd
  pub whole : too_short x.cmd ≡ false
  pub within : masks_hold x.cmd ≡ true

-- what x leaves if it leaves what s left: the status of s, nothing carried, n objects crossed; the record of s; partitions and buffers as they were lent
abbrev pub leaving : Result → ℕ → Command → List ℕ → List ℕ → Result
leaving s n x p0 p1 = result_of (answered s.answer.status 0 n) s.rec (lending x p0 p1)

-- of two calls, x and then y, which left r and then s; and of one, z, on the same record and partitions as x, which left t
pub record MergedCalls (a b : ℤ) (p0 p1 : List ℕ) (x y z : Command) (r s t : Result) : Type 0 where
  pub good : Good t
  pub one : t ≡ leaving s t.answer.crossed z p0 p1
  pub two : (r ≡ leaving r r.answer.crossed x p0 p1) × (s ≡ leaving s s.answer.crossed y p0 p1)
  pub crossed : Adds a b r.answer.crossed s.answer.crossed t.answer.crossed

-- a sense but for its residue: without byte 0 (VALID) and bytes 3 to 6 (information)
abbrev pub but_residue : List ℕ → List ℕ
but_residue b = take 2 (drop 1 b) ++ drop 7 b

-- of a first, x, that is not GOOD and left r: the one has its answer and, but for the residue, its record
pub record StopsAlike (p0 p1 : List ℕ) (x z : Command) (r t : Result) : Type 0 where
  pub answer : t.answer ≡ r.answer
  pub record_but_sense : (b : List ℕ) → with_sense (decode_of t.rec) b ≡ with_sense (decode_of r.rec) b
  pub sense_but_residue : but_residue (decode_of t.rec).sense ≡ but_residue (decode_of r.rec).sense
  pub one : t.lent ≡ lending z p0 p1
  pub two : r.lent ≡ lending x p0 p1

-- ---- as hosts write them: a block of six bytes has a count of 24 bits, one of sixteen a count of 64

pub data Length : Type 0 where
  bytes6 bytes16 : Length

abbrev pub FitsIn : Length → ℤ → Type 0
FitsIn bytes6 k = Fits24 k
FitsIn bytes16 k = Fits 63 k

abbrev pub space_block : Length → M.Code → ℤ → List ℕ
space_block bytes6 c k = space_short (code_over c) k
space_block bytes16 c k = space_long (code_over c) k

-- with any buffers
abbrev pub space_command : Length → M.Code → ℤ → List ℕ → List ℕ → Command
space_command l c k sent received = record { cmd = space_block l c k; sent = sent; received = received }

-- the least count of 24 bits
abbrev pub least24 : ℤ
least24 = negsuc (2 ^ 23 - 1)
