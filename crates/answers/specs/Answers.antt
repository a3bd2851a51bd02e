-- What a call answers (01, "Answers of a call"), and how it packs into one number for C.
-- Assumes nothing: these are definitions.
use Rattle.std.specs.Prelude.{ℕ, ◌+◌, ◌*◌, ◌^◌, ◌<◌, Bool, cond, List, [], ◌∷◌, eqb}
use Rattle.std.proofs.Math.Option.{Option, none, some}
use Rattle.std.specs.Prelude.{Result, Ok, Err}
use Rattle.answers.specs.declared.Answer.{Answer}
use Rattle.answers.specs.declared.Reply.{Reply}
use Rattle.answers.specs.declared.Refusal.{Refusal}
use Rattle.answers.specs.declared.Refusal.TheVariants.{CommandShort, SentShort, ReceivedShort, RecordFault, AlreadyLoaded, UnsoundImage, WrongLength}

-- the refusals of 01's table, by name
abbrev pub command_short : ℕ
command_short = 1

abbrev pub sent_short : ℕ
sent_short = 2

abbrev pub received_short : ℕ
received_short = 3

abbrev pub record_fault : ℕ
record_fault = 4

abbrev pub already_loaded : ℕ
already_loaded = 5

abbrev pub unsound_image : ℕ
unsound_image = 6

abbrev pub wrong_length : ℕ
wrong_length = 7

-- the code's cases of a refusal, each with its number
abbrev pub number_of : Refusal → ℕ
number_of CommandShort = command_short
number_of SentShort = sent_short
number_of ReceivedShort = received_short
number_of RecordFault = record_fault
number_of AlreadyLoaded = already_loaded
number_of UnsoundImage = unsound_image
number_of WrongLength = wrong_length

-- the SCSI status CHECK CONDITION
abbrev pub check_condition : ℕ
check_condition = 0x02

-- a refusal returns its number, 0, 0; and Q-10: "refusals included, answers 0 there"
abbrev pub refused : ℕ → Answer
refused n = record { refusal = n; status = 0; carried = 0; crossed = 0 }

-- not refused: its SCSI status, the bytes carried, and, Q-10: "how many objects it crossed, filemarks included, as a fourth number of the answer"
abbrev pub answered : ℕ → ℕ → ℕ → Answer
answered status carried crossed = record { refusal = 0; status = status; carried = carried; crossed = crossed }

-- a house service done: 0, 0, 0; it crosses no object
abbrev pub done : Answer
done = answered 0 0 0

-- the answer that the code's end of a command stands for: what it reports, or its refusal
abbrev pub answer_of : Result Reply Refusal → Answer
answer_of (Ok r) = answered r.status r.carried r.crossed
answer_of (Err e) = refused (number_of e)

-- that of a house service
abbrev pub done_of : Result (Unit {0}) Refusal → Answer
done_of (Ok u) = done
done_of (Err e) = refused (number_of e)

-- the refusal of what was tested: its number, 0 for none
abbrev pub fault_number : Result (Unit {0}) Refusal → ℕ
fault_number (Ok u) = 0
fault_number (Err e) = number_of e

-- of the tests of a call, in their order, what the first that holds gives
module _ {A : Type 0} where
  unfoldable pub first : List (Bool × A) → Option A
  first [] = none
  first (t ∷ ts) = cond t.0 (some t.1) (first ts)

-- where that is a refusal: its number, 0 for none
abbrev pub refusal_of : Option ℕ → ℕ
refusal_of none = 0
refusal_of (some n) = n

-- all that a service leaves which may alter one lent slice: its answer, and the slice
pub record Settled : Type 0 where
  pub answer : Answer
  pub lent : List ℕ

abbrev pub settled : Answer → List ℕ → Settled
settled a s = record { answer = a; lent = s }

-- a house service whose tests refuse it by n leaves the slice as it was lent; else it leaves what it makes of it
abbrev pub settled_by : ℕ → List ℕ → List ℕ → Settled
settled_by n lent made = cond (eqb n 0) (settled done made) (settled (refused n) lent)

-- what the three bits of the refusal and the 28 of the objects crossed hold; the bytes carried are 32 bits as they are
abbrev pub InFields : Answer → Type 0
InFields a = (a.refusal < 2 ^ 3) × (a.crossed < 2 ^ 28)

-- 01's three numbers: bits 0 to 31 the bytes carried, 32 to 34 the refusal, bit 35 set for the status 02h
abbrev pub packed_three : Answer → ℕ
packed_three a = a.carried + a.refusal * 2 ^ 32 + cond (eqb a.status check_condition) (2 ^ 35) 0

-- and Q-10's fourth: bits 36 to 63 the objects crossed
unfoldable pub packed : Answer → ℕ
packed a = packed_three a + a.crossed * 2 ^ 36

-- the view's answer: the length in bits 0 to 31, the start above
unfoldable pub packed_part : ℕ → ℕ → ℕ
packed_part start len = start * 2 ^ 32 + len

-- what C gets of a service that may alter one slice: the number returned, and the slice
abbrev pub numbered : Settled → ℕ × List ℕ
numbered o = (packed o.answer, o.lent)
