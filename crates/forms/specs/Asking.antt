-- A host that asks by REQUEST SENSE: what it is given, and how long that is (Q-4).
-- Assumes nothing: these are definitions.
use Rattle.std.specs.Prelude.{ℕ, ◌≡◌, cond, List, take}
use Rattle.std.proofs.Math.Option.{none}
use Rattle.answers.specs.Answers.{first}
use Rattle.sense.specs.Sense.{sense_length, parts_of}
use Rattle.sense.specs.Descriptors.{both_length, stream_length}
use Rattle.record.specs.Record.{decode_of}
use Rattle.codes.specs.declared.operation.Operation.TheVariants.{RequestSense}
use Rattle.codes.specs.Codes.{code_of, operation_of}
use Rattle.codes.specs.Fields.{asks_descriptors}
use Rattle.commands.specs.Act.{sense_asked}
use Rattle.commands.specs.Call.{Lent, Result, command_tests}

-- a REQUEST SENSE that no test stops
pub record Asks (rec : List ℕ) (x : Lent) : Type 0 where
  pub is : operation_of (code_of x.cmd) ≡ RequestSense
  pub passes : first (command_tests rec x) ≡ none

-- in descriptor form 24 bytes with an information descriptor and 12 without, else eighteen
abbrev pub form_length : List ℕ → List ℕ → ℕ
form_length rec cmd = cond (asks_descriptors cmd) (cond (parts_of (sense_asked (decode_of rec))).valid both_length stream_length) sense_length

-- the bytes that a call carries to the host
abbrev pub given : Result → List ℕ
given r = take r.answer.carried r.lent.received
