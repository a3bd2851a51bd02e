-- "bytes carried: to the receiving buffer, put by WRITE, or taken by a GOOD MODE SELECT, else 0" (01, "Answers of a call"), by kind of command. That
-- every call's answer says this: proofs/Carried.antt.
-- Assumes nothing: these are definitions.
use Rattle.std.specs.Prelude.{ℕ, ◌≤◌, ◌≡◌, ◌≢◌, Bool, true, false, List, [], ◌∷◌, length}
use Rattle.std.proofs.Math.Option.{Option, none, some}
use Rattle.answers.specs.Answers.{first}
use Rattle.words.specs.Words.{over}
use Rattle.record.specs.Record.{decode_of}
use Rattle.codes.specs.declared.operation.Operation.{Operation}
use Rattle.codes.specs.declared.operation.Operation.TheVariants.{RequestSense, ReadBlockLimits, Read, Write, ModeSelect, ModeSense, ReadPosition}
use Rattle.codes.specs.Codes.{code_of, operation_of}
use Rattle.codes.specs.Fields.{allocation_of}
use Rattle.commands.specs.Kinds.{among}
use Rattle.commands.specs.Stop.{Stop}
use Rattle.commands.specs.Act.{act}
use Rattle.commands.specs.Call.{Lent, Result, seen, command_tests}
use Rattle.history.specs.History.{is_good, caused}
use Rattle.history.specs.Answered.{bytes_put}

-- the commands that carry data to the receiving buffer
abbrev pub gives : Operation → Bool
gives o = among (RequestSense ∷ ReadBlockLimits ∷ Read ∷ ModeSense ∷ ReadPosition ∷ []) o

-- what the call lays over the front of the receiving buffer: the data of its act (commands/Act), nothing where a test stops it
abbrev pub unless_stopped : Option Stop → List ℕ → List ℕ
unless_stopped (some s) b = []
unless_stopped none b = b

unfoldable pub data_given : List ℕ → Lent → List ℕ
data_given rec x =
    let o = operation_of (code_of x.cmd) in
    unless_stopped (first (command_tests rec x)) (act o (decode_of rec) x.cmd x.sent (seen o (decode_of rec) x)).received

pub record Carried (rec : List ℕ) (x : Lent) (r : Result) : Type 0 where
  -- "to the receiving buffer": as many bytes as the data has
  pub given : gives (operation_of (code_of x.cmd)) ≡ true → r.answer.carried ≡ length (data_given rec x)
  -- of every command, the buffer is as lent but for that data at its front, for which it has room
  pub laid : r.lent.received ≡ over x.received 0 (data_given rec x)
  pub room : length (data_given rec x) ≤ length x.received
  -- and a command of another kind gives none
  pub not_given : gives (operation_of (code_of x.cmd)) ≡ false → data_given rec x ≡ []
  -- "put by WRITE": the bytes of the objects that it put
  pub put : operation_of (code_of x.cmd) ≡ Write → r.answer.carried ≡ bytes_put (caused rec x.cmd x.sent r)
  -- "taken by a GOOD MODE SELECT": its list
  pub taken : operation_of (code_of x.cmd) ≡ ModeSelect → is_good r.answer ≡ true → r.answer.carried ≡ allocation_of x.cmd
  pub not_taken : operation_of (code_of x.cmd) ≡ ModeSelect → is_good r.answer ≡ false → r.answer.carried ≡ 0
  -- "else 0"
  pub none : gives (operation_of (code_of x.cmd)) ≡ false → operation_of (code_of x.cmd) ≢ Write → operation_of (code_of x.cmd) ≢ ModeSelect → r.answer.carried ≡ 0
