-- The events by which demand 3 follows a cartridge, which are read off a command's answer, are those that demand 2 defines; and what its answer
-- tells of them.
-- Assumes nothing: these are definitions.
use Rattle.std.specs.Prelude.{ℕ, ◌+◌, ◌≡◌, true, false, List, [], ◌∷◌, length}
use Rattle.std.proofs.Math.Option.{none, some}
use Rattle.objects.specs.Object.{data_of}
use Rattle.objects.specs.Events.{Event, put, cut}
use Rattle.record.specs.Record.{decode_of}
use Rattle.codes.specs.declared.operation.Operation.TheVariants.{Write}
use Rattle.codes.specs.Codes.{code_of, operation_of}
use Rattle.objects.specs.Transfer.{put_from}
use Rattle.commands.specs.Stop.{Stop}
use Rattle.answers.specs.Answers.{first}
use Rattle.commands.specs.Kinds.{erases}
use Rattle.commands.specs.Act.{offered, events_of}
use Rattle.commands.specs.Call.{lent, seen, command_tests, command_call}
use Rattle.history.specs.History.{is_good, caused}

-- the bytes of the objects put
unfoldable pub bytes_put : List Event → ℕ
bytes_put [] = 0
bytes_put (put k o ∷ es) = length (data_of o) + bytes_put es
bytes_put (cut k ∷ es) = bytes_put es

pub record Answered (rec cmd p0 p1 sent received : List ℕ) : Type 0 where
  -- refused or stopped it put and erased nothing; else what demand 2 defines
  pub stopped : (s : Stop) → first (command_tests rec (lent cmd p0 p1 sent received)) ≡ some s → caused rec cmd sent (command_call rec (lent cmd p0 p1 sent received)) ≡ []
  pub acted : first (command_tests rec (lent cmd p0 p1 sent received)) ≡ none
      → caused rec cmd sent (command_call rec (lent cmd p0 p1 sent received)) ≡ events_of (operation_of (code_of cmd)) (decode_of rec) cmd sent (seen (operation_of (code_of cmd)) (decode_of rec) (lent cmd p0 p1 sent received))
  -- the bytes carried by WRITE are those of the objects that it put
  pub carried : operation_of (code_of cmd) ≡ Write → (command_call rec (lent cmd p0 p1 sent received)).answer.carried ≡ bytes_put (caused rec cmd sent (command_call rec (lent cmd p0 p1 sent received)))
  -- GOOD: it put all that it offered
  pub all_put : is_good (command_call rec (lent cmd p0 p1 sent received)).answer ≡ true → erases (operation_of (code_of cmd)) ≡ false
      → caused rec cmd sent (command_call rec (lent cmd p0 p1 sent received)) ≡ put_from (decode_of rec).position (offered (operation_of (code_of cmd)) (decode_of rec) cmd sent)
