-- What ends a command before it acts (01, "Command order").
-- Assumes nothing: these are definitions.
use Rattle.std.specs.Prelude.{ℕ}

-- a refusal by number; the waiting attention; CHECK CONDITION with key, ASC, ASCQ
pub data Stop : Type 0 where
  refuse : ℕ → Stop
  attend : Stop
  fault : ℕ → ℕ → ℕ → Stop
