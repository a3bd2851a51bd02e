-- A command block of six bytes, as cases write it.
-- Assumes nothing: this is a definition.
use Rattle.std.specs.Prelude.{ℕ, List, [], ◌∷◌, ◌++◌}
use Rattle.words.specs.Words.{bytes}

-- operation code, byte 1, bytes 2 to 4, and the control byte 0
abbrev pub six : ℕ → ℕ → ℕ → List ℕ
six op byte1 n = (op ∷ byte1 ∷ []) ++ bytes 3 n ++ (0 ∷ [])
