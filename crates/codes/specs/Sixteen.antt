-- A command block of sixteen bytes, as cases write it (Q-1).
-- Assumes nothing: this is a definition.
use Rattle.std.specs.Prelude.{ℕ, List, [], ◌∷◌, ◌++◌}
use Rattle.words.specs.Words.{bytes, zeros}

-- operation code, byte 1, byte 3, bytes 4 to 11; all else 0
abbrev pub sixteen : ℕ → ℕ → ℕ → ℕ → List ℕ
sixteen op byte1 byte3 n = (op ∷ byte1 ∷ 0 ∷ byte3 ∷ []) ++ bytes 8 n ++ zeros 4
