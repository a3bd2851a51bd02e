-- Document 01's example E: L = 64, the block 01 02 03, then a filemark.
-- Assumes nothing: this is a definition.
use Rattle.std.specs.Prelude.{ℕ, List, ◌∷◌, ◌++◌, replicate}
use Rattle.words.specs.Words.{bytes}

-- its bytes, as 01 lists them
unfoldable pub E : List ℕ
E = 1 ∷ 2 ∷ 3 ∷ replicate 37 0 ++ bytes 4 0x80000003 ++ bytes 4 0x00000003 ++ bytes 4 0x00000002 ++ bytes 4 0x00000000 ++ bytes 4 0x00000028 ++ bytes 4 0x00000040
