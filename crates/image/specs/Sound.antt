-- A sound image as clauses see it: its bytes, and that they are sound.
-- Assumes nothing: this is a definition.
use Rattle.std.specs.Prelude.{ℕ, ◌≡◌, true, List}
use Rattle.image.specs.Image.{sound}

pub record SoundImage : Type 0 where
  pub bytes : List ℕ
  pub is_sound : sound bytes ≡ true
