-- A blank partition of the least length, as cases use it.
-- Assumes nothing: this is a definition.
use Rattle.std.specs.Prelude.{ℕ, List}
use Rattle.words.specs.Words.{zeros}
use Rattle.image.specs.Image.{least_length}
use Rattle.trailers.specs.Trailers.{blank}

unfoldable pub blank64 : List ℕ
blank64 = blank (zeros least_length)
