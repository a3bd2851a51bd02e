-- What the bytes of an image become by protection and by blanking: words of the trailer laid over others; what is not named stays.
-- Assumes nothing: these are definitions.
use Rattle.std.specs.Prelude.{ℕ, ◌+◌, ◌-◌, ◌*◌, ◌/◌, Bool, cond, List, length}
use Rattle.words.specs.Words.{bytes, over}
use Rattle.image.specs.Image.{flags_back, size_back, flags}
use Rattle.changes.specs.Changes.{retitle}

-- the trailer's flags
unfoldable pub reflag : ℕ → List ℕ → List ℕ
reflag f s = over s (length s - flags_back) (bytes 4 f)

-- write protection set or cleared: flag bit 0 only
unfoldable pub protect : Bool → List ℕ → List ℕ
protect on s = reflag (flags s / 2 * 2 + cond on 1 0) s

-- "Blank: N = 0, flags 0, the right D and L, other bytes as lent."
unfoldable pub blank : List ℕ → List ℕ
blank s = over (over (retitle (length s) 0 s) (length s - flags_back) (bytes 4 0)) (length s - size_back) (bytes 4 (length s))
