-- A rule of a table, proved at all of its entries at once: the table is the list that the rule tabulates, which antt computes and compares.
-- So no proof writes the table out again.
-- Assumes nothing.
use mathlib.Core.Path.{◌≡◌, ap, sym, ◌∙◌}
use mathlib.Core.List.{List, [], ◌∷◌}
use Prim.Native.Nat.{ℕ, zero, suc, ◌+◌, ◌<◌}
use native.Mathlib.Nat.{add-zero, zero-add, add-suc, suc-add, le_of_suc-le-suc, not-suc-le-zero}
use lib.ListN.{get_or}

-- g at n places, counted from i
abbrev pub tab : (ℕ → ℕ) → ℕ → ℕ → List ℕ
tab g zero i = []
tab g (suc n) i = g i ∷ tab g n (suc i)

from : (g : ℕ → ℕ) (n i k : ℕ) → k < n → get_or (tab g n i) k 0 ≡ g (i + k)
from g zero i k h = absurd (not-suc-le-zero h)
from g (suc n) i zero h = ap g (sym (add-zero i))
from g (suc n) i (suc k) h = from g n (suc i) k (le_of_suc-le-suc h) ∙ ap g (suc-add i k ∙ sym (add-suc i k))

-- the entry at k of a table of n is g k
pub rule : (g : ℕ → ℕ) (n k : ℕ) → k < n → get_or (tab g n 0) k 0 ≡ g k
rule g n k h = from g n 0 k h ∙ ap g (zero-add k)
