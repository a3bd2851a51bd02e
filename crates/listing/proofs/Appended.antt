-- A run of bytes appended to a text that ends at `at`: it is laid over what stands there, and the new end is behind it. Runs
-- appended one behind the other are one run.
-- Assumes nothing.
use Prim.Native.Nat.{ℕ, ◌+◌, ◌/◌, ◌%◌, ◌<◌, ◌≤◌}
use mathlib.Core.Path.{◌≡◌, ap₂, ◌∙◌}
use mathlib.Core.List.{List, [], ◌∷◌, ◌++◌}
use native.Mathlib.Omega.{arith}
use lib.ListN.{length, length-append}
use Rattle.words.specs.Words.{over}
use Rattle.words.proofs.Laws.{over_over}
use Rattle.listing.specs.Text.{digit, decimal}
use Rattle.listing.proofs.Digits.{decimal_one, decimal_more}

-- from the text s that ends at `at`, by the run a, to the text t that ends at p
abbrev pub Appended : List ℕ → ℕ → List ℕ → List ℕ → ℕ → Type 0
Appended s at a t p = (t ≡ over s at a) × (p ≡ at + length a)

module _ (s : List ℕ) (at : ℕ) (a t : List ℕ) (p : ℕ) (b u : List ℕ) (q : ℕ) (x : Appended s at a t p) (y : Appended t p b u q) where
  pub appended_both : at + length (a ++ b) ≤ length s → Appended s at (a ++ b) u q
  appended_both h =
      let l : length (a ++ b) ≡ length a + length b = length-append a b in
      (y.0 ∙ ap₂ (λ (v : List ℕ) (k : ℕ). over v k b) x.0 x.1 ∙ over_over s at a b (omega arith), omega arith)

pub appended_three : (s : List ℕ) (at : ℕ) (a t : List ℕ) (p : ℕ) (b u : List ℕ) (q : ℕ) (c v : List ℕ) (r : ℕ)
    → Appended s at a t p → Appended t p b u q → Appended u q c v r → at + length (a ++ b ++ c) ≤ length s → Appended s at (a ++ b ++ c) v r
appended_three s at a t p b u q c v r x y z h =
    appended_both s at (a ++ b) u q c v r (appended_both s at a t p b u q x y (omega (arith, length-append (a ++ b) c))) z h

-- a number, as the code appends it
pub appended_one : (s : List ℕ) (at n : ℕ) (t : List ℕ) (p : ℕ) → n < 10 → Appended s at (digit n ∷ []) t p → Appended s at (decimal n) t p
appended_one s at n t p h x = rw (decimal_one n h) x

pub appended_more : (s : List ℕ) (at n : ℕ) (t : List ℕ) (p : ℕ) (u : List ℕ) (q : ℕ) → 10 ≤ n → at + length (decimal n) ≤ length s
    → Appended s at (decimal (n / 10)) t p → Appended t p (digit (n % 10) ∷ []) u q → Appended s at (decimal n) u q
appended_more s at n t p u q h l x y =
    let e = decimal_more n h in
    rw e (appended_both s at (decimal (n / 10)) t p (digit (n % 10) ∷ []) u q x y (rw e at l))
