-- What a record of thirty bytes is, and what it tells.
-- Assumes nothing.
use mathlib.Core.Path.{◌≡◌, refl}
use mathlib.Core.Bool.{Bool, true, false, ◌&&◌}
use Prim.Native.Nat.{ℕ}
use native.Mathlib.Omega.{arith}
use borrow.Author.Tests.{eqb-true}
use lib.Dec.{eqb}
use lib.ListN.{length}
use mathlib.Core.List.{List}
use Rattle.record.specs.Record.{well_formed, well_record, record_length, decode_of}

-- ---- a record: thirty bytes, and well formed

-- what a record tells: its length, and that its drive is well formed
pub record_parts : (s : List ℕ) → well_record s ≡ true → (length s ≡ record_length) × (well_formed (decode_of s) ≡ true)
unfolding well_record
record_parts s h = by (eqb (length s) record_length) (well_formed (decode_of s)) refl h
  where
    by : (a b : Bool) → eqb (length s) record_length ≡ a → a && b ≡ true → (length s ≡ record_length) × (b ≡ true)
    by true b e q = (eqb-true (length s) record_length e, q)
    by false b e q = let impossible : ◌≡◌ {A = ℕ} 0 1 = cc in absurd (omega arith)
