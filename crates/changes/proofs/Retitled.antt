-- N and D anew: both are read back, and every other byte is as it was.
-- Assumes nothing.
use Prim.Native.Nat.{ℕ, ◌-◌, ◌*◌, ◌^◌, ◌<◌, ◌≤◌}
use mathlib.Core.Path.{◌≡◌, ◌∙◌}
use mathlib.Core.Logic.{inl}
use mathlib.Core.List.{List}
use native.Mathlib.Omega.{arith}
use lib.ListN.{length, get_or}
use Rattle.words.specs.Words.{be, bytes, over}
use Rattle.words.proofs.Laws.{Outside, length_bytes_lem, length_put, be_put, be_put_lt, be_put_ge, get_d_over_out}
use Rattle.objects.specs.Room.{trailer_length, entry_length}
use Rattle.image.specs.Image.{least_length}
use Rattle.changes.specs.Changes.{retitle}

-- the trailer with N laid down
abbrev named : ℕ → ℕ → List ℕ → List ℕ
named l n s = over s (l - trailer_length) (bytes 4 n)

module _ (l n : ℕ) (s : List ℕ) (e : length s ≡ l) (h : least_length ≤ l) where
  named_length : length (named l n s) ≡ l
  named_length = length_put 4 s (l - trailer_length) n (omega arith) ∙ e

  pub retitle_length : length (retitle l n s) ≡ l
  unfolding retitle
  retitle_length = length_put 4 (named l n s) (l - 8) (l - trailer_length - entry_length * n) (omega (arith, named_length)) ∙ named_length

  pub retitle_out : (j : ℕ) → Outside j (l - trailer_length) 4 → Outside j (l - 8) 4 → get_or (retitle l n s) j 0 ≡ get_or s j 0
  unfolding retitle
  retitle_out j a b =
      get_d_over_out (named l n s) (l - 8) (bytes 4 (l - trailer_length - entry_length * n)) j (rw length_bytes_lem (omega (arith, named_length))) (rw length_bytes_lem b)
      ∙ get_d_over_out s (l - trailer_length) (bytes 4 n) j (rw length_bytes_lem (omega arith)) (rw length_bytes_lem a)

  pub retitle_front : (j : ℕ) → j < l - trailer_length → get_or (retitle l n s) j 0 ≡ get_or s j 0
  retitle_front j k = retitle_out j (inl k) (inl (omega arith))

  pub retitle_flags : be 4 (retitle l n s) (l - 12) ≡ be 4 s (l - 12)
  unfolding retitle
  retitle_flags =
      be_put_lt 4 (named l n s) (l - 8) (l - trailer_length - entry_length * n) (omega (arith, named_length)) 4 (l - 12) (omega arith)
      ∙ be_put_ge 4 s (l - trailer_length) n (omega arith) 4 (l - 12) (omega arith)

  pub retitle_size : be 4 (retitle l n s) (l - 4) ≡ be 4 s (l - 4)
  unfolding retitle
  retitle_size =
      be_put_ge 4 (named l n s) (l - 8) (l - trailer_length - entry_length * n) (omega (arith, named_length)) 4 (l - 4) (omega arith)
      ∙ be_put_ge 4 s (l - trailer_length) n (omega arith) 4 (l - 4) (omega arith)

  pub retitle_count : n < 2 ^ 32 → be 4 (retitle l n s) (l - trailer_length) ≡ n
  unfolding retitle
  retitle_count m =
      be_put_lt 4 (named l n s) (l - 8) (l - trailer_length - entry_length * n) (omega (arith, named_length)) 4 (l - trailer_length) (omega arith)
      ∙ be_put 4 s (l - trailer_length) n (omega arith) m

  pub retitle_dir : l < 2 ^ 32 → be 4 (retitle l n s) (l - 8) ≡ l - trailer_length - entry_length * n
  unfolding retitle
  retitle_dir m = be_put 4 (named l n s) (l - 8) (l - trailer_length - entry_length * n) (omega (arith, named_length)) (omega arith)
