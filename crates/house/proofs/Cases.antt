-- A mount that is not refused comes to the definition's outcome.
-- Assumes nothing.
use Prim.Native.Nat.{ℕ}
use mathlib.Core.Path.{◌≡◌, refl}
use mathlib.Core.List.{List}
use borrow.Author.Tests.{eq-eqb}
use Rattle.answers.specs.declared.Answer.{Answer}
use Rattle.answers.specs.Answers.{settled, done}
use Rattle.record.specs.declared.drive.Drive.{Drive}
use Rattle.record.specs.Record.{encode_of, mounted_drive}
use Rattle.house.specs.Mount.{partitions_of, mount_fault, mount_call}

module _ (rec p0 p1 : List ℕ) (f : ℕ) (ef : f ≡ mount_fault rec p0 p1) (a : Answer) where
  pub mount_served : f ≡ 0 → (t : List ℕ) (d : Drive) (n : ℕ) → n ≡ partitions_of p1 → d ≡ mounted_drive n → t ≡ encode_of d → a ≡ done → settled a t ≡ mount_call rec p0 p1
  unfolding mount_call
  mount_served h t d n en ed et e = rw (← ef, eq-eqb f 0 h, e, et, ed, en) refl
