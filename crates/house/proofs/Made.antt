-- What fresh and a mount leave when they are done: the record that each makes.
-- Assumes nothing.
use Prim.Native.Nat.{ℕ}
use mathlib.Core.Path.{◌≡◌}
use mathlib.Core.List.{List}
use Rattle.std.proofs.lemmas.Grind.{common_steps}
use native.Mathlib.Omega.{arith}
use Rattle.answers.specs.Answers.{done, settled_by, first, refusal_of}
use Rattle.record.specs.Record.{encode_of, fresh_drive, mounted_drive}
use Rattle.house.specs.Mount.{partitions_of, fresh_tests, fresh_call, mount_fault, mount_call}

leaves_made : (k : ℕ) (lent made : List ℕ) → (settled_by k lent made).answer ≡ done → (settled_by k lent made).lent ≡ made
leaves_made k lent made h = grind (arith, common_steps)

pub fresh_made : (rec : List ℕ) → (fresh_call rec).answer ≡ done → (fresh_call rec).lent ≡ encode_of fresh_drive
unfolding fresh_call
fresh_made rec h = leaves_made (refusal_of (first (fresh_tests rec))) rec (encode_of fresh_drive) h

pub mount_made : (rec p0 p1 : List ℕ)
    → (mount_call rec p0 p1).answer ≡ done → (mount_call rec p0 p1).lent ≡ encode_of (mounted_drive (partitions_of p1))
unfolding mount_call
mount_made rec p0 p1 h = leaves_made (mount_fault rec p0 p1) rec (encode_of (mounted_drive (partitions_of p1))) h
