-- Bytes and filemarks add up along the objects: both are sums over a list, by induction on it.
-- Assumes nothing.
use Prim.Native.Nat.{ℕ, zero, suc, ◌+◌, ◌≤◌, zero-le, suc-le-suc}
use native.Mathlib.Omega.{arith}
use mathlib.Core.Path.{◌≡◌}
use mathlib.Core.Bool.{cond}
use mathlib.Core.List.{List, [], ◌∷◌, ◌++◌}
use lib.ListN.{length, take}
use Rattle.objects.specs.Object.{Object, filemark, block, is_filemark, data_of, bytes_in, filemarks_in}

pub bytes_append : (xs ys : List Object) → bytes_in (xs ++ ys) ≡ bytes_in xs + bytes_in ys
unfolding bytes_in
bytes_append [] ys = omega arith
bytes_append (x ∷ xs) ys = omega (arith, bytes_append xs ys)

-- one object more at the end
pub bytes_snoc : (xs : List Object) (x : Object) → bytes_in (xs ++ x ∷ []) ≡ bytes_in xs + length (data_of x)
unfolding bytes_in
bytes_snoc xs x = omega (arith, bytes_append xs (x ∷ []))

pub filemarks_append : (xs ys : List Object) → filemarks_in (xs ++ ys) ≡ filemarks_in xs + filemarks_in ys
unfolding filemarks_in
filemarks_append [] ys = omega arith
filemarks_append (filemark ∷ xs) ys = omega (arith, filemarks_append xs ys)
filemarks_append (block bs ∷ xs) ys = filemarks_append xs ys

pub filemarks_snoc : (xs : List Object) (x : Object) → filemarks_in (xs ++ x ∷ []) ≡ filemarks_in xs + cond (is_filemark x) 1 0
unfolding filemarks_in
filemarks_snoc xs filemark = filemarks_append xs (filemark ∷ [])
filemarks_snoc xs (block bs) = filemarks_append xs (block bs ∷ [])

-- no more filemarks than objects
pub filemarks_le : (xs : List Object) → filemarks_in xs ≤ length xs
unfolding filemarks_in
filemarks_le [] = zero-le
filemarks_le (filemark ∷ xs) = suc-le-suc (filemarks_le xs)
filemarks_le (block bs ∷ xs) = omega (arith, filemarks_le xs)

-- the first k objects have no more filemarks than all of them
pub filemarks_take_le : (k : ℕ) (xs : List Object) → filemarks_in (take k xs) ≤ filemarks_in xs
unfolding filemarks_in
filemarks_take_le zero xs = zero-le
filemarks_take_le (suc k) [] = zero-le
filemarks_take_le (suc k) (filemark ∷ xs) = suc-le-suc (filemarks_take_le k xs)
filemarks_take_le (suc k) (block bs ∷ xs) = filemarks_take_le k xs
