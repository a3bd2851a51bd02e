-- What each house service answers: done or refused, and nothing else.
-- Assumes nothing.
use Prim.Native.Nat.{ℕ}
use mathlib.Core.Bool.{Bool}
use mathlib.Core.List.{List}
use native.Mathlib.Omega.{arith}
use Rattle.answers.proofs.Fields.{ByNumber, first_fits, settled_by_lem}
use Rattle.image.specs.Image.{fault_of, image_tests}
use Rattle.house.specs.Mount.{fresh_tests, fresh_call, mount_tests, mount_fault, mount_call}
use Rattle.house.specs.Images.{blank_tests, blank_call, protect_call}

pub fresh_answers : (rec : List ℕ) → ByNumber (fresh_call rec).answer
unfolding fresh_call
fresh_answers rec = settled_by_lem _ rec _ (first_fits (fresh_tests rec) (omega arith, tt))

pub mount_answers : (rec p0 p1 : List ℕ) → ByNumber (mount_call rec p0 p1).answer
unfolding mount_call mount_fault
mount_answers rec p0 p1 =
    settled_by_lem _ rec _ (first_fits (mount_tests rec p0 p1) (omega arith, (omega arith, (omega arith, (omega arith, tt)))))

pub blank_answers : (s : List ℕ) → ByNumber (blank_call s).answer
unfolding blank_call
blank_answers s = settled_by_lem _ s _ (first_fits (blank_tests s) (omega arith, tt))

pub protect_answers : (on : Bool) (s : List ℕ) → ByNumber (protect_call on s).answer
unfolding protect_call fault_of
protect_answers on s = settled_by_lem _ s _ (first_fits (image_tests s) (omega arith, (omega arith, tt)))
