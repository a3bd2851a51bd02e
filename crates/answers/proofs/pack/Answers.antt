-- The sum of the shifted numbers, by the two cases of the status; none leaves 64 bits, since each fits its field.
-- Assumes nothing.
use native.Mathlib.Omega.{arith}
use Rattle.answers.proofs.Fields.{packed_check, packed_good}
use Rattle.answers.proofs.pack.Goals as goal

pub overflow_mul-bits : goal.overflow_mul-bits
overflow_mul-bits c = omega (arith, c.requires.1)

pub overflow_add-bits : goal.overflow_add-bits
overflow_add-bits c = omega (arith, c.requires)

pub overflow_add-result : goal.overflow_add-result
overflow_add-result c = omega (arith, c.requires)

pub returns-then-a-eq-CHECK_CONDITION : goal.returns-then-a-eq-CHECK_CONDITION
returns-then-a-eq-CHECK_CONDITION c = packed_check _ c.if-a-eq-CHECK_CONDITION.true

pub returns : goal.returns
returns c = packed_good _ c.if-a-eq-CHECK_CONDITION.false
