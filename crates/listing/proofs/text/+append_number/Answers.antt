-- Below 10 it is its one digit (`appended_one`), else the digits of the tenth and the last one (`appended_more`).
-- Assumes nothing.
use native.Mathlib.Omega.{arith}
use Rattle.listing.proofs.Digits.{length_one, length_more}
use Rattle.listing.proofs.Appended.{appended_one, appended_more}
use Rattle.listing.proofs.text.+append_number.Goals as goal

pub append-requires : goal.append-requires
append-requires t c = omega (arith, length_one c.args.n c.if-n-lt10.true)

pub returns-then-n-lt10 : goal.returns-then-n-lt10
returns-then-n-lt10 t c = appended_one _ _ _ _ _ c.if-n-lt10.true c.append.ensures

pub append_number-end-requires : goal.append_number-end-requires
append_number-end-requires t c = (omega arith, omega (arith, length_more c.args.n c.if-n-lt10.false))

pub append-requires-2 : goal.append-requires-2
append-requires-2 t c = omega (arith, length_more c.args.n c.if-n-lt10.false)

pub returns : goal.returns
returns t c = appended_more _ _ _ _ _ _ _ c.if-n-lt10.false c.requires c.append_number-end.ensures c.append-2.ensures
