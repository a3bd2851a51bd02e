-- The shifts and the `|` set bit 0 and keep the others (`bit_set`).
-- Assumes nothing.
use native.Mathlib.Omega.{arith}
use Rattle.image.proofs.Facts.{bit_set}
use Rattle.trailers.specs.Trailers.{protect, reflag}
use Rattle.trailers.proofs.set_protection.Goals as goal

pub returns : goal.returns
unfolding protect reflag
returns c =
    let a = c.args in
    let b = bit_set a.on c.flags_of-flags.result (omega arith) in
    cc
