-- An input that is not refused is listed by `list_objects`; a refusal is its three runs, one behind the other (`refusal_listed`), and
-- has one digit (`refusal_short`).
-- Assumes nothing.
use Rattle.std.proofs.Common.{rules, arith}
use Rattle.listing.proofs.Refused.{refusal_short}
use Rattle.listing.proofs.Listed.{refusal_listed}
use Rattle.listing.proofs.text.list.Goals as goal

pub append_number-at-requires : goal.append_number-at-requires
append_number-at-requires c = omega (arith, refusal_short c.args.image.now c.from-in-Err.result (search rules))

pub append-requires : goal.append-requires
append-requires c = omega (arith, refusal_short c.args.image.now c.from-in-Err.result (search rules))

pub returns-in-Err : goal.returns-in-Err
returns-in-Err c =
    refusal_listed _ _ (search rules) (search rules) _ _ _ _ _ _ _ c.requires
    c.append-at.ensures c.append_number-at.ensures c.append.ensures
