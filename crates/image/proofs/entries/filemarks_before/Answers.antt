-- The chain sums 1 for each filemark and 0 for each block, over fewer than 2^62 entries.
-- Assumes nothing.
use Rattle.std.proofs.Common.{◌^◌, ◌∙◌, arith, rules, tests}
use Rattle.std.proofs.lemmas.List.FromFn.{length-range_with_len}
use Rattle.std.proofs.lemmas.Iterator.{YieldsList-from_range, YieldsList-from_map}
use Rattle.std.proofs.lemmas.Iterator.Consumers.{sum_from_yields_List}
use Rattle.std.proofs.lemmas.Iterator.Adapters.{fits_from_length, at_most_from_yields_List}
use mir.Val.{bool_byte}
use Rattle.image.proofs.Facts.{filemarks_sum}
use Rattle.image.specs.Image.{entry, top_bit}
use Rattle.image.proofs.entries.filemarks_before.Goals as goal

pub sum-requires-clause-fits : goal.sum-requires-clause-fits
sum-requires-clause-fits c =
    let n = c.args.n in
    fits_from_length _ _ (2 ^ 62) _
    (at_most_from_yields_List (YieldsList-from_range 0 n n c.map.ensures.source (omega arith)) (omega (arith, length-range_with_len)))
    c.map.ensures.closure (omega arith) (λ x r q k. search (rules, tests))

pub returns : goal.returns
returns c =
    let s = c.args.s.now in
    let n = c.args.n in
    sum_from_yields_List c.map.result c.sum.result c.sum.ensures.ran
    (YieldsList-from_map _ (λ i. bool_byte (top_bit (entry s i))) (YieldsList-from_range 0 n n c.map.ensures.source (omega arith))
    c.map.ensures.closure (λ x r q k. search (rules, tests)))
    ∙ filemarks_sum s n
