-- A listing ends within the text's room (`listing_ends`).
-- Assumes nothing.
use Rattle.std.proofs.Common.{◌≤◌, arith, length, sym, length-take-le}
use Rattle.listing.proofs.Listed.{listing_ends}
use Rattle.listing.proofs.main.Goals as goal

pub slice_bounds-text-end : goal.slice_bounds-text-end
slice_bounds-text-end c = omega (arith, listing_ends _ _ c.list-end.ensures.1)

pub slice_bounds-write_all-end : goal.slice_bounds-write_all-end
slice_bounds-write_all-end c =
    let within : c.list-end.result ≤ length c.list-end.new.text = omega (arith, listing_ends _ _ c.list-end.ensures.1) in
    sym (length-take-le _ _ within)
