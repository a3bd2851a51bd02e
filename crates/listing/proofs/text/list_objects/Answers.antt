-- Before each turn there is room for one line more (`lines_fit`), and the turn appends it (`lines_more`).
-- Assumes nothing.
use mathlib.Core.Path.{refl}
use native.Mathlib.Omega.{arith}
use Rattle.listing.proofs.Lines.{trailer_fits}
use Rattle.listing.proofs.Listed.{lines_none, lines_fit, lines_more, objects_listed}
use Rattle.listing.proofs.text.list_objects.Goals as goal

pub count_of-n-requires : goal.count_of-n-requires
count_of-n-requires c = trailer_fits _ c.requires.0

pub append_heading-at-requires : goal.append_heading-at-requires
append_heading-at-requires c = (c.requires.0, omega arith)

pub loop-i-init : goal.loop-i-init
loop-i-init c = (refl, lines_none c.args.image.now _ _)

pub append_line-at-requires : goal.append_line-at-requires
append_line-at-requires c =
    let l =
    lines_fit _ c.requires.0 _ c.count_of-n.ensures _ (omega arith) _ _
    c.append_heading-at.ensures.1 c.loop-i.invariant.1.1 in
    (c.requires.0, omega arith, omega arith)

pub loop-i-preserved : goal.loop-i-preserved
loop-i-preserved c =
    let more =
    lines_more _ c.requires.0 _ c.count_of-n.ensures _ (omega arith) _ _ _ _ _ _ c.append_heading-at.ensures.1
    (omega arith) c.loop-i.invariant.1 c.append_line-at.ensures in
    (omega arith, more)

pub returns : goal.returns
returns c =
    objects_listed _ c.requires.0 _ c.count_of-n.ensures _ (omega arith) (omega arith) _ _ _ _ _ c.requires.1
    c.append_heading-at.ensures c.loop-i.invariant.1
