-- Without a cartridge, on partition 1, or on partition 0.
-- Assumes nothing.
use Rattle.step.proofs.Steps.{asks_unloaded, asks_second, asks_first, acted_apart, acted_second, acted_first}
use Rattle.step.proofs.stepping.acts.Goals as goal

pub act_apart-requires : goal.act_apart-requires
act_apart-requires c =
    let p = c.requires in
    asks_unloaded _ _ _ c.args.p0.now c.args.p1.now _ _ p.0 p.1 p.2 c.if-d-eq0.true

pub returns-then-d-eq0 : goal.returns-then-d-eq0
returns-then-d-eq0 c =
    let p = c.requires in
    acted_apart _ _ _ _ _ _ _ p.0 p.1 p.2 _ _ c.into.ensures _ c.if-d-eq0.true c.act_apart.ensures

pub looks_at-requires : goal.looks_at-requires
looks_at-requires c =
    let p = c.requires in
    (p.2.long, p.2.coded)

pub act_on-requires : goal.act_on-requires
act_on-requires c =
    let p = c.requires in
    asks_second _ _ _ c.args.p0.now _ _ _ p.0 p.1 p.2 c.if-d-eq0.false _ c.looks_at.ensures c.if-looks_at-eq1.true

pub returns-then-looks_at-eq1 : goal.returns-then-looks_at-eq1
returns-then-looks_at-eq1 c =
    let p = c.requires in
    acted_second _ _ _ _ _ _ _ p.0 p.1 p.2 _ _ c.into-then-looks_at-eq1.ensures _ c.if-d-eq0.false _ c.looks_at.ensures c.if-looks_at-eq1.true _ c.act_on.ensures

pub act_on-requires-else-looks_at-eq1 : goal.act_on-requires-else-looks_at-eq1
act_on-requires-else-looks_at-eq1 c =
    let p = c.requires in
    asks_first _ _ _ _ c.args.p1.now _ _ p.0 p.1 p.2 c.if-d-eq0.false _ c.looks_at.ensures c.if-looks_at-eq1.false

pub returns-else-looks_at-eq1 : goal.returns-else-looks_at-eq1
returns-else-looks_at-eq1 c =
    let p = c.requires in
    acted_first _ _ _ _ _ _ _ p.0 p.1 p.2 _ _ c.into-else-looks_at-eq1.ensures _ c.if-d-eq0.false _ c.looks_at.ensures c.if-looks_at-eq1.false _ c.act_on-else-looks_at-eq1.ensures
