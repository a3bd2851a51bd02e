-- Nothing for a length of 0; else the blocks of the set length, or one of the length asked for, that fit, and what that tells.
-- Assumes nothing.
use mathlib.Core.Path.{sym, ◌∙◌}
use Rattle.changes.proofs.Down.{blocks_kept, blocks_of_lem, fitting_bytes}
use Rattle.commands.proofs.Wrong.{fixed_fields, one_field}
use Rattle.writing.proofs.Wrote.{stands, inside, nothing_written, no_events, fixed_offered, one_offered, events_written, blocks_written, block_written}
use Rattle.writing.proofs.putting.write.Goals as goal

pub returns-then-n-eq0 : goal.returns-then-n-eq0
returns-then-n-eq0 c =
    let p = c.requires in
    (nothing_written c.args.d _ p.0 p.1 _ _ _ c.transfer-n.ensures _ c.if-n-eq0.true c.good.ensures, no_events c.args.d _ p.0 p.1 _ _ _ c.transfer-n.ensures c.good.result c.if-n-eq0.true)

pub put_blocks-put-requires : goal.put_blocks-put-requires
put_blocks-put-requires c =
    let p = c.requires in
    let f = fixed_fields c.args.d _ c.args.sent.now _ c.transfer-n.ensures p.3 p.5 (sym c.fixed.ensures ∙ c.if-fixed.true) in
    (p.0, p.1, f.0, p.4, f.1)

pub overflow_mul-put : goal.overflow_mul-put
overflow_mul-put c =
    let p = c.requires in
    let f = fixed_fields c.args.d _ c.args.sent.now _ c.transfer-n.ensures p.3 p.5 (sym c.fixed.ensures ∙ c.if-fixed.true) in
    let e = c.put_blocks-put.ensures in
    record { fits = inside c.args.d _ p.0 p.1 _ (blocks_kept _ _ _ f.0 p.4 f.1) _ e.0 _ e.1 _ (fitting_bytes _ _ _ _ _ (blocks_of_lem _ _ _ f.1)) }

pub wrote-requires : goal.wrote-requires
wrote-requires c =
    let p = c.requires in
    let f = fixed_fields c.args.d _ c.args.sent.now _ c.transfer-n.ensures p.3 p.5 (sym c.fixed.ensures ∙ c.if-fixed.true) in
    let e = c.put_blocks-put.ensures in
    stands c.args.d _ p.0 p.1 _ (blocks_kept _ _ _ f.0 p.4 f.1) _ e.0 _ e.1

pub returns-then-fixed : goal.returns-then-fixed
returns-then-fixed c =
    let p = c.requires in
    let n = c.transfer-n.ensures in
    let x = sym c.fixed.ensures ∙ c.if-fixed.true in
    let f = fixed_fields c.args.d _ c.args.sent.now _ n p.3 p.5 x in
    let e = c.put_blocks-put.ensures in
    let o = fixed_offered c.args.d _ p.0 p.1 _ _ _ n c.wrote.result x in
    let a = blocks_kept _ _ _ f.0 p.4 f.1 in
    let b = fitting_bytes _ _ _ _ _ (blocks_of_lem _ _ _ f.1) in
    (blocks_written c.args.d _ p.0 p.1 _ _ _ n _ c.if-n-eq0.false _ o a _ b _ e.0 _ e.1 x c.wrote.ensures, events_written c.args.d _ p.0 p.1 _ _ _ n c.wrote.result c.if-n-eq0.false _ o a _ b _ e.0 _ e.1)

pub put_blocks-put-requires-2 : goal.put_blocks-put-requires-2
put_blocks-put-requires-2 c =
    let p = c.requires in
    let f = one_field c.args.d _ c.args.sent.now _ c.transfer-n.ensures p.3 p.5 (sym c.fixed.ensures ∙ c.if-fixed.false) c.if-n-eq0.false in
    (p.0, p.1, f.0, f.1, f.2)

pub overflow_mul-put-2 : goal.overflow_mul-put-2
overflow_mul-put-2 c =
    let p = c.requires in
    let f = one_field c.args.d _ c.args.sent.now _ c.transfer-n.ensures p.3 p.5 (sym c.fixed.ensures ∙ c.if-fixed.false) c.if-n-eq0.false in
    let e = c.put_blocks-put-2.ensures in
    record { fits = inside c.args.d _ p.0 p.1 _ (blocks_kept _ _ _ f.0 f.1 f.2) _ e.0 _ e.1 _ (fitting_bytes _ _ _ _ _ (blocks_of_lem _ _ _ f.2)) }

pub overflow_mul-put-3 : goal.overflow_mul-put-3
overflow_mul-put-3 c =
    let p = c.requires in
    let f = one_field c.args.d _ c.args.sent.now _ c.transfer-n.ensures p.3 p.5 (sym c.fixed.ensures ∙ c.if-fixed.false) c.if-n-eq0.false in
    let e = c.put_blocks-put-2.ensures in
    record { fits = inside c.args.d _ p.0 p.1 _ (blocks_kept _ _ _ f.0 f.1 f.2) _ e.0 _ e.1 _ (fitting_bytes _ _ _ _ _ (blocks_of_lem _ _ _ f.2)) }

pub wrote-requires-2 : goal.wrote-requires-2
wrote-requires-2 c =
    let p = c.requires in
    let f = one_field c.args.d _ c.args.sent.now _ c.transfer-n.ensures p.3 p.5 (sym c.fixed.ensures ∙ c.if-fixed.false) c.if-n-eq0.false in
    let e = c.put_blocks-put-2.ensures in
    stands c.args.d _ p.0 p.1 _ (blocks_kept _ _ _ f.0 f.1 f.2) _ e.0 _ e.1

pub returns : goal.returns
returns c =
    let p = c.requires in
    let n = c.transfer-n.ensures in
    let z = c.if-n-eq0.false in
    let x = sym c.fixed.ensures ∙ c.if-fixed.false in
    let f = one_field c.args.d _ c.args.sent.now _ n p.3 p.5 x z in
    let e = c.put_blocks-put-2.ensures in
    let o = one_offered c.args.d _ p.0 p.1 _ _ _ n c.wrote-2.result x z in
    let a = blocks_kept _ _ _ f.0 f.1 f.2 in
    let b = fitting_bytes _ _ _ _ _ (blocks_of_lem _ _ _ f.2) in
    (block_written c.args.d _ p.0 p.1 _ _ _ n _ z _ o a _ b _ e.0 _ e.1 x c.wrote-2.ensures, events_written c.args.d _ p.0 p.1 _ _ _ n c.wrote-2.result z _ o a _ b _ e.0 _ e.1)
