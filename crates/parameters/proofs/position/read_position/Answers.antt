-- The reply of either form is laid over the buffer.
-- Assumes nothing.
use native.Mathlib.Omega.{arith}
use Rattle.parameters.proofs.Positioned.{short_room, long_room, short_reply, long_reply, short_left, long_left, reply_laid}
use Rattle.parameters.proofs.position.read_position.Goals as goal

pub copy_at-requires : goal.copy_at-requires
copy_at-requires c = let w = short_room c.args.d _ _ _ c.form.ensures _ c.requires.2 c.if-form-eq-SHORT_FORM.true in omega arith

pub returns-then-form-eq-SHORT_FORM : goal.returns-then-form-eq-SHORT_FORM
returns-then-form-eq-SHORT_FORM c =
    let e = short_reply c.args.d c.args.cmd.now _ c.args.image.now.is_sound c.requires.0 _ c.in_zone-zone.ensures _ c.form.ensures _ c.if-form-eq-SHORT_FORM.true c.short_position-told.ensures in
    (short_left _ _ _ _ e _ _ _ _ c.short_position-told.ensures c.good.ensures, reply_laid _ _ _ _ e c.copy_at.ensures)

pub copy_at-requires-2 : goal.copy_at-requires-2
copy_at-requires-2 c = let w = long_room c.args.d _ _ _ c.form.ensures _ c.requires.2 c.if-form-eq-SHORT_FORM.false in omega arith

pub returns : goal.returns
returns c =
    let e = long_reply c.args.d c.args.cmd.now _ c.args.image.now.is_sound c.requires.0 _ c.in_zone-zone.ensures _ c.form.ensures _ c.if-form-eq-SHORT_FORM.false _ c.filemarks_before-filemarks.ensures c.long_position-told.ensures in
    (long_left _ _ _ _ e _ _ _ _ _ c.long_position-told.ensures c.good-2.ensures, reply_laid _ _ _ _ e c.copy_at-2.ensures)
