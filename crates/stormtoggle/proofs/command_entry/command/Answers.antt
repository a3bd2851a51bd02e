-- On a record of the right length: refused by the service, or served.
-- Assumes nothing.
use Rattle.std.proofs.lemmas.Result.{err_from_is_err_and}
use Rattle.stormtoggle.proofs.Commanded.{served_so, refused_so}
use Rattle.stormtoggle.proofs.command_entry.command.Goals as goal

pub returns-in_err-served : goal.returns-in_err-served
returns-in_err-served c =
    let p = err_from_is_err_and c.from_residual.result c.from_residual.ensures.1 in
    rw (p.1, p.2) (refused_so _ _ c.if-rec-ne-RECORD_LENGTH.false _ c.decode-d.ensures _ _ c.in_err-served.ensures)

pub returns : goal.returns
returns c = rw c.encode.ensures (served_so _ _ c.if-rec-ne-RECORD_LENGTH.false _ c.decode-d.ensures _ c.in_ok-served.ensures)
