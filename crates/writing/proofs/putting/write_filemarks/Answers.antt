-- Nothing for a count of 0; else the filemarks that fit, and what that tells.
-- Assumes nothing.
use Rattle.changes.proofs.Down.{marks_kept}
use Rattle.writing.proofs.Wrote.{stands, nothing_marked, no_marks, events_marked, marked}
use Rattle.writing.proofs.putting.write_filemarks.Goals as goal

pub returns-then-marks-eq0 : goal.returns-then-marks-eq0
returns-then-marks-eq0 c =
    let p = c.requires in
    (nothing_marked c.args.d _ p.0 p.1 _ _ c.transfer-marks.ensures _ c.if-marks-eq0.true c.good.ensures, no_marks c.args.d _ p.0 p.1 _ _ c.transfer-marks.ensures c.good.result c.if-marks-eq0.true)

pub wrote-requires : goal.wrote-requires
wrote-requires c =
    let p = c.requires in
    stands c.args.d _ p.0 p.1 _ (marks_kept c.transfer-marks.result) _ c.put_filemarks-put.ensures.0 _ c.put_filemarks-put.ensures.1

pub returns : goal.returns
returns c =
    let p = c.requires in
    let e = c.put_filemarks-put.ensures in
    (marked c.args.d _ p.0 p.1 _ _ c.transfer-marks.ensures _ _ e.0 c.if-marks-eq0.false _ e.1 c.wrote.ensures, events_marked c.args.d _ p.0 p.1 _ _ c.transfer-marks.ensures c.wrote.result _ e.0)
