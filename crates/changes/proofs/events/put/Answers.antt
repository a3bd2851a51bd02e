-- Data, entry, N and D are laid down in the order of the definition; the room bounds them all (`fits_room`). A filemark lays down no data (`over_nil`).
-- Assumes nothing.
use Rattle.image.proofs.Facts.{marked}
use Rattle.changes.specs.Changes.{occur, enter, entry_of}
use Rattle.image.specs.Image.{end_at}
use Rattle.words.proofs.Laws.{over_nil}
use Rattle.changes.proofs.events.put.Goals as goal
use Rattle.changes.proofs.events.put.Goals.{in-Filemark, in-Block}

pub returns : goal.returns
unfolding occur enter entry_of
returns c =
    let a = c.args in
    let m = marked c.end_at-from.result c.end_at-from.ensures.1 in
    let n = over_nil a.s.now (end_at a.s.now a.n) in
    elim c.match-object.branch [ in-Filemark w ↦ rw w.in-Filemark.is (cc) | in-Block w ↦ rw w.in-Block.is (cc) ]
