-- A mount that is not refused has a record (`mountable`), so its length is right.
-- Assumes nothing.
use Rattle.std.proofs.Common.{◌≡◌, rules}
use Rattle.record.proofs.Judged.{record_parts}
use Rattle.house.specs.Mount.{mount_fault}
use Rattle.house.proofs.Mounted.{mountable}
use Rattle.house.proofs.records.mount.Goals as goal

pub encode-requires : goal.encode-requires
encode-requires c =
    let a = c.args in
    let none : mount_fault a.rec.now a.p0.now a.p1.now ≡ 0 = search rules in
    (record_parts _ (mountable _ _ _ none)).0
