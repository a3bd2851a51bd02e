-- What whoever holds a drive knows of its fields beyond its record: ranges, and the count of its sense bytes. From `c.well_formed.0` of a
-- parameter.
-- Assumes nothing.
use mathlib.Core.Path.{◌≡◌}
use Prim.Native.Nat.{◌<◌, ◌^◌}
use lib.ListN.{length}
use denote.Laws.{Is}
use denote.Struct.Laws as LL
use Rattle.sense.specs.Sense.{sense_length}
use Rattle.record.specs.declared.drive.Drive.{Drive}
use Rattle.record.specs.contracts.drive.Drive as T
use Rattle.record.proofs.drive.Drive.TheLaws as T'

pub record Bounded (d : Drive) : Type 0 where
  pub position_fits : d.position < 2 ^ 32
  pub block_fits : d.block_length < 2 ^ 32
  pub sense_length_lem : length d.sense ≡ sense_length

pub held : (d : Drive) → Is T.the_row d (LL.vals T.the_type T'.the_laws d) → Bounded d
held d is =
    let o = LL.owed T.the_type T'.the_laws d _ is in
    record {
      position_fits = o.1.1.1.1.0.1;
      block_fits = o.1.1.1.1.1.0.1;
      sense_length_lem = o.1.1.1.1.1.1.0.1.0.1;
    }
