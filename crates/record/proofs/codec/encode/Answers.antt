-- Four runs, one right behind the other, fill the thirty bytes (`filled`).
-- Assumes nothing.
use mathlib.Core.List.{[], ◌∷◌}
use mathlib.Core.Path.{refl}
use native.Mathlib.Omega.{arith}
use Rattle.record.proofs.Facts.{held}
use Rattle.record.proofs.RoundTrip.{filled}
use Rattle.record.specs.Record.{encode_of}
use Rattle.record.proofs.codec.encode.Goals as goal

pub copy_at-requires-2 : goal.copy_at-requires-2
copy_at-requires-2 c = omega (arith, (held c.args.d c.well_formed.0).sense_length_lem)

pub returns : goal.returns
unfolding encode_of
returns c =
    let a = c.args in
    let d = a.d in
    let e = filled a.out.now (d.loaded ∷ d.partitions ∷ d.current ∷ d.attention ∷ []) d.position d.block_length d.sense (omega arith) refl (held d c.well_formed.0).sense_length_lem in
    cc
