-- "(always so if, since the mount, neither has been used with another or written by anything else)": the record and the cartridge of demand 3's
-- closing reads.
-- Assumes nothing: these are definitions.
use Rattle.std.specs.Prelude.{ℕ, Bool, List, [], ◌∷◌}
use Rattle.house.specs.Mount.{mount_call}
use Rattle.history.specs.History.{Slot, Cartridge, together, Call, command, mount, protection, commanded, after, ends}
use Rattle.history.specs.Demand3.{NoFault}

-- a use of a record and the cartridge that it was mounted with: with each other, the whole cartridge; or its protection
pub data Use : Type 0 where
  sends : (cmd sent received : List ℕ) → Use
  mounts : Use
  protects : Slot → Bool → Use

-- the call of the cartridge's life that a use is, and the record after it
abbrev pub call_of : Use → List ℕ → Call
call_of (sends cmd sent received) rec = command together rec cmd sent received
call_of mounts rec = mount together rec
call_of (protects s on) rec = protection s on

abbrev pub record_after : Use → List ℕ → Cartridge → List ℕ
record_after (sends cmd sent received) rec c = (commanded together c rec cmd sent received).rec
record_after mounts rec c = (mount_call rec c.part0 c.part1).lent
record_after (protects s on) rec c = rec

unfoldable pub calls_of : List Use → List ℕ → Cartridge → List Call
calls_of [] rec c = []
calls_of (u ∷ us) rec c = call_of u rec ∷ calls_of us (record_after u rec c) (after (call_of u rec) c)

unfoldable pub record_used : List Use → List ℕ → Cartridge → List ℕ
record_used [] rec c = rec
record_used (u ∷ us) rec c = record_used us (record_after u rec c) (after (call_of u rec) c)

-- of a record rec and a cartridge c, mounted and then used with each other
abbrev pub AlwaysSo : List ℕ → Cartridge → List Use → Type 0
AlwaysSo rec c us =
    let m = (mount_call rec c.part0 c.part1).lent in
    NoFault (record_used us m c) (ends (calls_of us m c) c)
