-- The partition that the drive stands in has a trailer; the one that a command looks at is sound, and long enough for the position; and its
-- protection is what the tests were given.
-- Assumes nothing.
use Prim.Native.Nat.{ℕ, ◌≤◌, ◌<◌}
use native.Mathlib.Omega.{arith}
use mathlib.Core.Path.{◌≡◌, refl}
use mathlib.Core.Logic.{◌⊎◌, inl, inr}
use mathlib.Core.Bool.{Bool, true, false, cond, not, ◌&&◌}
use mathlib.Core.List.{List}
use borrow.Author.Tests.{eq-eqb, eqb-true, eqb-false, le-leb, lt-ltb, le-ltb}
use lib.Dec.{eqb, leb, ltb}
use lib.ListN.{length}
use Rattle.objects.specs.Room.{trailer_length}
use Rattle.image.specs.Image.{count, sound, protected}
use Rattle.image.proofs.Facts.{Sound, sound_of, sound_parts}
use Rattle.record.specs.declared.drive.Drive.{Drive}
use Rattle.record.specs.Record.{well_formed}
use Rattle.codes.specs.declared.operation.Operation.{Operation}
use Rattle.codes.specs.Fields.{changes_partition}
use Rattle.commands.specs.Kinds.{locates, writes}
use Rattle.commands.specs.Act.{named_partition, target_of}
use Rattle.commands.specs.Call.{Lent, lent, partition, looks_at, seen_of, nothing, seen, inserted}
use Rattle.commands.proofs.Classes.{not_locate}
use Rattle.commands.proofs.Faultless.{loaded, empty_handed_lem, well_of, inside, sound_there, looks_in, seen_there}
use Rattle.step.specs.Served.{guarded_now}

-- ---- the partition that a command looks at

module _ (d : Drive) (p0 p1 : List ℕ) (w : well_formed d ≡ true) (i : inserted d p0 p1 ≡ true) (z : d.loaded ≡ 0 → ⊥) (o : Operation) (cmd : List ℕ)
    (n : locates o && changes_partition cmd && leb d.partitions (named_partition o cmd) ≡ false) where
  there : looks_at o d cmd < d.partitions
  there = looks_in o d cmd (loaded d w z).current_in n

  pub sound_looked : sound (partition (looks_at o d cmd) p0 p1) ≡ true
  sound_looked = sound_of (partition (looks_at o d cmd) p0 p1) (sound_there d p0 p1 (well_of d p0 p1 w i).cart (looks_at o d cmd) there)

  pub place_looked : cond (locates o) true (leb d.position (count (partition (looks_at o d cmd) p0 p1))) ≡ true
  unfolding looks_at
  place_looked = go (locates o)
    where
      go : (a : Bool) → cond a true (leb d.position (count (partition (cond a (target_of o d cmd) d.current) p0 p1))) ≡ true
      go true = refl
      go false = le-leb d.position (count (partition d.current p0 p1)) (inside d p0 p1 (well_of d p0 p1 w i).cart z).place

  pub seen_loaded : (sent received : List ℕ) → seen o d (lent cmd p0 p1 sent received) ≡ seen_of (partition (looks_at o d cmd) p0 p1)
  seen_loaded sent received = seen_there o d (lent cmd p0 p1 sent received) there

-- of a drive with nothing loaded nothing is seen
pub seen_unloaded : (o : Operation) (d : Drive) (x : Lent) → well_formed d ≡ true → d.loaded ≡ 0 → seen o d x ≡ nothing
unfolding seen
seen_unloaded o d x w h = rw (le-ltb (looks_at o d x.cmd) d.partitions (omega (arith, (empty_handed_lem d w h).0))) refl

-- ---- the protection that the tests were given

pub guarded_alike : (o : Operation) (d : Drive) (x : Lent) → writes o ≡ true → (seen o d x).guarded ≡ guarded_now d x.part0 x.part1
unfolding guarded_now seen seen_of looks_at
guarded_alike o d x h = rw (not_locate o h) (go (ltb d.current d.partitions))
  where
    go : (t : Bool) → (cond t (seen_of (partition d.current x.part0 x.part1)) nothing).guarded ≡ cond t (protected (partition d.current x.part0 x.part1)) false
    go true = refl
    go false = refl

-- ---- the partition that the drive stands in

-- what is loaded is one cartridge
pub one_loaded : (d : Drive) → well_formed d ≡ true → (d.loaded ≡ 0 → ⊥) → eqb d.loaded 1 ≡ true
one_loaded d w z = eq-eqb d.loaded 1 (loaded d w z).is

-- the current partition is there exactly while something is loaded
pub current_there : (d : Drive) → well_formed d ≡ true → ltb d.current d.partitions ≡ not (eqb d.loaded 0)
current_there d w = go (eqb d.loaded 0) refl
  where
    go : (t : Bool) → eqb d.loaded 0 ≡ t → ltb d.current d.partitions ≡ not t
    go true e = le-ltb d.current d.partitions (omega (arith, (empty_handed_lem d w (eqb-true d.loaded 0 e)).0))
    go false e = lt-ltb d.current d.partitions (loaded d w (eqb-false d.loaded 0 e)).current_in

module _ (d : Drive) (p0 p1 : List ℕ) (w : well_formed d ≡ true) (z : d.loaded ≡ 0 → ⊥) where
  -- a sound partition has a trailer
  trails : Sound (partition d.current p0 p1) → trailer_length ≤ length (partition d.current p0 p1)
  trails s = omega (arith, s.least)

  pub trailed : inserted d p0 p1 ≡ true → trailer_length ≤ length (partition d.current p0 p1)
  trailed i = trails (inside d p0 p1 (well_of d p0 p1 w i).cart z).right

  -- of two, the second is sound too
  pub trailed_by : sound p0 ≡ true → (d.partitions ≡ 1) ⊎ (sound p1 ≡ true) → trailer_length ≤ length (partition d.current p0 p1)
  trailed_by a b = trails (go (eqb d.current 1) refl b)
    where
      go : (t : Bool) → eqb d.current 1 ≡ t → (d.partitions ≡ 1) ⊎ (sound p1 ≡ true) → Sound (cond t p1 p0)
      go true e (inl q) = absurd (omega (arith, eqb-true d.current 1 e, (loaded d w z).current_in))
      go true e (inr s) = sound_parts p1 s
      go false e b = sound_parts p0 a
