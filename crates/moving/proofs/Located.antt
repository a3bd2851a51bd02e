-- What LOCATE leaves of the partition k with the image s, by its destination.
-- Assumes nothing.
use Prim.Native.Nat.{ℕ, min}
use mathlib.Core.Path.{◌≡◌, refl}
use mathlib.Core.Bool.{true, false, cond}
use mathlib.Core.List.{List, []}
use native.Mathlib.Omega.{arith}
use lib.Dec.{leb}
use lib.IntN.{pos}
use Rattle.std.proofs.lemmas.Grind.{common_steps}
use Rattle.objects.specs.Movement as M
use Rattle.image.specs.Image.{count, sound, objects}
use Rattle.image.proofs.Objects.{length_objects}
use Rattle.record.specs.declared.drive.Drive.{Drive}
use Rattle.commands.specs.Act.{good, checked, at_partition, end_told, locate_tells, locating}
use Rattle.commands.specs.Call.{seen_of}
use Rattle.moving.proofs.Beyond.{most, walk_cut}

module _ (d : Drive) (s : List ℕ) (k : ℕ) where
  pub to_object : (n : ℕ) → locating d k (M.object n) (seen_of s) ≡ cond (leb n (count s)) (good (at_partition d k n)) (checked (at_partition d k (count s)) (end_told false (seen_of s) (pos 0)))
  unfolding locating locate_tells M.locate M.to_object seen_of
  to_object n = grind (arith, common_steps, length_objects)

  pub to_end : locating d k M.end_of_data (seen_of s) ≡ good (at_partition d k (count s))
  unfolding locating locate_tells M.locate M.to_end_of_data seen_of
  to_end = grind (arith, common_steps, length_objects)

  -- where the walk over as many filemarks as can matter ends
  pub to_file : (n : ℕ) → sound s ≡ true →
      let w = M.walk M.filemarks (min n most) (objects s) in
      locating d k (M.file n) (seen_of s) ≡ record { drive = at_partition d k w.crossed; tells = locate_tells (seen_of s) w.why; received = []; carried = 0; crossed = 0 }
  unfolding locating M.locate M.to_file seen_of
  to_file n h = rw (walk_cut M.filemarks n s h) refl
