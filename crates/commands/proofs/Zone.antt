-- The early-warning zone of an image, from what is seen of it: at any number up to N, and at N, where end of data is met.
-- Assumes nothing.
use Prim.Native.Nat.{ℕ, ◌≤◌}
use native.Mathlib.Nat.{le_refl}
use mathlib.Core.Path.{◌≡◌, refl, sym, ap, ◌∙◌}
use mathlib.Core.Bool.{true}
use mathlib.Core.List.{List}
use Rattle.image.specs.Image.{count, sound, room, zone}
use Rattle.image.proofs.Facts.{sound_parts}
use Rattle.image.proofs.Objects.{end_bytes, length_objects}
use Rattle.commands.specs.Act.{zone_at, eom_at_end}
use Rattle.commands.specs.Call.{seen_of}

pub zone_seen : (s : List ℕ) → sound s ≡ true → (n : ℕ) → n ≤ count s → zone s n ≡ zone_at (seen_of s) n
unfolding zone room seen_of
zone_seen s h n g = rw (end_bytes s (sound_parts s h) n g) refl

pub end_seen : (s : List ℕ) → sound s ≡ true → zone s (count s) ≡ eom_at_end (seen_of s)
unfolding eom_at_end
end_seen s h = zone_seen s h (count s) (le_refl (count s)) ∙ ap (zone_at (seen_of s)) (sym (unfold seen_of in length_objects s))
