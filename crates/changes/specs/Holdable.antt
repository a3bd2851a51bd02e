-- Which objects a partition may hold.
-- Assumes nothing: these are definitions.
use Rattle.std.specs.Prelude.{◌<◌, ◌≤◌, List, [], ◌∷◌, length}
use Rattle.objects.specs.Object.{Object, filemark, block, largest_block}

-- an object that an image may hold: a filemark, or a block of 1 to 1,048,576 bytes
abbrev pub Holdable : Object → Type 0
Holdable filemark = Unit {0}
Holdable (block bs) = (0 < length bs) × (length bs ≤ largest_block)

-- objects that a partition may hold
unfoldable pub AllHoldable : List Object → Type 0
AllHoldable [] = Unit {0}
AllHoldable (o ∷ os) = Holdable o × AllHoldable os
