-- What an iterator of the code's objects offers.
-- Assumes nothing: this is a definition.
use Rattle.std.specs.Prelude.{Option, List}
use Rattle.std.specs.Iterator.{AlwaysYields}
use Rattle.objects.specs.Object as O
use Rattle.changes.specs.declared.events.Object.{Object}
use Rattle.changes.specs.Object.{object_of}
use Rattle.changes.specs.Holdable.{AllHoldable}

-- calls of `next` from i give these objects, one after another, and then `None`; and a partition may hold each
abbrev pub Offers : {S : Type 0} → (S → Option Object → S → Type 0) → S → List O.Object → Type 0
Offers next_gives i list = AlwaysYields next_gives object_of i list × AllHoldable list
