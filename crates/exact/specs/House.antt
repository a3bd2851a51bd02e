-- The conditions under which a house service is refused, as 01's table says them, and how far a mount comes by its order. That the answers are given
-- exactly under them: proofs/House.antt.
-- Assumes nothing: these are definitions.
use Rattle.std.specs.Prelude.{ℕ, ◌<◌, ◌≡◌, ◌≢◌, ◌⊎◌, List, length}
use Rattle.std.proofs.Math.Option.{none, some}
use Rattle.std.proofs.Math.ListN.{get_elem?}
use Rattle.objects.specs.Object.{filemark}
use Rattle.image.specs.Image.{least_length, most_length, objects}
use Rattle.record.specs.Record.{decode_of}
use Rattle.commands.specs.Conditions.{Empty, RecordWrong, Unsound}

-- 7: "length outside 64 to 1,073,741,824"
abbrev pub LengthOutside : List ℕ → Type 0
LengthOutside s = (length s < least_length) ⊎ (most_length < length s)

-- "(mount: an empty second slice is absent)"
abbrev pub LentOutside : List ℕ → List ℕ → Type 0
LentOutside p0 p1 = LengthOutside p0 ⊎ (¬ Empty p1 × LengthOutside p1)

-- 5: "mount while loaded"
abbrev pub AlreadyLoaded : List ℕ → Type 0
AlreadyLoaded rec = (decode_of rec).loaded ≡ 1

-- "Mount tests 4 (record only), 5, then 7 for both slices, then 6.": it comes as far as each
abbrev pub Mount5 : List ℕ → Type 0
Mount5 rec = ¬ RecordWrong rec

abbrev pub Mount7 : List ℕ → Type 0
Mount7 rec = Mount5 rec × ¬ AlreadyLoaded rec

abbrev pub Mount6 : List ℕ → List ℕ → List ℕ → Type 0
Mount6 rec p0 p1 = Mount7 rec × ¬ LentOutside p0 p1

-- the view of partition k's object i: "Named slice unsound, no such object or a filemark: the empty part. Partition numbers are 0 and 1; others give
-- the empty part."
abbrev pub NoBlock : List ℕ → ℕ → Type 0
NoBlock s i = Unsound s ⊎ ((get_elem? (objects s) i ≡ none) ⊎ (get_elem? (objects s) i ≡ some filemark))

abbrev pub NothingToView : List ℕ → List ℕ → ℕ → ℕ → Type 0
NothingToView p0 p1 k i = ((k ≡ 0) × NoBlock p0 i) ⊎ (((k ≡ 1) × NoBlock p1 i) ⊎ ((k ≢ 0) × (k ≢ 1)))
