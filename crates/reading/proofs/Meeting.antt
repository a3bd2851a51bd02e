-- What a READ without FIXED meets at the position, and what it then leaves; and which of the two READs is done.
-- Assumes nothing.
use Prim.Native.Nat.{ℕ, ◌+◌, ◌^◌, ◌≤◌, ◌<◌}
use native.Mathlib.Omega.{arith}
use native.Mathlib.Numerals.{add-one}
use mathlib.Core.Path.{◌≡◌, refl, sym, ap, ◌∙◌}
use mathlib.Core.Bool.{Bool, true, false}
use mathlib.Core.Option.{some}
use mathlib.Core.List.{List}
use borrow.Author.Tests.{eq-eqb, ne_eqb}
use lib.IntN.{sub_ℕ}
use lib.ListN.{length, take, drop, get_elem?}
use lib.Seq.{slice, length-slice}
use Rattle.words.specs.Words.{over}
use Rattle.words.proofs.Laws.{over_nil}
use Rattle.sense.specs.declared.Sense.{Sense}
use Rattle.objects.specs.Object.{filemark, block}
use Rattle.objects.proofs.Residue.{all_left}
use Rattle.image.specs.Image.{count, entry, top_bit, end_at, object_at, objects, sound}
use Rattle.image.proofs.Objects.{object_there, object_past}
use Rattle.record.specs.declared.drive.Drive.{Drive}
use Rattle.codes.specs.Fields.{fixed_of, transfer_of}
use Rattle.deeds.specs.declared.deeds.Left.{Left}
use Rattle.image.proofs.Facts.{end_lt}
use Rattle.image.proofs.Lies.{lies}
use Rattle.objects.specs.Transfer.{run_of}
use Rattle.commands.specs.Act.{Seen, carrying, good, checked, at, filemark_met, end_met, read_block, read_variable, read_run, reading}
use Rattle.commands.specs.Call.{seen_of}
use Rattle.deeds.specs.Left.{left_by}

-- ---- what lies at a position

filemark_there : (s : List ℕ) (p : ℕ) → p < count s → top_bit (entry s p) ≡ true → get_elem? (objects s) p ≡ some filemark
unfolding object_at
filemark_there s p h t = object_there s p h ∙ rw t refl

block_there : (s : List ℕ) (p : ℕ) (bs : List ℕ) → p < count s → top_bit (entry s p) ≡ false → bs ≡ slice (end_at s p) (end_at s (p + 1)) s → get_elem? (objects s) p ≡ some (block bs)
unfolding object_at
block_there s p bs h t e = object_there s p h ∙ rw (t, e, add-one p) refl

-- no block is longer than 32 bits hold
pub block_small : (s : List ℕ) → sound s ≡ true → (p : ℕ) → p < count s → (bs : List ℕ) → bs ≡ slice (end_at s p) (end_at s (p + 1)) s → length bs < 2 ^ 32
block_small s k p h bs e = let o = lies s k p h in omega (arith, ap length e, length-slice (end_at s p) (end_at s (p + 1)) s o.inside, end_lt s (p + 1))

module _ (d : Drive) (cmd s x : List ℕ) (n : ℕ) (v : Seen) (en : n ≡ transfer_of cmd) (r : Left) where
  pub meets_end : count s ≤ d.position → (t : Sense) → t ≡ end_met v (sub_ℕ n 0) → r ≡ left_by (carrying 0 (checked d t)) → (r ≡ left_by (read_variable d cmd v (get_elem? (objects s) d.position))) × (x ≡ over x 0 (read_variable d cmd v (get_elem? (objects s) d.position)).received)
  unfolding read_variable
  meets_end h t et q = rw (object_past s d.position h) (q ∙ rw (et, all_left n, en) refl, sym (over_nil x 0))

  module _ (h : d.position < count s) where
    pub meets_filemark : top_bit (entry s d.position) ≡ true → (e : Drive) → e ≡ at d (d.position + 1) → (t : Sense) → t ≡ filemark_met (sub_ℕ n 0) → r ≡ left_by (carrying 0 (checked e t)) → (r ≡ left_by (read_variable d cmd v (get_elem? (objects s) d.position))) × (x ≡ over x 0 (read_variable d cmd v (get_elem? (objects s) d.position)).received)
    unfolding read_variable
    meets_filemark hm e a t et q = rw (filemark_there s d.position h hm) (q ∙ rw (a, et, all_left n, en, add-one d.position) refl, sym (over_nil x 0))

    pub meets_block : top_bit (entry s d.position) ≡ false → (bs : List ℕ) → bs ≡ slice (end_at s d.position) (end_at s (d.position + 1)) s → (y : List ℕ) → (r ≡ left_by (read_block d cmd bs)) × (y ≡ over x 0 (take n bs)) → (r ≡ left_by (read_variable d cmd v (get_elem? (objects s) d.position))) × (y ≡ over x 0 (read_variable d cmd v (get_elem? (objects s) d.position)).received)
    unfolding read_variable
    meets_block hm bs e y q = rw (block_there s d.position bs h hm e) (q.0, q.1 ∙ rw en refl)

-- ---- which READ it is: n is the length asked for

module _ (d : Drive) (cmd s x : List ℕ) (n : ℕ) (en : n ≡ transfer_of cmd) (r : Left) where
  pub reads_none : n ≡ 0 → r ≡ left_by (carrying 0 (good d)) → (r ≡ left_by (reading d cmd (seen_of s))) × (x ≡ over x 0 (reading d cmd (seen_of s)).received)
  unfolding reading
  reads_none h q = rw (← en, eq-eqb n 0 h) (q, sym (over_nil x 0))

module _ (d : Drive) (cmd : List ℕ) (n : ℕ) (en : n ≡ transfer_of cmd) (t : Bool) (et : t ≡ fixed_of cmd) where
  module _ (s : List ℕ) (z : n ≡ 0 → ⊥) where
    pub reads_fixed : t ≡ true → reading d cmd (seen_of s) ≡ read_run d (seen_of s) n (run_of d.block_length n (drop d.position (objects s)))
    unfolding reading seen_of
    reads_fixed h = rw (← en, ne_eqb n 0 z, ← et, h) refl

    pub reads_variable : t ≡ false → reading d cmd (seen_of s) ≡ read_variable d cmd (seen_of s) (get_elem? (objects s) d.position)
    unfolding reading seen_of
    reads_variable h = rw (← en, ne_eqb n 0 z, ← et, h) refl
