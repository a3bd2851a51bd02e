-- What READ POSITION answers, in its two forms, from the image's numbers.
-- Assumes nothing.
use Prim.Native.Nat.{ℕ, ◌≤◌}
use mathlib.Core.Path.{◌≡◌, refl, ap, ◌∙◌}
use mathlib.Core.Bool.{Bool, true}
use mathlib.Core.List.{List, []}
use borrow.Author.Tests.{eq-eqb, ne_eqb}
use lib.ListN.{length, take}
use Rattle.words.specs.Words.{bytes, over}
use Rattle.objects.specs.Object.{filemarks_in}
use Rattle.image.specs.Image.{count, sound, zone, filemarks_before}
use Rattle.image.proofs.Objects.{filemarks_before_lem}
use Rattle.record.specs.declared.drive.Drive.{Drive}
use Rattle.codes.specs.declared.operation.Operation.TheVariants.{ReadPosition}
use Rattle.codes.specs.Fields.{form_of}
use Rattle.commands.specs.Parameters.{short_position, long_position}
use Rattle.deeds.specs.declared.deeds.Left.{Left}
use Rattle.commands.specs.Act.{Seen, carrying, good, zone_at, short_form, reply_of, act}
use Rattle.commands.specs.Call.{seen_of}
use Rattle.commands.proofs.Zone.{zone_seen}
use Rattle.deeds.specs.Left.{left_by}

short_length_lem : (p n : ℕ) (z : Bool) → length (short_position p n z) ≡ 20
unfolding short_position bytes
short_length_lem p n z = refl

long_length_lem : (p n : ℕ) (z : Bool) (m : ℕ) → length (long_position p n z m) ≡ 32
unfolding long_position bytes
long_length_lem p n z m = refl

-- the room that the reply of each form needs
module _ (d : Drive) (cmd : List ℕ) (v : Seen) (f : ℕ) (ef : f ≡ form_of cmd) where
  short_needs : f ≡ short_form → length (reply_of ReadPosition d cmd v) ≡ 20
  unfolding reply_of
  short_needs w = rw (← ef, eq-eqb f short_form w) (short_length_lem d.current d.position (zone_at v d.position))

  long_needs : (f ≡ short_form → ⊥) → length (reply_of ReadPosition d cmd v) ≡ 32
  unfolding reply_of
  long_needs w = rw (← ef, ne_eqb f short_form w) (long_length_lem d.current d.position (zone_at v d.position) (filemarks_in (take d.position v.objects)))

  module _ (l : ℕ) (g : length (reply_of ReadPosition d cmd v) ≤ l) where
    pub short_room : f ≡ short_form → 20 ≤ l
    short_room w = rw (← short_needs w) g

    pub long_room : (f ≡ short_form → ⊥) → 32 ≤ l
    long_room w = rw (← long_needs w) g

module _ (d : Drive) (cmd s : List ℕ) (h : sound s ≡ true) (g : d.position ≤ count s) (z : Bool) (ez : z ≡ zone s d.position) (f : ℕ) (ef : f ≡ form_of cmd) (b : List ℕ) where
  pub short_reply : f ≡ short_form → b ≡ short_position d.current d.position z → b ≡ reply_of ReadPosition d cmd (seen_of s)
  unfolding reply_of
  short_reply w q = q ∙ rw (← ef, eq-eqb f short_form w, ez, zone_seen s h d.position g) refl

  pub long_reply : (f ≡ short_form → ⊥) → (m : ℕ) → m ≡ filemarks_before s d.position → b ≡ long_position d.current d.position z m → b ≡ reply_of ReadPosition d cmd (seen_of s)
  unfolding reply_of seen_of
  long_reply w m em q = q ∙ rw (← ef, ne_eqb f short_form w, ez, zone_seen s h d.position g, em, filemarks_before_lem s d.position g) refl

module _ (d : Drive) (cmd s b : List ℕ) (e : b ≡ reply_of ReadPosition d cmd (seen_of s)) (p n : ℕ) (z : Bool) (r : Left) where
  pub short_left : b ≡ short_position p n z → r ≡ left_by (carrying 20 (good d)) → r ≡ left_by (act ReadPosition d cmd [] (seen_of s))
  unfolding act
  short_left q w = w ∙ rw (← e, q, short_length_lem p n z) refl

  pub long_left : (m : ℕ) → b ≡ long_position p n z m → r ≡ left_by (carrying 32 (good d)) → r ≡ left_by (act ReadPosition d cmd [] (seen_of s))
  unfolding act
  long_left m q w = w ∙ rw (← e, q, long_length_lem p n z m) refl

-- a reply a, made as b, is laid over the buffer
pub reply_laid : (a b s t : List ℕ) → b ≡ a → t ≡ over s 0 b → t ≡ over s 0 a
reply_laid a b s t e q = q ∙ ap (over s 0) e
