-- What WRITE, WRITE FILEMARKS and ERASE leave, return by return: the objects that went down are those of the definition, and the zone that the image
-- shows after them is the one that the definition computes.
-- Assumes nothing.
use Prim.Native.Nat.{ℕ, ◌+◌, ◌*◌, ◌^◌, ◌<◌, ◌≤◌}
use native.Mathlib.Omega.{arith}
use mathlib.Core.Bool.{Bool, true, false, cond}
use mathlib.Core.Path.{◌≡◌, refl, sym, ap, ◌∙◌}
use mathlib.Core.List.{List, [], ◌∷◌}
use borrow.Author.Tests.{eq-eqb, ne_eqb}
use lib.Dec.{eqb}
use lib.IntN.{ℤ, sub_ℕ}
use lib.ListN.{length, take}
use Rattle.objects.specs.Object.{Object, block, bytes_in}
use Rattle.objects.specs.Events.{cut}
use Rattle.objects.specs.Room.{room_of, zone_in}
use Rattle.image.specs.Image.{count, end_at, room, zone, objects, sound}
use Rattle.changes.specs.Changes.{occur, occurs, cleared}
use Rattle.image.proofs.Facts.{sound_parts, sound_of}
use Rattle.image.proofs.Objects.{end_bytes}
use Rattle.record.specs.declared.drive.Drive.{Drive}
use Rattle.codes.specs.declared.operation.Operation.{Operation}
use Rattle.codes.specs.declared.operation.Operation.TheVariants.{Write, WriteFilemarks, Erase}
use Rattle.codes.specs.Fields.{fixed_of, transfer_of, long_of}
use Rattle.sense.specs.declared.Sense.{Sense}
use Rattle.objects.specs.Transfer.{blocks_of, marks_of, fitting, put_from}
use Rattle.changes.specs.Holdable.{AllHoldable}
use Rattle.changes.proofs.Down.{Down, down, down_inside, marks_kept}
use Rattle.deeds.specs.declared.deeds.Left.{Left}
use Rattle.commands.specs.Act.{Deed, carrying, checked, good, at, warned, overflowed, offered, goes_down, wrote, writing, marking, events_of}
use Rattle.commands.specs.Step.{acted}
use Rattle.commands.specs.Call.{seen_of, laid_out}
use Rattle.deeds.specs.Left.{left_by}

-- ---- what the numbers tell, of the partition t after the objects

-- of n objects asked for, m went down at the position of d; z is the residue where not all did
abbrev pub ended : Drive → List ℕ → ℕ → ℕ → ℤ → Deed
ended d t n m z =
    cond (eqb m n)
    (cond (zone t (d.position + m)) (checked (at d (d.position + m)) warned) (good (at d (d.position + m))))
    (checked (at d (d.position + m)) (overflowed z))

-- it carries nothing of its own
bare : (d : Drive) (t : List ℕ) (n m : ℕ) (z : ℤ) → left_by (carrying 0 (ended d t n m z)) ≡ left_by (ended d t n m z)
bare d t n m z = go (eqb m n) (zone t (d.position + m))
  where
    go : (a b : Bool)
        → left_by (carrying 0 (cond a (cond b (checked (at d (d.position + m)) warned) (good (at d (d.position + m)))) (checked (at d (d.position + m)) (overflowed z))))
        ≡ left_by (cond a (cond b (checked (at d (d.position + m)) warned) (good (at d (d.position + m)))) (checked (at d (d.position + m)) (overflowed z)))
    go true true = refl
    go true false = refl
    go false b = refl

module _ (d e : Drive) (t : List ℕ) (n m k : ℕ) (z : ℤ) (r : Left) (ee : e ≡ at d (d.position + m)) where
  pub told_short : (m ≡ n → ⊥) → (x : Sense) → x ≡ overflowed z → r ≡ left_by (carrying k (checked e x)) → r ≡ left_by (carrying k (ended d t n m z))
  told_short h x ex q = q ∙ rw (ne_eqb m n h, ee, ex) refl

  module _ (h : m ≡ n) (b : Bool) (eb : b ≡ zone t (d.position + m)) where
    pub told_zone : b ≡ true → (x : Sense) → x ≡ warned → r ≡ left_by (carrying k (checked e x)) → r ≡ left_by (carrying k (ended d t n m z))
    told_zone hb x ex q = q ∙ rw (eq-eqb m n h, ← eb, hb, ee, ex) refl

    pub told_good : b ≡ false → r ≡ left_by (carrying k (good e)) → r ≡ left_by (carrying k (ended d t n m z))
    told_good hb q = q ∙ rw (eq-eqb m n h, ← eb, hb, ee) refl

-- ---- against the definition

module _ (d : Drive) (s : List ℕ) (k : sound s ≡ true) (h : d.position ≤ count s) where
  -- those of the objects os that go down
  abbrev pub gone : List Object → List Object
  gone os = fitting (length s) d.position (end_at s d.position) os

  goes_down_lem : (o : Operation) (cmd sent : List ℕ) → goes_down o d cmd sent (seen_of s) ≡ gone (offered o d cmd sent)
  unfolding goes_down seen_of
  goes_down_lem o cmd sent = rw (← end_bytes s (sound_parts s k) d.position h) refl

  zone_after : (os : List Object) → Down d.position os s → zone (occurs (put_from d.position os) s) (d.position + length os) ≡ zone_in (length s) (room_of (length s) (d.position + length os) (bytes_in (take d.position (objects s)) + bytes_in os))
  unfolding zone room
  zone_after os w = rw (w.same_length, w.end, end_bytes s (sound_parts s k) d.position h) refl

  ended_is : (os : List Object) → Down d.position os s → (t : List ℕ) → t ≡ occurs (put_from d.position os) s → (n m : ℕ) → m ≡ length os → (z : ℤ) → ended d t n m z ≡ wrote d (seen_of s) n os z
  unfolding wrote seen_of
  ended_is os w t et n m em z = rw (em, et, zone_after os w) refl

  module _ (os : List Object) (a : AllHoldable os) (t : List ℕ) (et : t ≡ occurs (put_from d.position (gone os)) s) (m : ℕ) (em : m ≡ length (gone os)) where
    went : Down d.position (gone os) s
    went = down os d.position s (sound_parts s k) h a

    -- what the code's call of `wrote` requires
    pub stands : (sound t ≡ true) × (d.position + m ≤ count t)
    stands = (rw et (sound_of (occurs (put_from d.position (gone os)) s) went.right), rw (em, et) went.there)

    pub inside : (b : ℕ) → bytes_in (gone os) ≡ length (gone os) * b → m * b < 2 ^ 32
    inside b e =
        let w = down_inside d.position (gone os) s went in
        let q : m * b ≡ bytes_in (gone os) = ap (λ (x : ℕ). x * b) em ∙ sym e in
        omega (arith, (sound_parts s k).most)

  module _ (cmd sent : List ℕ) (n : ℕ) (en : n ≡ transfer_of cmd) (r : Left) where
    pub nothing_written : n ≡ 0 → r ≡ left_by (carrying 0 (good d)) → r ≡ left_by (writing d cmd sent (seen_of s))
    unfolding writing
    nothing_written z q = q ∙ rw (← en, eq-eqb n 0 z) refl

    none_offered : n ≡ 0 → offered Write d cmd sent ≡ []
    unfolding offered blocks_of
    none_offered z = rw (← en, z) (both (fixed_of cmd))
      where
        both : (f : Bool) → cond f (blocks_of d.block_length 0 sent) (cond (eqb 0 0) [] (block (take 0 sent) ∷ [])) ≡ []
        both true = refl
        both false = refl

    pub no_events : n ≡ 0 → s ≡ occurs (events_of Write d cmd sent (seen_of s)) s
    unfolding events_of fitting put_from occurs
    no_events z = sym (ap (λ (os : List Object). occurs (put_from d.position os) s) (goes_down_lem Write cmd sent ∙ ap gone (none_offered z)))

    -- the objects os were offered, and m of them went down, to leave t
    module _ (z : n ≡ 0 → ⊥) (os : List Object) (eo : offered Write d cmd sent ≡ os) (a : AllHoldable os) (b : ℕ) (eb : bytes_in (gone os) ≡ length (gone os) * b)
        (t : List ℕ) (et : t ≡ occurs (put_from d.position (gone os)) s) (m : ℕ) (em : m ≡ length (gone os)) where
      pub events_written : t ≡ occurs (events_of Write d cmd sent (seen_of s)) s
      unfolding events_of
      events_written = et ∙ ap (λ (xs : List Object). occurs (put_from d.position xs) s) (sym (goes_down_lem Write cmd sent ∙ ap gone eo))

      down_here : goes_down Write d cmd sent (seen_of s) ≡ gone os
      down_here = goes_down_lem Write cmd sent ∙ ap gone eo

      carried_here : m * b ≡ bytes_in (gone os)
      carried_here = ap (λ (x : ℕ). x * b) em ∙ sym eb

      pub blocks_written : fixed_of cmd ≡ true → r ≡ left_by (carrying (m * b) (ended d t n m (sub_ℕ n m))) → r ≡ left_by (writing d cmd sent (seen_of s))
      unfolding writing
      blocks_written f q = q ∙ rw (← en, ne_eqb n 0 z, f, down_here, ← ended_is (gone os) (went os a t et m em) t et n m em (sub_ℕ n (length (gone os))), ← em, carried_here) refl

      pub block_written : fixed_of cmd ≡ false → r ≡ left_by (carrying (m * b) (ended d t 1 m (sub_ℕ n (m * b)))) → r ≡ left_by (writing d cmd sent (seen_of s))
      unfolding writing
      block_written f q = q ∙ rw (← en, ne_eqb n 0 z, f, down_here, ← ended_is (gone os) (went os a t et m em) t et 1 m em (sub_ℕ n (bytes_in (gone os))), carried_here) refl

    -- ---- the fields

    pub fixed_offered : fixed_of cmd ≡ true → offered Write d cmd sent ≡ blocks_of d.block_length n sent
    unfolding offered
    fixed_offered f = rw (f, en) refl

    pub one_offered : fixed_of cmd ≡ false → (n ≡ 0 → ⊥) → offered Write d cmd sent ≡ blocks_of n 1 sent
    unfolding offered blocks_of
    one_offered f z = rw (f, ← en, ne_eqb n 0 z) refl

  -- ---- WRITE FILEMARKS

  module _ (cmd : List ℕ) (n : ℕ) (en : n ≡ transfer_of cmd) (r : Left) where
    marks_down : goes_down WriteFilemarks d cmd [] (seen_of s) ≡ gone (marks_of n)
    unfolding offered
    marks_down = goes_down_lem WriteFilemarks cmd [] ∙ ap (λ (x : ℕ). gone (marks_of x)) (sym en)

    pub nothing_marked : n ≡ 0 → r ≡ left_by (carrying 0 (good d)) → r ≡ left_by (marking d cmd [] (seen_of s))
    unfolding marking
    nothing_marked z q = q ∙ rw (← en, eq-eqb n 0 z) refl

    module _ (t : List ℕ) (et : t ≡ occurs (put_from d.position (gone (marks_of n))) s) where
      pub events_marked : t ≡ occurs (events_of WriteFilemarks d cmd [] (seen_of s)) s
      unfolding events_of
      events_marked = et ∙ ap (λ (xs : List Object). occurs (put_from d.position xs) s) (sym marks_down)

      pub marked : (n ≡ 0 → ⊥) → (m : ℕ) → m ≡ length (gone (marks_of n)) → r ≡ left_by (carrying 0 (ended d t n m (sub_ℕ n m))) → r ≡ left_by (marking d cmd [] (seen_of s))
      unfolding marking
      marked z m em q = q ∙ bare d t n m (sub_ℕ n m) ∙ rw (← en, ne_eqb n 0 z, marks_down, ← ended_is (gone (marks_of n)) (went (marks_of n) (marks_kept n) t et m em) t et n m em (sub_ℕ n (length (gone (marks_of n)))), ← em) refl

    pub no_marks : n ≡ 0 → s ≡ occurs (events_of WriteFilemarks d cmd [] (seen_of s)) s
    unfolding events_of fitting put_from occurs marks_of
    no_marks z = sym (ap (λ (os : List Object). occurs (put_from d.position os) s) (marks_down ∙ ap (λ (x : ℕ). gone (marks_of x)) z))

-- ---- ERASE

module _ (d : Drive) (cmd s t : List ℕ) (b : Bool) (eb : b ≡ long_of cmd) where
  pub erased : b ≡ false → t ≡ occur (cut d.position) s → t ≡ laid_out (acted Erase d cmd [] (seen_of s)) s
  unfolding laid_out acted events_of occurs
  erased h e = e ∙ rw (← eb, h) refl

  pub erased_long : b ≡ true → t ≡ cleared (occur (cut d.position) s) → t ≡ laid_out (acted Erase d cmd [] (seen_of s)) s
  unfolding laid_out acted events_of occurs
  erased_long h e = e ∙ rw (← eb, h) refl
