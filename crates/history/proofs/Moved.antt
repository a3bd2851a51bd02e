-- Where each command leaves the drive: well formed, at a position of the partition that is then current.
-- Assumes nothing.
use Prim.Native.Nat.{ℕ, zero, suc, ◌+◌, ◌≤◌, ◌<◌, zero-le}
use native.Mathlib.Omega.{arith}
use mathlib.Core.Path.{◌≡◌, refl}
use mathlib.Core.Bool.{Bool, true, false, cond, ◌&&◌, ◌||◌}
use mathlib.Core.Option.{Option, none, some}
use mathlib.Core.List.{List, [], ◌∷◌}
use borrow.Author.Tests.{leb-true, eqb-true}
use lib.Dec.{eqb, leb}
use lib.IntN.{ℤ}
use lib.ListN.{length, drop, get_elem?, length-drop}
use Rattle.words.specs.Words.{be}
use Rattle.sense.specs.Sense.{illegal_request, plainly}
use Rattle.objects.specs.Object.{Object, filemark, block, largest_block}
use Rattle.objects.specs.Movement as M
use Rattle.objects.proofs.Walk.{went, went_end, went_there}
use Rattle.image.specs.Image.{count}
use Rattle.image.proofs.Facts.{Sound}
use Rattle.record.specs.declared.drive.Drive.{Drive}
use Rattle.record.specs.Record.{loaded_anew, unloaded}
use Rattle.codes.specs.Fields.{fixed_of, transfer_of, allocation_of, load_of}
use Rattle.objects.specs.Transfer.{Run, run_of, whole_before, halted, odd_length}
use Rattle.commands.specs.Parameters.{whole_length, header_length, header_right, descriptor_right, list_right, new_length}
use Rattle.commands.specs.Act.{Seen, Deed, good, checked, carrying, at, at_partition, with_length, hidden, reading, read_variable, movement, spacing, over_blocks, to_end, locating, selecting}
use Rattle.commands.specs.Call.{partition}
use Rattle.history.proofs.Lists.{get_lt}
use Rattle.commands.proofs.Faultless.{Cart, no_cart, one_part, two_parts, Well, inside}

-- ---- the cartridge of a drive that moved

-- f turned the current partition, and n is a position there
pub moved_cart : (d : Drive) (p0 p1 : List ℕ) (f : List ℕ → List ℕ) (n : ℕ) → Cart d p0 p1 → (d.loaded ≡ 0 → ⊥) → Sound (f (partition d.current p0 p1)) → n ≤ count (f (partition d.current p0 p1))
    → Cart (at d n) (cond (eqb d.current 1) p0 (f p0)) (cond (eqb d.current 1) (f p1) p1)
moved_cart d p0 p1 f n (no_cart a b c e) l k h = absurd (l a)
moved_cart d p0 p1 f n (one_part a b c s e g) l k h = one_part a b c (rw c (rw c at k)) (rw c e) (rw c (rw c at h))
moved_cart d p0 p1 f n (two_parts a b c s t g) l k h = let x = go (eqb d.current 1) k h in two_parts a b c x.0 x.1 x.2
  where
    go : (z : Bool) → Sound (f (cond z p1 p0)) → n ≤ count (f (cond z p1 p0)) → Sound (cond z p0 (f p0)) × Sound (cond z (f p1) p1) × (n ≤ count (cond z (cond z (f p1) p1) (cond z p0 (f p0))))
    go true k h = (s, k, h)
    go false k h = (k, t, h)

-- another position of the same partition, and one of another
pub placed_cart : (d : Drive) (p0 p1 : List ℕ) (k n : ℕ) → Cart d p0 p1 → (d.loaded ≡ 0 → ⊥) → k < d.partitions → n ≤ count (partition k p0 p1) → Cart (at_partition d k n) p0 p1
placed_cart d p0 p1 k n (no_cart a b c e) l h g = absurd (l a)
placed_cart d p0 p1 k n (one_part a b c s e f) l h g = one_part a b (omega arith) s e g
placed_cart d p0 p1 k n (two_parts a b c s t f) l h g = two_parts a b (omega arith) s t g

pub current_in : (d : Drive) (p0 p1 : List ℕ) → Cart d p0 p1 → (d.loaded ≡ 0 → ⊥) → d.current < d.partitions
current_in d p0 p1 (no_cart a b c e) l = absurd (l a)
current_in d p0 p1 (one_part a b c s e f) l = omega arith
current_in d p0 p1 (two_parts a b c s t f) l = omega arith

pub placed_well : (d : Drive) (p0 p1 : List ℕ) (k n : ℕ) → Well d p0 p1 → (d.loaded ≡ 0 → ⊥) → k < d.partitions → n ≤ count (partition k p0 p1) → Well (at_partition d k n) p0 p1
placed_well d p0 p1 k n w l h g = record { attention = w.attention; small = w.small; cart = placed_cart d p0 p1 k n w.cart l h g }

pub moved_well : (d : Drive) (p0 p1 : List ℕ) (n : ℕ) → Well d p0 p1 → (d.loaded ≡ 0 → ⊥) → n ≤ count (partition d.current p0 p1) → Well (at d n) p0 p1
moved_well d p0 p1 n w l g = placed_well d p0 p1 d.current n w l (current_in d p0 p1 w.cart l) g

-- ---- LOAD UNLOAD

pub loaded_well : (d : Drive) (p0 p1 cmd : List ℕ) → Well d p0 p1 → (d.loaded ≡ 0 → ⊥) → Well (cond (load_of cmd) (loaded_anew d) (unloaded d)) p0 p1
unfolding loaded_anew unloaded
loaded_well d p0 p1 cmd w l = go (load_of cmd) w.cart
  where
    go : (t : Bool) → Cart d p0 p1 → Well (cond t (loaded_anew d) (unloaded d)) p0 p1
    go false c = record { attention = w.attention; small = w.small; cart = no_cart refl refl refl refl }
    go true (no_cart a b c e) = absurd (l a)
    go true (one_part a b c s e f) = record { attention = w.attention; small = w.small; cart = one_part a b refl s e zero-le }
    go true (two_parts a b c s t f) = record { attention = w.attention; small = w.small; cart = two_parts a b (omega arith) s t zero-le }

-- ---- MODE SELECT

length_cart : (d : Drive) (p0 p1 : List ℕ) (n : ℕ) → Cart d p0 p1 → Cart (with_length d n) p0 p1
length_cart d p0 p1 n (no_cart a b c e) = no_cart a b c e
length_cart d p0 p1 n (one_part a b c s e f) = one_part a b c s e f
length_cart d p0 p1 n (two_parts a b c s t f) = two_parts a b c s t f

pub selected_well : (d : Drive) (p0 p1 cmd sent : List ℕ) → Well d p0 p1 → Well (selecting d cmd sent).drive p0 p1
unfolding selecting list_right descriptor_right
selected_well d p0 p1 cmd sent w = go (eqb (allocation_of cmd) 0) (header_right (allocation_of cmd) sent) (eqb (allocation_of cmd) whole_length) (leb (new_length sent) largest_block) refl
  where
    go : (a h b s : Bool) → leb (new_length sent) largest_block ≡ s
        → Well (cond a (good d) (cond (h && cond b (eqb (be 4 sent 4) 0 && s) (eqb (allocation_of cmd) header_length)) (carrying (allocation_of cmd) (good (cond b (with_length d (new_length sent)) d))) (checked d (plainly illegal_request 0x26 0x00)))).drive p0 p1
    go true h b s e = w
    go false false b s e = w
    go false true false s e = same (eqb (allocation_of cmd) header_length)
      where
        same : (t : Bool) → Well (cond t (carrying (allocation_of cmd) (good d)) (checked d (plainly illegal_request 0x26 0x00))).drive p0 p1
        same true = w
        same false = w
    go false true true false e = same (eqb (be 4 sent 4) 0)
      where
        same : (t : Bool) → Well (cond (t && false) (carrying (allocation_of cmd) (good (with_length d (new_length sent)))) (checked d (plainly illegal_request 0x26 0x00))).drive p0 p1
        same true = w
        same false = w
    go false true true true e = new (eqb (be 4 sent 4) 0)
      where
        new : (t : Bool) → Well (cond (t && true) (carrying (allocation_of cmd) (good (with_length d (new_length sent)))) (checked d (plainly illegal_request 0x26 0x00))).drive p0 p1
        new true = record { attention = w.attention; small = leb-true (new_length sent) largest_block e; cart = length_cart d p0 p1 (new_length sent) w.cart }
        new false = w

-- ---- READ and SPACE: a position not above n

pub record Moves (d : Drive) (n : ℕ) (e : Drive) : Type 0 where
  pub to : ℕ
  pub is : e ≡ at d to
  pub within : to ≤ n

either_moves : (d : Drive) (n : ℕ) (t : Bool) (x y : Deed) → Moves d n x.drive → Moves d n y.drive → Moves d n (cond t x y).drive
either_moves d n true x y h k = h
either_moves d n false x y h k = k

run_within : (b n : ℕ) (xs : List Object) → (run_of b n xs).crossed ≤ length xs
unfolding run_of
run_within b zero xs = zero-le
run_within b (suc n) [] = zero-le
run_within b (suc n) (filemark ∷ xs) = omega arith
run_within b (suc n) (block bs ∷ xs) = go (eqb (length bs) b) (run_within b n xs)
  where
    go : (t : Bool) → (run_of b n xs).crossed ≤ length xs → (elim t as (λ x. Run) [ true ↦ whole_before bs (run_of b n xs) | false ↦ halted 1 odd_length ]).crossed ≤ suc (length xs)
    go true h = omega arith
    go false h = omega arith

pub reading_moves : (d : Drive) (cmd : List ℕ) (v : Seen) → d.position ≤ length v.objects → Moves d (length v.objects) (reading d cmd v).drive
unfolding reading read_variable
reading_moves d cmd v h =
    either_moves d _ (eqb (transfer_of cmd) 0) _ _ (record { to = d.position; is = refl; within = h })
    (either_moves d _ (fixed_of cmd) _ _
    (record {
      to = d.position + (run_of d.block_length (transfer_of cmd) (drop d.position v.objects)).crossed;
      is = refl;
      within = omega (arith, run_within d.block_length (transfer_of cmd) (drop d.position v.objects), length-drop d.position v.objects);
    })
    (go (get_elem? v.objects d.position) refl))
  where
    go : (x : Option Object) → get_elem? v.objects d.position ≡ x → Moves d (length v.objects) (read_variable d cmd v x).drive
    go none e = record { to = d.position; is = refl; within = h }
    go (some filemark) e = record { to = suc d.position; is = refl; within = get_lt v.objects d.position filemark e }
    go (some (block bs)) e =
        let m : Moves d (length v.objects) (at d (suc d.position)) = record { to = suc d.position; is = refl; within = get_lt v.objects d.position (block bs) e } in
        either_moves d _ (eqb (length bs) (transfer_of cmd) || hidden d cmd (length bs)) _ _ m m

pub spacing_moves : (d : Drive) (code : ℕ) (k : ℤ) (v : Seen) → d.position ≤ length v.objects → Moves d (length v.objects) (spacing d code k v).drive
unfolding spacing movement
spacing_moves d code k v h = record { to = (movement code k d.position v.objects).to; is = refl; within = go (eqb code to_end) }
  where
    go : (t : Bool) → (cond t (M.to_end_of_data d.position v.objects) (M.space (cond (eqb code over_blocks) M.blocks M.filemarks) k d.position v.objects)).to ≤ length v.objects
    go true = (went_end d.position v.objects h).stays
    go false = (went (cond (eqb code over_blocks) M.blocks M.filemarks) k d.position v.objects h).stays

-- ---- LOCATE

pub located_well : (d : Drive) (p0 p1 : List ℕ) (k : ℕ) (t : M.Destination) (v : Seen) → Well d p0 p1 → (d.loaded ≡ 0 → ⊥) → k < d.partitions → length v.objects ≡ count (partition k p0 p1) → Well (locating d k t v).drive p0 p1
unfolding locating
located_well d p0 p1 k t v w l h e = placed_well d p0 p1 k _ w l h (omega (arith, e, (went_there t _ v.objects (from (eqb k d.current) refl)).stays))
  where
    from : (b : Bool) → eqb k d.current ≡ b → cond b d.position 0 ≤ length v.objects
    from true q = rw (e, eqb-true k d.current q) (inside d p0 p1 w.cart l).place
    from false q = zero-le
