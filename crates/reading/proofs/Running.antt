-- A run of whole blocks: how far it reaches, by induction on what lies ahead, so that its numbers fit; and what it leaves.
-- Assumes nothing.
use Prim.Native.Nat.{ℕ, zero, suc, ◌+◌, ◌*◌, ◌^◌, ◌≤◌, ◌<◌, zero-le}
use native.Mathlib.Nat.{zero-mul, suc-mul}
use native.Mathlib.Omega.{arith}
use mathlib.Core.Path.{◌≡◌, refl, sym, ap, ◌∙◌}
use mathlib.Core.Bool.{Bool, true, false}
use mathlib.Core.List.{List, [], ◌∷◌}
use borrow.Author.Tests.{eqb-true}
use lib.Dec.{eqb}
use lib.ListN.{length, take, drop, length-append, length-drop, take-append-drop}
use lib.Seq.{take_all}
use Rattle.objects.specs.Object.{Object, filemark, block, bytes_in}
use Rattle.objects.proofs.Count.{bytes_append}
use Rattle.image.specs.Image.{count, sound, objects}
use Rattle.image.proofs.Facts.{sound_parts}
use Rattle.image.proofs.Objects.{length_objects, end_bytes}
use Rattle.record.specs.declared.drive.Drive.{Drive}
use Rattle.transfer.specs.declared.runs.Blocks.{Blocks}
use Rattle.objects.specs.Transfer.{odd_length, Run, halted, whole_before, run_of}
use Rattle.transfer.specs.Runs.{run_with}
use Rattle.deeds.specs.declared.deeds.Left.{Left}
use Rattle.commands.specs.Act.{Seen, carrying, read_run}
use Rattle.deeds.specs.Left.{left_by}

-- ---- how far a run reaches

record Reaches (b : ℕ) (xs : List Object) (r : Run) : Type 0 where
  pub many : length r.bytes ≡ r.blocks * b
  pub inside : length r.bytes ≤ bytes_in xs
  pub within : r.crossed ≤ length xs

reaches : (b n : ℕ) (xs : List Object) → Reaches b xs (run_of b n xs)
unfolding run_of bytes_in
reaches b zero xs = record { many = sym (zero-mul b); inside = zero-le; within = zero-le }
reaches b (suc n) [] = record { many = sym (zero-mul b); inside = zero-le; within = zero-le }
reaches b (suc n) (filemark ∷ xs) = record { many = sym (zero-mul b); inside = zero-le; within = omega arith }
reaches b (suc n) (block bs ∷ xs) = by (eqb (length bs) b) refl (reaches b n xs)
  where
    by : (t : Bool) → eqb (length bs) b ≡ t → Reaches b xs (run_of b n xs) → Reaches b (block bs ∷ xs) (elim t [ true ↦ whole_before bs (run_of b n xs) | false ↦ halted 1 odd_length ])
    by true q g = record {
      many = length-append bs (run_of b n xs).bytes ∙ omega (arith, eqb-true (length bs) b q, g.many, suc-mul (run_of b n xs).blocks b);
      inside = omega (arith, length-append bs (run_of b n xs).bytes, g.inside);
      within = omega (arith, g.within);
    }
    by false q g = record { many = sym (zero-mul b); inside = zero-le; within = omega arith }

-- what lies ahead of a position holds no more than the whole image
ahead_bytes : (s : List ℕ) → sound s ≡ true → (p : ℕ) → bytes_in (drop p (objects s)) ≤ length s
ahead_bytes s h p =
    let k = sound_parts s h in
    let a = bytes_append (take p (objects s)) (drop p (objects s)) in
    let e = ap bytes_in (take-append-drop p (objects s)) in
    let w = end_bytes s k (count s) (omega arith) in
    let t = ap bytes_in (take_all (count s) (objects s) (omega (arith, length_objects s))) in
    omega (arith, a, e, w, t, k.data_in, k.dir_is)

-- the bytes carried and the position after are numbers of 32 bits
module _ (s : List ℕ) (h : sound s ≡ true) (p b n : ℕ) (g : p ≤ count s) (r : Blocks) (e : run_with r (run_of b n (drop p (objects s))).bytes ≡ run_of b n (drop p (objects s))) where
  pub carried_fits : r.blocks * b < 2 ^ 32
  carried_fits =
      let k = sound_parts s h in
      let w = reaches b n (drop p (objects s)) in
      let q : r.blocks * b ≡ (run_of b n (drop p (objects s))).blocks * b = ap (λ (x : Run). x.blocks * b) e in
      omega (arith, q, w.many, w.inside, ahead_bytes s h p, k.most)

  pub place_fits : p + r.crossed < 2 ^ 32
  place_fits =
      let k = sound_parts s h in
      let w = reaches b n (drop p (objects s)) in
      let q : r.crossed ≡ (run_of b n (drop p (objects s))).crossed = ap (λ (x : Run). x.crossed) e in
      omega (arith, q, w.within, length-drop p (objects s), length_objects s, k.dir_is, k.most)

-- ---- what it leaves

pub run_left : (d : Drive) (v : Seen) (n b : ℕ) (xs : List Object) (run : Blocks) → run_with run (run_of b n xs).bytes ≡ run_of b n xs → (r : Left) → r ≡ left_by (carrying (run.blocks * b) (read_run d v n (run_with run []))) → r ≡ left_by (read_run d v n (run_of b n xs))
run_left d v n b xs run e r q =
    let k : run.blocks * b ≡ length (run_of b n xs).bytes = ap (λ (x : Run). x.blocks * b) e ∙ sym (reaches b n xs).many in
    q
    ∙ rw k refl
    ∙ ap (λ (x : Run). left_by (read_run d v n x)) e
