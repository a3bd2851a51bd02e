-- What the iterators of `put_filemarks` and `put_blocks` give: n filemarks, and n blocks of b bytes each of the bytes sent.
-- Assumes nothing.
use Rattle.std.specs.Fn.{Called}
use Rattle.std.specs.Iterator.{AlwaysYields}
use Rattle.std.specs.Iterator.Adapters.{repeat_n_item, repeat_n_count, repeat_n_steps, map_source, map_callee, map_steps}
use Rattle.std.specs.Slice.Iter.{chunks_exact_rest, chunks_exact_size, chunks_exact_steps}
use Rattle.std.specs.declared.iter.RepeatN.{RepeatN}
use Rattle.std.specs.declared.iter.Map.{Map}
use Rattle.std.specs.declared.slice.ChunksExact.{ChunksExact}
use Rattle.std.proofs.Common.{◌≡◌, ℕ, zero, suc, ◌+◌, ◌*◌, ◌≤◌, List, length, take, drop, Bor, arith, sym, ap, ◌∙◌, length-drop, length-append}
use Rattle.std.proofs.lemmas.List.{take_at, drop_at, take-take, drop-take, length-take-le}
use native.Mathlib.Nat.{suc-mul}
use denote.Param.Members.{Mut}
use Rattle.objects.specs.Object as O
use Rattle.objects.specs.Transfer.{blocks_of, marks_of}
use Rattle.changes.specs.declared.events.Object.{Object}
use Rattle.changes.specs.declared.events.Object.TheVariants.{Filemark}
use Rattle.changes.specs.Object.{object_of}

pub marks_yielded : (n : ℕ) (it : RepeatN Object) → repeat_n_item it ≡ Filemark → repeat_n_count it ≡ n → AlwaysYields (repeat_n_steps (λ x y. y ≡ x)) object_of it (marks_of n)
unfolding marks_of
marks_yielded zero it e h = λ x j st. omega (arith, st.1.1)
marks_yielded (suc n) it e h = (λ j st. omega (arith, st.1.0), λ x j st. (ap object_of (st.1.0 ∙ e), marks_yielded n j (st.0 ∙ e) (omega (arith, st.1.1))))

-- the callee is such that it makes a block of what it gets, and stays so
module _ {F : Type 0} (g : Mut F (Bor (List ℕ) × Unit {0}) Object) (b : ℕ) (good : F → Type 0) (makes : (f : F) (y : Bor (List ℕ)) (r : Object) (h : F) → good f → length y.now ≡ b → Called g f (y, tt) r h → good h × (object_of r ≡ O.block y.now)) where
  pub blocks_yielded : (n : ℕ) (x : List ℕ) (it : Map (ChunksExact ℕ) F) → good (map_callee it) → 1 ≤ b → chunks_exact_size (map_source it) ≡ b
      → chunks_exact_rest (map_source it) ≡ take (n * b) x → n * b ≤ length x → AlwaysYields (map_steps chunks_exact_steps g) object_of it (blocks_of b n x)
  unfolding blocks_of
  blocks_yielded zero x it e o z s h = λ r j st.
      let whole = ap length s ∙ length-take-le (zero * b) x h in
      let parts = ap length st.1.1.0 ∙ length-append st.0.now (chunks_exact_rest (map_source j)) in
      omega (arith, whole, parts, st.1.1.1, z, o)
  blocks_yielded (suc n) x it e o z s h =
      let m : suc n * b ≡ b + n * b = omega (arith, suc-mul n b) in
      let whole = ap length s ∙ length-take-le (suc n * b) x h in (
        λ j st. omega (arith, m, whole, st.0.1.0, z),
        λ r j (y, d, w).
            let l : length y.now ≡ b = d.1.1 ∙ z in
            let v = makes (map_callee it) y r (map_callee j) e l w in
            let a = ap (λ k. take k x) (sym m) ∙ sym s ∙ d.1.0 in
            let u = ap (drop b) a ∙ drop_at y.now _ b l in
            let t = sym (take-take b (b + n * b) x (omega arith)) ∙ ap (take b) a ∙ take_at y.now _ b l in (
              v.1 ∙ ap O.block (sym t),
              blocks_yielded n (drop b x) j v.0 o (d.0 ∙ z) (sym u ∙ drop-take b (n * b) x) (omega (arith, m, length-drop b x)),
            ),
      )
