-- Blocks read one by one from an image, against the definition over what lies ahead: after k of them the run is k blocks, their
-- bytes, and the run from there on.
-- Assumes nothing.
use Prim.Native.Nat.{ℕ, suc, ◌+◌, ◌-◌, ◌*◌, ◌<◌, ◌≤◌}
use native.Mathlib.Nat.{zero-add, add-zero, zero-mul}
use native.Mathlib.Numerals.{add-one}
use native.Mathlib.Omega.{arith}
use mathlib.Core.Bool.{true, false}
use mathlib.Core.Path.{◌≡◌, refl, sym, ap, ◌∙◌, subst}
use mathlib.Core.List.{List, [], ◌∷◌, ◌++◌, append_assoc, append-nil}
use lib.ListN.{length, drop, length-append, drop_of_length-le}
use lib.Seq.{slice}
use borrow.Author.Tests.{eq-eqb, ne_eqb}
use Rattle.words.specs.Words.{over}
use Rattle.words.proofs.Laws.{length_over, over_over, over_nil}
use Rattle.objects.specs.Object.{Object, filemark, block}
use Rattle.image.specs.Image.{count, entry, top_bit, end_at, object_at, objects}
use Rattle.image.proofs.Objects.{length_objects, ahead_step}
use Rattle.objects.specs.Transfer.{Ended, whole, odd_length, at_filemark, at_end, Run, halted, whole_before, run_of}
use Rattle.objects.proofs.Fitting.{next_place, place_in}

-- ---- object i of a sound image

filemark_there : (s : List ℕ) (i : ℕ) → top_bit (entry s i) ≡ true → object_at s i ≡ filemark
unfolding object_at
filemark_there s i t = rw t refl

block_there : (s : List ℕ) (i : ℕ) → top_bit (entry s i) ≡ false → object_at s i ≡ block (slice (end_at s i) (end_at s (i + 1)) s)
unfolding object_at
block_there s i t = rw (t, add-one i) refl

-- ---- one step of the definition

run_whole : (b : ℕ) (xs : List Object) → run_of b 0 xs ≡ halted 0 whole
unfolding run_of
run_whole b xs = refl

run_end : (b m : ℕ) → run_of b (suc m) [] ≡ halted 0 at_end
unfolding run_of
run_end b m = refl

run_filemark : (b m : ℕ) (xs : List Object) → run_of b (suc m) (filemark ∷ xs) ≡ halted 1 at_filemark
unfolding run_of
run_filemark b m xs = refl

run_odd : (b m : ℕ) (bs : List ℕ) (xs : List Object) → (length bs ≡ b → ⊥) → run_of b (suc m) (block bs ∷ xs) ≡ halted 1 odd_length
unfolding run_of
run_odd b m bs xs h = rw (ne_eqb (length bs) b h, run_of) refl

run_more : (b m : ℕ) (bs : List ℕ) (xs : List Object) → length bs ≡ b → run_of b (suc m) (block bs ∷ xs) ≡ whole_before bs (run_of b m xs)
unfolding run_of
run_more b m bs xs h = rw (eq-eqb (length bs) b h, run_of) refl

-- ---- k blocks with the bytes bs before r

abbrev pub lead : ℕ → List ℕ → Run → Run
lead k bs r = record { blocks = k + r.blocks; bytes = bs ++ r.bytes; crossed = k + r.crossed; why = r.why }

lead_none : (r : Run) → r ≡ lead 0 [] r
lead_none r = λ i. record { blocks = sym (zero-add r.blocks) i; bytes = r.bytes; crossed = sym (zero-add r.crossed) i; why = r.why }

lead_one : (k : ℕ) (ys bs : List ℕ) (r : Run) → lead k ys (whole_before bs r) ≡ lead (k + 1) (ys ++ bs) r
lead_one k ys bs r =
    let e : k + suc r.blocks ≡ k + 1 + r.blocks = omega arith in
    let f : k + suc r.crossed ≡ k + 1 + r.crossed = omega arith in
    λ i. record { blocks = e i; bytes = sym (append_assoc ys bs r.bytes) i; crossed = f i; why = r.why }

-- ---- the loop: k blocks of n read, and r is what r₀ has become

pub record ReadOn (s : List ℕ) (p n b : ℕ) (r₀ : List ℕ) (k : ℕ) (r : List ℕ) : Type 0 where
  pub got : List ℕ
  pub there : p + k ≤ count s
  pub many : length got ≡ k * b
  pub same_length : length r ≡ length r₀
  pub held : r ≡ over r₀ 0 got
  pub same : run_of b n (drop p (objects s)) ≡ lead k got (run_of b (n - k) (drop (p + k) (objects s)))

-- what is told and carried at its end
pub record Read (x : Run) (k c : ℕ) (w : Ended) (r₀ r : List ℕ) : Type 0 where
  pub tells : record { blocks = k; bytes = x.bytes; crossed = c; why = w } ≡ x
  pub carried : r ≡ over r₀ 0 x.bytes

pub reads_begin : (s : List ℕ) (p n b : ℕ) (r₀ : List ℕ) → p ≤ count s → ReadOn s p n b r₀ 0 r₀
reads_begin s p n b r₀ h =
    let z : n - 0 ≡ n = omega arith in
    record {
      got = [];
      there = omega arith;
      many = sym (zero-mul b);
      same_length = refl;
      held = sym (over_nil r₀ 0);
      same = rw (z, add-zero p) (lead_none (run_of b n (drop p (objects s))));
    }

read_is : (x : Run) (k m : ℕ) (w : Ended) (got r₀ r : List ℕ) (c : ℕ) → x ≡ lead k got (halted m w) → r ≡ over r₀ 0 got → c ≡ k + m → Read x k c w r₀ r
read_is x k m w got r₀ r c e h q = rw e (record {
  tells = λ i. record { blocks = sym (add-zero k) i; bytes = got ++ []; crossed = q i; why = w };
  carried = h ∙ ap (over r₀ 0) (sym (append-nil got));
})

module _ (s : List ℕ) (p n b : ℕ) (r₀ : List ℕ) (k : ℕ) (r : List ℕ) (g : ReadOn s p n b r₀ k r) where
  pub reads_whole : k ≡ n → Read (run_of b n (drop p (objects s))) n n whole r₀ r
  reads_whole h =
      let z : n - k ≡ 0 = omega arith in
      subst (λ (m : ℕ). Read (run_of b n (drop p (objects s))) m m whole r₀ r) h
      (read_is _ k 0 whole g.got r₀ r k
      (g.same ∙ ap (λ (m : ℕ). lead k g.got (run_of b m (drop (p + k) (objects s)))) z ∙ ap (lead k g.got) (run_whole b (drop (p + k) (objects s))))
      g.held (omega arith))

  module _ (h : k < n) where
    -- the run from here on, by what lies ahead
    ahead : (xs : List Object) (x : Run) → drop (p + k) (objects s) ≡ xs → run_of b (suc (n - (k + 1))) xs ≡ x → run_of b n (drop p (objects s)) ≡ lead k g.got x
    ahead xs x e f =
        let z : n - k ≡ suc (n - (k + 1)) = omega arith in
        g.same ∙ ap (λ (m : ℕ). lead k g.got (run_of b m (drop (p + k) (objects s)))) z ∙ ap (λ (ys : List Object). lead k g.got (run_of b (suc (n - (k + 1))) ys)) e ∙ ap (lead k g.got) f

    pub reads_end : count s ≤ p + k → Read (run_of b n (drop p (objects s))) k k at_end r₀ r
    reads_end e =
        let d : drop (p + k) (objects s) ≡ [] = drop_of_length-le (objects s) {i = p + k} (omega (arith, length_objects s)) in
        read_is _ k 0 at_end g.got r₀ r k (ahead [] _ d (run_end b (n - (k + 1)))) g.held (omega arith)

    module _ (l : p + k < count s) where
      first : (o : Object) → object_at s (p + k) ≡ o → drop (p + k) (objects s) ≡ o ∷ drop (suc (p + k)) (objects s)
      first o e = ahead_step s (p + k) l ∙ ap (λ (x : Object). x ∷ drop (suc (p + k)) (objects s)) e

      pub reads_filemark : top_bit (entry s (p + k)) ≡ true → Read (run_of b n (drop p (objects s))) k (k + 1) at_filemark r₀ r
      reads_filemark t =
          read_is _ k 1 at_filemark g.got r₀ r (k + 1)
          (ahead _ _ (first filemark (filemark_there s (p + k) t)) (run_filemark b (n - (k + 1)) (drop (suc (p + k)) (objects s)))) g.held refl

      module _ (t : top_bit (entry s (p + k)) ≡ false) (bs : List ℕ) (e : bs ≡ slice (end_at s (p + k)) (end_at s (p + k + 1)) s) where
        there_is : object_at s (p + k) ≡ block bs
        there_is = block_there s (p + k) t ∙ ap block (sym e)

        pub reads_odd : (length bs ≡ b → ⊥) → Read (run_of b n (drop p (objects s))) k (k + 1) odd_length r₀ r
        reads_odd q =
            read_is _ k 1 odd_length g.got r₀ r (k + 1)
            (ahead _ _ (first (block bs) there_is) (run_odd b (n - (k + 1)) bs (drop (suc (p + k)) (objects s)) q)) g.held refl

        module _ (q : length bs ≡ b) (f : n * b ≤ length r₀) where
          room : k * b + length bs ≤ length r
          room = omega (arith, place_in n k b (length r₀) h f, g.same_length)

          pub reads_turn : ReadOn s p n b r₀ (k + 1) (over r (k * b) bs)
          reads_turn =
              let z : p + (k + 1) ≡ suc (p + k) = omega arith in
              record {
                got = g.got ++ bs;
                there = omega arith;
                many = length-append g.got bs ∙ omega (arith, next_place k b, g.many);
                same_length = length_over r (k * b) bs room ∙ g.same_length;
                held =
                    ap (λ (x : List ℕ). over x (k * b) bs) g.held
                    ∙ ap (λ (m : ℕ). over (over r₀ 0 g.got) m bs) (let e : k * b ≡ 0 + length g.got = omega (arith, g.many) in e)
                    ∙ over_over r₀ 0 g.got bs (omega (arith, room, g.many, g.same_length));
                same =
                    ahead _ _ (first (block bs) there_is) (run_more b (n - (k + 1)) bs (drop (suc (p + k)) (objects s)) q)
                    ∙ lead_one k g.got bs (run_of b (n - (k + 1)) (drop (suc (p + k)) (objects s)))
                    ∙ ap (λ (m : ℕ). lead (k + 1) (g.got ++ bs) (run_of b (n - (k + 1)) (drop m (objects s)))) (sym z);
              }
