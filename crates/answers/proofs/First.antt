-- Of a list of tests, which is the first that holds, said as a fact; that `first` says just that; and when a test stands for a condition.
-- Assumes nothing.
use Prim.Native.Nat.{ℕ, zero, suc, ◌<◌, ◌≤◌}
use mathlib.Core.Path.{◌≡◌, refl, sym, subst, ◌∙◌}
use mathlib.Core.Logic.{◌↔◌, ◌⊎◌, inl, inr}
use mathlib.Core.Bool.{Bool, true, false, cond, not, ◌&&◌, ◌||◌}
use mathlib.Core.Option.{Option, none, some}
use mathlib.Core.List.{List, [], ◌∷◌}
use native.Mathlib.Omega.{arith}
use borrow.Author.Tests.{eqb-true, eq-eqb, ltb-true, lt-ltb, leb-true, le-leb}
use lib.Dec.{eqb, ltb, leb}
use lib.ListN.{length}
use Rattle.answers.specs.Answers.{first}

pub not_both : true ≡ false → ⊥
not_both e = let z : ◌≡◌ {A = ℕ} 0 1 = cc in omega arith

-- ---- the first that holds

module _ {A : Type 0} where
  -- whether test k holds (behind the last none does), and what it gives
  abbrev pub holds_at : List (Bool × A) → ℕ → Bool
  holds_at [] k = false
  holds_at (t ∷ ts) zero = t.0
  holds_at (t ∷ ts) (suc k) = holds_at ts k

  abbrev pub given_at : List (Bool × A) → ℕ → Option A
  given_at [] k = none
  given_at (t ∷ ts) zero = some t.1
  given_at (t ∷ ts) (suc k) = given_at ts k

  -- none of the first k tests holds; and test k is the first that does
  abbrev pub NoneBefore : List (Bool × A) → ℕ → Type 0
  NoneBefore ts zero = Unit {0}
  NoneBefore ts (suc k) = NoneBefore ts k × (holds_at ts k ≡ false)

  abbrev pub FirstAt : List (Bool × A) → ℕ → Type 0
  FirstAt ts k = NoneBefore ts k × (holds_at ts k ≡ true)

  parted : (t : Bool × A) (ts : List (Bool × A)) (k : ℕ) → NoneBefore (t ∷ ts) (suc k) → (t.0 ≡ false) × NoneBefore ts k
  parted t ts zero h = (h.1, tt)
  parted t ts (suc k) h = let r = parted t ts k h.0 in (r.0, (r.1, h.1))

  joined : (t : Bool × A) (ts : List (Bool × A)) (k : ℕ) → t.0 ≡ false → NoneBefore ts k → NoneBefore (t ∷ ts) (suc k)
  joined t ts zero e h = (tt, e)
  joined t ts (suc k) e h = (joined t ts k e h.0, h.1)

  pub first_at : (ts : List (Bool × A)) (k : ℕ) → FirstAt ts k → first ts ≡ given_at ts k
  unfolding first
  first_at [] k h = absurd (not_both (sym h.1))
  first_at (t ∷ ts) zero h = rw h.1 refl
  first_at (t ∷ ts) (suc k) h = let r = parted t ts k h.0 in rw r.0 (first_at ts k (r.1, h.1))

  pub record HeldAt (ts : List (Bool × A)) (s : A) : Type 0 where
    pub at : ℕ
    pub holds : FirstAt ts at
    pub says : given_at ts at ≡ some s

  pub held : (ts : List (Bool × A)) (s : A) → first ts ≡ some s → HeldAt ts s
  unfolding first
  held [] s e = absurd (let z : ◌≡◌ {A = ℕ} 0 1 = cc in omega arith)
  held (t ∷ ts) s e = go t.0 refl e (held ts s)
    where
      go : (b : Bool) → t.0 ≡ b → cond b (some t.1) (first ts) ≡ some s → (first ts ≡ some s → HeldAt ts s) → HeldAt (t ∷ ts) s
      go true q e ih = record { at = 0; holds = (tt, q); says = e }
      go false q e ih = let h = ih e in record { at = suc h.at; holds = (joined t ts h.at q h.holds.0, h.holds.1); says = h.says }

  -- where only test k gives s, it is given exactly when test k is the first that holds
  pub exactly : (ts : List (Bool × A)) (s : A) (k : ℕ) → given_at ts k ≡ some s → ((j : ℕ) → given_at ts j ≡ some s → j ≡ k) → (first ts ≡ some s) ↔ FirstAt ts k
  exactly ts s k here only = (
    (λ e. let h = held ts s e in subst (λ (j : ℕ). FirstAt ts j) (only h.at h.says) h.holds),
    (λ h. first_at ts k h ∙ here),
  )

  -- none holds exactly when none before the end does
  pub none_held : (ts : List (Bool × A)) → first ts ≡ none → NoneBefore ts (length ts)
  unfolding first
  none_held [] e = tt
  none_held (t ∷ ts) e = go t.0 refl e (none_held ts)
    where
      go : (b : Bool) → t.0 ≡ b → cond b (some t.1) (first ts) ≡ none → (first ts ≡ none → NoneBefore ts (length ts)) → NoneBefore (t ∷ ts) (suc (length ts))
      go true q e ih = absurd (let z : ◌≡◌ {A = ℕ} 0 1 = cc in omega arith)
      go false q e ih = joined t ts (length ts) q (ih e)

  pub none_holds : (ts : List (Bool × A)) → NoneBefore ts (length ts) → first ts ≡ none
  unfolding first
  none_holds [] h = refl
  none_holds (t ∷ ts) h = let r = parted t ts (length ts) h in rw r.0 (none_holds ts r.1)

-- ---- a test that stands for a condition: it holds exactly if the condition does

abbrev pub Decides : Bool → Type 0 → Type 0
Decides b P = (b ≡ true) ↔ P

pub fails : (b : Bool) {P : Type 0} → Decides b P → (b ≡ false) ↔ ¬ P
fails true d = ((λ e p. not_both e), (λ n. absurd (n (d.0 refl))))
fails false d = ((λ e p. not_both (sym (d.1 p))), (λ n. refl))

-- a step of an order: what was reached, and the next condition, which may rest on that
pub given : {A B P Q : Type 0} → A ↔ B → (B → P ↔ Q) → (A × P) ↔ (B × Q)
given e f = ((λ h. let b = e.0 h.0 in (b, (f b).0 h.1)), (λ h. (e.1 h.0, (f h.0).1 h.1)))

pub true_test : (b : Bool) → Decides b (b ≡ true)
true_test b = ((λ e. e), (λ e. e))

pub false_test : (b : Bool) → Decides (not b) (b ≡ false)
false_test true = ((λ e. sym e), (λ e. sym e))
false_test false = ((λ e. refl), (λ e. refl))

pub no_test : (b : Bool) {P : Type 0} → Decides b P → Decides (not b) (¬ P)
no_test true d = ((λ e p. not_both (sym e)), (λ n. absurd (n (d.0 refl))))
no_test false d = ((λ e p. not_both (sym (d.1 p))), (λ n. refl))

pub and_test : (a b : Bool) {P Q : Type 0} → Decides a P → Decides b Q → Decides (a && b) (P × Q)
and_test true true d e = ((λ _. (d.0 refl, e.0 refl)), (λ _. refl))
and_test true false d e = ((λ f. absurd (not_both (sym f))), (λ h. e.1 h.1))
and_test false b d e = ((λ f. absurd (not_both (sym f))), (λ h. d.1 h.0))

pub or_test : (a b : Bool) {P Q : Type 0} → Decides a P → Decides b Q → Decides (a || b) (P ⊎ Q)
or_test true b d e = ((λ _. inl (d.0 refl)), (λ _. refl))
or_test false b {P} {Q} d e = ((λ f. inr (e.0 f)), back)
  where
    back : P ⊎ Q → (false || b) ≡ true
    back (inl p) = absurd (not_both (sym (d.1 p)))
    back (inr q) = e.1 q

pub same_test : (a b : ℕ) → Decides (eqb a b) (a ≡ b)
same_test a b = (eqb-true a b, eq-eqb a b)

pub less_test : (a b : ℕ) → Decides (ltb a b) (a < b)
less_test a b = (ltb-true a b, lt-ltb a b)

pub most_test : (a b : ℕ) → Decides (leb a b) (a ≤ b)
most_test a b = (leb-true a b, le-leb a b)

pub nand_test : (a b : Bool) {P Q : Type 0} → Decides (not a) P → Decides (not b) Q → Decides (not (a && b)) (P ⊎ Q)
nand_test true b {P} {Q} d e = ((λ f. inr (e.0 f)), back)
  where
    back : P ⊎ Q → not (true && b) ≡ true
    back (inl p) = absurd (not_both (sym (d.1 p)))
    back (inr q) = e.1 q
nand_test false b d e = ((λ _. inl (d.0 refl)), (λ _. refl))

pub and_three : (a b c : Bool) {P Q R : Type 0} → Decides a P → Decides b Q → Decides c R → Decides (a && b && c) (P × (Q × R))
and_three a b c d e f =
    let t = and_test (a && b) c (and_test a b d e) f in
    ((λ h. let r = t.0 h in (r.0.0, (r.0.1, r.1))), (λ h. t.1 ((h.0, h.1.0), h.1.1)))

pub or_three : (a b c : Bool) {P Q R : Type 0} → Decides a P → Decides b Q → Decides c R → Decides (a || b || c) (P ⊎ (Q ⊎ R))
or_three true b c d e f = ((λ _. inl (d.0 refl)), (λ _. refl))
or_three false b c {P} {Q} {R} d e f = let t = or_test b c e f in ((λ h. inr (t.0 h)), back)
  where
    back : P ⊎ (Q ⊎ R) → (false || b || c) ≡ true
    back (inl p) = absurd (not_both (sym (d.1 p)))
    back (inr q) = (or_test b c e f).1 q

-- one or the other
pub decided : (b : Bool) {P : Type 0} → Decides b P → P ⊎ (¬ P)
decided true d = inl (d.0 refl)
decided false d = inr (λ p. not_both (sym (d.1 p)))
