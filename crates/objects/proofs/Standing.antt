-- What stands after a run of lawful events is exactly what `Stands` says: each event keeps what is below its number, and at it or above only what it put.
-- Assumes nothing.
use Prim.Native.Nat.{ℕ, zero, suc, ◌≤◌, ◌<◌}
use native.Mathlib.Nat.{not-suc-le-zero, le_of_suc-le-suc}
use native.Mathlib.Omega.{arith}
use native.Mathlib.Decide.{dec_le}
use mathlib.Core.Path.{◌≡◌, refl, sym, ap, ◌∙◌, subst}
use mathlib.Core.Logic.{◌↔◌, ◌⊎◌, inl, inr}
use mathlib.Core.Option.{none, some}
use mathlib.Core.List.{List, [], ◌∷◌, ◌++◌}
use lib.ListN.{length, take, get_elem?, length-append, length-take}
use lib.Seq.{length-take-le}
use Rattle.objects.specs.Object.{Object}
use Rattle.objects.specs.Events.{Event, put, cut, place, happen, happens, Clear, Stands, Lawful}

-- what is found by number in the first k of a list, past its end, and with one more at its end
module _ {ℓ} {A : Type ℓ} where
  pub get_take_lt : (k j : ℕ) (xs : List A) → j < k → get_elem? (take k xs) j ≡ get_elem? xs j
  get_take_lt zero j xs h = absurd (not-suc-le-zero h)
  get_take_lt (suc k) j [] h = refl
  get_take_lt (suc k) zero (x ∷ xs) h = refl
  get_take_lt (suc k) (suc j) (x ∷ xs) h = get_take_lt k j xs (le_of_suc-le-suc h)

  pub get_past : (xs : List A) (j : ℕ) → length xs ≤ j → get_elem? xs j ≡ none
  get_past [] j h = refl
  get_past (x ∷ xs) zero h = absurd (not-suc-le-zero h)
  get_past (x ∷ xs) (suc j) h = get_past xs j (le_of_suc-le-suc h)

  pub get_snoc_lt : (xs : List A) (x : A) (j : ℕ) → j < length xs → get_elem? (xs ++ x ∷ []) j ≡ get_elem? xs j
  get_snoc_lt [] x j h = absurd (not-suc-le-zero h)
  get_snoc_lt (y ∷ xs) x zero h = refl
  get_snoc_lt (y ∷ xs) x (suc j) h = get_snoc_lt xs x j (le_of_suc-le-suc h)

  pub get_snoc_at : (xs : List A) (x : A) → get_elem? (xs ++ x ∷ []) (length xs) ≡ some x
  get_snoc_at [] x = refl
  get_snoc_at (y ∷ xs) x = get_snoc_at xs x

-- below an event's number nothing changes
pub below : (e : Event) (xs : List Object) (k : ℕ) → place e ≤ length xs → k < place e → get_elem? (happen e xs) k ≡ get_elem? xs k
unfolding happen
below (put n o) xs k h l =
    get_snoc_lt (take n xs) o k (omega (arith, length-take-le n xs h)) ∙ get_take_lt n k xs l
below (cut n) xs k h l = get_take_lt n k xs l

-- at its number or above stands only what it put
pub above : (e : Event) (xs : List Object) (k : ℕ) (o : Object) → place e ≤ length xs → place e ≤ k
    → (get_elem? (happen e xs) k ≡ some o) ↔ (e ≡ put k o)
unfolding happen
above (put n x) xs k o h l = (there, here)
  where
    len : length (take n xs) ≡ n
    len = length-take-le n xs h

    at_n : get_elem? (take n xs ++ x ∷ []) n ≡ some x
    at_n = subst (λ (m : ℕ). get_elem? (take n xs ++ x ∷ []) m ≡ some x) len (get_snoc_at (take n xs) x)

    there : get_elem? (take n xs ++ x ∷ []) k ≡ some o → put n x ≡ put k o
    there e = go (dec_le (suc n) k)
      where
        go : Dec (n < k) → put n x ≡ put k o
        go (yes m) =
            let z : length (take n xs ++ x ∷ []) ≤ k = omega (arith, len, length-append (take n xs) (x ∷ [])) in
            cc (get_past (take n xs ++ x ∷ []) k z)
        go (no m) = let z : n ≡ k = omega arith in cc (at_n)

    here : put n x ≡ put k o → get_elem? (take n xs ++ x ∷ []) k ≡ some o
    here e = cc (at_n)
above (cut n) xs k o h l = (there, λ e. cc)
  where
    there : get_elem? (take n xs) k ≡ some o → cut n ≡ put k o
    there e = let z : length (take n xs) ≤ k = omega (arith, length-take n xs) in cc (get_past (take n xs) k z)

-- after events on xs: what they left standing, or what stood in xs and they are clear of
pub stand : (es : List Event) (xs : List Object) → Lawful es xs → (k : ℕ) (o : Object)
    → (get_elem? (happens es xs) k ≡ some o) ↔ (Stands es k o ⊎ ((get_elem? xs k ≡ some o) × Clear k es))
unfolding happens Stands Clear Lawful
stand [] xs l k o = (λ e. inr (e, tt), back)
  where
    back : (⊥ ⊎ ((get_elem? xs k ≡ some o) × Unit {0})) → get_elem? xs k ≡ some o
    back (inl z) = absurd z
    back (inr h) = h.0
stand (e ∷ es) xs l k o = go (dec_le (suc k) (place e)) (stand es (happen e xs) l.1 k o)
  where
    Now : Type 0
    Now = get_elem? (happens es (happen e xs)) k ≡ some o

    Goal : Type 0
    Goal = (((e ≡ put k o) × Clear k es) ⊎ Stands es k o) ⊎ ((get_elem? xs k ≡ some o) × Clear k (e ∷ es))

    Next : Type 0
    Next = Stands es k o ⊎ ((get_elem? (happen e xs) k ≡ some o) × Clear k es)

    low : k < place e → Next → Goal
    low h (inl s) = inl (inr s)
    low h (inr c) = inr (sym (below e xs k l.0 h) ∙ c.0, (omega arith, c.1))

    low_back : k < place e → Goal → Next
    low_back h (inl (inl c)) = absurd (let z : place e ≡ k = ap place c.0 in omega arith)
    low_back h (inl (inr s)) = inl s
    low_back h (inr c) = inr (below e xs k l.0 h ∙ c.0, c.1.1)

    high : place e ≤ k → Next → Goal
    high h (inl s) = inl (inr s)
    high h (inr c) = inl (inl ((above e xs k o l.0 h).0 c.0, c.1))

    high_back : place e ≤ k → Goal → Next
    high_back h (inl (inl c)) = inr ((above e xs k o l.0 h).1 c.0, c.1)
    high_back h (inl (inr s)) = inl s
    high_back h (inr c) = absurd (omega (arith, c.1.0))

    go : Dec (k < place e) → (Now ↔ Next) → Now ↔ Goal
    go (yes h) ih = (λ n. low h (ih.0 n), λ g. ih.1 (low_back h g))
    go (no h) ih = (λ n. high (omega arith) (ih.0 n), λ g. ih.1 (high_back (omega arith) g))

-- on a blank partition: exactly what the events left standing
pub stand_blank : (es : List Event) → Lawful es [] → (k : ℕ) (o : Object) → (get_elem? (happens es []) k ≡ some o) ↔ Stands es k o
stand_blank es l k o = (λ e. go ((stand es [] l k o).0 e), λ s. (stand es [] l k o).1 (inl s))
  where
    go : (Stands es k o ⊎ ((get_elem? [] k ≡ some o) × Clear k es)) → Stands es k o
    go (inl s) = s
    go (inr c) = absurd (let n : none ≡ some o = c.0 in let z : ◌≡◌ {A = ℕ} 0 1 = cc in omega arith)

-- one run after another is their append
pub happens_append : (a b : List Event) (xs : List Object) → happens (a ++ b) xs ≡ happens b (happens a xs)
unfolding happens
happens_append [] b xs = refl
happens_append (e ∷ a) b xs = happens_append a b (happen e xs)

pub lawful_append : (a b : List Event) (xs : List Object) → Lawful a xs → Lawful b (happens a xs) → Lawful (a ++ b) xs
unfolding Lawful happens
lawful_append [] b xs h k = k
lawful_append (e ∷ a) b xs h k = (h.0, lawful_append a b (happen e xs) h.1 k)
