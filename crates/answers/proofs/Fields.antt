-- The fields of a packed answer are the answer's numbers, and those of a packed part its start and length: what C unpacks is what was
-- answered. What a house service answers is one number, and fits.
-- Assumes nothing.
use Prim.Native.Nat.{ℕ, ◌+◌, ◌*◌, ◌/◌, ◌%◌, ◌^◌, ◌<◌}
use mathlib.Core.Bool.{Bool, true, false, cond}
use mathlib.Core.Path.{◌≡◌, refl, sym, ap, ◌∙◌}
use mathlib.Core.Option.{some}
use mathlib.Core.List.{List, [], ◌∷◌}
use native.Mathlib.Omega.{arith}
use lib.Bits.{bit_or, or_shifted}
use borrow.Author.Tests.{eqb-true, eq-eqb, ne_eqb}
use lib.Dec.{eqb}
use Rattle.answers.specs.declared.Answer.{Answer}
use Rattle.answers.specs.Answers.{check_condition, refused, done, first, refusal_of, settled, settled_by, InFields, packed, packed_part}

-- ---- as the code adds them up

abbrev low : (a : Answer) → ℕ
low a = a.carried + a.refusal * 2 ^ 32

pub packed_check : (a : Answer) → a.status ≡ check_condition → low a + a.crossed * 2 ^ 36 + 2 ^ 35 ≡ packed a
unfolding packed
packed_check a e = rw (eq-eqb a.status check_condition e) (omega arith)

pub packed_good : (a : Answer) → (a.status ≡ check_condition → ⊥) → low a + a.crossed * 2 ^ 36 ≡ packed a
unfolding packed
packed_good a e = rw (ne_eqb a.status check_condition e) (omega arith)

-- ---- as C takes them apart

pub record Unpacked (n : ℕ) (a : Answer) : Type 0 where
  pub carried : n % 2 ^ 32 ≡ a.carried
  pub refusal : n / 2 ^ 32 % 8 ≡ a.refusal
  pub status : n / 2 ^ 35 % 2 ≡ cond (eqb a.status check_condition) 1 0
  pub crossed : n / 2 ^ 36 ≡ a.crossed
  pub whole : n < 2 ^ 64

fields : (carried refusal crossed : ℕ) (t : Bool) → carried < 2 ^ 32 → refusal < 8 → crossed < 2 ^ 28 → (n : ℕ) → n ≡ carried + refusal * 2 ^ 32 + cond t (2 ^ 35) 0 + crossed * 2 ^ 36
    → (n % 2 ^ 32 ≡ carried) × (n / 2 ^ 32 % 8 ≡ refusal) × (n / 2 ^ 35 % 2 ≡ cond t 1 0) × (n / 2 ^ 36 ≡ crossed) × (n < 2 ^ 64)
fields carried refusal crossed true hc hr hx n e = (omega arith, omega arith, omega arith, omega arith, omega arith)
fields carried refusal crossed false hc hr hx n e = (omega arith, omega arith, omega arith, omega arith, omega arith)

pub unpacked : (a : Answer) → a.carried < 2 ^ 32 → InFields a → Unpacked (packed a) a
unfolding packed
unpacked a hc h =
    let f = fields a.carried a.refusal a.crossed (eqb a.status check_condition) hc h.0 h.1 (packed a) refl in
    record { carried = f.0; refusal = f.1; status = f.2; crossed = f.3; whole = f.4 }

-- ---- what a house service answers

-- each of the tests gives a refusal that three bits hold
abbrev pub InThreeBits : List (Bool × ℕ) → Type 0
InThreeBits [] = Unit {0}
InThreeBits (t ∷ ts) = (t.1 < 2 ^ 3) × InThreeBits ts

pub first_fits : (ts : List (Bool × ℕ)) → InThreeBits ts → refusal_of (first ts) < 2 ^ 3
unfolding first
first_fits [] h = omega arith
first_fits (t ∷ ts) h = go t.0 (first_fits ts h.1)
  where
    go : (b : Bool) → refusal_of (first ts) < 2 ^ 3 → refusal_of (cond b (some t.1) (first ts)) < 2 ^ 3
    go true r = h.0
    go false r = r

-- done, which is number 0, or refused: a number that three bits hold, and nothing else
pub record ByNumber (a : Answer) : Type 0 where
  pub number : ℕ
  pub fits : number < 2 ^ 3
  pub is : a ≡ refused number

pub settled_by_lem : (n : ℕ) (lent made : List ℕ) → n < 2 ^ 3 → ByNumber (settled_by n lent made).answer
settled_by_lem n lent made h = record { number = n; fits = h; is = go (eqb n 0) refl }
  where
    go : (t : Bool) → eqb n 0 ≡ t → (cond t (settled done made) (settled (refused n) lent)).answer ≡ refused n
    go true e = ap refused (sym (eqb-true n 0 e))
    go false e = refl

pub number_fits : (a : Answer) → ByNumber a → InFields a
number_fits a b = rw b.is (b.fits, omega arith)

-- ---- a part

pub part_unpacked : (start len : ℕ) → len < 2 ^ 32 → (packed_part start len % 2 ^ 32 ≡ len) × (packed_part start len / 2 ^ 32 ≡ start)
unfolding packed_part
part_unpacked start len h = (omega arith, omega arith)

-- the code's shift and `|` join the two numbers
pub joined : (start len : ℕ) → start < 2 ^ 32 → len < 2 ^ 32 → bit_or (start * 2 ^ 32 % 2 ^ 64) len ≡ packed_part start len
unfolding packed_part
joined start len hs hl =
    let e : start * 2 ^ 32 % 2 ^ 64 ≡ start * 2 ^ 32 = omega arith in
    ap (λ (n : ℕ). bit_or n len) e ∙ or_shifted start 32 len hl
