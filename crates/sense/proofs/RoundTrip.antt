-- Sense made and taken apart, both ways: the parts of a sense's bytes are the sense, and eighteen bytes of the form that is made are
-- those of their parts.
-- Assumes nothing.
use mathlib.Core.Path.{◌≡◌, refl, sym, ap, ◌∙◌}
use mathlib.Core.Bool.{Bool, true, false, cond}
use mathlib.Core.List.{List, [], ◌∷◌}
use Prim.Native.Nat.{ℕ, zero, suc, ◌+◌, ◌*◌, ◌/◌, ◌%◌, ◌^◌, ◌<◌}
use native.Mathlib.Omega.{arith}
use native.Mathlib.Nat.{zero-mul, one-mul, mod-mod, div-add-mod', div-div-eq-div-mul}
use borrow.Author.Tests.{eq-eqb, ne_eqb, eqb-true, eqb-false}
use lib.Dec.{eqb}
use lib.ListN.{length, get_or}
use Rattle.words.specs.Words.{be, bytes}
use Rattle.words.proofs.Laws.{be_bytes, written_out}
use Rattle.words.proofs.Stores.{four_bytes, four_back, spelt4}
use Rattle.sense.specs.declared.Sense.{Sense}
use Rattle.sense.specs.Sense.{sense_length, byte2, sense_bytes, parts_of}

-- the numbers that a sense's fields can hold
pub record Spellable (s : Sense) : Type 0 where
  pub key_small : s.key < 16
  pub information_small : s.information < 2 ^ 32

-- ---- byte 2, taken apart again

flags_back_lem : (f e i : Bool) (k : ℕ) → k < 16 → (n : ℕ) → n ≡ cond f 0x80 0 + cond e 0x40 0 + cond i 0x20 0 + k
    → (eqb (n / 0x80 % 2) 1 ≡ f) × (eqb (n / 0x40 % 2) 1 ≡ e) × (eqb (n / 0x20 % 2) 1 ≡ i) × (n % 16 ≡ k)
flags_back_lem true true true k h n q = (eq-eqb (n / 128 % 2) 1 (omega arith), eq-eqb (n / 64 % 2) 1 (omega arith), eq-eqb (n / 32 % 2) 1 (omega arith), omega arith)
flags_back_lem true true false k h n q = (eq-eqb (n / 128 % 2) 1 (omega arith), eq-eqb (n / 64 % 2) 1 (omega arith), ne_eqb (n / 32 % 2) 1 (omega arith), omega arith)
flags_back_lem true false true k h n q = (eq-eqb (n / 128 % 2) 1 (omega arith), ne_eqb (n / 64 % 2) 1 (omega arith), eq-eqb (n / 32 % 2) 1 (omega arith), omega arith)
flags_back_lem true false false k h n q = (eq-eqb (n / 128 % 2) 1 (omega arith), ne_eqb (n / 64 % 2) 1 (omega arith), ne_eqb (n / 32 % 2) 1 (omega arith), omega arith)
flags_back_lem false true true k h n q = (ne_eqb (n / 128 % 2) 1 (omega arith), eq-eqb (n / 64 % 2) 1 (omega arith), eq-eqb (n / 32 % 2) 1 (omega arith), omega arith)
flags_back_lem false true false k h n q = (ne_eqb (n / 128 % 2) 1 (omega arith), eq-eqb (n / 64 % 2) 1 (omega arith), ne_eqb (n / 32 % 2) 1 (omega arith), omega arith)
flags_back_lem false false true k h n q = (ne_eqb (n / 128 % 2) 1 (omega arith), ne_eqb (n / 64 % 2) 1 (omega arith), eq-eqb (n / 32 % 2) 1 (omega arith), omega arith)
flags_back_lem false false false k h n q = (ne_eqb (n / 128 % 2) 1 (omega arith), ne_eqb (n / 64 % 2) 1 (omega arith), ne_eqb (n / 32 % 2) 1 (omega arith), omega arith)

valid_back : (v : Bool) → eqb (cond v 0xF0 0x70 / 0x80) 1 ≡ v
valid_back true = refl
valid_back false = refl

-- ---- the information, read from its four bytes

word_back : (n : ℕ) → n < 2 ^ 32 → n / 16777216 % 256 * 16777216 + n / 65536 % 256 * 65536 + n / 256 % 256 * 256 + n % 256 ≡ n
word_back n h = sym (spelt4 (n / 16777216 % 256 ∷ n / 65536 % 256 ∷ n / 256 % 256 ∷ n % 256 ∷ []) 0) ∙ ap (λ (l : List ℕ). be 4 l 0) (sym (four_bytes n)) ∙ be_bytes 4 n h

information_back : (s : Sense) → s.information < 2 ^ 32 → be 4 (sense_bytes s) 3 ≡ s.information
unfolding sense_bytes
information_back s h = rw (four_bytes s.information) (spelt4 _ 3 ∙ word_back s.information h)

pub parts_made : (s : Sense) → Spellable s → parts_of (sense_bytes s) ≡ s
unfolding parts_of sense_bytes bytes
parts_made s h =
    let k : s.key % 16 ≡ s.key = omega (arith, h.key_small) in
    let b = flags_back_lem s.filemark s.eom s.ili (s.key % 16) (omega arith) (byte2 s) refl in
    let v = valid_back s.valid in
    let n = information_back s h.information_small in
    λ i. record { valid = v i; filemark = b.0 i; eom = b.1 i; ili = b.2 i; key = (b.3 ∙ k) i; information = n i; asc = s.asc; ascq = s.ascq }

-- ---- the other way, for eighteen bytes of the form that is made

pub record Formed (b : List ℕ) : Type 0 where
  pub whole : length b ≡ sense_length
  pub byte : (j : ℕ) → get_or b j 0 < 256
  pub first : get_or b 0 0 % 0x80 ≡ 0x70
  pub no_reserved : get_or b 2 0 / 0x10 % 2 ≡ 0
  pub additional : get_or b 7 0 ≡ 0x0A
  pub rest : (get_or b 1 0 ≡ 0) × (get_or b 8 0 ≡ 0) × (get_or b 9 0 ≡ 0) × (get_or b 10 0 ≡ 0) × (get_or b 11 0 ≡ 0) × (get_or b 14 0 ≡ 0) × (get_or b 15 0 ≡ 0) × (get_or b 16 0 ≡ 0) × (get_or b 17 0 ≡ 0)

-- a bit, as a number
bit_number : (x p : ℕ) → x < 2 → cond (eqb x 1) p 0 ≡ x * p
bit_number zero p h = sym (zero-mul p)
bit_number (suc zero) p h = sym (one-mul p)
bit_number (suc (suc n)) p h = let impossible : ⊥ = omega arith in absurd impossible

first_again : (n : ℕ) → n < 256 → n % 0x80 ≡ 0x70 → cond (eqb (n / 0x80) 1) 0xF0 0x70 ≡ n
first_again n h e = by (eqb (n / 0x80) 1) refl
  where
    by : (t : Bool) → eqb (n / 0x80) 1 ≡ t → cond t 0xF0 0x70 ≡ n
    by true q = omega (arith, eqb-true (n / 0x80) 1 q)
    by false q =
        let other : n / 0x80 ≡ 1 → ⊥ = eqb-false (n / 0x80) 1 q in
        omega arith

-- the digits of byte 2, joined: linear once each quotient and remainder has a name
third_sum : (n a b c d r z i e : ℕ) → a * 16 + r ≡ n → b * 2 + z ≡ a → c * 2 + i ≡ b → d * 2 + e ≡ c → z ≡ 0 → d * 128 + e * 64 + i * 32 + r ≡ n
third_sum n a b c d r z i e h1 h2 h3 h4 h5 = omega arith

third_digits : (n : ℕ) → n < 256 → n / 0x10 % 2 ≡ 0 → n / 0x80 % 2 * 0x80 + n / 0x40 % 2 * 0x40 + n / 0x20 % 2 * 0x20 + n % 16 ≡ n
third_digits n h e =
    let q5 : n / 32 ≡ n / 16 / 2 = sym (div-div-eq-div-mul n 16 2) in
    let q6 : n / 64 ≡ n / 16 / 2 / 2 = sym (ap (λ (k : ℕ). k / 2) (div-div-eq-div-mul n 16 2) ∙ div-div-eq-div-mul n 32 2) in
    let q7 : n / 128 ≡ n / 16 / 2 / 2 / 2 = sym (ap (λ (k : ℕ). k / 2) (sym q6) ∙ div-div-eq-div-mul n 64 2) in
    let top : n / 128 % 2 ≡ n / 128 = omega arith in
    rw (top, q7, q6, q5)
    (third_sum n (n / 16) (n / 16 / 2) (n / 16 / 2 / 2) (n / 16 / 2 / 2 / 2) (n % 16) (n / 16 % 2) (n / 16 / 2 % 2) (n / 16 / 2 / 2 % 2)
    (div-add-mod' n 16) (div-add-mod' (n / 16) 2) (div-add-mod' (n / 16 / 2) 2) (div-add-mod' (n / 16 / 2 / 2) 2) e)

third_again : (n : ℕ) → n < 256 → n / 0x10 % 2 ≡ 0
    → cond (eqb (n / 0x80 % 2) 1) 0x80 0 + cond (eqb (n / 0x40 % 2) 1) 0x40 0 + cond (eqb (n / 0x20 % 2) 1) 0x20 0 + n % 16 % 16 ≡ n
third_again n h e =
    let m : n % 16 % 16 ≡ n % 16 = mod-mod n 16 in
    rw (m, bit_number (n / 0x80 % 2) 0x80 (omega arith), bit_number (n / 0x40 % 2) 0x40 (omega arith), bit_number (n / 0x20 % 2) 0x20 (omega arith)) (third_digits n h e)

pub made_parts : (b : List ℕ) → Formed b → sense_bytes (parts_of b) ≡ b
unfolding sense_bytes parts_of
made_parts b f =
    let d = f.byte in
    let (z1, z8, z9, z10, z11, z14, z15, z16, z17) = f.rest in
    let p0 = first_again (get_or b 0 0) (d 0) f.first in
    let p2 = third_again (get_or b 2 0) (d 2) f.no_reserved in
    let w = four_back b 3 (d 3) (d 4) (d 5) (d 6) in
    rw w (λ i. p0 i ∷ sym z1 i ∷ p2 i ∷ get_or b 3 0 ∷ get_or b 4 0 ∷ get_or b 5 0 ∷ get_or b 6 0 ∷ sym f.additional i ∷ sym z8 i ∷ sym z9 i ∷ sym z10 i ∷ sym z11 i ∷ get_or b 12 0 ∷ get_or b 13 0 ∷ sym z14 i ∷ sym z15 i ∷ sym z16 i ∷ sym z17 i ∷ [])
    ∙ sym (written_out 18 b f.whole)
