-- How the code's masks and shifts make the sense bytes of the definitions, and take them apart.
-- Assumes nothing.
use Rattle.std.proofs.Common.{◌≡◌, ℕ, suc, ◌+◌, ◌-◌, ◌/◌, ◌%◌, ◌^◌, ◌<◌, ◌≤◌, Bool, true, false, cond, not, eqb, leb, ltb, List, [], ◌∷◌, get_or, bit_and, bit_or, ℤ, refl, sym, arith, lt-ltb, le-ltb, leb-true, leb-false}
use Rattle.std.proofs.Math.Bool.{and-false}
use Rattle.std.proofs.Math.IntN.{sub_ℕ}
use Rattle.std.proofs.lemmas.Nat.{or_shifted, and_mask}
use Rattle.words.specs.Words.{be}
use Rattle.words.specs.Signed.{fits32, extended}
use Rattle.words.proofs.Stores.{four_bytes, eight_bytes}
use Rattle.words.proofs.Flags.{flag}
use Rattle.words.proofs.Wraps.{subℕ_cases}
use Rattle.sense.specs.declared.Sense.{Sense}
use Rattle.sense.specs.Sense.{flag_bits, byte0, byte2, sense_bytes, parts_of, reports, told}
use Rattle.sense.specs.Descriptors.{information_descriptor, stream_descriptor, descriptors, descriptor_bytes}

pub low4 : (n : ℕ) → bit_and n 15 ≡ n % 16
low4 n = and_mask n 4

-- the key stands below the flags, each of which is 0 or its bit
joined : (f e i : Bool) (k : ℕ) → k < 32 → bit_or (cond f 0x80 0 + cond e 0x40 0 + cond i 0x20 0) k ≡ cond f 0x80 0 + cond e 0x40 0 + cond i 0x20 0 + k
joined true true true k h = or_shifted 7 5 k h
joined true true false k h = or_shifted 6 5 k h
joined true false true k h = or_shifted 5 5 k h
joined true false false k h = or_shifted 4 5 k h
joined false true true k h = or_shifted 3 5 k h
joined false true false k h = or_shifted 2 5 k h
joined false false true k h = or_shifted 1 5 k h
joined false false false k h = or_shifted 0 5 k h

pub with_key : (s : Sense) → bit_or (flag_bits s) (bit_and s.key 15) ≡ byte2 s
with_key s = rw (low4 s.key) (joined s.filemark s.eom s.ili (s.key % 16) (omega arith))

-- the eighteen bytes, written out
pub sense_written : (s : Sense)
    → sense_bytes s ≡ byte0 s ∷ 0 ∷ byte2 s ∷ s.information / 16777216 % 256 ∷ s.information / 65536 % 256 ∷ s.information / 256 % 256 ∷ s.information % 256
    ∷ 0x0A ∷ 0 ∷ 0 ∷ 0 ∷ 0 ∷ s.asc ∷ s.ascq ∷ 0 ∷ 0 ∷ 0 ∷ 0 ∷ []
unfolding sense_bytes
sense_written s = rw (four_bytes s.information) refl

-- the bytes of the descriptor form, written out: with VALID, and without
pub both_written : (s : Sense) → s.valid ≡ true
    → descriptor_bytes s ≡ 0x72 ∷ s.key % 16 ∷ s.asc ∷ s.ascq ∷ 0 ∷ 0 ∷ 0 ∷ 0x10 ∷ 0x00 ∷ 0x0A ∷ 0x80 ∷ 0
    ∷ extended s.information / 2 ^ 56 % 256 ∷ extended s.information / 2 ^ 48 % 256 ∷ extended s.information / 2 ^ 40 % 256 ∷ extended s.information / 2 ^ 32 % 256
    ∷ extended s.information / 16777216 % 256 ∷ extended s.information / 65536 % 256 ∷ extended s.information / 256 % 256 ∷ extended s.information % 256
    ∷ 0x04 ∷ 0x02 ∷ 0 ∷ flag_bits s ∷ []
unfolding descriptor_bytes descriptors information_descriptor stream_descriptor
both_written s h = rw (h, eight_bytes (extended s.information)) refl

pub stream_written : (s : Sense) → s.valid ≡ false → descriptor_bytes s ≡ 0x72 ∷ s.key % 16 ∷ s.asc ∷ s.ascq ∷ 0 ∷ 0 ∷ 0 ∷ 0x04 ∷ 0x04 ∷ 0x02 ∷ 0 ∷ flag_bits s ∷ []
unfolding descriptor_bytes descriptors stream_descriptor
stream_written s h = rw h refl

-- the parts, by the code's masks
pub parts_by_masks : (b : List ℕ)
    → parts_of b ≡ record {
      valid = eqb (get_or b 0 0 / 128) 1;
      filemark = not (eqb (bit_and (get_or b 2 0) 128) 0);
      eom = not (eqb (bit_and (get_or b 2 0) 64) 0);
      ili = not (eqb (bit_and (get_or b 2 0) 32) 0);
      key = bit_and (get_or b 2 0) 15;
      information = be 4 b 3;
      asc = get_or b 12 0;
      ascq = get_or b 13 0;
    }
unfolding parts_of
parts_by_masks b = rw (flag (get_or b 2 0) 7, flag (get_or b 2 0) 6, flag (get_or b 2 0) 5, low4 (get_or b 2 0)) refl

-- ---- whether a difference of two numbers fits 32 signed bits

pub one_less : (n m : ℕ) → leb (suc n) m ≡ ltb n m
one_less n m = go (leb (suc n) m) refl
  where
    go : (t : Bool) → leb (suc n) m ≡ t → t ≡ ltb n m
    go true e = sym (lt-ltb n m (leb-true (suc n) m e))
    go false e = sym (le-ltb n m (let h = leb-false (suc n) m e in omega arith))

module _ (a b : ℕ) where
  pub fits_above : b ≤ a → ltb (a - b) (2 ^ 31) ≡ fits32 (sub_ℕ a b)
  unfolding fits32
  fits_above h = subℕ_cases (λ z. ltb (a - b) (2 ^ 31) ≡ fits32 z) a b (λ l. absurd (let w : ⊥ = omega arith in w)) (λ l. refl)

  pub fits_below : a < b → leb (b - a) (2 ^ 31) ≡ fits32 (sub_ℕ a b)
  unfolding fits32
  fits_below h = subℕ_cases (λ z. leb (b - a) (2 ^ 31) ≡ fits32 z) a b (λ l. let e : b - a ≡ suc (b - suc a) = omega arith in rw e (one_less (b - suc a) (2 ^ 31))) (λ l. absurd (let w : ⊥ = omega arith in w))

-- ---- two residues that do not fit are told alike

pub told_unfit : (counts f e i : Bool) (key asc ascq : ℕ) (a b : ℤ) → fits32 a ≡ false → fits32 b ≡ false → told counts f e i key asc ascq a ≡ told counts f e i key asc ascq b
unfolding told reports
told_unfit counts f e i key asc ascq a b x y = rw (x, y, and-false) refl
