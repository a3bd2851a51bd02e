-- Both forms of a sense are read back to the same flags, key, codes and residue, of any bytes; what a sense's parts are read as; what of the bytes the
-- descriptor form has, and that it is the same for two senses exactly when a host reads the same of them.
-- Assumes nothing.
use mathlib.Core.Path.{◌≡◌, refl, sym, ap, ◌∙◌}
use mathlib.Core.Logic.{◌↔◌}
use mathlib.Core.Bool.{Bool, true, false, cond, ◌&&◌, ◌||◌}
use mathlib.Core.Option.{Option, none, some}
use mathlib.Core.List.{List, [], ◌∷◌}
use Prim.Native.Nat.{ℕ, zero, suc, ◌+◌, ◌*◌, ◌-◌, ◌/◌, ◌%◌, ◌^◌, ◌<◌}
use native.Mathlib.Nat.{mod-mod, div-div-eq-div-mul}
use native.Mathlib.Omega.{arith}
use borrow.Author.Tests.{ltb-true, ltb-false}
use lib.Bits.{bit_and, and_high}
use lib.Dec.{eqb, ltb}
use lib.IntN.{ℤ}
use lib.ListN.{get_or}
use Rattle.words.specs.Words.{be, bytes}
use Rattle.words.specs.Signed.{signed, wrapped, fits32, extended}
use Rattle.words.proofs.Laws.{be_bytes, be_lt}
use Rattle.words.proofs.Stores.{spelt4, four_back, eight_bytes, extended_bytes}
use Rattle.words.proofs.Flags.{flag}
use Rattle.words.proofs.Wraps.{signed_wrapped, wrapped_signed, signed_extended, extended_lt}
use Rattle.sense.specs.declared.Sense.{Sense}
use Rattle.sense.specs.Sense.{no_sense, blank_check, volume_overflow, filemark_bit, eom_bit, ili_bit, flag_bits, sense_bytes, parts_of, reports, told}
use Rattle.sense.specs.Descriptors.{information_type, stream_type, information_descriptor, stream_descriptor, descriptors, descriptor_bytes, in_form}
use Rattle.sense.specs.Reading.{Reading, is_set, descriptor_of, found, fixed_reading, descriptor_reading, reading_of}
use Rattle.sense.specs.Turned.{turned}
use Rattle.sense.proofs.Packing.{low4}
use Rattle.sense.proofs.RoundTrip.{Spellable, parts_made}

-- what is read of the parts of a sense
abbrev pub reading_by : Sense → Reading
reading_by s = record {
  filemark = s.filemark;
  eom = s.eom;
  ili = s.ili;
  key = s.key % 16;
  asc = s.asc;
  ascq = s.ascq;
  residue = cond s.valid (some (signed (2 ^ 31) s.information)) none;
}

-- ---- the fixed form

valid_read : (n : ℕ) → n < 256 → is_set 0x80 n ≡ eqb (n / 0x80) 1
valid_read n h = let e : n / 128 % 2 ≡ n / 128 = omega arith in flag n 7 ∙ ap (λ (k : ℕ). eqb k 1) e

pub fixed_read : (b : List ℕ) → get_or b 0 0 < 256 → fixed_reading b ≡ reading_by (parts_of b)
unfolding fixed_reading parts_of
fixed_read b h = λ i. record {
  filemark = flag (get_or b 2 0) 7 i;
  eom = flag (get_or b 2 0) 6 i;
  ili = flag (get_or b 2 0) 5 i;
  key = (low4 (get_or b 2 0) ∙ sym (mod-mod (get_or b 2 0) 16)) i;
  asc = get_or b 12 0;
  ascq = get_or b 13 0;
  residue = cond (valid_read (get_or b 0 0) h i) (some (signed (2 ^ 31) (be 4 b 3))) none;
}

-- ---- the descriptor form

flags_read : (f e i : Bool) (n : ℕ) → n ≡ cond f 0x80 0 + cond e 0x40 0 + cond i 0x20 0 → (is_set filemark_bit n ≡ f) × (is_set eom_bit n ≡ e) × (is_set ili_bit n ≡ i)
flags_read true true true n q = rw q (refl, refl, refl)
flags_read true true false n q = rw q (refl, refl, refl)
flags_read true false true n q = rw q (refl, refl, refl)
flags_read true false false n q = rw q (refl, refl, refl)
flags_read false true true n q = rw q (refl, refl, refl)
flags_read false true false n q = rw q (refl, refl, refl)
flags_read false false true n q = rw q (refl, refl, refl)
flags_read false false false n q = rw q (refl, refl, refl)

key_read : (k : ℕ) → bit_and (k % 16) 15 ≡ k % 16
key_read k = low4 (k % 16) ∙ mod-mod k 16

-- the stream descriptor, wherever it stands, and the information
stream_found : (s : Sense) → get_or (found stream_type (descriptor_bytes s)) 3 0 ≡ flag_bits s
unfolding descriptor_bytes descriptors information_descriptor stream_descriptor descriptor_of
stream_found s = by s.valid refl
  where
    by : (t : Bool) → s.valid ≡ t → get_or (found stream_type (descriptor_bytes s)) 3 0 ≡ flag_bits s
    by true h = rw (h, eight_bytes (extended s.information)) refl
    by false h = rw h refl

-- its eight bytes are the value
value_spelt : (v : ℕ) → v < 2 ^ 64 → be 8 (0x00 ∷ 0x0A ∷ 0x80 ∷ 0x00 ∷ bytes 8 v) 4 ≡ v
unfolding be
value_spelt v h = rw (eight_bytes v) refl ∙ ap (λ (l : List ℕ). be 8 l 0) (sym (eight_bytes v)) ∙ be_bytes 8 v h

residue_found : (s : Sense) → s.information < 2 ^ 32
    → cond (is_set 0x80 (get_or (found information_type (descriptor_bytes s)) 2 0)) (some (signed (2 ^ 63) (be 8 (found information_type (descriptor_bytes s)) 4))) none ≡ (reading_by s).residue
unfolding descriptor_bytes descriptors information_descriptor stream_descriptor descriptor_of
residue_found s l = by s.valid refl
  where
    by : (t : Bool) → s.valid ≡ t
        → cond (is_set 0x80 (get_or (found information_type (descriptor_bytes s)) 2 0)) (some (signed (2 ^ 63) (be 8 (found information_type (descriptor_bytes s)) 4))) none ≡ (reading_by s).residue
    by true h = rw (h, eight_bytes (extended s.information))
        (ap (λ (n : ℕ). some (signed (2 ^ 63) n)) (ap (λ (l : List ℕ). be 8 (0x00 ∷ 0x0A ∷ 0x80 ∷ 0x00 ∷ l) 4) (sym (eight_bytes (extended s.information))) ∙ value_spelt (extended s.information) (extended_lt s.information l))
        ∙ ap (λ (z : ℤ). some z) (signed_extended s.information l))
    by false h = rw h refl

pub descriptors_read : (s : Sense) → s.information < 2 ^ 32 → descriptor_reading (descriptor_bytes s) ≡ reading_by s
unfolding descriptor_reading descriptor_bytes
descriptors_read s l =
    let f = flags_read s.filemark s.eom s.ili (get_or (found stream_type (descriptor_bytes s)) 3 0) (stream_found s) in
    λ i. record { filemark = f.0 i; eom = f.1 i; ili = f.2 i; key = key_read s.key i; asc = s.asc; ascq = s.ascq; residue = residue_found s l i }

-- ---- "both forms read back to the same flags, key, codes and residue": of any bytes

pub read_alike : (b : List ℕ) → ((j : ℕ) → get_or b j 0 < 256) → descriptor_reading (in_form true b) ≡ fixed_reading b
unfolding in_form parts_of
read_alike b byte = descriptors_read (parts_of b) (be_lt 4 b 3 byte) ∙ sym (fixed_read b (byte 0))

-- ---- of a sense that is made: a host that tells the forms apart by their response codes reads its parts

fixed_known : (s : Sense) → reading_of (sense_bytes s) ≡ some (fixed_reading (sense_bytes s))
unfolding reading_of sense_bytes
fixed_known s = by s.valid
  where
    known : ℕ → Option Reading
    known n = cond (eqb (bit_and n 0x7F) 0x70) (some (fixed_reading (sense_bytes s))) (cond (eqb (bit_and n 0x7F) 0x72) (some (descriptor_reading (sense_bytes s))) none)

    by : (t : Bool) → known (cond t 0xF0 0x70) ≡ some (fixed_reading (sense_bytes s))
    by true = refl
    by false = refl

descriptors_known : (s : Sense) → reading_of (descriptor_bytes s) ≡ some (descriptor_reading (descriptor_bytes s))
unfolding reading_of descriptor_bytes
descriptors_known s = refl

first_small : (s : Sense) → get_or (sense_bytes s) 0 0 < 256
unfolding sense_bytes
first_small s = by s.valid
  where
    by : (t : Bool) → cond t 0xF0 0x70 < 256
    by true = omega arith
    by false = omega arith

pub both_read : (s : Sense) → Spellable s → (reading_of (sense_bytes s) ≡ some (reading_by s)) × (reading_of (in_form true (sense_bytes s)) ≡ some (reading_by s))
unfolding in_form
both_read s h =
    let p = parts_made s h in (
      fixed_known s ∙ ap (λ (r : Reading). some r) (fixed_read (sense_bytes s) (first_small s) ∙ ap reading_by p),
      ap (λ (t : Sense). reading_of (descriptor_bytes t)) p ∙ descriptors_known s ∙ ap (λ (r : Reading). some r) (descriptors_read s h.information_small),
    )

-- and of one that a command tells its residue, where it reports one
abbrev pub reading_told : Bool → Bool → Bool → Bool → ℕ → ℕ → ℕ → ℤ → Reading
reading_told counts f e i key asc ascq z = record { filemark = f; eom = e; ili = i; key = key; asc = asc; ascq = ascq; residue = cond (reports counts key z) (some z) none }

last_true : (x y : Bool) → x && y ≡ true → y ≡ true
last_true true y h = h
last_true false y h = absurd (let e : ◌≡◌ {A = ℕ} 1 0 = ap (λ (t : Bool). cond t 0 1) h in omega arith)

reported_fits : (counts : Bool) (key : ℕ) (z : ℤ) → reports counts key z ≡ true → fits32 z ≡ true
unfolding reports
reported_fits counts key z q = last_true (counts && (eqb key no_sense || eqb key blank_check || eqb key volume_overflow)) (fits32 z) q

pub told_read : (counts f e i : Bool) (key asc ascq : ℕ) (z : ℤ) → key < 16 → reading_by (told counts f e i key asc ascq z) ≡ reading_told counts f e i key asc ascq z
unfolding told
told_read counts f e i key asc ascq z h =
    let k : key % 16 ≡ key = omega arith in
    λ j. record { filemark = f; eom = e; ili = i; key = k j; asc = asc; ascq = ascq; residue = by (reports counts key z) refl j }
  where
    by : (t : Bool) → reports counts key z ≡ t → cond t (some (signed (2 ^ 31) (cond t (wrapped z) 0))) none ≡ cond t (some z) none
    by true q = ap (λ (y : ℤ). some y) (signed_wrapped z (reported_fits counts key z q))
    by false q = refl

-- ---- "other kept bytes are turned by the same bits": byte by byte

-- the three flags by one mask
three_bits : (m : ℕ) → m < 8 → cond (eqb (m / 4 % 2) 1) 0x80 0 + cond (eqb (m / 2 % 2) 1) 0x40 0 + cond (eqb (m % 2) 1) 0x20 0 ≡ m * 32
three_bits zero h = refl
three_bits (suc zero) h = refl
three_bits (suc (suc zero)) h = refl
three_bits (suc (suc (suc zero))) h = refl
three_bits (suc (suc (suc (suc zero)))) h = refl
three_bits (suc (suc (suc (suc (suc zero))))) h = refl
three_bits (suc (suc (suc (suc (suc (suc zero)))))) h = refl
three_bits (suc (suc (suc (suc (suc (suc (suc zero))))))) h = refl
three_bits (suc (suc (suc (suc (suc (suc (suc (suc m)))))))) h = let impossible : ⊥ = omega arith in absurd impossible

flags_turned : (n : ℕ) → n < 256 → cond (eqb (n / 0x80 % 2) 1) 0x80 0 + cond (eqb (n / 0x40 % 2) 1) 0x40 0 + cond (eqb (n / 0x20 % 2) 1) 0x20 0 ≡ bit_and n 0xE0
flags_turned n h =
    let q7 : n / 128 ≡ n / 32 / 4 = sym (div-div-eq-div-mul n 32 4) in
    let q6 : n / 64 ≡ n / 32 / 2 = sym (div-div-eq-div-mul n 32 2) in
    let e : n / 32 % 8 ≡ n / 32 = omega arith in
    rw (q7, q6) (three_bits (n / 32) (omega arith)) ∙ ap (λ (k : ℕ). k * 32) (sym e) ∙ sym (and_high n 3 5)

module _ (b : List ℕ) (byte : (j : ℕ) → get_or b j 0 < 256) where
  abbrev sign : ℕ
  sign = cond (is_set 0x80 (get_or b 3 0)) 0xFF 0x00

  -- bit 7 of the first of four bytes is their sign
  sign_filled : bytes 4 (cond (ltb (be 4 b 3) (2 ^ 31)) 0 (2 ^ 32 - 1)) ≡ sign ∷ sign ∷ sign ∷ sign ∷ []
  unfolding bytes
  sign_filled = by (ltb (be 4 b 3) (2 ^ 31)) refl
    where
      by : (t : Bool) → ltb (be 4 b 3) (2 ^ 31) ≡ t → bytes 4 (cond t 0 (2 ^ 32 - 1)) ≡ sign ∷ sign ∷ sign ∷ sign ∷ []
      by true q =
          let l = ltb-true (be 4 b 3) (2 ^ 31) q in
          let z : get_or b 3 0 / 128 % 2 ≡ 0 = omega (arith, spelt4 b 3, byte 3) in
          rw (flag (get_or b 3 0) 7, z) refl
      by false q =
          let l = ltb-false (be 4 b 3) (2 ^ 31) q in
          let z : get_or b 3 0 / 128 % 2 ≡ 1 = omega (arith, spelt4 b 3, byte 3, byte 4, byte 5, byte 6) in
          rw (flag (get_or b 3 0) 7, z) refl

  value_turned : bytes 8 (extended (be 4 b 3)) ≡ sign ∷ sign ∷ sign ∷ sign ∷ get_or b 3 0 ∷ get_or b 4 0 ∷ get_or b 5 0 ∷ get_or b 6 0 ∷ []
  value_turned = extended_bytes (be 4 b 3) (be_lt 4 b 3 byte) ∙ rw (sign_filled, four_back b 3 (byte 3) (byte 4) (byte 5) (byte 6)) refl

  pub turned_so : in_form true b ≡ turned b
  unfolding in_form turned descriptor_bytes descriptors information_descriptor stream_descriptor parts_of
  turned_so = by (eqb (get_or b 0 0 / 0x80) 1) refl
    where
      by : (t : Bool) → eqb (get_or b 0 0 / 0x80) 1 ≡ t → in_form true b ≡ turned b
      by true q = rw (valid_read (get_or b 0 0) (byte 0), q, value_turned, flags_turned (get_or b 2 0) (byte 2), mod-mod (get_or b 2 0) 16, low4 (get_or b 2 0)) refl
      by false q = rw (valid_read (get_or b 0 0) (byte 0), q, flags_turned (get_or b 2 0) (byte 2), mod-mod (get_or b 2 0) 16, low4 (get_or b 2 0)) refl

-- ---- and what is dropped: all that a host does not read

abbrev is_told : Option ℤ → Bool
is_told none = false
is_told (some z) = true

abbrev information_of : Option ℤ → ℕ
information_of none = 0
information_of (some z) = wrapped z

abbrev sense_by : Reading → Sense
sense_by r = record { valid = is_told r.residue; filemark = r.filemark; eom = r.eom; ili = r.ili; key = r.key; information = information_of r.residue; asc = r.asc; ascq = r.ascq }

from_reading : (s : Sense) → s.information < 2 ^ 32 → descriptor_bytes (sense_by (reading_by s)) ≡ descriptor_bytes s
unfolding descriptor_bytes descriptors information_descriptor stream_descriptor
from_reading s l = by s.valid refl
  where
    by : (t : Bool) → s.valid ≡ t → descriptor_bytes (sense_by (reading_by s)) ≡ descriptor_bytes s
    by true h = rw (h, mod-mod s.key 16, wrapped_signed s.information l) refl
    by false h = rw (h, mod-mod s.key 16) refl

module _ (b c : List ℕ) (byte-b : (j : ℕ) → get_or b j 0 < 256) (byte-c : (j : ℕ) → get_or c j 0 < 256) where
  from_bytes : (a : List ℕ) → ((j : ℕ) → get_or a j 0 < 256) → descriptor_bytes (sense_by (fixed_reading a)) ≡ in_form true a
  unfolding in_form parts_of
  from_bytes a byte = ap (λ (r : Reading). descriptor_bytes (sense_by r)) (fixed_read a (byte 0)) ∙ from_reading (parts_of a) (be_lt 4 a 3 byte)

  pub turned_alike : (in_form true b ≡ in_form true c) ↔ (fixed_reading b ≡ fixed_reading c)
  turned_alike = (
    (λ h. sym (read_alike b byte-b) ∙ ap descriptor_reading h ∙ read_alike c byte-c),
    (λ h. sym (from_bytes b byte-b) ∙ ap (λ (r : Reading). descriptor_bytes (sense_by r)) h ∙ from_bytes c byte-c),
  )
