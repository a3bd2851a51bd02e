-- What a host reads of a sense, in either form (Q-4: "both forms read back to the same flags, key, codes and residue").
-- Assumes nothing: these are definitions.
use Rattle.std.specs.Prelude.{ℕ, zero, suc, ◌+◌, ◌^◌, Bool, cond, not, List, [], eqb, ltb, ℤ, length, get_or, take, drop}
use Rattle.std.proofs.Math.Option.{Option, none, some}
use Rattle.std.specs.Int.Bits.{bit_and}
use Rattle.words.specs.Words.{be}
use Rattle.words.specs.Signed.{signed}
use Rattle.sense.specs.Sense.{valid_bit, filemark_bit, eom_bit, ili_bit}
use Rattle.sense.specs.Descriptors.{descriptor_code, information_type, stream_type}

-- the flags, the key, the codes, and the residue if one is told
pub record Reading : Type 0 where
  pub filemark : Bool
  pub eom : Bool
  pub ili : Bool
  pub key : ℕ
  pub asc : ℕ
  pub ascq : ℕ
  pub residue : Option ℤ

-- a byte under a mask is not 0
abbrev pub is_set : ℕ → ℕ → Bool
is_set mask byte = not (eqb (bit_and byte mask) 0)

-- the first descriptor of a type among those that stand in b, or []: each has its type in byte 0, and in byte 1 how many bytes follow
unfoldable pub descriptor_of : ℕ → ℕ → List ℕ → List ℕ
descriptor_of type zero b = []
descriptor_of type (suc n) b =
    let size = 2 + get_or b 1 0 in
    cond (ltb (length b) 2) [] (cond (eqb (get_or b 0 0) type) (take size b) (descriptor_of type n (drop size b)))

-- .. among those that byte 7 counts
abbrev pub found : ℕ → List ℕ → List ℕ
found type b = descriptor_of type (length b) (take (get_or b 7 0) (drop 8 b))

-- the fixed form: with VALID bytes 3–6 are a residue in 32 signed bits
unfoldable pub fixed_reading : List ℕ → Reading
fixed_reading b = record {
  filemark = is_set filemark_bit (get_or b 2 0);
  eom = is_set eom_bit (get_or b 2 0);
  ili = is_set ili_bit (get_or b 2 0);
  key = bit_and (get_or b 2 0) 0x0F;
  asc = get_or b 12 0;
  ascq = get_or b 13 0;
  residue = cond (is_set valid_bit (get_or b 0 0)) (some (signed (2 ^ 31) (be 4 b 3))) none;
}

-- the descriptor form, in whatever order its descriptors stand: the stream's byte 3 has the flags, and the information's bytes 4–11, where
-- its byte 2 says so, are a residue in 64 signed bits
unfoldable pub descriptor_reading : List ℕ → Reading
descriptor_reading b =
    let flags = get_or (found stream_type b) 3 0 in
    let information = found information_type b in
    record {
      filemark = is_set filemark_bit flags;
      eom = is_set eom_bit flags;
      ili = is_set ili_bit flags;
      key = bit_and (get_or b 1 0) 0x0F;
      asc = get_or b 2 0;
      ascq = get_or b 3 0;
      residue = cond (is_set 0x80 (get_or information 2 0)) (some (signed (2 ^ 63) (be 8 information 4))) none;
    }

-- the low seven bits of byte 0 say which form it is: 70h or 72h
unfoldable pub reading_of : List ℕ → Option Reading
reading_of b =
    let code = bit_and (get_or b 0 0) 0x7F in
    cond (eqb code 0x70) (some (fixed_reading b)) (cond (eqb code descriptor_code) (some (descriptor_reading b)) none)
