-- SPACE (16) with a count that fits 24 bits leaves what SPACE (6) leaves, LOCATE (16) to an object what LOCATE (10) leaves: the whole outcome, for every record, partition and buffer.
-- Assumes nothing.
use Prim.Native.Nat.{ℕ, zero, suc, ◌+◌, ◌-◌, ◌^◌, ◌%◌, ◌<◌}
use native.Mathlib.Nat.{pow-suc}
use native.Mathlib.Omega.{arith}
use mathlib.Core.Path.{◌≡◌, refl, sym, ap, ◌∙◌}
use mathlib.Core.Bool.{Bool, true, false, cond, ◌&&◌}
use mathlib.Core.List.{List}
use borrow.Author.Tests.{eq-eqb}
use lib.Bits.{bit_and, and_mask}
use lib.Dec.{eqb, leb}
use lib.IntN.{ℤ, pos, negsuc}
use lib.ListN.{length}
use Rattle.words.specs.Words.{be, bytes}
use Rattle.words.specs.Signed.{signed}
use Rattle.words.proofs.Laws.{be_bytes}
use Rattle.words.proofs.Wraps.{signed_low, signed_high}
use Rattle.answers.specs.Answers.{record_fault, refused, first}
use Rattle.record.specs.declared.drive.Drive.{Drive}
use Rattle.record.specs.Record.{decode_of, well_record}
use Rattle.codes.specs.declared.operation.Operation.{Operation}
use Rattle.codes.specs.declared.operation.Operation.TheVariants.{Space, Locate, Space16, Locate16}
use Rattle.codes.specs.Codes.{too_short, in_masks, masks_hold}
use Rattle.codes.specs.Six.{six}
use Rattle.codes.specs.Sixteen.{sixteen}
use Rattle.codes.specs.Fields.{space_code_of, space_count_of, space_count16_of, changes_partition, object_of, partition_of, destination_of, partition16_of, identifier_of}
use Rattle.objects.specs.Transfer.{fitting, put_from}
use Rattle.commands.specs.Act.{Seen, offered, goes_down, target_of, destination16, act, events_of}
use Rattle.commands.specs.Tests.{field_error, taken, reply_length, needed, tests}
use Rattle.commands.specs.Step.{acted, unless, step}
use Rattle.commands.specs.Call.{lent, Outcome, outcome, looks_at, seen, faulty, applied, step_of, called, written, command_call}
use Rattle.alike.specs.Alike.{under, Pair, SameSpace, SameLocate, in_bits, Fits, Fits24, space_short, space_long, locate_short, locate_long}

-- ---- two commands that look at the same partition, make the same tests and do the same

module _ (o p : Operation) (rec short long p0 p1 sent received : List ℕ) (pair : Pair o p short long) where
  abbrev d : Drive
  d = decode_of rec

  alike : looks_at o d short ≡ looks_at p d long
      → ((v : Seen) → tests o d short v sent (length received) ≡ tests p d long v sent (length received))
      → ((v : Seen) → acted o d short sent v ≡ acted p d long sent v)
      → command_call rec (lent long p0 p1 sent received) ≡ under long (command_call rec (lent short p0 p1 sent received))
  unfolding command_call called step_of step seen
  alike l t a = rw (pair.is_short, pair.is_long, pair.short_whole, pair.long_whole, l, t _, a _) (go (faulty (well_record rec) d (lent short p0 p1 sent received)))
    where
      v : Seen
      v = seen p d (lent long p0 p1 sent received)

      left : List ℕ → Outcome
      left cmd = applied (unless (first (tests p d long v sent (length received))) d (acted p d long sent v)) (looks_at p d long) (lent cmd p0 p1 sent received)

      go : (b : Bool) → written rec (cond b (outcome (refused record_fault) d (lent long p0 p1 sent received)) (left long)) ≡ under long (written rec (cond b (outcome (refused record_fault) d (lent short p0 p1 sent received)) (left short)))
      go true = refl
      go false = unfold applied in refl

-- ---- SPACE

-- SPACE (6) and SPACE (16) that say the same leave the same
pub space_alike : (rec short long p0 p1 sent received : List ℕ) → SameSpace short long → command_call rec (lent long p0 p1 sent received) ≡ under long (command_call rec (lent short p0 p1 sent received))
space_alike rec short long p0 p1 sent received s = alike Space Space16 rec short long p0 p1 sent received s.pair looks tested does
  where
    looks : looks_at Space (decode_of rec) short ≡ looks_at Space16 (decode_of rec) long
    looks = unfold looks_at in refl

    tested : (v : Seen) → tests Space (decode_of rec) short v sent (length received) ≡ tests Space16 (decode_of rec) long v sent (length received)
    tested v = unfold tests field_error taken needed reply_length in rw (s.pair.masks, s.code) refl

    does : (v : Seen) → acted Space (decode_of rec) short sent v ≡ acted Space16 (decode_of rec) long sent v
    does v = unfold acted act events_of goes_down offered fitting put_from in rw (s.code, s.count) refl

-- ---- LOCATE

-- LOCATE (10) and LOCATE (16) to the same object leave the same
pub locate_alike : (rec short long p0 p1 sent received : List ℕ) → SameLocate short long → command_call rec (lent long p0 p1 sent received) ≡ under long (command_call rec (lent short p0 p1 sent received))
locate_alike rec short long p0 p1 sent received s = alike Locate Locate16 rec short long p0 p1 sent received s.pair looks tested does
  where
    d : Drive
    d = decode_of rec

    picks : (b : Bool) → (b ≡ true → partition_of short ≡ partition16_of long) → cond b (partition_of short) d.current ≡ cond b (partition16_of long) d.current
    picks true h = h refl
    picks false h = refl

    asks : (b : Bool) → (b ≡ true → partition_of short ≡ partition16_of long) → b && leb d.partitions (partition_of short) ≡ b && leb d.partitions (partition16_of long)
    asks true h = ap (leb d.partitions) (h refl)
    asks false h = refl

    target : target_of Locate d short ≡ target_of Locate16 d long
    target = unfold target_of in picks (changes_partition short) s.partition ∙ ap (λ (b : Bool). cond b (partition16_of long) d.current) s.changes

    named : changes_partition short && leb d.partitions (partition_of short) ≡ changes_partition long && leb d.partitions (partition16_of long)
    named = asks (changes_partition short) s.partition ∙ ap (λ (b : Bool). b && leb d.partitions (partition16_of long)) s.changes

    looks : looks_at Locate d short ≡ looks_at Locate16 d long
    looks = unfold looks_at in target

    tested : (v : Seen) → tests Locate d short v sent (length received) ≡ tests Locate16 d long v sent (length received)
    tested v = unfold tests field_error taken needed reply_length in rw (s.pair.masks, s.by_object_lem, named) refl

    does : (v : Seen) → acted Locate d short sent v ≡ acted Locate16 d long sent v
    does v = unfold acted act destination16 events_of goes_down offered fitting put_from in rw (target, s.by_object_lem, s.identifier) refl

-- ---- as hosts write them

pub and_true : (b : Bool) → b && true ≡ b
and_true true = refl
and_true false = refl

-- a byte lies within FF, CP and IMMED within the masks of byte 1
pub in_byte : (x : ℕ) → eqb (bit_and (x % 256) 0xFF) (x % 256) ≡ true
in_byte x = let e : x % 256 % 2 ^ 8 ≡ x % 256 = omega arith in eq-eqb (bit_and (x % 256) 0xFF) (x % 256) (and_mask (x % 256) 8 ∙ e)

in_flags : (f : ℕ) → f < 4 → (eqb (bit_and f 0x03) f ≡ true) × (eqb (bit_and f 0x3B) f ≡ true)
in_flags zero h = (refl, refl)
in_flags (suc zero) h = (refl, refl)
in_flags (suc (suc zero)) h = (refl, refl)
in_flags (suc (suc (suc zero))) h = (refl, refl)
in_flags (suc (suc (suc (suc f)))) h = absurd (omega arith)

-- the bytes of a number spell it
three : (code n : ℕ) → n < 2 ^ 24 → be 3 (six 0x11 code n) 2 ≡ n
unfolding be bytes
three code n h = be_bytes 3 n h

four : (flags partition n : ℕ) → n < 2 ^ 32 → be 4 (locate_short flags partition n) 3 ≡ n
unfolding be bytes
four flags partition n h = be_bytes 4 n h

eight : (op byte1 byte3 n : ℕ) → n < 2 ^ 64 → be 8 (sixteen op byte1 byte3 n) 4 ≡ n
unfolding be bytes
eight op byte1 byte3 n h = be_bytes 8 n h

-- an integer that fits n + 1 bits: a number of that many bits, and read back
module _ (n : ℕ) where
  in_bits_lem : (k : ℤ) → Fits n k → in_bits (suc n) k < 2 ^ suc n
  in_bits_lem (pos m) h = omega (arith, pow-suc 2 n)
  in_bits_lem (negsuc m) h = omega (arith, pow-suc 2 n)

  read_back : (k : ℤ) → Fits n k → signed (2 ^ n) (in_bits (suc n) k) ≡ k
  read_back (pos m) h = signed_low (2 ^ n) m h
  read_back (negsuc m) h =
      let e : 2 ^ n + 2 ^ n - suc (2 ^ suc n - suc m) ≡ m = omega (arith, pow-suc 2 n) in
      signed_high (2 ^ n) (2 ^ suc n - suc m) (omega (arith, pow-suc 2 n)) ∙ ap negsuc e

-- so the count of SPACE, of either length, is what the host wrote
pub count_short : (code : ℕ) (k : ℤ) → Fits24 k → space_count_of (space_short code k) ≡ k
unfolding space_count_of
count_short code k h = ap (signed (2 ^ 23)) (three code _ (in_bits_lem 23 k h)) ∙ read_back 23 k h

pub count_long : (code : ℕ) (k : ℤ) → Fits 63 k → space_count16_of (space_long code k) ≡ k
unfolding space_count16_of
count_long code k h = ap (signed (2 ^ 63)) (eight 0x91 code 0 _ (in_bits_lem 63 k h)) ∙ read_back 63 k h

-- what fits 24 bits fits 64
pub fits_long : (k : ℤ) → Fits24 k → Fits 63 k
fits_long (pos m) h = omega arith
fits_long (negsuc m) h = omega arith

-- SPACE (6) and SPACE (16) with any code and any count that fits 24 bits, as hosts write them, say the same
pub spaces_same : (code : ℕ) (k : ℤ) → Fits24 k → SameSpace (space_short code k) (space_long code k)
unfolding space_code_of space_count_of space_count16_of
spaces_same code k h = record {
  pair = record { is_short = refl; is_long = refl; short_whole = unfold too_short bytes in refl; long_whole = unfold too_short bytes in refl; masks = within _ _ };
  code = refl;
  count = count_short code k h ∙ sym (count_long code k (fits_long k h));
}
  where
    within : (m n : ℕ) → masks_hold (six 0x11 code m) ≡ masks_hold (sixteen 0x91 code 0 n)
    within m n = unfold masks_hold in_masks bytes in simp (in_byte, and_true) refl

-- LOCATE (10) and LOCATE (16) to any object below 2^32, as hosts write them, say the same
pub locates_same : (flags partition k : ℕ) → flags < 4 → k < 2 ^ 32 → SameLocate (locate_short flags partition k) (locate_long flags partition k)
unfolding changes_partition partition_of partition16_of destination_of object_of identifier_of
locates_same flags partition k f h = record {
  pair = record { is_short = refl; is_long = refl; short_whole = unfold too_short bytes in refl; long_whole = unfold too_short bytes in refl; masks = unfold masks_hold in_masks bytes in simp (in_byte, and_true, (in_flags flags f).0, (in_flags flags f).1) refl };
  by_object_lem = omega arith;
  changes = refl;
  partition = λ _. unfold bytes in refl;
  identifier = four flags partition k h ∙ sym (eight 0x92 flags partition k (omega arith));
}

-- ---- together

-- SPACE (16) with any code and any count that fits 24 bits leaves what SPACE (6) with them leaves
pub space_short_long : (rec p0 p1 sent received : List ℕ) (code : ℕ) (k : ℤ) → Fits24 k
    → command_call rec (lent (space_long code k) p0 p1 sent received) ≡ under (space_long code k) (command_call rec (lent (space_short code k) p0 p1 sent received))
space_short_long rec p0 p1 sent received code k h = space_alike rec (space_short code k) (space_long code k) p0 p1 sent received (spaces_same code k h)

-- LOCATE (16) to any object below 2^32, of the current or a named partition, leaves what LOCATE (10) to it leaves
pub locate_short_long : (rec p0 p1 sent received : List ℕ) (flags partition k : ℕ) → flags < 4 → k < 2 ^ 32
    → command_call rec (lent (locate_long flags partition k) p0 p1 sent received) ≡ under (locate_long flags partition k) (command_call rec (lent (locate_short flags partition k) p0 p1 sent received))
locate_short_long rec p0 p1 sent received flags partition k f h = locate_alike rec (locate_short flags partition k) (locate_long flags partition k) p0 p1 sent received (locates_same flags partition k f h)
