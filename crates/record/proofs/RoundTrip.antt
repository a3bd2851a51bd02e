-- The record's round trips: what a drive encodes to decodes to it, and what thirty bytes decode to encodes to them. And how the code
-- comes by both.
-- Assumes nothing.
use mathlib.Core.Path.{◌≡◌, sym, ap, ◌∙◌}
use mathlib.Core.List.{List, [], ◌∷◌, ◌++◌}
use Prim.Native.Nat.{ℕ, ◌+◌, ◌*◌, ◌/◌, ◌%◌, ◌^◌, ◌<◌}
use native.Mathlib.Omega.{arith}
use lib.ListN.{length, get_or, take, drop, length-append, length-drop}
use lib.Seq.{take_all}
use Rattle.words.specs.Words.{be, bytes, over}
use Rattle.words.proofs.Laws.{length_bytes_lem, be_bytes, over_over, over_all, firsts_eq}
use Rattle.words.proofs.Stores.{four_bytes, four_back, spelt4}
use Rattle.sense.specs.Sense.{sense_length}
use Rattle.record.specs.declared.drive.Drive.{Drive}
use Rattle.record.specs.Record.{record_length, decode_of, encode_of}
use Rattle.record.proofs.Facts.{Bounded}

-- ---- round trips

word_back : (n : ℕ) → n < 2 ^ 32 → n / 16777216 % 256 * 16777216 + n / 65536 % 256 * 65536 + n / 256 % 256 * 256 + n % 256 ≡ n
word_back n h = sym (spelt4 (n / 16777216 % 256 ∷ n / 65536 % 256 ∷ n / 256 % 256 ∷ n % 256 ∷ []) 0) ∙ ap (λ (l : List ℕ). be 4 l 0) (sym (four_bytes n)) ∙ be_bytes 4 n h

pub decode_encode : (d : Drive) → Bounded d → decode_of (encode_of d) ≡ d
unfolding decode_of encode_of
decode_encode d h =
    rw (four_bytes d.position, four_bytes d.block_length) (λ i. record {
      loaded = d.loaded;
      partitions = d.partitions;
      current = d.current;
      attention = d.attention;
      position = (spelt4 (encoded d) 4 ∙ word_back d.position h.position_fits) i;
      block_length = (spelt4 (encoded d) 8 ∙ word_back d.block_length h.block_fits) i;
      sense = take_all sense_length d.sense (omega (arith, h.sense_length_lem)) i;
    })
  where
    encoded : Drive → List ℕ
    encoded d =
        (d.loaded ∷ d.partitions ∷ d.current ∷ d.attention ∷ [])
        ++ (d.position / 16777216 % 256 ∷ d.position / 65536 % 256 ∷ d.position / 256 % 256 ∷ d.position % 256 ∷ [])
        ++ (d.block_length / 16777216 % 256 ∷ d.block_length / 65536 % 256 ∷ d.block_length / 256 % 256 ∷ d.block_length % 256 ∷ [])
        ++ d.sense

pub encode_decode : (s : List ℕ) → length s ≡ record_length → ((k : ℕ) → get_or s k 0 < 256) → encode_of (decode_of s) ≡ s
unfolding decode_of encode_of
encode_decode s h b =
    let f4 = four_back s 4 (b 4) (b 5) (b 6) (b 7) in
    let f8 = four_back s 8 (b 8) (b 9) (b 10) (b 11) in
    let t : take sense_length (drop 12 s) ≡ drop 12 s = take_all sense_length (drop 12 s) (simp length-drop (omega arith)) in
    let w : s ≡ firsts_12 s ++ drop 12 s = firsts_eq 12 0 s (omega arith) in
    (λ i. (get_or s 0 0 ∷ get_or s 1 0 ∷ get_or s 2 0 ∷ get_or s 3 0 ∷ []) ++ f4 i ++ f8 i ++ t i) ∙ sym w
  where
    firsts_12 : List ℕ → List ℕ
    firsts_12 s = get_or s 0 0 ∷ get_or s 1 0 ∷ get_or s 2 0 ∷ get_or s 3 0 ∷ get_or s 4 0 ∷ get_or s 5 0 ∷ get_or s 6 0 ∷ get_or s 7 0 ∷ get_or s 8 0 ∷ get_or s 9 0 ∷ get_or s 10 0 ∷ get_or s 11 0 ∷ []

-- a record is its fields: three of them are what the callees ensure
pub decoded : (s : List ℕ) (p b : ℕ) (x : List ℕ) → p ≡ be 4 s 4 → b ≡ be 4 s 8 → x ≡ take sense_length (drop 12 s)
    → ◌≡◌ {A = Drive} (record { loaded = get_or s 0 0; partitions = get_or s 1 0; current = get_or s 2 0; attention = get_or s 3 0; position = p; block_length = b; sense = x }) (decode_of s)
unfolding decode_of
decoded s p b x e f g = λ i. record { loaded = get_or s 0 0; partitions = get_or s 1 0; current = get_or s 2 0; attention = get_or s 3 0; position = e i; block_length = f i; sense = g i }

-- ---- as the code writes it: four runs, one right behind the other, that fill thirty bytes

pub filled : (o h : List ℕ) (p b : ℕ) (s : List ℕ) → length o ≡ record_length → length h ≡ 4 → length s ≡ sense_length
    → over (over (over (over o 0 h) 4 (bytes 4 p)) 8 (bytes 4 b)) 12 s ≡ h ++ bytes 4 p ++ bytes 4 b ++ s
filled o h p b s lo lh ls =
    let lp : length (bytes 4 p) ≡ 4 = length_bytes_lem 4 p in
    let lb : length (bytes 4 b) ≡ 4 = length_bytes_lem 4 b in
    let l8 : length (h ++ bytes 4 p) ≡ 8 = length-append h (bytes 4 p) ∙ omega arith in
    let l12 : length (h ++ bytes 4 p ++ bytes 4 b) ≡ 12 = length-append (h ++ bytes 4 p) (bytes 4 b) ∙ omega arith in
    let l30 : length (h ++ bytes 4 p ++ bytes 4 b ++ s) ≡ length o = length-append (h ++ bytes 4 p ++ bytes 4 b) s ∙ omega arith in
    let a : over (over o 0 h) 4 (bytes 4 p) ≡ over o 0 (h ++ bytes 4 p)
    = ap (λ (n : ℕ). over (over o 0 h) n (bytes 4 p)) (let e : 4 ≡ 0 + length h = omega arith in e) ∙ over_over o 0 h (bytes 4 p) (omega arith) in
    let c : over (over o 0 (h ++ bytes 4 p)) 8 (bytes 4 b) ≡ over o 0 (h ++ bytes 4 p ++ bytes 4 b)
    = ap (λ (n : ℕ). over (over o 0 (h ++ bytes 4 p)) n (bytes 4 b)) (let e : 8 ≡ 0 + length (h ++ bytes 4 p) = omega arith in e) ∙ over_over o 0 (h ++ bytes 4 p) (bytes 4 b) (omega arith) in
    let d : over (over o 0 (h ++ bytes 4 p ++ bytes 4 b)) 12 s ≡ over o 0 (h ++ bytes 4 p ++ bytes 4 b ++ s)
    = ap (λ (n : ℕ). over (over o 0 (h ++ bytes 4 p ++ bytes 4 b)) n s) (let e : 12 ≡ 0 + length (h ++ bytes 4 p ++ bytes 4 b) = omega arith in e) ∙ over_over o 0 (h ++ bytes 4 p ++ bytes 4 b) s (omega arith) in
    ap (λ (x : List ℕ). over (over x 8 (bytes 4 b)) 12 s) a ∙ ap (λ (x : List ℕ). over x 12 s) c ∙ d ∙ over_all o (h ++ bytes 4 p ++ bytes 4 b ++ s) l30
