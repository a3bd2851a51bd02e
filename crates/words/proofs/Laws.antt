-- Laws of numbers in bytes and of runs laid over others, for every width, place and length: what was laid down is read back,
-- what lies elsewhere is as it was, lengths stay.
-- Assumes nothing.
use Rattle.std.proofs.Common.{◌≡◌, ℕ, zero, suc, ◌+◌, ◌-◌, ◌*◌, ◌/◌, ◌%◌, ◌^◌, ◌<◌, ◌≤◌, ◌⊎◌, List, [], ◌∷◌, ◌++◌, length, get_or, take, drop, sym, refl, ap, ◌∙◌, ap₂, inl, inr, append_assoc, append-nil, add-zero, add-suc, mul_assoc, div-lt_iff_lt-mul, suc-add, pow-suc, div-add-mod', zero-add, arith, lit<, length-append, length-drop, take-append-drop, drop_of_length-le, length-take, length-take-le, get_or-drop, drop-cons, get_or-take, take-suc, take-take, drop-drop, take_at, get_or-append-add, drop_at}
use native.Mathlib.Nat.{div-div-eq-div-mul, mul-add-div_right, mul-add-mod_self_right, pow-succ'}
use lib.ListN.{get_or-append}
use lib.Seq.{slice, slice_empty, length-slice, drop-append-le, take-nil, get_or_at}
use Rattle.words.specs.Words.{be, bytes, over}

-- ---- lengths

pub length_bytes_lem : (n v : ℕ) → length (bytes n v) ≡ n
unfolding bytes
length_bytes_lem zero v = refl
length_bytes_lem (suc n) v = length-append (bytes n (v / 256)) (v % 256 ∷ []) ∙ omega (arith, length_bytes_lem n (v / 256))

pub length_over : (s : List ℕ) (at : ℕ) (b : List ℕ) → at + length b ≤ length s → length (over s at b) ≡ length s
unfolding over
length_over s at b h = simp (length-append, length-take, length-drop) (omega arith)

-- ---- single bytes

pub get_d_over_lt : (s : List ℕ) (at : ℕ) (b : List ℕ) (j : ℕ) → j < at → at + length b ≤ length s → get_or (over s at b) j 0 ≡ get_or s j 0
unfolding over
get_d_over_lt s at b j h k =
    let l : length (take at s) ≡ at = length-take-le at s (omega arith) in
    get_or-append (take at s ++ b) _ 0 j (simp length-append (omega arith))
    ∙ get_or-append (take at s) b 0 j (omega arith)
    ∙ get_or-take at s j 0 h

pub get_d_over_ge : (s : List ℕ) (at : ℕ) (b : List ℕ) (j : ℕ) → at + length b ≤ j → at + length b ≤ length s → get_or (over s at b) j 0 ≡ get_or s j 0
unfolding over
get_d_over_ge s at b j h k =
    let l : length (take at s) ≡ at = length-take-le at s (omega arith) in
    let m : length (take at s ++ b) ≡ at + length b = simp length-append (omega arith) in
    let e : j ≡ length (take at s ++ b) + (j - (at + length b)) = omega arith in
    let f : at + length b + (j - (at + length b)) ≡ j = omega arith in
    ap (λ (i : ℕ). get_or (over s at b) i 0) e
    ∙ get_or-append-add (take at s ++ b) (drop (at + length b) s) (j - (at + length b)) 0
    ∙ get_or-drop (at + length b) s (j - (at + length b)) 0
    ∙ ap (λ (i : ℕ). get_or s i 0) f

pub get_d_over_in : (s : List ℕ) (at : ℕ) (b : List ℕ) (j : ℕ) → j < length b → at + length b ≤ length s → get_or (over s at b) (at + j) 0 ≡ get_or b j 0
unfolding over
get_d_over_in s at b j h k =
    let l : length (take at s) ≡ at = length-take-le at s (omega arith) in
    let e : at + j ≡ length (take at s) + j = omega arith in
    get_or-append (take at s ++ b) _ 0 (at + j) (simp length-append (omega arith))
    ∙ ap (λ (i : ℕ). get_or (take at s ++ b) i 0) e
    ∙ get_or-append-add (take at s) b j 0

-- a byte outside of the n bytes from `at` on
abbrev pub Outside : ℕ → ℕ → ℕ → Type 0
Outside j at n = (j < at) ⊎ (at + n ≤ j)

pub get_d_over_out : (s : List ℕ) (at : ℕ) (b : List ℕ) (j : ℕ) → at + length b ≤ length s → Outside j at (length b) → get_or (over s at b) j 0 ≡ get_or s j 0
get_d_over_out s at b j k (inl h) = get_d_over_lt s at b j h k
get_d_over_out s at b j k (inr h) = get_d_over_ge s at b j h k

-- ---- numbers

-- bytes that agree spell the same number
pub be_same : (n : ℕ) (s : List ℕ) (p : ℕ) (t : List ℕ) (q : ℕ) → ((j : ℕ) → j < n → get_or s (p + j) 0 ≡ get_or t (q + j) 0) → be n s p ≡ be n t q
unfolding be
be_same zero s p t q h = refl
be_same (suc n) s p t q h = ap₂ (λ (a b : ℕ). a * 256 + b) (be_same n s p t q (λ j k. h j (omega arith))) (h n (omega arith))

pub be_over_lt : (n : ℕ) (s : List ℕ) (at : ℕ) (b : List ℕ) (q : ℕ) → q + n ≤ at → at + length b ≤ length s → be n (over s at b) q ≡ be n s q
be_over_lt n s at b q h k = be_same n (over s at b) q s q (λ j l. get_d_over_lt s at b (q + j) (omega arith) k)

pub be_over_ge : (n : ℕ) (s : List ℕ) (at : ℕ) (b : List ℕ) (q : ℕ) → at + length b ≤ q → at + length b ≤ length s → be n (over s at b) q ≡ be n s q
be_over_ge n s at b q h k = be_same n (over s at b) q s q (λ j l. get_d_over_ge s at b (q + j) (omega arith) k)

-- a number of n + 1 bytes is one of n bytes and one byte; the bytes of a number spell it
pub be_bytes : (n v : ℕ) → v < 256 ^ n → be n (bytes n v) 0 ≡ v
unfolding be bytes
be_bytes zero v h = omega arith
be_bytes (suc n) v h =
    let small : v / 256 < 256 ^ n = (div-lt_iff_lt-mul (lit< tt)).1 (rw (← pow-suc 256 n) h) in
    let front : be n (bytes n (v / 256) ++ v % 256 ∷ []) 0 ≡ be n (bytes n (v / 256)) 0
    = be_same n (bytes n (v / 256) ++ v % 256 ∷ []) 0 (bytes n (v / 256)) 0 (λ j k. get_or-append (bytes n (v / 256)) (v % 256 ∷ []) 0 (0 + j) (omega (arith, length_bytes_lem n (v / 256)))) in
    let last : get_or (bytes n (v / 256) ++ v % 256 ∷ []) (0 + n) 0 ≡ v % 256 = rw (zero-add n) (get_or_at (bytes n (v / 256)) (v % 256) [] 0 n (length_bytes_lem n (v / 256))) in
    ap₂ (λ (a b : ℕ). a * 256 + b) (front ∙ be_bytes n (v / 256) small) last ∙ div-add-mod' v 256

pub be_lt : (n : ℕ) (s : List ℕ) (at : ℕ) → ((j : ℕ) → get_or s j 0 < 256) → be n s at < 256 ^ n
unfolding be
be_lt zero s at h = omega arith
be_lt (suc n) s at h = rw (pow-suc 256 n) (omega (arith, be_lt n s at h, h (at + n)))

-- a number of m + n bytes is one of m bytes above one of n
pub be_split : (m n : ℕ) (s : List ℕ) (at : ℕ) → be (m + n) s at ≡ be m s at * 256 ^ n + be n s (at + m)
unfolding be
be_split m zero s at = rw (add-zero m) (omega arith)
be_split m (suc n) s at = rw (add-suc m n) (
    let e : at + (m + n) ≡ at + m + n = omega arith in
    let p : be m s at * 256 ^ suc n ≡ be m s at * 256 ^ n * 256 = ap (λ (k : ℕ). be m s at * k) (pow-suc 256 n) ∙ sym (mul_assoc (be m s at) (256 ^ n) 256) in
    ap₂ (λ (a b : ℕ). a * 256 + get_or s b 0) (be_split m n s at) e ∙ omega (arith, p))

-- the bytes of a number are those of its upper part, then those of its lower
pub bytes_split : (m n v : ℕ) → bytes (m + n) v ≡ bytes m (v / 256 ^ n) ++ bytes n v
unfolding bytes
bytes_split m zero v = rw (add-zero m, append-nil) (let e : v ≡ v / 1 = omega arith in ap (bytes m) e)
bytes_split m (suc n) v = rw (add-suc m n) (
    let e : v / 256 / 256 ^ n ≡ v / 256 ^ suc n = div-div-eq-div-mul v 256 (256 ^ n) ∙ ap (λ (k : ℕ). v / k) (sym (pow-succ' 256 n)) in
    ap (λ (l : List ℕ). l ++ v % 256 ∷ []) (bytes_split m n (v / 256) ∙ ap (λ (k : ℕ). bytes m k ++ bytes n (v / 256)) e)
    ∙ append_assoc (bytes m (v / 256 ^ suc n)) (bytes n (v / 256)) (v % 256 ∷ []))

-- what lies above its n bytes has no say in them
bytes_above : (n q v : ℕ) → bytes n (q * 256 ^ n + v) ≡ bytes n v
unfolding bytes
bytes_above zero q v = refl
bytes_above (suc n) q v =
    let e : q * 256 ^ suc n + v ≡ q * 256 ^ n * 256 + v = ap (λ (k : ℕ). q * k + v) (pow-suc 256 n) ∙ ap (λ (k : ℕ). k + v) (sym (mul_assoc q (256 ^ n) 256)) in
    rw (e, mul-add-div_right (lit< tt) (q * 256 ^ n) v, mul-add-mod_self_right (q * 256 ^ n) 256 v, bytes_above n q (v / 256)) refl

pub bytes_low : (n v : ℕ) → bytes n (v % 256 ^ n) ≡ bytes n v
bytes_low n v = sym (bytes_above n (v / 256 ^ n) (v % 256 ^ n)) ∙ ap (bytes n) (div-add-mod' v (256 ^ n))

-- ---- the bytes of a number laid over s: read back, and elsewhere unchanged

module _ (n : ℕ) (s : List ℕ) (at v : ℕ) (fit : at + n ≤ length s) where
  put_fits : at + length (bytes n v) ≤ length s
  put_fits = rw (length_bytes_lem n v) fit

  pub length_put : length (over s at (bytes n v)) ≡ length s
  length_put = length_over s at (bytes n v) put_fits

  pub be_put : v < 256 ^ n → be n (over s at (bytes n v)) at ≡ v
  be_put k =
      let l : length (bytes n v) ≡ n = length_bytes_lem n v in
      be_same n (over s at (bytes n v)) at (bytes n v) 0 (λ j m. get_d_over_in s at (bytes n v) j (omega arith) put_fits ∙ ap (λ (i : ℕ). get_or (bytes n v) i 0) (sym (zero-add j)))
      ∙ be_bytes n v k

  pub get_d_put_lt : (j : ℕ) → j < at → get_or (over s at (bytes n v)) j 0 ≡ get_or s j 0
  get_d_put_lt j h = get_d_over_lt s at (bytes n v) j h put_fits

  pub get_d_put_ge : (j : ℕ) → at + n ≤ j → get_or (over s at (bytes n v)) j 0 ≡ get_or s j 0
  get_d_put_ge j h = get_d_over_ge s at (bytes n v) j (rw (length_bytes_lem n v) h) put_fits

  pub be_put_lt : (m q : ℕ) → q + m ≤ at → be m (over s at (bytes n v)) q ≡ be m s q
  be_put_lt m q h = be_over_lt m s at (bytes n v) q h put_fits

  pub be_put_ge : (m q : ℕ) → at + n ≤ q → be m (over s at (bytes n v)) q ≡ be m s q
  be_put_ge m q h = be_over_ge m s at (bytes n v) q (rw (length_bytes_lem n v) h) put_fits

-- ---- parts

pub drop_over : (s : List ℕ) (at : ℕ) (b : List ℕ) (n : ℕ) → at + length b ≤ n → at + length b ≤ length s → drop n (over s at b) ≡ drop n s
unfolding over
drop_over s at b n h k =
    let l : length (take at s) ≡ at = length-take-le at s (omega arith) in
    let m : length (take at s ++ b) ≡ at + length b = simp length-append (omega arith) in
    let e : at + length b + (n - (at + length b)) ≡ n = omega arith in
    ap (λ (i : ℕ). drop i (over s at b)) (sym e)
    ∙ sym (drop-drop (n - (at + length b)) (at + length b) (over s at b))
    ∙ ap (drop (n - (at + length b))) (drop_at (take at s ++ b) _ (at + length b) m)
    ∙ drop-drop (n - (at + length b)) (at + length b) s
    ∙ ap (λ (i : ℕ). drop i s) e

pub slice_over : (s : List ℕ) (at : ℕ) (b : List ℕ) → at + length b ≤ length s → slice at (at + length b) (over s at b) ≡ b
unfolding over
slice_over s at b k =
    let l : length (take at s) ≡ at = length-take-le at s (omega arith) in
    ap (drop at) (take_at (take at s ++ b) _ (at + length b) (simp length-append (omega arith))) ∙ drop_at (take at s) b at l

-- a run laid right behind another is one run
pub over_over : (s : List ℕ) (at : ℕ) (a b : List ℕ) → at + length a + length b ≤ length s → over (over s at a) (at + length a) b ≡ over s at (a ++ b)
unfolding over
over_over s at a b h =
    let l : length (take at s) ≡ at = length-take-le at s (omega arith) in
    let m : length (take at s ++ a) ≡ at + length a = simp length-append (omega arith) in
    let front : take (at + length a) (over s at a) ≡ take at s ++ a = take_at (take at s ++ a) _ (at + length a) m in
    let back : drop (at + length a + length b) (over s at a) ≡ drop (at + length a + length b) s = drop_over s at a (at + length a + length b) (omega arith) (omega arith) in
    let len : at + length a + length b ≡ at + length (a ++ b) = simp length-append (omega arith) in
    ap₂ (λ (x y : List ℕ). x ++ b ++ y) front back
    ∙ ap₂ (λ (x : List ℕ) (n : ℕ). x ++ drop n s) (append_assoc (take at s) a b) len

-- a run as long as s is all that is left
pub over_all : (s b : List ℕ) → length b ≡ length s → over s 0 b ≡ b
unfolding over
over_all s b h =
    let rest : drop (0 + length b) s ≡ [] = drop_of_length-le s {i = 0 + length b} (omega arith) in
    ap (λ (l : List ℕ). b ++ l) rest ∙ append-nil b

pub over_nil : (s : List ℕ) (at : ℕ) → over s at [] ≡ s
unfolding over
over_nil s at = rw (append-nil, add-zero) (take-append-drop at s)

-- ---- the number that stands there already

slice_snoc : (n : ℕ) (s : List ℕ) (at : ℕ) → at + suc n ≤ length s → slice at (at + suc n) s ≡ slice at (at + n) s ++ get_or s (at + n) 0 ∷ []
slice_snoc n s at h =
    let e : at + suc n ≡ suc (at + n) = omega arith in
    let f : length (take (at + n) s) ≡ at + n = length-take-le (at + n) s (omega arith) in
    rw e (ap (drop at) (take-suc s (at + n) 0 (omega arith)) ∙ drop-append-le at (take (at + n) s) (get_or s (at + n) 0 ∷ []) (omega arith))

-- bytes read as a number and written again
pub bytes_be : (n : ℕ) (s : List ℕ) (at : ℕ) → ((j : ℕ) → get_or s j 0 < 256) → at + n ≤ length s → bytes n (be n s at) ≡ slice at (at + n) s
unfolding be bytes
bytes_be zero s at byte h = rw (add-zero at) (sym (slice_empty at s))
bytes_be (suc n) s at byte h =
    let d : get_or s (at + n) 0 < 256 = byte (at + n) in
    let q : (be n s at * 256 + get_or s (at + n) 0) / 256 ≡ be n s at = omega arith in
    let r : (be n s at * 256 + get_or s (at + n) 0) % 256 ≡ get_or s (at + n) 0 = omega arith in
    rw (q, r) (ap (λ (l : List ℕ). l ++ get_or s (at + n) 0 ∷ []) (bytes_be n s at byte (omega arith)) ∙ sym (slice_snoc n s at h))

pub over_slice : (s : List ℕ) (at n : ℕ) → at + n ≤ length s → over s at (slice at (at + n) s) ≡ s
unfolding over
over_slice s at n h =
    let l : length (slice at (at + n) s) ≡ n = length-slice at (at + n) s h ∙ omega arith in
    let front : take at s ++ slice at (at + n) s ≡ take (at + n) s = ap (λ (x : List ℕ). x ++ slice at (at + n) s) (sym (take-take at (at + n) s (omega arith))) ∙ take-append-drop at (take (at + n) s) in
    ap₂ (λ (x : List ℕ) (k : ℕ). x ++ drop (at + k) s) front l ∙ take-append-drop (at + n) s

pub put_same : (n : ℕ) (s : List ℕ) (at : ℕ) → ((j : ℕ) → get_or s j 0 < 256) → at + n ≤ length s → over s at (bytes n (be n s at)) ≡ s
put_same n s at byte h = ap (over s at) (bytes_be n s at byte h) ∙ over_slice s at n h

-- ---- a list of n bytes, written out

abbrev pub firsts : ℕ → ℕ → List ℕ → List ℕ
firsts zero i s = []
firsts (suc n) i s = get_or s i 0 ∷ firsts n (suc i) s

pub firsts_eq : (n i : ℕ) (s : List ℕ) → n + i ≤ length s → drop i s ≡ firsts n i s ++ drop (n + i) s
firsts_eq zero i s h = ap (λ (k : ℕ). drop k s) (sym (zero-add i))
firsts_eq (suc n) i s h =
    let e : suc n + i ≡ n + suc i = suc-add n i ∙ sym (add-suc n i) in
    let k : n + suc i ≤ length s = omega arith in
    let m : i < length s = omega arith in
    drop-cons s i 0 m ∙ ap (λ (l : List ℕ). get_or s i 0 ∷ l) (firsts_eq n (suc i) s k ∙ ap (λ (j : ℕ). firsts n (suc i) s ++ drop j s) (sym e))

pub written_out : (n : ℕ) (s : List ℕ) → length s ≡ n → s ≡ firsts n 0 s
written_out n s h =
    let rest : drop (n + 0) s ≡ [] = drop_of_length-le s {i = n + 0} (omega arith) in
    firsts_eq n 0 s (omega arith) ∙ ap (λ (l : List ℕ). firsts n 0 s ++ l) rest ∙ append-nil (firsts n 0 s)

-- a part of a slice, as the code takes it, is `slice`
part_slice : (a k : ℕ) (s : List ℕ) → take k (drop a s) ≡ drop a (take (a + k) s)
part_slice zero k s = rw (zero-add k) refl
part_slice (suc a) k [] = rw (take-nil k, suc-add a k) refl
part_slice (suc a) k (x ∷ xs) = rw (suc-add a k) (part_slice a k xs)

pub part_is : (a b : ℕ) (s : List ℕ) → a ≤ b → take (b - a) (drop a s) ≡ slice a b s
part_is a b s h =
    let e : a + (b - a) ≡ b = omega arith in
    part_slice a (b - a) s ∙ ap (λ (n : ℕ). drop a (take n s)) e
