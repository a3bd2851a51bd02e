-- The objects of an image by number: how many, which, how many bytes and filemarks before a number, and what lies ahead of and
-- behind a position.
-- Assumes nothing.
use Rattle.std.proofs.Common.{◌≡◌, ℕ, zero, suc, ◌+◌, ◌<◌, ◌≤◌, Bool, true, false, cond, List, [], ◌∷◌, ◌++◌, length, get_or, take, drop, sym, refl, ap, ◌∙◌, ap₂, le_refl, not-suc-le-zero, arith, length-append, take_all, drop-cons}
use mathlib.Core.Option.{none, some}
use native.Mathlib.Decide.{dec_le}
use lib.ListN.{get_elem?, get_or-append}
use lib.Seq.{slice, length-slice, take-append-le, get_or_at}
use Rattle.objects.specs.Object.{Object, filemark, block, is_filemark, data_of, bytes_in, filemarks_in}
use Rattle.objects.specs.Movement.{before}
use Rattle.objects.proofs.Standing.{get_past}
use Rattle.objects.proofs.Count.{bytes_snoc, filemarks_snoc}
use Rattle.image.specs.Image.{count, entry, top_bit, end_at, object_at, upto, objects, filemarks_before}
use Rattle.image.proofs.Facts.{Sound, ordered_at, follows_same, follows_size, ends_in}

-- ---- lists made by number

pub upto_cong : (f g : ℕ → Object) (n : ℕ) → ((i : ℕ) → i < n → f i ≡ g i) → upto f n ≡ upto g n
unfolding upto
upto_cong f g zero h = refl
upto_cong f g (suc n) h = ap₂ {C = List Object} (λ x y. x ++ y ∷ []) (upto_cong f g n (λ i k. h i (omega arith))) (h n (le_refl (suc n)))

pub length_upto : (f : ℕ → Object) (n : ℕ) → length (upto f n) ≡ n
unfolding upto
length_upto f zero = refl
length_upto f (suc n) = length-append (upto f n) (f n ∷ []) ∙ rw (length_upto f n) (omega arith)

pub take_upto : (f : ℕ → Object) (n p : ℕ) → p ≤ n → take p (upto f n) ≡ upto f p
unfolding upto
take_upto f zero p h = let z : p ≡ 0 = omega arith in rw z
take_upto f (suc n) p h = go (dec_le p n) (λ m. take_upto f n p m)
  where
    go : Dec (p ≤ n) → (p ≤ n → take p (upto f n) ≡ upto f p) → take p (upto f n ++ f n ∷ []) ≡ upto f p
    go (yes m) ih = take-append-le p (upto f n) (f n ∷ []) (omega (arith, length_upto f n)) ∙ ih m
    go (no m) ih =
        let z : p ≡ suc n = omega arith in
        rw z (take_all (suc n) (upto f n ++ f n ∷ []) (omega (arith, length_upto f n, length-append (upto f n) (f n ∷ []))))

get_d_upto : (f : ℕ → Object) (n i : ℕ) (d : Object) → i < n → get_or (upto f n) i d ≡ f i
unfolding upto
get_d_upto f zero i d h = absurd (not-suc-le-zero h)
get_d_upto f (suc n) i d h = go (dec_le (suc i) n) (get_d_upto f n i d)
  where
    go : Dec (i < n) → (i < n → get_or (upto f n) i d ≡ f i) → get_or (upto f n ++ f n ∷ []) i d ≡ f i
    go (yes k) ih = get_or-append (upto f n) (f n ∷ []) d i (omega (arith, length_upto f n)) ∙ ih k
    go (no k) ih = let z : i ≡ n = omega arith in rw z (get_or_at (upto f n) (f n) [] d n (length_upto f n))

-- ---- the objects of an image

pub length_objects : (s : List ℕ) → length (objects s) ≡ count s
unfolding objects
length_objects s = length_upto (object_at s) (count s)

pub take_objects : (s : List ℕ) (p : ℕ) → p ≤ count s → take p (objects s) ≡ upto (object_at s) p
unfolding objects
take_objects s p h = take_upto (object_at s) (count s) p h

pub object_is : (s : List ℕ) (i : ℕ) (d : Object) → i < count s → get_or (objects s) i d ≡ object_at s i
unfolding objects
object_is s i d h = get_d_upto (object_at s) (count s) i d h

-- what lies ahead of position p, and what lies before p + 1, one object further
pub ahead_step : (s : List ℕ) (p : ℕ) → p < count s → drop p (objects s) ≡ object_at s p ∷ drop (suc p) (objects s)
ahead_step s p h =
    drop-cons (objects s) p filemark (omega (arith, length_objects s))
    ∙ ap (λ (o : Object). o ∷ drop (suc p) (objects s)) (object_is s p filemark h)

pub behind_step : (s : List ℕ) (p : ℕ) → p < count s → before (suc p) (objects s) ≡ object_at s p ∷ before p (objects s)
unfolding before
behind_step s p h = ap (λ (o : Object). o ∷ before p (objects s)) (object_is s p filemark h)

-- the object at a number, and none behind the last
get_drop : (xs : List Object) (p : ℕ) → get_elem? xs p ≡ get_elem? (drop p xs) 0
get_drop [] zero = refl
get_drop [] (suc p) = refl
get_drop (x ∷ xs) zero = refl
get_drop (x ∷ xs) (suc p) = get_drop xs p

pub object_there : (s : List ℕ) (p : ℕ) → p < count s → get_elem? (objects s) p ≡ some (object_at s p)
object_there s p h = get_drop (objects s) p ∙ ap (λ (xs : List Object). get_elem? xs 0) (ahead_step s p h)

pub object_past : (s : List ℕ) (p : ℕ) → count s ≤ p → get_elem? (objects s) p ≡ none
object_past s p h = get_past (objects s) p (omega (arith, length_objects s))

-- ---- one object: its data's length, and whether it is a filemark

pub object_data : (s : List ℕ) → Sound s → (i : ℕ) → i < count s → end_at s i + length (data_of (object_at s i)) ≡ end_at s (suc i)
unfolding object_at end_at
object_data s k i h = by (top_bit (entry s i)) refl
  where
    by : (t : Bool) → top_bit (entry s i) ≡ t → end_at s i + length (data_of (cond t filemark (block (slice (end_at s i) (end_at s (suc i)) s)))) ≡ end_at s (suc i)
    by true q = omega (arith, follows_same (end_at s i) (entry s i) (ordered_at s i (count s) h k.in_order) q)
    by false q =
        let g = follows_size (end_at s i) (entry s i) (ordered_at s i (count s) h k.in_order) q in
        omega (arith, length-slice (end_at s i) (end_at s (suc i)) s (omega (arith, ends_in s k (suc i) h, k.dir_is)))

pub object_filemark : (s : List ℕ) (i : ℕ) → is_filemark (object_at s i) ≡ top_bit (entry s i)
unfolding object_at
object_filemark s i = by (top_bit (entry s i))
  where
    by : (t : Bool) → is_filemark (cond t filemark (block (slice (end_at s i) (end_at s (suc i)) s))) ≡ t
    by true = refl
    by false = refl

-- ---- sums over the first n objects

-- end(n) is what the objects before n hold: room can be reckoned from objects alone
end_upto : (s : List ℕ) → Sound s → (n : ℕ) → n ≤ count s → bytes_in (upto (object_at s) n) ≡ end_at s n
unfolding upto
end_upto s k zero h = unfold bytes_in end_at in refl
end_upto s k (suc n) h = bytes_snoc (upto (object_at s) n) (object_at s n) ∙ ap (λ (b : ℕ). b + length (data_of (object_at s n))) (end_upto s k n (omega arith)) ∙ object_data s k n h

pub end_bytes : (s : List ℕ) → Sound s → (n : ℕ) → n ≤ count s → end_at s n ≡ bytes_in (take n (objects s))
end_bytes s k n h = sym (end_upto s k n h) ∙ ap bytes_in (sym (take_objects s n h))

filemarks_upto : (s : List ℕ) (n : ℕ) → filemarks_in (upto (object_at s) n) ≡ filemarks_before s n
unfolding upto filemarks_before
filemarks_upto s zero = unfold filemarks_in in refl
filemarks_upto s (suc n) =
    filemarks_snoc (upto (object_at s) n) (object_at s n)
    ∙ ap₂ (λ (a : ℕ) (t : Bool). a + cond t 1 0) (filemarks_upto s n) (object_filemark s n)

pub filemarks_before_lem : (s : List ℕ) (n : ℕ) → n ≤ count s → filemarks_before s n ≡ filemarks_in (take n (objects s))
filemarks_before_lem s n h = sym (filemarks_upto s n) ∙ ap filemarks_in (sym (take_objects s n h))
