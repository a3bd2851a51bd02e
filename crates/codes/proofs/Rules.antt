-- The laws that the code's tests cite: the row of an operation code, a command block's length, its masks.
-- Assumes nothing.
use mathlib.Core.Path.{◌≡◌, refl, sym, ap, ◌∙◌}
use mathlib.Core.Bool.{Bool, true, false, cond, ◌&&◌}
use mathlib.Core.List.{List, [], ◌∷◌, ◌++◌}
use Prim.Native.Nat.{ℕ, zero, suc, ◌+◌, ◌-◌, ◌<◌, ◌≤◌}
use native.Mathlib.Omega.{arith}
use borrow.Author.Tests.{eqb-true, ne_eqb}
use Rattle.std.proofs.Math.Bool.{and-true, and_assoc}
use Rattle.std.proofs.lemmas.Bool.Decides.{nat_tests}
use Rattle.std.specs.List.{list_all, zip}
use lib.Bits.{bit_and}
use lib.Dec.{eqb, leb}
use lib.ListN.{length, get_or, take, drop, replicate, get_or-replicate}
use lib.Seq.{get_or-take}
use Rattle.codes.specs.declared.operation.Operation.{Operation}
use Rattle.codes.specs.declared.operation.Operation.TheVariants.{TestUnitReady, Rewind, RequestSense, ReadBlockLimits, Read, Write, WriteFilemarks, Space, ModeSelect, Erase, ModeSense, LoadUnload, Locate, ReadPosition, Space16, Locate16, NotServed}
use Rattle.codes.specs.Codes.{length_of, code_of, too_short, number_of, Row, rows, no_row, find, row_of, operation_of, masks_of, mask_count, spread, in_masks, masks_hold}
use Rattle.codes.proofs.Table.{tab, rule}

-- ---- the row of an operation code

-- what is known of a number that is none of the rows', said as a `match` says it: one number after the other
abbrev pub Past : List Row → ℕ → Type 0 → Type 0
Past [] op A = A
Past (r ∷ rs) op A = Past rs op (A × (op ≡ number_of r.operation → ⊥))

first_known : (rs : List Row) (op : ℕ) (A : Type 0) → Past rs op A → A
first_known [] op A h = h
first_known (r ∷ rs) op A h = (first_known rs op (A × (op ≡ number_of r.operation → ⊥)) h).0

none_found : (rs : List Row) (op : ℕ) (A : Type 0) → Past rs op A → no_row ≡ find rs op
none_found [] op A h = refl
none_found (r ∷ rs) op A h =
    let B : Type 0 = A × (op ≡ number_of r.operation → ⊥) in
    let n : number_of r.operation ≡ op → ⊥ = λ e. (first_known rs op B h).1 (sym e) in
    rw (ne_eqb (number_of r.operation) op n) (none_found rs op B h)

-- in the code's matches: an arm for a code, and the last
pub arm : {A : Type 0} (f : Row → A) {op n : ℕ} {x : A} → op ≡ n → x ≡ f (row_of n) → x ≡ f (row_of op)
arm f e q = q ∙ ap (λ (k : ℕ). f (row_of k)) (sym e)

pub last_arm : {A : Type 0} (f : Row → A) {op : ℕ} → Past rows op (Unit {0}) → f no_row ≡ f (row_of op)
last_arm f {op} h = ap f (none_found rows op (Unit {0}) h)

-- a row is found by the number of its operation, or none is
pub data Found (op : ℕ) (r : Row) : Type 0 where
  here : number_of r.operation ≡ op → Found op r
  nowhere : r ≡ no_row → Found op r

pub found : (rs : List Row) (op : ℕ) → Found op (find rs op)
found [] op = nowhere refl
found (r ∷ rs) op = by (eqb (number_of r.operation) op) refl (found rs op)
  where
    by : (t : Bool) → eqb (number_of r.operation) op ≡ t → Found op (find rs op) → Found op (cond t r (find rs op))
    by true q f = here (eqb-true (number_of r.operation) op q)
    by false q f = f

-- ---- a command block that is not too short

pub long_enough : (cmd : List ℕ) → too_short cmd ≡ false → (0 < length cmd) × (length_of (code_of cmd) ≤ length cmd)
unfolding too_short
long_enough cmd h = grind (arith, nat_tests)

-- no command block is longer than its masks reach: 1 at each code where that is so, computed once over all
reached : ℕ → ℕ
reached op = cond (leb (length_of op) (mask_count + 1)) 1 0

all_reached : tab reached 256 0 ≡ replicate 256 1
unfolding reached
all_reached = refl

pub longest : (op : ℕ) → op < 256 → length_of op ≤ mask_count + 1
unfolding reached
longest op h =
    let one : reached op ≡ 1 = sym (rule reached 256 op h) ∙ ap (λ (l : List ℕ). get_or l op 0) all_reached ∙ get_or-replicate 256 op 1 0 h in
    grind (arith, nat_tests, one)

-- ---- masks

-- a byte beside its mask lies within it
abbrev pub within : ℕ × ℕ → Bool
within p = eqb (bit_and p.0 p.1) p.0

-- the first byte beside the first mask, and then the others
front : (m xs : List ℕ) (a c x k : ℕ) → within (x, a) && in_masks m (x ∷ xs) k ≡ in_masks (a ∷ m) (c ∷ x ∷ xs) (suc k)
unfolding in_masks
front m xs a c x zero = and-true (within (x, a))
front m xs a c x (suc k) = sym (and_assoc (within (x, a)) (in_masks m (x ∷ xs) k) _) ∙ ap (λ (b : Bool). b && within (get_or (x ∷ xs) (suc k) 0, get_or m k 0)) (front m xs a c x k)

behind : (c : ℕ) (xs m : List ℕ) (n : ℕ) → n ≤ length xs → n ≤ length m → list_all within (zip (take n xs) m) ≡ in_masks m (c ∷ xs) n
unfolding in_masks
behind c xs m zero h g = refl
behind c [] m (suc n) h g = absurd (omega arith)
behind c (x ∷ xs) [] (suc n) h g = absurd (omega arith)
behind c (x ∷ xs) (a ∷ m) (suc n) h g = rw (behind x xs m n (omega arith) (omega arith)) (front m xs a c x n)

-- the bytes of a command block from byte 1 on beside their masks, in order
pub all_within : (cmd m : List ℕ) (n : ℕ) → n ≤ length cmd → n ≤ length m + 1 → list_all within (zip (drop 1 (take n cmd)) m) ≡ in_masks m cmd (n - 1)
unfolding in_masks
all_within cmd m zero h g = refl
all_within [] m (suc n) h g = absurd (omega arith)
all_within (c ∷ xs) m (suc n) h g = let e : suc n - 1 ≡ n = omega arith in rw e (behind c xs m n (omega arith) (omega arith))

-- a mask that a row does not list is 0
padded : (m : List ℕ) (k j : ℕ) → get_or (m ++ replicate j 0) k 0 ≡ get_or m k 0
padded [] k zero = refl
padded [] zero (suc j) = refl
padded [] (suc k) (suc j) = padded [] k j
padded (x ∷ m) zero j = refl
padded (x ∷ m) (suc k) j = padded m k j

-- so the masks spread out judge as those listed
spread_alike : (m cmd : List ℕ) (n : ℕ) → n ≤ mask_count → in_masks (spread m) cmd n ≡ in_masks m cmd n
unfolding in_masks
spread_alike m cmd zero h = refl
spread_alike m cmd (suc k) h =
    rw (spread_alike m cmd k (omega arith), get_or-take mask_count (m ++ replicate mask_count 0) k 0 (omega arith), padded m k mask_count) refl

pub masks_judged : (cmd m : List ℕ) (n : ℕ) → m ≡ spread (masks_of (code_of cmd)) → n ≡ length_of (code_of cmd) → n ≤ mask_count + 1 → in_masks m cmd (n - 1) ≡ masks_hold cmd
unfolding masks_hold
masks_judged cmd m n e f h = rw (e, ← f) (spread_alike (masks_of (code_of cmd)) cmd (n - 1) (omega arith))

-- ---- an operation's number is its code

pub operation_number : (o : Operation) → operation_of (number_of o) ≡ o
operation_number TestUnitReady = refl
operation_number Rewind = refl
operation_number RequestSense = refl
operation_number ReadBlockLimits = refl
operation_number Read = refl
operation_number Write = refl
operation_number WriteFilemarks = refl
operation_number Space = refl
operation_number ModeSelect = refl
operation_number Erase = refl
operation_number ModeSense = refl
operation_number LoadUnload = refl
operation_number Locate = refl
operation_number ReadPosition = refl
operation_number Space16 = refl
operation_number Locate16 = refl
operation_number NotServed = refl
