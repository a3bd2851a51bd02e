-- Demand 1 of the house services, on the answer of each: a refusal is given exactly under its condition of 01's table, by the order of the tests, and
-- no other is; a refused service leaves every byte. The view refuses nothing: when it is empty.
-- Assumes nothing.
use Prim.Native.Nat.{ℕ, zero, suc, ◌<◌, ◌-◌}
use mathlib.Core.Path.{◌≡◌, refl, sym, ap, ◌∙◌}
use mathlib.Core.Logic.Iff
use mathlib.Core.Logic.{◌↔◌, ◌≢◌, ◌⊎◌, inl, inr}
use mathlib.Core.Bool.{Bool, true, false, cond, not, ◌&&◌, ◌||◌}
use mathlib.Core.Option.{Option, none, some}
use mathlib.Core.List.{List}
use native.Mathlib.Omega.{arith}
use borrow.Author.Tests.{eqb-true, eqb-false, eq-eqb, ne_eqb, not-false, ltb-true, ltb-false}
use lib.Dec.{eqb, leb, ltb}
use lib.ListN.{length}
use lib.Seq.{slice}
use Rattle.answers.specs.Answers.{record_fault, already_loaded, unsound_image, wrong_length, refused, first, refusal_of, Settled, settled, settled_by}
use Rattle.answers.proofs.First.{NoneBefore, given_at, held, exactly, none_held, none_holds, Decides, fails, given, false_test, no_test, and_test, nand_test, same_test}
use Rattle.objects.specs.Object.{filemark, block}
use Rattle.image.specs.declared.part.Part.{Part}
use Rattle.image.specs.Image.{least_length, most_length, right_length, sound, count, entry, top_bit, end_at, object_at, fault_of, image_tests, absent}
use Rattle.image.specs.Parts.{empty_part, part_of}
use Rattle.image.proofs.Facts.{sound_parts, ordered_at, follows_size}
use Rattle.image.proofs.Objects.{object_there, object_past}
use Rattle.record.specs.Record.{record_length, decode_of, encode_of, well_record, fresh_drive, mounted_drive}
use Rattle.trailers.specs.Trailers.{blank, protect}
use Rattle.commands.specs.Conditions.{Empty, RecordWrong, Unsound, LentUnsound}
use Rattle.commands.proofs.Exact.{record_test, above_test}
use Rattle.house.specs.Mount.{partitions_of, right_lengths, both_sound, fresh_tests, fresh_call, mount_tests, mount_fault, mount_call}
use Rattle.house.specs.Images.{blank_tests, blank_call, protect_call}
use Rattle.views.specs.Views.{view_of}
use Rattle.exact.specs.House.{LengthOutside, LentOutside, AlreadyLoaded, Mount5, Mount7, Mount6, NoBlock, NothingToView}

-- ---- a service by its tests

module _ (ts : List (Bool × ℕ)) (lent made : List ℕ) where
  abbrev S : Settled
  S = settled_by (refusal_of (first ts)) lent made

  number_is : (n : ℕ) → (settled_by n lent made).answer.refusal ≡ n
  number_is zero = refl
  number_is (suc n) = rw (ne_eqb (suc n) 0 (λ e. omega arith)) refl

  -- it is refused by n exactly when the first test that holds gives n
  pub serves : (n : ℕ) → 0 < n → (S.answer.refusal ≡ n) ↔ (first ts ≡ some n)
  serves n h = ((λ e. go (first ts) (sym (number_is (refusal_of (first ts))) ∙ e)), (λ e. number_is (refusal_of (first ts)) ∙ ap refusal_of e))
    where
      go : (t : Option ℕ) → refusal_of t ≡ n → t ≡ some n
      go none e = absurd (omega arith)
      go (some m) e = ap (λ (k : ℕ). some k) e

  -- and is done, with 0, exactly when none holds, where no test gives 0
  pub serves_0 : ((j : ℕ) → given_at ts j ≡ some 0 → ⊥) → (S.answer.refusal ≡ 0) ↔ NoneBefore ts (length ts)
  serves_0 n = ((λ e. none_held ts (go (first ts) refl (sym (number_is (refusal_of (first ts))) ∙ e))), (λ h. number_is (refusal_of (first ts)) ∙ ap refusal_of (none_holds ts h)))
    where
      go : (t : Option ℕ) → first ts ≡ t → refusal_of t ≡ 0 → first ts ≡ none
      go none q e = q
      go (some m) q e = absurd (let h = held ts m q in n h.at (h.says ∙ ap (λ (k : ℕ). some k) e))

  -- refused, it leaves every byte
  pub serves_none : S.answer.refusal ≢ 0 → S ≡ settled (refused S.answer.refusal) lent
  serves_none z = go (refusal_of (first ts)) z
    where
      go : (n : ℕ) → (settled_by n lent made).answer.refusal ≢ 0 → settled_by n lent made ≡ settled (refused (settled_by n lent made).answer.refusal) lent
      go zero z = absurd (z refl)
      go (suc n) z = rw (ne_eqb (suc n) 0 (λ e. omega arith)) refl

-- the one test of a list, and the first, second and so on of several
unit : {P : Type 0} (b : Bool) → Decides b P → (Unit {0} × (b ≡ true)) ↔ P
unit b d = ((λ h. d.0 h.1), (λ p. (tt, d.1 p)))

past : {P : Type 0} (b : Bool) → Decides b P → (Unit {0} × (b ≡ false)) ↔ (¬ P)
past b d = ((λ h. (fails b d).0 h.1), (λ n. (tt, (fails b d).1 n)))

same : (a n : ℕ) → some a ≡ some n → a ≡ n
same a n e = cc

-- ---- of one image

pub length_test : (s : List ℕ) → Decides (not (right_length s)) (LengthOutside s)
unfolding right_length
length_test s = nand_test (leb least_length (length s)) (leb (length s) most_length) (above_test least_length (length s)) (above_test (length s) most_length)

-- a slice and a second that may be absent, under one test
second_test : (f : List ℕ → Bool) (P : List ℕ → Type 0) → ((s : List ℕ) → Decides (not (f s)) (P s)) → (p0 p1 : List ℕ)
    → Decides (not (f p0 && (absent p1 || f p1))) (P p0 ⊎ (¬ Empty p1 × P p1))
second_test f P d p0 p1 = nand_test (f p0) (absent p1 || f p1) (d p0) (either (absent p1) (f p1) (same_test (length p1) 0) (d p1))
  where
    either : (a b : Bool) {A B : Type 0} → Decides a A → Decides (not b) B → Decides (not (a || b)) (¬ A × B)
    either a b d e = let t = and_test (not a) (not b) (no_test a d) e in ((λ h. t.0 (sym (flip a b) ∙ h)), (λ h. flip a b ∙ t.1 h))
      where
        flip : (a b : Bool) → not (a || b) ≡ (not a && not b)
        flip true b = refl
        flip false b = refl

-- ---- fresh

module _ (rec : List ℕ) where
  -- "4: record not 30 bytes": fresh looks at nothing else of it
  pub fresh_4 : ((fresh_call rec).answer.refusal ≡ record_fault) ↔ (length rec ≢ record_length)
  unfolding fresh_call
  fresh_4 =
      Iff.trans (serves (fresh_tests rec) rec (encode_of fresh_drive) 4 (omega arith))
      (Iff.trans (exactly (fresh_tests rec) 4 0 refl only) (unit (not (eqb (length rec) record_length)) (no_test (eqb (length rec) record_length) (same_test (length rec) record_length))))
    where
      only : (j : ℕ) → given_at (fresh_tests rec) j ≡ some 4 → j ≡ 0
      only zero e = refl
      only (suc j) e = cc

  pub fresh_0 : ((fresh_call rec).answer.refusal ≡ 0) ↔ (length rec ≡ record_length)
  unfolding fresh_call
  fresh_0 = Iff.trans (serves_0 (fresh_tests rec) rec (encode_of fresh_drive) never) ((λ h. eqb-true (length rec) record_length (not-false (eqb (length rec) record_length) h.1)), (λ e. (tt, rw (eq-eqb (length rec) record_length e) refl)))
    where
      never : (j : ℕ) → given_at (fresh_tests rec) j ≡ some 0 → ⊥
      never zero e = let z : ◌≡◌ {A = ℕ} 4 0 = same 4 0 e in omega arith
      never (suc j) e = let z : ◌≡◌ {A = ℕ} 0 1 = cc in omega arith

  pub fresh_leaves : (fresh_call rec).answer.refusal ≢ 0 → fresh_call rec ≡ settled (refused (fresh_call rec).answer.refusal) rec
  unfolding fresh_call
  fresh_leaves = serves_none (fresh_tests rec) rec (encode_of fresh_drive)

-- ---- blank

module _ (s : List ℕ) where
  -- "7: length outside 64 to 1,073,741,824"
  pub blank_7 : ((blank_call s).answer.refusal ≡ wrong_length) ↔ LengthOutside s
  unfolding blank_call
  blank_7 = Iff.trans (serves (blank_tests s) s (blank s) 7 (omega arith)) (Iff.trans (exactly (blank_tests s) 7 0 refl only) (unit (not (right_length s)) (length_test s)))
    where
      only : (j : ℕ) → given_at (blank_tests s) j ≡ some 7 → j ≡ 0
      only zero e = refl
      only (suc j) e = cc

  pub blank_0 : ((blank_call s).answer.refusal ≡ 0) ↔ (¬ LengthOutside s)
  unfolding blank_call
  blank_0 = Iff.trans (serves_0 (blank_tests s) s (blank s) never) (past (not (right_length s)) (length_test s))
    where
      never : (j : ℕ) → given_at (blank_tests s) j ≡ some 0 → ⊥
      never zero e = let z : ◌≡◌ {A = ℕ} 7 0 = same 7 0 e in omega arith
      never (suc j) e = let z : ◌≡◌ {A = ℕ} 0 1 = cc in omega arith

  pub blank_leaves : (blank_call s).answer.refusal ≢ 0 → blank_call s ≡ settled (refused (blank_call s).answer.refusal) s
  unfolding blank_call
  blank_leaves = serves_none (blank_tests s) s (blank s)

-- ---- protection: "tests 7, then 6"

module _ (on : Bool) (s : List ℕ) where
  only_once : (j n : ℕ) → given_at (image_tests s) j ≡ some n → j ≡ cond (eqb n 7) 0 1
  only_once zero n e = ap (λ (m : ℕ). cond (eqb m 7) 0 1) (same 7 n e)
  only_once (suc zero) n e = ap (λ (m : ℕ). cond (eqb m 7) 0 1) (same 6 n e)
  only_once (suc (suc j)) n e = cc

  -- "7: length outside 64 to 1,073,741,824"
  pub protect_7 : ((protect_call on s).answer.refusal ≡ wrong_length) ↔ LengthOutside s
  unfolding protect_call fault_of
  protect_7 = Iff.trans (serves (image_tests s) s (protect on s) 7 (omega arith)) (Iff.trans (exactly (image_tests s) 7 0 refl (λ j e. only_once j 7 e)) (unit (not (right_length s)) (length_test s)))

  -- "6: image unsound"
  pub protect_6 : ((protect_call on s).answer.refusal ≡ unsound_image) ↔ ((¬ LengthOutside s) × Unsound s)
  unfolding protect_call fault_of
  protect_6 =
      Iff.trans (serves (image_tests s) s (protect on s) 6 (omega arith))
      (Iff.trans (exactly (image_tests s) 6 1 refl (λ j e. only_once j 6 e)) (given (past (not (right_length s)) (length_test s)) (λ _. false_test (sound s))))

  pub protect_0 : ((protect_call on s).answer.refusal ≡ 0) ↔ ((¬ LengthOutside s) × ¬ Unsound s)
  unfolding protect_call fault_of
  protect_0 = Iff.trans (serves_0 (image_tests s) s (protect on s) never) (given (past (not (right_length s)) (length_test s)) (λ _. fails (not (sound s)) (false_test (sound s))))
    where
      never : (j : ℕ) → given_at (image_tests s) j ≡ some 0 → ⊥
      never zero e = let z : ◌≡◌ {A = ℕ} 7 0 = same 7 0 e in omega arith
      never (suc zero) e = let z : ◌≡◌ {A = ℕ} 6 0 = same 6 0 e in omega arith
      never (suc (suc j)) e = let z : ◌≡◌ {A = ℕ} 0 1 = cc in omega arith

  pub protect_leaves : (protect_call on s).answer.refusal ≢ 0 → protect_call on s ≡ settled (refused (protect_call on s).answer.refusal) s
  unfolding protect_call fault_of
  protect_leaves = serves_none (image_tests s) s (protect on s)

-- ---- mount

module _ (rec p0 p1 : List ℕ) where
  abbrev T : List (Bool × ℕ)
  T = mount_tests rec p0 p1

  abbrev made : List ℕ
  made = encode_of (mounted_drive (partitions_of p1))

  abbrev place : ℕ → ℕ
  place n = cond (eqb n 4) 0 (cond (eqb n 5) 1 (cond (eqb n 7) 2 3))

  only_there : (j n : ℕ) → given_at T j ≡ some n → j ≡ place n
  only_there zero n e = ap place (same 4 n e)
  only_there (suc zero) n e = ap place (same 5 n e)
  only_there (suc (suc zero)) n e = ap place (same 7 n e)
  only_there (suc (suc (suc zero))) n e = ap place (same 6 n e)
  only_there (suc (suc (suc (suc j)))) n e = cc

  lengths_test : Decides (not (right_lengths p0 p1)) (LentOutside p0 p1)
  unfolding right_lengths
  lengths_test = second_test right_length LengthOutside length_test p0 p1

  sound_test : Decides (not (both_sound p0 p1)) (LentUnsound p0 p1)
  unfolding both_sound
  sound_test = second_test sound Unsound (λ s. false_test (sound s)) p0 p1

  comes_5 : NoneBefore T 1 ↔ Mount5 rec
  comes_5 = past (not (well_record rec)) (record_test rec)

  comes_7 : NoneBefore T 2 ↔ Mount7 rec
  comes_7 = given comes_5 (λ _. fails (eqb (decode_of rec).loaded 1) (same_test (decode_of rec).loaded 1))

  comes_6 : NoneBefore T 3 ↔ Mount6 rec p0 p1
  comes_6 = given comes_7 (λ _. fails (not (right_lengths p0 p1)) lengths_test)

  -- "4: record not 30 bytes or ill-formed"
  pub mount_4 : ((mount_call rec p0 p1).answer.refusal ≡ record_fault) ↔ RecordWrong rec
  unfolding mount_call mount_fault
  mount_4 = Iff.trans (serves T rec made 4 (omega arith)) (Iff.trans (exactly T 4 0 refl (λ j e. only_there j 4 e)) (unit (not (well_record rec)) (record_test rec)))

  -- "5: mount while loaded"
  pub mount_5 : ((mount_call rec p0 p1).answer.refusal ≡ already_loaded) ↔ (Mount5 rec × AlreadyLoaded rec)
  unfolding mount_call mount_fault
  mount_5 = Iff.trans (serves T rec made 5 (omega arith)) (Iff.trans (exactly T 5 1 refl (λ j e. only_there j 5 e)) (given comes_5 (λ _. same_test (decode_of rec).loaded 1)))

  -- "7: length outside 64 to 1,073,741,824 (mount: an empty second slice is absent)"
  pub mount_7 : ((mount_call rec p0 p1).answer.refusal ≡ wrong_length) ↔ (Mount7 rec × LentOutside p0 p1)
  unfolding mount_call mount_fault
  mount_7 = Iff.trans (serves T rec made 7 (omega arith)) (Iff.trans (exactly T 7 2 refl (λ j e. only_there j 7 e)) (given comes_7 (λ _. lengths_test)))

  -- "6: image unsound"
  pub mount_6 : ((mount_call rec p0 p1).answer.refusal ≡ unsound_image) ↔ (Mount6 rec p0 p1 × LentUnsound p0 p1)
  unfolding mount_call mount_fault
  mount_6 = Iff.trans (serves T rec made 6 (omega arith)) (Iff.trans (exactly T 6 3 refl (λ j e. only_there j 6 e)) (given comes_6 (λ _. sound_test)))

  pub mount_0 : ((mount_call rec p0 p1).answer.refusal ≡ 0) ↔ (Mount6 rec p0 p1 × ¬ LentUnsound p0 p1)
  unfolding mount_call mount_fault
  mount_0 = Iff.trans (serves_0 T rec made never) (given comes_6 (λ _. fails (not (both_sound p0 p1)) sound_test))
    where
      never : (j : ℕ) → given_at T j ≡ some 0 → ⊥
      never zero e = let z : ◌≡◌ {A = ℕ} 4 0 = same 4 0 e in omega arith
      never (suc zero) e = let z : ◌≡◌ {A = ℕ} 5 0 = same 5 0 e in omega arith
      never (suc (suc zero)) e = let z : ◌≡◌ {A = ℕ} 7 0 = same 7 0 e in omega arith
      never (suc (suc (suc zero))) e = let z : ◌≡◌ {A = ℕ} 6 0 = same 6 0 e in omega arith
      never (suc (suc (suc (suc j)))) e = let z : ◌≡◌ {A = ℕ} 0 1 = cc in omega arith

  pub mount_leaves : (mount_call rec p0 p1).answer.refusal ≢ 0 → mount_call rec p0 p1 ≡ settled (refused (mount_call rec p0 p1).answer.refusal) rec
  unfolding mount_call mount_fault
  mount_leaves = serves_none T rec made

-- ---- the view, which refuses nothing: the empty part exactly where there is no block to view

part_empty : (s : List ℕ) (i : ℕ) → ((part_of s i).len ≡ 0) ↔ NoBlock s i
unfolding part_of object_at end_at
part_empty s i = ((λ h. go (sound s) (ltb i (count s)) (top_bit (entry s i)) refl refl refl h), back)
  where
    P : Part
    P = record { start = end_at s i; len = end_at s (suc i) - end_at s i }

    go : (a b c : Bool) → sound s ≡ a → ltb i (count s) ≡ b → top_bit (entry s i) ≡ c → (cond (a && b && not c) P empty_part).len ≡ 0 → NoBlock s i
    go false b c ea eb ec h = inl ea
    go true false c ea eb ec h = inr (inl (object_past s i (ltb-false i (count s) eb)))
    go true true true ea eb ec h = inr (inr (object_there s i (ltb-true i (count s) eb) ∙ rw ec refl))
    go true true false ea eb ec h =
        let k = sound_parts s ea in
        let f = follows_size (end_at s i) (entry s i) (ordered_at s i (count s) (ltb-true i (count s) eb) k.in_order) ec in
        absurd (omega (arith, f.0, h))

    back : NoBlock s i → (part_of s i).len ≡ 0
    back (inl e) = rw e refl
    back (inr (inl e)) = by (ltb i (count s)) refl
      where
        by : (t : Bool) → ltb i (count s) ≡ t → (cond (sound s && t && not (top_bit (entry s i))) P empty_part).len ≡ 0
        by true q = absurd (let z : none ≡ some (object_at s i) = sym e ∙ object_there s i (ltb-true i (count s) q) in let y : ◌≡◌ {A = ℕ} 0 1 = cc in omega arith)
        by false q = off (sound s) (top_bit (entry s i))
          where
            off : (a c : Bool) → (cond (a && false && not c) P empty_part).len ≡ 0
            off true c = refl
            off false c = refl
    back (inr (inr e)) = by (ltb i (count s)) (top_bit (entry s i)) refl refl
      where
        by : (t c : Bool) → ltb i (count s) ≡ t → top_bit (entry s i) ≡ c → (cond (sound s && t && not c) P empty_part).len ≡ 0
        by true true q f = off (sound s)
          where
            off : (a : Bool) → (cond (a && true && not true) P empty_part).len ≡ 0
            off true = refl
            off false = refl
        by false c q f = off (sound s)
          where
            off : (a : Bool) → (cond (a && false && not c) P empty_part).len ≡ 0
            off true = refl
            off false = refl
        by true false q f = absurd (let z : some filemark ≡ some (object_at s i) = sym e ∙ object_there s i (ltb-true i (count s) q) in let w : some filemark ≡ some (block (slice (end_at s i) (end_at s (suc i)) s)) = z ∙ rw f refl in let y : ◌≡◌ {A = ℕ} 0 1 = cc in omega arith)

pub view_empty : (p0 p1 : List ℕ) (k i : ℕ) → ((view_of p0 p1 k i).len ≡ 0) ↔ NothingToView p0 p1 k i
unfolding view_of
view_empty p0 p1 k i = ((λ h. go (eqb k 0) (eqb k 1) refl refl h), back)
  where
    go : (a b : Bool) → eqb k 0 ≡ a → eqb k 1 ≡ b → (cond a (part_of p0 i) (cond b (part_of p1 i) empty_part)).len ≡ 0 → NothingToView p0 p1 k i
    go true b ea eb h = inl (eqb-true k 0 ea, (part_empty p0 i).0 h)
    go false true ea eb h = inr (inl (eqb-true k 1 eb, (part_empty p1 i).0 h))
    go false false ea eb h = inr (inr (eqb-false k 0 ea, eqb-false k 1 eb))

    back : NothingToView p0 p1 k i → (cond (eqb k 0) (part_of p0 i) (cond (eqb k 1) (part_of p1 i) empty_part)).len ≡ 0
    back (inl h) = rw h.0 ((part_empty p0 i).1 h.1)
    back (inr (inl h)) = rw h.0 ((part_empty p1 i).1 h.1)
    back (inr (inr h)) = rw (ne_eqb k 0 h.0, ne_eqb k 1 h.1) refl
