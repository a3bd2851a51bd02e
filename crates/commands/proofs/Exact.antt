-- Demand 1 of a command, on the answer of the call: each refusal is given exactly under its condition of 01's table, by the command order, and no
-- other is; a refused call leaves every byte.
-- Assumes nothing.
use Prim.Native.Nat.{ℕ, zero, suc, ◌<◌}
use mathlib.Core.Path.{◌≡◌, refl, sym, ap, ◌∙◌, subst}
use mathlib.Core.Logic.Iff
use mathlib.Core.Logic.{◌↔◌, ◌≢◌, ◌⊎◌, inl, inr}
use mathlib.Core.Bool.{Bool, true, false, cond, not, ◌&&◌, ◌||◌}
use mathlib.Core.Option.{Option, none, some}
use mathlib.Core.List.{List, [], ◌∷◌}
use native.Mathlib.Omega.{arith}
use borrow.Author.Tests.{eqb-true, eqb-false, eq-eqb, lt-ltb}
use lib.Dec.{eqb, leb, ltb}
use lib.ListN.{length}
use Rattle.answers.specs.Answers.{command_short, sent_short, received_short, record_fault, refused, first}
use Rattle.answers.proofs.First.{NoneBefore, FirstAt, given_at, held, exactly, none_held, none_holds, Decides, fails, given, decided, true_test, false_test, no_test, and_test, or_test, nand_test, and_three, or_three, same_test, less_test, most_test, not_both}
use Rattle.image.specs.Image.{count, protected, sound, right_length, absent}
use Rattle.record.specs.declared.drive.Drive.{Drive}
use Rattle.record.specs.Record.{record_length, no_attention, decode_of, well_formed, well_record}
use Rattle.codes.specs.declared.operation.Operation.{Operation}
use Rattle.codes.specs.declared.operation.Operation.TheVariants.{RequestSense, ReadBlockLimits, Write, WriteFilemarks, ModeSelect, Erase, ModeSense, Locate, Locate16, NotServed}
use Rattle.codes.specs.Codes.{number_of, length_of, code_of, too_short, operation_of, masks_hold}
use Rattle.codes.specs.Fields.{changes_partition, allocation_of}
use Rattle.codes.proofs.Rules.{operation_number}
use Rattle.commands.specs.Stop.{Stop, refuse, attend, fault}
use Rattle.commands.specs.Kinds.{among, passes_attention, is_served, needs_cartridge, locates, writes}
use Rattle.commands.specs.Parameters.{header_length, whole_length, list_length_known}
use Rattle.commands.specs.Act.{named_partition}
use Rattle.commands.specs.Tests.{field_error, taken, needed, tests}
use Rattle.commands.specs.Step.{stopped, acted}
use Rattle.commands.specs.Call.{Lent, Result, result_of, partition, looks_at, seen_of, seen, inserted, faulty, applied, command_call, command_tests}
use Rattle.commands.specs.Conditions.{Empty, RecordWrong, Unsound, BlockShort, CartridgeWrong, DriveWrong, AttentionWaits, CodeNotServed, FieldWrong, ListLengthWrong, NothingLoaded, NoSuchPartition, WriteProtected, SentShort, ReceivedShort}
use Rattle.commands.specs.Conditions.{Comes4, ComesAttention, ComesCode, ComesFields, ComesListLength, ComesCartridge, ComesPartition, ComesProtection, Comes2, Comes3, Acts}
use Rattle.commands.proofs.Faultless.{Well, inside, fault_free}
use Rattle.commands.proofs.Ends.{call_stops, call_acts, refused_leaves}

-- ---- what command it is

same_number : (o x : Operation) → number_of o ≡ number_of x → o ≡ x
same_number o x e = sym (operation_number o) ∙ ap operation_of e ∙ operation_number x

-- the test of one command, and of one of several
pub is_test : (o x : Operation) → Decides (among (x ∷ []) o) (o ≡ x)
is_test o x = (
  (λ e. same_number o x (eqb-true (number_of o) (number_of x) (go (eqb (number_of o) (number_of x)) e))),
  (λ e. rw (eq-eqb (number_of o) (number_of x) (ap (λ (y : Operation). number_of y) e)) refl),
)
  where
    go : (b : Bool) → cond b true false ≡ true → b ≡ true
    go true e = refl
    go false e = e

pub one_test : (o x : Operation) (xs : List Operation) {Q : Type 0} → Decides (among xs o) Q → Decides (among (x ∷ xs) o) ((o ≡ x) ⊎ Q)
one_test o x xs {Q} d = go (eqb (number_of o) (number_of x)) refl
  where
    go : (b : Bool) → eqb (number_of o) (number_of x) ≡ b → Decides (cond b true (among xs o)) ((o ≡ x) ⊎ Q)
    go true e = ((λ _. inl (same_number o x (eqb-true (number_of o) (number_of x) e))), (λ _. refl))
    go false e = ((λ h. inr (d.0 h)), back)
      where
        back : (o ≡ x) ⊎ Q → among xs o ≡ true
        back (inl q) = absurd (eqb-false (number_of o) (number_of x) e (ap (λ (y : Operation). number_of y) q))
        back (inr q) = d.1 q

-- ---- number 4, in 01's words

pub record_test : (rec : List ℕ) → Decides (not (well_record rec)) (RecordWrong rec)
unfolding well_record
record_test rec = nand_test (eqb (length rec) record_length) (well_formed (decode_of rec)) (no_test (eqb (length rec) record_length) (same_test (length rec) record_length)) (false_test (well_formed (decode_of rec)))

pub unsound_empty : (s : List ℕ) → Empty s → Unsound s
unfolding sound right_length
unsound_empty s e = rw e refl

-- the second slice: absent with one partition, else sound
second_test : (q e s : Bool) {Q E : Type 0} → Decides q Q → Decides e E → Decides (not (cond q e s)) ((Q × ¬ E) ⊎ ((¬ Q) × (s ≡ false)))
second_test true e s {Q} {E} dq de = ((λ h. inl (dq.0 refl, (no_test e de).0 h)), back)
  where
    back : (Q × ¬ E) ⊎ ((¬ Q) × (s ≡ false)) → not e ≡ true
    back (inl p) = (no_test e de).1 p.1
    back (inr p) = absurd (p.0 (dq.0 refl))
second_test false e s {Q} {E} dq de = ((λ h. inr ((λ q. not_both (sym (dq.1 q))), (false_test s).0 h)), back)
  where
    back : (Q × ¬ E) ⊎ ((¬ Q) × (s ≡ false)) → not s ≡ true
    back (inl p) = absurd (not_both (sym (dq.1 p.0)))
    back (inr p) = (false_test s).1 p.1

-- as the definition has it, and as 01 says it
module _ (A E Q S B : Type 0) (de : E ⊎ (¬ E)) (dq : Q ⊎ (¬ Q)) (es : E → S) where
  abbrev Tested : Type 0
  Tested = (A ⊎ ((Q × ¬ E) ⊎ ((¬ Q) × S))) ⊎ B

  abbrev Said : Type 0
  Said = (A ⊎ ((¬ E) × S)) ⊎ ((¬ (E ↔ Q)) ⊎ B)

  pub said : Tested → Said
  said (inl (inl a)) = inl (inl a)
  said (inl (inr (inl p))) = inr (inl (λ f. p.1 (f.1 p.0)))
  said (inl (inr (inr p))) = go de
    where
      go : E ⊎ (¬ E) → Said
      go (inl e) = inr (inl (λ f. p.0 (f.0 e)))
      go (inr n) = inl (inr (n, p.1))
  said (inr b) = inr (inr b)

  pub tested : Said → Tested
  tested (inl (inl a)) = inl (inl a)
  tested (inl (inr p)) = go dq
    where
      go : Q ⊎ (¬ Q) → Tested
      go (inl q) = inl (inr (inl (q, p.0)))
      go (inr n) = inl (inr (inr (n, p.1)))
  tested (inr (inl n)) = go dq de
    where
      go : Q ⊎ (¬ Q) → E ⊎ (¬ E) → Tested
      go (inl q) (inl e) = absurd (n ((λ _. q), (λ _. e)))
      go (inl q) (inr m) = inl (inr (inl (q, m)))
      go (inr m) (inl e) = inl (inr (inr (m, es e)))
      go (inr m) (inr k) = absurd (n ((λ e. absurd (k e)), (λ q. absurd (m q))))
  tested (inr (inr b)) = inr b

over_test : (l w : Bool) {L W : Type 0} → Decides l L → Decides (not w) W → Decides (not (cond l w true)) (L × W)
over_test true w dl dw = ((λ h. (dl.0 refl, dw.0 h)), (λ h. dw.1 h.1))
over_test false w dl dw = ((λ h. absurd (not_both (sym h))), (λ h. absurd (not_both (sym (dl.1 h.0)))))

pub above_test : (n m : ℕ) → Decides (not (leb n m)) (m < n)
above_test n m = let t = no_test (leb n m) (most_test n m) in ((λ h. let f = t.0 h in omega arith), (λ h. t.1 (λ g. omega arith)))

-- ---- the tests of a command, each with the condition that it stands for

module _ (rec : List ℕ) (x : Lent) where
  abbrev d : Drive
  d = decode_of rec

  abbrev o : Operation
  o = operation_of (code_of x.cmd)

  block_test : Decides (too_short x.cmd) (BlockShort rec x)
  unfolding too_short
  block_test = or_test (eqb (length x.cmd) 0) (ltb (length x.cmd) (length_of (code_of x.cmd))) (same_test (length x.cmd) 0) (less_test (length x.cmd) (length_of (code_of x.cmd)))

  cartridge_test : Decides (not (inserted d x.part0 x.part1)) (CartridgeWrong rec x)
  unfolding inserted
  cartridge_test =
      let p0 = x.part0 in
      let p1 = x.part1 in
      let e = same_test (length p1) 0 in
      let q = same_test d.partitions 1 in
      let n = count (partition d.current p0 p1) in
      let w = nand_test (sound p0 && cond (eqb d.partitions 1) (absent p1) (sound p1)) (leb d.position n)
      (nand_test (sound p0) (cond (eqb d.partitions 1) (absent p1) (sound p1)) (false_test (sound p0)) (second_test (eqb d.partitions 1) (absent p1) (sound p1) q e))
      (above_test d.position n) in
      let de = decided (eqb (length p1) 0) e in
      let dq = decided (eqb d.partitions 1) q in
      over_test (eqb d.loaded 1) _ (same_test d.loaded 1)
      (Iff.trans w (said (Unsound p0) (Empty p1) (d.partitions ≡ 1) (Unsound p1) (n < d.position) de dq (unsound_empty p1), tested (Unsound p0) (Empty p1) (d.partitions ≡ 1) (Unsound p1) (n < d.position) de dq (unsound_empty p1)))

  pub drive_test : Decides (faulty (well_record rec) d x) (DriveWrong rec x)
  drive_test = nand_test (well_record rec) (inserted d x.part0 x.part1) (record_test rec) cartridge_test

  attention_test : Decides (not (eqb d.attention no_attention) && not (passes_attention o)) (AttentionWaits rec x)
  attention_test = and_test _ _ (no_test _ (same_test d.attention no_attention)) (no_test _ (is_test o RequestSense))

  code_test : Decides (not (is_served o)) (CodeNotServed rec x)
  code_test = go (among (NotServed ∷ []) o) (is_test o NotServed)
    where
      go : (b : Bool) → Decides b (o ≡ NotServed) → Decides (not (not b)) (o ≡ NotServed)
      go true h = h
      go false h = h

  field_test : Decides (not (masks_hold x.cmd) || field_error o d x.cmd) (FieldWrong rec x)
  field_test = or_test _ _ (false_test (masks_hold x.cmd)) (true_test (field_error o d x.cmd))

  list_test : Decides (among (ModeSelect ∷ []) o && not (list_length_known (allocation_of x.cmd))) (ListLengthWrong rec x)
  unfolding list_length_known
  list_test =
      let n = allocation_of x.cmd in
      and_test _ _ (is_test o ModeSelect) (no_test _ (or_three (eqb n 0) (eqb n header_length) (eqb n whole_length) (same_test n 0) (same_test n header_length) (same_test n whole_length)))

  loaded_test : Decides (needs_cartridge o && eqb d.loaded 0) (NothingLoaded rec x)
  loaded_test =
      and_test _ _
      (no_test _ (one_test o RequestSense (ReadBlockLimits ∷ ModeSelect ∷ ModeSense ∷ []) (one_test o ReadBlockLimits (ModeSelect ∷ ModeSense ∷ []) (one_test o ModeSelect (ModeSense ∷ []) (is_test o ModeSense)))))
      (same_test d.loaded 0)

  partition_test : Decides (locates o && changes_partition x.cmd && leb d.partitions (named_partition o x.cmd)) (NoSuchPartition rec x)
  partition_test = and_three _ _ _ (one_test o Locate (Locate16 ∷ []) (is_test o Locate16)) (true_test (changes_partition x.cmd)) (most_test d.partitions (named_partition o x.cmd))

  kind_test : Decides (writes o) ((o ≡ Write) ⊎ ((o ≡ WriteFilemarks) ⊎ (o ≡ Erase)))
  kind_test = one_test o Write (WriteFilemarks ∷ Erase ∷ []) (one_test o WriteFilemarks (Erase ∷ []) (is_test o Erase))

  -- ---- how far it comes, by the list and by 01's order

  abbrev T : List (Bool × Stop)
  T = command_tests rec x

  pub comes_4 : NoneBefore T 1 ↔ Comes4 rec x
  unfolding command_tests
  comes_4 = let f = fails (too_short x.cmd) block_test in ((λ h. f.0 h.1), (λ h. (tt, f.1 h)))

  pub comes_attention : NoneBefore T 2 ↔ ComesAttention rec x
  unfolding command_tests
  comes_attention = given comes_4 (λ _. fails _ drive_test)

  pub comes_code : NoneBefore T 3 ↔ ComesCode rec x
  unfolding command_tests tests
  comes_code = given comes_attention (λ _. fails _ attention_test)

  pub comes_fields : NoneBefore T 4 ↔ ComesFields rec x
  unfolding command_tests tests
  comes_fields = given comes_code (λ _. fails _ code_test)

  pub comes_list_length : NoneBefore T 5 ↔ ComesListLength rec x
  unfolding command_tests tests
  comes_list_length = given comes_fields (λ _. fails _ field_test)

  pub comes_cartridge : NoneBefore T 6 ↔ ComesCartridge rec x
  unfolding command_tests tests
  comes_cartridge = given comes_list_length (λ _. fails _ list_test)

  pub comes_partition : NoneBefore T 7 ↔ ComesPartition rec x
  unfolding command_tests tests
  comes_partition = given comes_cartridge (λ _. fails _ loaded_test)

  pub comes_protection : NoneBefore T 8 ↔ ComesProtection rec x
  unfolding command_tests tests
  comes_protection = given comes_partition (λ _. fails _ partition_test)

  -- past number 4 nothing is wrong with the drive
  pub well_drive : ComesAttention rec x → Well d x.part0 x.part1
  well_drive h = fault_free rec x.part0 x.part1 (go (well_record rec && inserted d x.part0 x.part1) ((fails _ drive_test).1 h.1))
    where
      go : (b : Bool) → not b ≡ false → b ≡ true
      go true e = refl
      go false e = sym e

  -- so what a command that writes sees is the current partition
  guards : (k : Operation) → o ≡ k → locates k ≡ false → d.current < d.partitions → (seen o d x).guarded ≡ protected (partition d.current x.part0 x.part1)
  unfolding seen looks_at seen_of
  guards k e n l = rw (e, n, lt-ltb d.current d.partitions l) refl

  protect_test : ComesProtection rec x → Decides (writes o && (seen o d x).guarded) (WriteProtected rec x)
  protect_test h = ((λ e. let b = both e in (b.0, sym (seen_is b.0) ∙ b.1)), (λ w. joins (kind_test.1 w.0) (seen_is w.0 ∙ w.1)))
    where
      both : writes o && (seen o d x).guarded ≡ true → ((o ≡ Write) ⊎ ((o ≡ WriteFilemarks) ⊎ (o ≡ Erase))) × ((seen o d x).guarded ≡ true)
      both e = (and_test (writes o) (seen o d x).guarded kind_test (true_test (seen o d x).guarded)).0 e

      joins : writes o ≡ true → (seen o d x).guarded ≡ true → writes o && (seen o d x).guarded ≡ true
      joins a b = rw (a, b) refl

      there : (k : Operation) → o ≡ k → needs_cartridge k ≡ true → d.current < d.partitions
      there k e n = (inside d x.part0 x.part1 (well_drive h.0.0.0.0.0.0).cart (λ z. h.0.1 (loaded_test.0 (rw (e, n, z) refl)))).there

      seen_is : (o ≡ Write) ⊎ ((o ≡ WriteFilemarks) ⊎ (o ≡ Erase)) → (seen o d x).guarded ≡ protected (partition d.current x.part0 x.part1)
      seen_is (inl e) = guards Write e refl (there Write e refl)
      seen_is (inr (inl e)) = guards WriteFilemarks e refl (there WriteFilemarks e refl)
      seen_is (inr (inr e)) = guards Erase e refl (there Erase e refl)

  pub comes_2 : NoneBefore T 9 ↔ Comes2 rec x
  unfolding command_tests tests
  comes_2 = given comes_protection (λ h. fails _ (protect_test h))

  pub comes_3 : NoneBefore T 10 ↔ Comes3 rec x
  unfolding command_tests tests
  comes_3 = given comes_2 (λ _. fails _ (less_test (length x.sent) (taken o d x.cmd)))

  pub acts_exactly : (first T ≡ none) ↔ Acts rec x
  unfolding command_tests tests
  acts_exactly = Iff.trans (none_held T, none_holds T) (given comes_3 (λ _. fails _ (less_test (length x.received) (needed o d x.cmd))))

  -- ---- which test is the first that holds, by the list and by 01's order

  pub at_attention : FirstAt T 2 ↔ (ComesAttention rec x × AttentionWaits rec x)
  unfolding command_tests tests
  at_attention = given comes_attention (λ _. attention_test)

  pub at_code : FirstAt T 3 ↔ (ComesCode rec x × CodeNotServed rec x)
  unfolding command_tests tests
  at_code = given comes_code (λ _. code_test)

  pub at_fields : FirstAt T 4 ↔ (ComesFields rec x × FieldWrong rec x)
  unfolding command_tests tests
  at_fields = given comes_fields (λ _. field_test)

  pub at_list_length : FirstAt T 5 ↔ (ComesListLength rec x × ListLengthWrong rec x)
  unfolding command_tests tests
  at_list_length = given comes_list_length (λ _. list_test)

  pub at_cartridge : FirstAt T 6 ↔ (ComesCartridge rec x × NothingLoaded rec x)
  unfolding command_tests tests
  at_cartridge = given comes_cartridge (λ _. loaded_test)

  pub at_partition_lem : FirstAt T 7 ↔ (ComesPartition rec x × NoSuchPartition rec x)
  unfolding command_tests tests
  at_partition_lem = given comes_partition (λ _. partition_test)

  pub at_protection : FirstAt T 8 ↔ (ComesProtection rec x × WriteProtected rec x)
  unfolding command_tests tests
  at_protection = given comes_protection protect_test

  -- ---- which test gives which refusal

  same : (a n : ℕ) → some (refuse a) ≡ some (refuse n) → a ≡ n
  same a n e = cc

  -- each refusal has one place in the list, and no other stands there
  data Place (j n : ℕ) : Type 0 where
    place_1 : j ≡ 0 → n ≡ command_short → Place j n
    place_4 : j ≡ 1 → n ≡ record_fault → Place j n
    place_2 : j ≡ 9 → n ≡ sent_short → Place j n
    place_3 : j ≡ 10 → n ≡ received_short → Place j n

  place : (j n : ℕ) → given_at T j ≡ some (refuse n) → Place j n
  unfolding command_tests tests
  place zero n e = place_1 refl (sym (same 1 n e))
  place (suc zero) n e = place_4 refl (sym (same 4 n e))
  place (suc (suc zero)) n e = absurd (let z : ◌≡◌ {A = ℕ} 0 1 = cc in omega arith)
  place (suc (suc (suc zero))) n e = absurd (let z : ◌≡◌ {A = ℕ} 0 1 = cc in omega arith)
  place (suc (suc (suc (suc zero)))) n e = absurd (let z : ◌≡◌ {A = ℕ} 0 1 = cc in omega arith)
  place (suc (suc (suc (suc (suc zero))))) n e = absurd (let z : ◌≡◌ {A = ℕ} 0 1 = cc in omega arith)
  place (suc (suc (suc (suc (suc (suc zero)))))) n e = absurd (let z : ◌≡◌ {A = ℕ} 0 1 = cc in omega arith)
  place (suc (suc (suc (suc (suc (suc (suc zero))))))) n e = absurd (let z : ◌≡◌ {A = ℕ} 0 1 = cc in omega arith)
  place (suc (suc (suc (suc (suc (suc (suc (suc zero)))))))) n e = absurd (let z : ◌≡◌ {A = ℕ} 0 1 = cc in omega arith)
  place (suc (suc (suc (suc (suc (suc (suc (suc (suc zero))))))))) n e = place_2 refl (sym (same 2 n e))
  place (suc (suc (suc (suc (suc (suc (suc (suc (suc (suc zero)))))))))) n e = place_3 refl (sym (same 3 n e))
  place (suc (suc (suc (suc (suc (suc (suc (suc (suc (suc (suc j))))))))))) n e = absurd (let z : ◌≡◌ {A = ℕ} 0 1 = cc in omega arith)

  abbrev place_of : ℕ → ℕ
  place_of n = cond (eqb n 1) 0 (cond (eqb n 4) 1 (cond (eqb n 2) 9 10))

  only : (j n : ℕ) → given_at T j ≡ some (refuse n) → j ≡ place_of n
  only j n e = go (place j n e)
    where
      go : Place j n → j ≡ place_of n
      go (place_1 p q) = p ∙ sym (ap place_of q)
      go (place_4 p q) = p ∙ sym (ap place_of q)
      go (place_2 p q) = p ∙ sym (ap place_of q)
      go (place_3 p q) = p ∙ sym (ap place_of q)

  -- ---- the answer

  abbrev pub Refusal : ℕ
  Refusal = (command_call rec x).answer.refusal

  by_stop : (s : Stop) → first T ≡ some s → Refusal ≡ (stopped s d).answer.refusal
  by_stop s e = ap (λ (r : Result). r.answer.refusal) (call_stops rec x s e)

  by_number : (n : ℕ) → first T ≡ some (refuse n) → Refusal ≡ n
  unfolding stopped
  by_number n e = by_stop (refuse n) e

  by_attention : first T ≡ some attend → Refusal ≡ 0
  unfolding stopped
  by_attention e = by_stop attend e

  by_fault : (key asc ascq : ℕ) → first T ≡ some (fault key asc ascq) → Refusal ≡ 0
  unfolding stopped
  by_fault key asc ascq e = by_stop (fault key asc ascq) e

  by_act : first T ≡ none → Refusal ≡ 0
  unfolding applied acted
  by_act e = ap (λ (r : Result). r.answer.refusal) (call_acts rec x e)

  -- the call is refused by n exactly when the first test that holds gives n
  pub refused_by : (n : ℕ) → 0 < n → (Refusal ≡ n) ↔ (first T ≡ some (refuse n))
  refused_by n h = ((λ r. go (first T) refl r), (λ e. by_number n e))
    where
      go : (t : Option Stop) → first T ≡ t → Refusal ≡ n → t ≡ some (refuse n)
      go none e r = absurd (let z : 0 ≡ n = sym (by_act e) ∙ r in omega arith)
      go (some (refuse m)) e r = let z : m ≡ n = sym (by_number m e) ∙ r in ap (λ (k : ℕ). some (refuse k)) z
      go (some attend) e r = absurd (let z : 0 ≡ n = sym (by_attention e) ∙ r in omega arith)
      go (some (fault k a q)) e r = absurd (let z : 0 ≡ n = sym (by_fault k a q e) ∙ r in omega arith)

  -- ---- demand 1, number by number

  -- "1: command block empty, or shorter than its length in the table below"
  pub refused_1 : (Refusal ≡ command_short) ↔ BlockShort rec x
  unfolding command_tests
  refused_1 = Iff.trans (refused_by 1 (omega arith)) (Iff.trans (exactly T (refuse 1) 0 refl (λ j e. only j 1 e)) ((λ h. block_test.0 h.1), (λ h. (tt, block_test.1 h))))

  -- "4: record not 30 bytes or ill-formed; or, for a command, loaded and .."
  pub refused_4 : (Refusal ≡ record_fault) ↔ (Comes4 rec x × DriveWrong rec x)
  unfolding command_tests
  refused_4 = Iff.trans (refused_by 4 (omega arith)) (Iff.trans (exactly T (refuse 4) 1 refl (λ j e. only j 4 e)) (given comes_4 (λ _. drive_test)))

  -- "2: data sent is shorter than the command takes"
  pub refused_2 : (Refusal ≡ sent_short) ↔ (Comes2 rec x × SentShort rec x)
  unfolding command_tests tests
  refused_2 = Iff.trans (refused_by 2 (omega arith)) (Iff.trans (exactly T (refuse 2) 9 refl (λ j e. only j 2 e)) (given comes_2 (λ _. less_test (length x.sent) (taken o d x.cmd))))

  -- "3: receiving buffer is shorter than the command may need"
  pub refused_3 : (Refusal ≡ received_short) ↔ (Comes3 rec x × ReceivedShort rec x)
  unfolding command_tests tests
  refused_3 = Iff.trans (refused_by 3 (omega arith)) (Iff.trans (exactly T (refuse 3) 10 refl (λ j e. only j 3 e)) (given comes_3 (λ _. less_test (length x.received) (needed o d x.cmd))))

  -- and by no other number
  pub refusals : (Refusal ≡ 0) ⊎ ((Refusal ≡ command_short) ⊎ ((Refusal ≡ sent_short) ⊎ ((Refusal ≡ received_short) ⊎ (Refusal ≡ record_fault))))
  unfolding command_tests tests
  refusals = go (first T) refl
    where
      Numbers : ℕ → Type 0
      Numbers n = (n ≡ 0) ⊎ ((n ≡ command_short) ⊎ ((n ≡ sent_short) ⊎ ((n ≡ received_short) ⊎ (n ≡ record_fault))))

      at_place : (j n : ℕ) → Place j n → Numbers n
      at_place j n (place_1 p q) = inr (inl q)
      at_place j n (place_4 p q) = inr (inr (inr (inr q)))
      at_place j n (place_2 p q) = inr (inr (inl q))
      at_place j n (place_3 p q) = inr (inr (inr (inl q)))

      go : (t : Option Stop) → first T ≡ t → Numbers Refusal
      go none e = inl (by_act e)
      go (some (refuse m)) e = let h = held T (refuse m) e in subst Numbers (sym (by_number m e)) (at_place h.at m (place h.at m h.says))
      go (some attend) e = inl (by_attention e)
      go (some (fault k a q)) e = inl (by_fault k a q e)

  -- "Leaves: all bytes"; "A refusal returns its number, 0, 0"
  pub refused_all : Refusal ≢ 0 → command_call rec x ≡ result_of (refused Refusal) rec x
  refused_all z = go (first T) refl
    where
      go : (t : Option Stop) → first T ≡ t → command_call rec x ≡ result_of (refused Refusal) rec x
      go none e = absurd (z (by_act e))
      go (some (refuse m)) e =
          let q : Refusal ≡ m = by_number m e in
          let n : m ≡ 0 → ⊥ = λ r. z (q ∙ r) in
          call_stops rec x (refuse m) e ∙ refused_leaves rec x m (omega arith) ∙ ap (λ (k : ℕ). result_of (refused k) rec x) (sym q)
      go (some attend) e = absurd (z (by_attention e))
      go (some (fault k a q)) e = absurd (z (by_fault k a q e))
