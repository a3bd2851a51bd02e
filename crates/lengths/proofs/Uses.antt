-- A drive used with a cartridge, by mounts that set one block length or another: who sends no command that heeds it is told the same, and the cartridge
-- ends the same.
-- Assumes nothing.
use Prim.Native.Nat.{ℕ, ◌≤◌}
use native.Mathlib.Omega.{arith}
use mathlib.Core.Path.{◌≡◌, refl, sym, ap, ap₂, ◌∙◌, subst}
use mathlib.Core.Logic.{◌≢◌, ◌⊎◌, inl, inr}
use mathlib.Core.Bool.{Bool, true, false, cond, ◌&&◌}
use mathlib.Core.List.{List, [], ◌∷◌}
use borrow.Author.Tests.{eqb-true, le-leb, not-true}
use lib.Dec.{eqb, leb}
use lib.ListN.{length}
use Rattle.words.specs.Words.{bytes}
use Rattle.answers.specs.declared.Answer.{Answer}
use Rattle.answers.specs.Answers.{Settled, settled, settled_by, refused, done}
use Rattle.objects.specs.Object.{largest_block}
use Rattle.image.specs.Image.{absent}
use Rattle.image.proofs.Tests.{both}
use Rattle.sense.specs.Sense.{sense_length, sense_bytes, empty_sense}
use Rattle.record.specs.declared.drive.Drive.{Drive}
use Rattle.record.specs.Record.{mounted_block_length, decode_of, encode_of, attention_known, placed, well_formed, well_record, mounted_drive, with_sense}
use Rattle.record.proofs.RoundTrip.{decode_encode}
use Rattle.codes.specs.declared.operation.Operation.TheVariants.{ModeSelect}
use Rattle.codes.specs.Codes.{code_of, operation_of}
use Rattle.codes.specs.Fields.{allocation_of}
use Rattle.house.specs.Mount.{partitions_of, mount_fault}
use Rattle.commands.specs.Parameters.{whole_length, new_length}
use Rattle.commands.specs.Act.{with_length, Deed, act}
use Rattle.commands.specs.Step.{kept_of, acted}
use Rattle.commands.specs.Call.{Lent, lent, Outcome, Result, result_of, seen, applied, command_call}
use Rattle.commands.proofs.Faultless.{Well, back, place_small, no_fault, kept_whole, empty_whole}
use Rattle.history.specs.History.{is_good, Cartridge, cartridge, after}
use Rattle.history.specs.Always.{Use, sends, mounts, protects, call_of, record_after}
use Rattle.history.proofs.Ended.{Finished, by_number, by_sense, by_act, ended}
use Rattle.history.proofs.Always.{acts_after}
use Rattle.lengths.specs.Lengths.{besides, length_after, heeds, Twins, Turn, turn_by, told_by, record_by, left_by, all_send, heedless, Unnoticed}
use Rattle.lengths.proofs.Calls.{encoded_but, unheeded}
use Rattle.lengths.proofs.Setting.{mounts_so, sets}

-- ---- what a command leaves of a record: refused, the record as it was; else that of a drive, which is well formed

record Made (s : List ℕ) : Type 0 where
  pub drive : Drive
  pub sense : List ℕ
  pub part0 : List ℕ
  pub part1 : List ℕ
  pub well : Well drive part0 part1
  pub whole : length sense ≡ sense_length
  pub is : s ≡ encode_of (with_sense drive sense)

left_or_made : (rec : List ℕ) (x : Lent) → (((command_call rec x).answer.refusal ≢ 0) × ((command_call rec x).rec ≡ rec)) ⊎ Made (command_call rec x).rec
unfolding applied acted
left_or_made rec x = go (ended rec x.cmd x.part0 x.part1 x.sent x.received)
  where
    go : Finished rec x.cmd x.part0 x.part1 x.sent x.received → (((command_call rec x).answer.refusal ≢ 0) × ((command_call rec x).rec ≡ rec)) ⊎ Made (command_call rec x).rec
    go (by_number n k e q) = inl ((λ h. let z : n ≡ 0 = sym (ap (λ (r : Result). r.answer.refusal) q) ∙ h in omega arith), ap (λ (r : Result). r.rec) q)
    go (by_sense s e f b w p l q) = inr (record { drive = f; sense = b; part0 = x.part0; part1 = x.part1; well = w; whole = l; is = ap (λ (r : Result). r.rec) q })
    go (by_act e w t q) =
        let o = operation_of (code_of x.cmd) in
        let y : Deed = act o (decode_of rec) x.cmd x.sent (seen o (decode_of rec) x) in
        inr (record { drive = y.drive; sense = kept_of y.tells; part0 = _; part1 = _; well = acts_after rec x w o t; whole = kept_whole y.tells; is = ap (λ (r : Result). r.rec) q })

well_after : (rec : List ℕ) (x : Lent) → well_record rec ≡ true → well_record (command_call rec x).rec ≡ true
well_after rec x h = go (left_or_made rec x)
  where
    go : (((command_call rec x).answer.refusal ≢ 0) × ((command_call rec x).rec ≡ rec)) ⊎ Made (command_call rec x).rec → well_record (command_call rec x).rec ≡ true
    go (inl k) = ap well_record k.1 ∙ h
    go (inr m) = ap well_record m.is ∙ (both _ _ (no_fault m.drive m.sense m.part0 m.part1 m.well m.whole)).0

-- and it is its fields
as_fields : (rec : List ℕ) (x : Lent) → (command_call rec x).answer.refusal ≡ 0 → encode_of (decode_of (command_call rec x).rec) ≡ (command_call rec x).rec
as_fields rec x h = go (left_or_made rec x)
  where
    go : (((command_call rec x).answer.refusal ≢ 0) × ((command_call rec x).rec ≡ rec)) ⊎ Made (command_call rec x).rec → encode_of (decode_of (command_call rec x).rec) ≡ (command_call rec x).rec
    go (inl k) = absurd (k.0 h)
    go (inr m) =
        ap (λ (s : List ℕ). encode_of (decode_of s)) m.is
        ∙ ap encode_of (back m.drive m.sense (place_small m.drive m.part0 m.part1 m.well.cart) m.well.small m.whole)
        ∙ sym m.is

-- a mount, of any block length, leaves one that is well formed too

mounted_well : (p1 : List ℕ) (n : ℕ) → n ≤ largest_block → well_record (encode_of (with_length (mounted_drive (partitions_of p1)) n)) ≡ true
unfolding well_record well_formed attention_known placed mounted_drive encode_of sense_bytes empty_sense bytes
mounted_well p1 n h =
    let M : Drive = with_length (mounted_drive (partitions_of p1)) n in
    let e : decode_of (encode_of M) ≡ M = decode_encode M (record { position_fits = omega arith; block_fits = omega arith; sense_length_lem = empty_whole }) in
    rw (e, le-leb n largest_block h) (go (absent p1))
  where
    go : (t : Bool) → leb 1 (cond t 1 2) && leb (cond t 1 2) 2 && leb 1 (cond t 1 2) ≡ true
    go true = refl
    go false = refl

-- ---- a use, by a record or its twin

record SameTurn (t t' : Turn) : Type 0 where
  pub answer : t.answer ≡ t'.answer
  pub received : t.received ≡ t'.received
  pub cart : t.cart ≡ t'.cart
  pub records : Twins t.rec t'.rec

module _ (rec rec' : List ℕ) (w : Twins rec rec') (c : Cartridge) where
  command_alike : (n m : ℕ) (cmd sent received : List ℕ) → heeds cmd ≡ false → SameTurn (turn_by n (sends cmd sent received) rec c) (turn_by m (sends cmd sent received) rec' c)
  command_alike n m cmd sent received h =
      let x = lent cmd c.part0 c.part1 sent received in
      let e = unheeded rec rec' w x h in
      record {
        answer = ap (λ (o : Outcome). o.answer) e;
        received = ap (λ (o : Outcome). o.lent.received) e;
        cart = ap (λ (o : Outcome). cartridge o.lent.part0 o.lent.part1) e;
        records = record { well = well_after rec x w.well; well' = well_after rec' x w.well'; same = ap (λ (o : Outcome). o.drive) e };
      }

  -- a mount refuses both by the same number
  same_fault : mount_fault rec c.part0 c.part1 ≡ mount_fault rec' c.part0 c.part1
  unfolding mount_fault
  same_fault = rw (w.well, w.well', ap (λ (y : Drive). y.loaded) w.same) refl

  module _ (n m : ℕ) (hn : n ≤ largest_block) (hm : m ≤ largest_block) where
    mount_alike : SameTurn (turn_by n mounts rec c) (turn_by m mounts rec' c)
    mount_alike = subst (λ (k : ℕ). SameTurn (turn_by n mounts rec c) (turn (settled_by k rec' (made m)))) same_fault (go (mount_fault rec c.part0 c.part1) (eqb (mount_fault rec c.part0 c.part1) 0))
      where
        turn : Settled → Turn
        turn s = record { answer = s.answer; received = []; rec = s.lent; cart = c }

        made : ℕ → List ℕ
        made l = encode_of (with_length (mounted_drive (partitions_of c.part1)) l)

        same_made : Twins (made n) (made m)
        same_made = record { well = mounted_well c.part1 n hn; well' = mounted_well c.part1 m hm; same = encoded_but (with_length (mounted_drive (partitions_of c.part1)) n) ∙ sym (encoded_but (with_length (mounted_drive (partitions_of c.part1)) m)) }

        go : (k : ℕ) (t : Bool) → SameTurn (turn (cond t (settled done (made n)) (settled (refused k) rec))) (turn (cond t (settled done (made m)) (settled (refused k) rec')))
        go k true = record { answer = refl; received = refl; cart = refl; records = same_made }
        go k false = record { answer = refl; received = refl; cart = refl; records = w }

-- ---- one use after another

module _ (n m : ℕ) (hn : n ≤ largest_block) (hm : m ≤ largest_block) where
  -- a first use that is alike, and then the others
  behind : (u : Use) (us : List Use) (rec rec' : List ℕ) (c : Cartridge) → SameTurn (turn_by n u rec c) (turn_by m u rec' c)
      → Unnoticed n m us (turn_by n u rec c).rec (turn_by m u rec' c).rec (turn_by n u rec c).cart → Unnoticed n m (u ∷ us) rec rec' c
  unfolding told_by record_by left_by
  behind u us rec rec' c a r =
      let t = turn_by n u rec c in
      let s = turn_by m u rec' c in
      record {
        told = ap₂ (λ (p : Answer × List ℕ) (ps : List (Answer × List ℕ)). p ∷ ps) (ap₂ (λ (x : Answer) (y : List ℕ). (x, y)) a.answer a.received) (r.told ∙ ap (told_by m us s.rec) a.cart);
        left = r.left ∙ ap (left_by m us s.rec) a.cart;
        records = subst (λ (e : Cartridge). Twins (record_by n us t.rec t.cart) (record_by m us s.rec e)) a.cart r.records;
      }

  pub unnoticed : (us : List Use) → all_send heedless us ≡ true → (rec rec' : List ℕ) → Twins rec rec' → (c : Cartridge) → Unnoticed n m us rec rec' c
  unfolding all_send
  unnoticed [] h rec rec' w c = unfold told_by record_by left_by in record { told = refl; left = refl; records = w }
  unnoticed (sends cmd sent received ∷ us) h rec rec' w c =
      let k = both (heedless cmd) (all_send heedless us) h in
      let a = command_alike rec rec' w c n m cmd sent received (not-true (heeds cmd) k.0) in
      behind _ us rec rec' c a (unnoticed us k.1 _ _ a.records _)
  unnoticed (mounts ∷ us) h rec rec' w c = let a = mount_alike rec rec' w c n m hn hm in behind _ us rec rec' c a (unnoticed us h _ _ a.records _)
  unnoticed (protects s on ∷ us) h rec rec' w c = behind _ us rec rec' c (record { answer = refl; received = refl; cart = refl; records = w }) (unnoticed us h _ _ w _)

-- ---- Q-3 beside 01: mounts that set 32,768, and mounts that set 0

pub as_before : (us : List Use) → all_send heedless us ≡ true → (rec : List ℕ) → well_record rec ≡ true → (c : Cartridge) → Unnoticed mounted_block_length 0 us rec rec c
as_before us h rec w c = unnoticed mounted_block_length 0 (omega arith) (omega arith) us h rec rec (record { well = w; well' = w; same = refl }) c

-- the uses by mounts that set 32,768 are those of demand 3
pub uses_so : (u : Use) (rec : List ℕ) (c : Cartridge) → ((turn_by mounted_block_length u rec c).rec ≡ record_after u rec c) × ((turn_by mounted_block_length u rec c).cart ≡ after (call_of u rec) c)
unfolding after
uses_so (sends cmd sent received) rec c = (refl, refl)
uses_so mounts rec c = (ap (λ (s : Settled). s.lent) (mounts_so rec c.part0 c.part1), refl)
uses_so (protects s on) rec c = (refl, refl)

-- ---- a GOOD MODE SELECT of twelve bytes leaves the same, the record to the byte: so all that follows is the same

pub selected : (rec rec' : List ℕ) → Twins rec rec' → (x : Lent) → operation_of (code_of x.cmd) ≡ ModeSelect → allocation_of x.cmd ≡ whole_length → is_good (command_call rec x).answer ≡ true
    → command_call rec x ≡ command_call rec' x
selected rec rec' w x is whole g =
    λ i. result_of (e i).answer ((sym (as_fields rec x (unrefused (command_call rec x).answer g)) ∙ ap encode_of drives ∙ as_fields rec' x (unrefused (command_call rec' x).answer g')) i) (e i).lent
  where
    e : besides (command_call rec x) ≡ besides (command_call rec' x)
    e = unheeded rec rec' w x (rw is refl)

    g' : is_good (command_call rec' x).answer ≡ true
    g' = ap (λ (o : Outcome). is_good o.answer) (sym e) ∙ g

    unrefused : (a : Answer) → is_good a ≡ true → a.refusal ≡ 0
    unrefused a h = eqb-true a.refusal 0 (both (eqb a.refusal 0) (eqb a.status 0) h).0

    picks : (r : List ℕ) (a : Answer) → is_good a ≡ true → length_after r x a ≡ new_length x.sent
    picks r a h = rw (is, h, whole) refl

    drives : decode_of (command_call rec x).rec ≡ decode_of (command_call rec' x).rec
    drives = ap₂ with_length (ap (λ (o : Outcome). o.drive) e) (sets rec x ∙ picks rec (command_call rec x).answer g ∙ sym (sets rec' x ∙ picks rec' (command_call rec' x).answer g'))
