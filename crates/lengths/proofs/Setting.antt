-- Who sets the block length: a mount 32,768, a fresh record 0, a GOOD MODE SELECT of twelve bytes what it names; no other call.
-- Assumes nothing.
use Prim.Native.Nat.{ℕ, suc, ◌^◌, ◌<◌}
use native.Mathlib.Omega.{arith}
use mathlib.Core.Path.{◌≡◌, refl, sym, ap, ◌∙◌}
use mathlib.Core.Bool.{Bool, true, false, cond, not, ◌&&◌, ◌||◌}
use mathlib.Core.Option.{Option, none, some}
use mathlib.Core.List.{List, [], ◌∷◌}
use borrow.Author.Tests.{eqb-true, ne_eqb, not-true}
use lib.Dec.{eqb}
use lib.IntN.{sub_ℕ}
use lib.ListN.{length, drop, get_elem?}
use Rattle.words.specs.Words.{be, bytes}
use Rattle.words.proofs.Laws.{be_bytes}
use Rattle.answers.specs.Answers.{command_short, record_fault, refused, done, settled}
use Rattle.objects.specs.Object.{Object, filemark, block}
use Rattle.objects.specs.Transfer.{run_of}
use Rattle.image.proofs.Tests.{both}
use Rattle.sense.specs.Sense.{illegal_request, invalid_list_field, unqualified, plainly}
use Rattle.record.specs.declared.drive.Drive.{Drive}
use Rattle.record.specs.Record.{mounted_block_length, decode_of, encode_of, well_record, fresh_drive, mounted_drive, with_sense, loaded_anew, unloaded}
use Rattle.codes.specs.declared.operation.Operation.{Operation}
use Rattle.codes.specs.declared.operation.Operation.TheVariants.{TestUnitReady, Rewind, RequestSense, ReadBlockLimits, Read, Write, WriteFilemarks, Space, ModeSelect, Erase, ModeSense, LoadUnload, Locate, ReadPosition, Space16, Locate16, NotServed}
use Rattle.codes.specs.Codes.{code_of, too_short, operation_of}
use Rattle.codes.specs.Fields.{fixed_of, transfer_of, load_of, allocation_of}
use Rattle.house.proofs.Made.{fresh_made, mount_made}
use Rattle.house.specs.Mount.{partitions_of, fresh_call, mount_fault, mount_call}
use Rattle.commands.specs.Kinds.{among}
use Rattle.commands.specs.Stop.{Stop, refuse, attend, fault}
use Rattle.commands.specs.Parameters.{whole_length, list_right, new_length}
use Rattle.commands.specs.Act.{Seen, Deed, good, checked, carrying, at, odd_met, with_length, hidden, read_run, read_variable, reading, spacing, locating, selecting, act}
use Rattle.commands.specs.Step.{status_of, kept_of, stopped, acted}
use Rattle.commands.specs.Call.{Lent, lent, outcome, Result, seen, inserted, applied, step_of, called, command_call}
use Rattle.commands.proofs.Ends.{call_stops}
use Rattle.commands.proofs.Faultless.{Well, fault_free}
use Rattle.history.specs.History.{Cartridge, is_good}
use Rattle.history.specs.Always.{Use, sends, mounts, protects, record_used}
use Rattle.history.proofs.Acted.{writing_drive, marking_drive}
use Rattle.history.proofs.Ended.{Finished, by_number, by_sense, by_act, ended}
use Rattle.history.proofs.Always.{acts_after}
use Rattle.lengths.specs.Lengths.{length_in, length_bytes, length_after, mount_by, all_send, selectless}

-- ---- written into a record, and read there

pub length_back : (d : Drive) → d.block_length < 2 ^ 32 → length_in (encode_of d) ≡ d.block_length
unfolding decode_of encode_of be bytes
length_back d h = be_bytes 4 d.block_length h

-- ---- "After a mount the block length shall be 32,768"

pub mounts_so : (rec p0 p1 : List ℕ) → mount_by mounted_block_length rec p0 p1 ≡ mount_call rec p0 p1
unfolding mount_call mounted_drive
mounts_so rec p0 p1 = refl

pub made_length : (n : ℕ) → length_in (encode_of (mounted_drive n)) ≡ mounted_block_length
unfolding mounted_drive
made_length n = length_back (mounted_drive n) (omega arith)

pub mounted_length : (rec p0 p1 : List ℕ) → (mount_call rec p0 p1).answer ≡ done
    → (length_in (mount_call rec p0 p1).lent ≡ 32768) × (length_bytes (mount_call rec p0 p1).lent ≡ 0x00 ∷ 0x00 ∷ 0x80 ∷ 0x00 ∷ [])
mounted_length rec p0 p1 h =
    let m = mount_made rec p0 p1 h in
    (ap length_in m ∙ made_length (partitions_of p1), ap length_bytes m ∙ spelt (partitions_of p1))
  where
    spelt : (n : ℕ) → length_bytes (encode_of (mounted_drive n)) ≡ 0x00 ∷ 0x00 ∷ 0x80 ∷ 0x00 ∷ []
    spelt n = unfold mounted_drive encode_of bytes in refl

-- a fresh record has 0, as 01 has it
pub fresh_length : (rec : List ℕ) → (fresh_call rec).answer ≡ done → length_in (fresh_call rec).lent ≡ 0
unfolding fresh_drive
fresh_length rec h = ap length_in (fresh_made rec h) ∙ length_back fresh_drive (omega arith)

-- ---- and no command but MODE SELECT sets another

abbrev Of : Deed → ℕ
Of e = e.drive.block_length

module _ (d : Drive) (cmd sent : List ℕ) (v : Seen) where
  abbrev kept : ℕ
  kept = d.block_length

  read_keeps : Of (reading d cmd v) ≡ kept
  unfolding reading read_variable
  read_keeps = go (eqb (transfer_of cmd) 0) (fixed_of cmd) (get_elem? v.objects d.position)
    where
      go : (z f : Bool) (x : Option Object) → Of (cond z (good d) (cond f (read_run d v (transfer_of cmd) (run_of d.block_length (transfer_of cmd) (drop d.position v.objects))) (read_variable d cmd v x))) ≡ kept
      go true f x = refl
      go false true x = refl
      go false false none = refl
      go false false (some filemark) = refl
      go false false (some (block bs)) = by (eqb (length bs) (transfer_of cmd)) (hidden d cmd (length bs))
        where
          by : (a b : Bool) → Of (cond (a || b) (good (at d (suc d.position))) (checked (at d (suc d.position)) (odd_met (sub_ℕ (transfer_of cmd) (length bs))))) ≡ kept
          by true b = refl
          by false true = refl
          by false false = refl

  load_keeps : (t : Bool) → (cond t (loaded_anew d) (unloaded d)).block_length ≡ kept
  unfolding loaded_anew unloaded
  load_keeps true = refl
  load_keeps false = refl

  select_sets : Of (selecting d cmd sent) ≡ cond (eqb (status_of (selecting d cmd sent).tells) 0 && eqb (allocation_of cmd) whole_length) (new_length sent) kept
  unfolding selecting status_of
  select_sets = go (eqb (allocation_of cmd) 0) (list_right (allocation_of cmd) sent) (eqb (allocation_of cmd) whole_length) refl refl
    where
      by : Bool → Bool → Bool → Deed
      by a b c = cond a (good d) (cond b (carrying (allocation_of cmd) (good (cond c (with_length d (new_length sent)) d))) (checked d (plainly illegal_request invalid_list_field unqualified)))

      go : (a b c : Bool) → eqb (allocation_of cmd) 0 ≡ a → eqb (allocation_of cmd) whole_length ≡ c → Of (by a b c) ≡ cond (eqb (status_of (by a b c).tells) 0 && c) (new_length sent) kept
      go true b true e f = absurd (let z : ◌≡◌ {A = ℕ} 0 whole_length = sym (eqb-true (allocation_of cmd) 0 e) ∙ eqb-true (allocation_of cmd) whole_length f in omega arith)
      go true b false e f = refl
      go false true true e f = refl
      go false true false e f = refl
      go false false c e f = refl

  act_sets : (o : Operation) → Of (act o d cmd sent v) ≡ cond (among (ModeSelect ∷ []) o && eqb (status_of (act o d cmd sent v).tells) 0 && eqb (allocation_of cmd) whole_length) (new_length sent) kept
  unfolding act spacing locating
  act_sets TestUnitReady = refl
  act_sets Rewind = refl
  act_sets RequestSense = refl
  act_sets ReadBlockLimits = refl
  act_sets Read = read_keeps
  act_sets Write = ap (λ (e : Drive). e.block_length) (writing_drive d cmd sent v)
  act_sets WriteFilemarks = ap (λ (e : Drive). e.block_length) (marking_drive d cmd sent v)
  act_sets Space = refl
  act_sets ModeSelect = select_sets
  act_sets Erase = refl
  act_sets ModeSense = refl
  act_sets LoadUnload = load_keeps (load_of cmd)
  act_sets Locate = refl
  act_sets ReadPosition = refl
  act_sets Space16 = refl
  act_sets Locate16 = refl
  act_sets NotServed = refl

module _ (rec : List ℕ) (x : Lent) where
  abbrev d : Drive
  d = decode_of rec

  abbrev o : Operation
  o = operation_of (code_of x.cmd)

  abbrev R : Result
  R = command_call rec x

  stop_keeps : (s : Stop) → (stopped s d).drive.block_length ≡ length_in rec
  unfolding stopped with_sense
  stop_keeps (refuse n) = refl
  stop_keeps attend = refl
  stop_keeps (fault k a q) = refl

  -- a call that is not refused found a well-formed record
  unrefused : R.answer.refusal ≡ 0 → Well d x.part0 x.part1
  unfolding command_call called
  unrefused h = fault_free rec x.part0 x.part1 (go (too_short x.cmd) (well_record rec && inserted d x.part0 x.part1) h)
    where
      go : (a b : Bool) → (cond a (outcome (refused command_short) d x) (cond (not b) (outcome (refused record_fault) d x) (step_of d x))).answer.refusal ≡ 0 → b ≡ true
      go true b h = absurd (let z : ◌≡◌ {A = ℕ} command_short 0 = h in omega arith)
      go false true h = refl
      go false false h = absurd (let z : ◌≡◌ {A = ℕ} record_fault 0 = h in omega arith)

  -- one that is not GOOD
  not_good : is_good R.answer ≡ false → length_in R.rec ≡ length_in rec → length_in R.rec ≡ length_after rec x R.answer
  not_good g h = h ∙ sym (rw g (go (among (ModeSelect ∷ []) o)))
    where
      go : (t : Bool) → cond (t && false && eqb (allocation_of x.cmd) whole_length) (new_length x.sent) (length_in rec) ≡ length_in rec
      go true = refl
      go false = refl

  pub sets : length_in (command_call rec x).rec ≡ length_after rec x (command_call rec x).answer
  unfolding applied acted with_sense
  sets = go (ended rec x.cmd x.part0 x.part1 x.sent x.received)
    where
      stays : (s : Stop) (t : Bool) → length_in rec < 2 ^ 32 → length_in (cond t (encode_of (stopped s d).drive) rec) ≡ length_in rec
      stays s true h = length_back (stopped s d).drive (rw (stop_keeps s) h) ∙ stop_keeps s
      stays s false h = refl

      go : Finished rec x.cmd x.part0 x.part1 x.sent x.received → length_in R.rec ≡ length_after rec x R.answer
      go (by_number n h e q) = not_good (ap (λ (r : Result). is_good r.answer) q ∙ rw (ne_eqb n 0 (λ z. omega arith)) refl) (ap (λ (r : Result). length_in r.rec) q)
      go (by_sense s e f b w p l q) =
          not_good (ap (λ (r : Result). is_good r.answer) q)
          (ap (λ (r : Result). length_in r.rec) (call_stops rec x s e) ∙ stays s (eqb (stopped s d).answer.refusal 0) (omega (arith, (unrefused (ap (λ (r : Result). r.answer.refusal) q)).small)))
      go (by_act e w t q) =
          let y : Deed = act o d x.cmd x.sent (seen o d x) in
          let a = acts_after rec x w o t in
          ap (λ (r : Result). length_in r.rec) q
          ∙ length_back (with_sense y.drive (kept_of y.tells)) (omega (arith, a.small))
          ∙ act_sets d x.cmd x.sent (seen o d x) o
          ∙ sym (ap (λ (r : Result). length_after rec x r.answer) q)

-- ---- so it is 32,768 in every record since a mount, through other mounts and unloads, until a MODE SELECT

mount_stays : (rec p0 p1 : List ℕ) → length_in rec ≡ mounted_block_length → length_in (mount_call rec p0 p1).lent ≡ mounted_block_length
unfolding mount_call
mount_stays rec p0 p1 h = go (eqb (mount_fault rec p0 p1) 0)
  where
    go : (t : Bool) → length_in (cond t (settled done (encode_of (mounted_drive (partitions_of p1)))) (settled (refused (mount_fault rec p0 p1)) rec)).lent ≡ mounted_block_length
    go true = made_length (partitions_of p1)
    go false = h

stays : (us : List Use) → all_send selectless us ≡ true → (rec : List ℕ) (c : Cartridge) → length_in rec ≡ mounted_block_length → length_in (record_used us rec c) ≡ mounted_block_length
unfolding all_send record_used
stays [] h rec c e = e
stays (sends cmd sent received ∷ us) h rec c e =
    let k = both (selectless cmd) (all_send selectless us) h in
    let x = lent cmd c.part0 c.part1 sent received in
    let q : length_after rec x (command_call rec x).answer ≡ length_in rec = rw (not-true (among (ModeSelect ∷ []) (operation_of (code_of cmd))) k.0) refl in
    stays us k.1 _ _ (sets rec x ∙ q ∙ e)
stays (mounts ∷ us) h rec c e = stays us h _ _ (mount_stays rec c.part0 c.part1 e)
stays (protects s on ∷ us) h rec c e = stays us h _ _ e

pub since_a_mount : (rec : List ℕ) (c : Cartridge) → (mount_call rec c.part0 c.part1).answer ≡ done → (us : List Use) → all_send selectless us ≡ true
    → length_in (record_used us (mount_call rec c.part0 c.part1).lent c) ≡ 32768
since_a_mount rec c d us h = stays us h _ c (mounted_length rec c.part0 c.part1 d).0
