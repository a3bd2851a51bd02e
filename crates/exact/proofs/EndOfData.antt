-- Q-2, proved of the call. EOM at end of data is told exactly where position N of the partition looked at is in the zone; and by any other rule for
-- that bit, 01's constant among them, the call is the same but for the bit, which is one of byte 2 of the kept sense.
-- Assumes nothing.
use Prim.Native.Nat.{ℕ, ◌≤◌, ◌<◌}
use native.Mathlib.Omega.{arith}
use mathlib.Core.Path.{◌≡◌, refl, sym, ap, ◌∙◌, subst}
use mathlib.Core.Logic.{◌↔◌}
use mathlib.Core.Bool.{Bool, true, false, cond}
use mathlib.Core.Option.{none, some}
use mathlib.Core.List.{List, [], ◌∷◌}
use borrow.Author.Tests.{eqb-true, lt-ltb, ltb-true}
use lib.Dec.{eqb}
use lib.IntN.{ℤ, pos}
use lib.ListN.{length, get_or}
use Rattle.words.specs.Words.{bytes, over}
use Rattle.words.specs.Signed.{fits32}
use Rattle.answers.specs.Answers.{check_condition, command_short, record_fault, refused, first}
use Rattle.objects.specs.Movement as M
use Rattle.image.specs.Image.{count, zone}
use Rattle.image.proofs.Facts.{sound_of}
use Rattle.image.proofs.Objects.{length_objects}
use Rattle.sense.specs.declared.Sense.{Sense}
use Rattle.sense.specs.Sense.{blank_check, no_additional, end_of_data_detected, sense_bytes, reports, told, parts_of, empty_sense}
use Rattle.sense.proofs.RoundTrip.{parts_made}
use Rattle.record.specs.declared.drive.Drive.{Drive}
use Rattle.record.specs.Record.{decode_of, encode_of, well_record, with_sense}
use Rattle.codes.specs.declared.operation.Operation.{Operation}
use Rattle.codes.specs.declared.operation.Operation.TheVariants.{Space, Space16}
use Rattle.codes.specs.Codes.{number_of, code_of, too_short, operation_of}
use Rattle.codes.specs.Fields.{space_code_of, space_count_of, space_count16_of}
use Rattle.commands.specs.Kinds.{among, needs_cartridge, locates}
use Rattle.commands.specs.Stop.{Stop, refuse}
use Rattle.commands.specs.Act.{Seen, Deed, eom_at_end, to_end, movement, space_tells, spacing, act}
use Rattle.commands.specs.Tests.{tests}
use Rattle.commands.specs.Step.{Stepped, status_of, kept_of, stepped_by, acted, unless, step}
use Rattle.commands.specs.Call.{Lent, outcome, Result, result_of, looks_at, seen_of, seen, faulty, laid_out, applied, step_of, called, written, command_call, command_tests}
use Rattle.commands.proofs.Classes.{named}
use Rattle.commands.proofs.Faultless.{Well, place_small, sense_whole, back, kept_whole, inside, sound_there, looks_in, seen_there}
use Rattle.commands.proofs.Ends.{call_acts}
use Rattle.commands.proofs.Goes.{has_cartridge}
use Rattle.commands.proofs.Passed.{passed}
use Rattle.commands.proofs.Zone.{end_seen}
use Rattle.history.proofs.Acted.{place}
use Rattle.history.proofs.Always.{acts_after}
use Rattle.history.proofs.Ended.{Finished, by_number, by_sense, by_act, ended}
use Rattle.history.proofs.ReadBack.{told_held}
use Rattle.exact.specs.Senses.{sense_after}
use Rattle.exact.specs.EndOfData.{MeetsEnd, meeting_end, may_meet_end, looked_at, EndsInZone, act_by, call_with, call_by, never, byte2_at, with_byte2, end_byte2}
use Rattle.exact.proofs.Senses.{sense_back, after_act, told_test, heard}
use Rattle.exact.proofs.Ruled.{deed, Ending, elsewhere, at_end_lem, act_ends}
use Rattle.exact.proofs.AtEnd.{act_stands}

-- ---- byte 2 of the sense kept in a record

abbrev end_sense : Bool → ℤ → Bool → Sense
end_sense counts z eom = told counts false eom false blank_check no_additional end_of_data_detected z

kept_byte : (d : Drive) (counts : Bool) (z : ℤ) (e b : Bool) → encode_of (with_sense d (sense_bytes (end_sense counts z e))) ≡ over (encode_of (with_sense d (sense_bytes (end_sense counts z b)))) byte2_at (end_byte2 e ∷ [])
unfolding encode_of with_sense sense_bytes told over bytes
kept_byte d counts z true b = refl
kept_byte d counts z false b = refl

byte_kept : (d : Drive) (counts : Bool) (z : ℤ) (e : Bool) → get_or (encode_of (with_sense d (sense_bytes (end_sense counts z e)))) byte2_at 0 ≡ end_byte2 e
unfolding encode_of with_sense sense_bytes told bytes
byte_kept d counts z true = refl
byte_kept d counts z false = refl

key_not_told : (k : ℕ) → ((z : ℤ) → reports true k z ≡ false) → k ≡ blank_check → ⊥
unfolding reports fits32
key_not_told k h e = let z : true ≡ false = subst (λ (n : ℕ). reports true n (pos 0) ≡ false) e (h (pos 0)) in let y : ◌≡◌ {A = ℕ} 0 1 = cc in omega arith

-- what holds of all of a list holds of one of them
abbrev All : (Operation → Type 0) → List Operation → Type 0
All P [] = Unit {0}
All P (k ∷ ks) = P k × All P ks

of_all : (P : Operation → Type 0) (o : Operation) (ks : List Operation) → All P ks → among ks o ≡ true → P o
of_all P o [] h e = absurd (let z : ◌≡◌ {A = ℕ} 0 1 = cc in omega arith)
of_all P o (k ∷ ks) h e = go (eqb (number_of o) (number_of k)) refl e (of_all P o ks h.1)
  where
    go : (t : Bool) → eqb (number_of o) (number_of k) ≡ t → cond t true (among ks o) ≡ true → (among ks o ≡ true → P o) → P o
    go true q e ih = subst P (sym (named o k (number_of o) refl (eqb-true (number_of o) (number_of k) q))) h.0
    go false q e ih = ih e

module _ (rec : List ℕ) (x : Lent) where
  abbrev d : Drive
  d = decode_of rec

  abbrev o : Operation
  o = operation_of (code_of x.cmd)

  abbrev v : Seen
  v = seen o d x

  abbrev T : List (Bool × Stop)
  T = command_tests rec x

  abbrev R : Result
  R = command_call rec x

  abbrev E : Deed
  E = act o d x.cmd x.sent v

  -- ---- the call, by the step that a deed makes

  abbrev Done : Deed → Stepped
  Done e = stepped_by o d x.cmd x.sent v e

  as_call : R ≡ call_with (Done E) rec x
  unfolding command_call called step_of step acted call_with
  as_call = refl

  stops_alike : (s : Stop) → first T ≡ some s → (t t' : Stepped) → call_with t rec x ≡ call_with t' rec x
  unfolding call_with command_tests
  stops_alike s e t t' = ap (written rec) (go (too_short x.cmd) (faulty (well_record rec) d x) e)
    where
      K : List (Bool × Stop)
      K = tests o d x.cmd v x.sent (length x.received)

      go : (a b : Bool) → first ((a, refuse command_short) ∷ (b, refuse record_fault) ∷ K) ≡ some s
          → cond a (outcome (refused command_short) d x) (cond b (outcome (refused record_fault) d x) (applied (unless (first K) d t) (looks_at o d x.cmd) x))
          ≡ cond a (outcome (refused command_short) d x) (cond b (outcome (refused record_fault) d x) (applied (unless (first K) d t') (looks_at o d x.cmd) x))
      go true b e = refl
      go false true e = refl
      go false false e = unfold first unless in rw e refl

  acts_so : first T ≡ none → (t : Stepped) → call_with t rec x ≡ written rec (applied t (looks_at o d x.cmd) x)
  unfolding call_with command_tests
  acts_so e t = ap (written rec) (go (too_short x.cmd) (faulty (well_record rec) d x) e)
    where
      K : List (Bool × Stop)
      K = tests o d x.cmd v x.sent (length x.received)

      go : (a b : Bool) → first ((a, refuse command_short) ∷ (b, refuse record_fault) ∷ K) ≡ none
          → cond a (outcome (refused command_short) d x) (cond b (outcome (refused record_fault) d x) (applied (unless (first K) d t) (looks_at o d x.cmd) x)) ≡ applied t (looks_at o d x.cmd) x
      go true b e = absurd (unfold first in let z : ◌≡◌ {A = ℕ} 0 1 = cc in omega arith)
      go false true e = absurd (unfold first in let z : ◌≡◌ {A = ℕ} 0 1 = cc in omega arith)
      go false false e = unfold first unless in rw e refl

  -- what is left where end of data is met, with the bit e
  abbrev Left : Drive → Bool → ℤ → Bool → List ℕ → ℕ × ℕ → Result
  Left f counts z e b n = written rec (applied (Done (deed f (some (end_sense counts z e)) b n)) (looks_at o d x.cmd) x)

  left_byte : (f : Drive) (counts : Bool) (z : ℤ) (e g : Bool) (b : List ℕ) (n : ℕ × ℕ) → Left f counts z e b n ≡ with_byte2 (end_byte2 e) (Left f counts z g b n)
  unfolding applied laid_out status_of kept_of
  left_byte f counts z e g b n = ap (λ (y : List ℕ). result_of (Left f counts z g b n).answer y (Left f counts z g b n).lent) (kept_byte f counts z e g)

  left_kept : (f : Drive) (counts : Bool) (z : ℤ) (e : Bool) (b : List ℕ) (n : ℕ × ℕ) → get_or (Left f counts z e b n).rec byte2_at 0 ≡ end_byte2 e
  unfolding applied status_of kept_of
  left_kept f counts z e b n = byte_kept f counts z e

  left_tells : (f : Drive) (counts : Bool) (z : ℤ) (e : Bool) (b : List ℕ) (n : ℕ × ℕ) → sense_after (Left f counts z e b n) ≡ end_sense counts z e
  unfolding applied status_of kept_of
  left_tells f counts z e b n =
      let s = end_sense counts z e in
      ap parts_of (sense_back f (sense_bytes s) (sense_whole s)) ∙ parts_made s (told_held counts false e false blank_check no_additional end_of_data_detected z (omega arith))

  left_checks : (f : Drive) (counts : Bool) (z : ℤ) (e : Bool) (b : List ℕ) (n : ℕ × ℕ) → (Left f counts z e b n).answer.status ≡ check_condition
  unfolding applied status_of
  left_checks f counts z e b n = refl

  left_meets : (f : Drive) (counts : Bool) (z : ℤ) (e : Bool) (b : List ℕ) (n : ℕ × ℕ) → MeetsEnd (Left f counts z e b n)
  unfolding told
  left_meets f counts z e b n =
      let s = left_tells f counts z e b n in
      (left_checks f counts z e b n, (ap (λ (t : Sense). t.key) s, (ap (λ (t : Sense). t.asc) s, ap (λ (t : Sense). t.ascq) s)))

  -- ---- how the call ends, by what Q-2 speaks of

  data Ends (rule : Seen → Bool) : Type 0 where
    -- not at end of data: the same by every rule
    not_there : (MeetsEnd R → ⊥) → call_by rule rec x ≡ R → Ends rule
    there : may_meet_end o ≡ true → (f : Drive) (counts : Bool) (z : ℤ) (b : List ℕ) (n : ℕ × ℕ) → first T ≡ none → Well d x.part0 x.part1
        → first (tests o d x.cmd v x.sent (length x.received)) ≡ none → R ≡ Left f counts z (eom_at_end v) b n → call_by rule rec x ≡ Left f counts z (rule v) b n → Ends rule

  stopped_not : (s : Stop) → first T ≡ some s → MeetsEnd R → ⊥
  unfolding told
  stopped_not s e m = let t = told_test rec x s e m.0 in key_not_told t.key t.silent (ap (λ (y : Sense). y.key) (sym t.is) ∙ m.1.0)

  ends : (rule : Seen → Bool) → Ends rule
  ends rule = go (ended rec x.cmd x.part0 x.part1 x.sent x.received)
    where
      stops : (s : Stop) → first T ≡ some s → Ends rule
      stops s e = not_there (stopped_not s e) (stops_alike s e _ _ ∙ sym as_call)

      acts : first T ≡ none → Well d x.part0 x.part1 → first (tests o d x.cmd v x.sent (length x.received)) ≡ none → Ending rule o v E (act_by rule o d x.cmd x.sent v) → Ends rule
      acts e w q (elsewhere h g) = not_there (λ m. h (sense_after R) (heard rec x e m.0) m.1.0) (ap (λ (y : Deed). call_with (Done y) rec x) g ∙ sym as_call)
      acts e w q (at_end_lem h f counts z b n g k) =
          there h f counts z b n e w q (as_call ∙ ap (λ (y : Deed). call_with (Done y) rec x) g ∙ acts_so e _) (ap (λ (y : Deed). call_with (Done y) rec x) k ∙ acts_so e _)

      go : Finished rec x.cmd x.part0 x.part1 x.sent x.received → Ends rule
      go (by_number n h e c) = stops _ e
      go (by_sense s e f b w p l c) = stops s e
      go (by_act e w q c) = acts e w q (act_ends rule d x.cmd x.sent v o)

  -- ---- the definitions by the rule of the zone are the definitions

  pub ruled_so : call_by eom_at_end rec x ≡ R
  ruled_so = go (ends eom_at_end)
    where
      go : Ends eom_at_end → call_by eom_at_end rec x ≡ R
      go (not_there h e) = e
      go (there h f c z b n t w q e g) = g ∙ sym e

  -- ---- "READ, SPACE or LOCATE meets end of data": these alone

  pub met_by : MeetsEnd R → may_meet_end (operation_of (code_of x.cmd)) ≡ true
  met_by m = go (ends never)
    where
      go : Ends never → may_meet_end o ≡ true
      go (not_there h e) = absurd (h m)
      go (there h f c z b n t w q e g) = h

  -- ---- "Set it exactly when position N of the partition is in the zone"

  is_loaded : may_meet_end o ≡ true → first (tests o d x.cmd v x.sent (length x.received)) ≡ none → d.loaded ≡ 0 → ⊥
  is_loaded h q = has_cartridge d x.cmd x.sent (length x.received) v o (of_all (λ (k : Operation). needs_cartridge k ≡ true) o meeting_end (refl, (refl, (refl, (refl, (refl, tt))))) h) q

  is_there : may_meet_end o ≡ true → Well d x.part0 x.part1 → first (tests o d x.cmd v x.sent (length x.received)) ≡ none → looks_at o d x.cmd < d.partitions
  is_there h w q = looks_in o d x.cmd (inside d x.part0 x.part1 w.cart (is_loaded h q)).there (passed o d x.cmd v x.sent (length x.received) q).there

  seen_so : may_meet_end o ≡ true → Well d x.part0 x.part1 → first (tests o d x.cmd v x.sent (length x.received)) ≡ none → v ≡ seen_of (looked_at rec x)
  seen_so h w q = seen_there o d x (is_there h w q)

  sees_it : may_meet_end o ≡ true → Well d x.part0 x.part1 → first (tests o d x.cmd v x.sent (length x.received)) ≡ none → zone (looked_at rec x) (count (looked_at rec x)) ≡ eom_at_end v
  sees_it h w q = end_seen (looked_at rec x) (sound_of (looked_at rec x) (sound_there d x.part0 x.part1 w.cart (looks_at o d x.cmd) (is_there h w q))) ∙ ap eom_at_end (sym (seen_so h w q))

  pub eom_is : MeetsEnd R → (sense_after R).eom ≡ zone (looked_at rec x) (count (looked_at rec x))
  unfolding told
  eom_is m = go (ends never)
    where
      go : Ends never → (sense_after R).eom ≡ zone (looked_at rec x) (count (looked_at rec x))
      go (not_there h e) = absurd (h m)
      go (there h f c z b n t w q e g) = ap (λ (r : Result). (sense_after r).eom) e ∙ ap (λ (s : Sense). s.eom) (left_tells f c z (eom_at_end v) b n) ∙ sym (sees_it h w q)

  pub eom_exactly : MeetsEnd R → ((sense_after R).eom ≡ true) ↔ EndsInZone (looked_at rec x)
  unfolding zone
  eom_exactly m = ((λ e. ltb-true _ _ (sym (eom_is m) ∙ e)), (λ h. eom_is m ∙ lt-ltb _ _ h))

  -- ---- which is where the drive stands then

  stands : first T ≡ none → Well d x.part0 x.part1 → first (tests o d x.cmd v x.sent (length x.received)) ≡ none → MeetsEnd R
      → ((decode_of R.rec).current ≡ looks_at o d x.cmd) × ((decode_of R.rec).position ≡ length v.objects)
  unfolding applied acted with_sense
  stands e w q m =
      let a = acts_after rec x w o q in
      let r : decode_of R.rec ≡ with_sense E.drive (kept_of E.tells) = ap (λ (y : Result). decode_of y.rec) (call_acts rec x e) ∙ back E.drive (kept_of E.tells) (place_small _ _ _ a.cart) a.small (kept_whole E.tells) in
      let t = act_stands d x.cmd x.sent v o in_place (sense_after R) (heard rec x e m.0) m.1.0 in
      (ap (λ (y : Drive). y.current) r ∙ t.0, ap (λ (y : Drive). y.position) r ∙ t.1)
    where
      current : locates o ≡ false → looks_at o d x.cmd ≡ d.current
      current n = unfold looks_at in rw n refl

      in_place : locates o ≡ false → d.position ≤ length v.objects
      in_place n = place rec x w o q (current n) (is_loaded (met_by m) q)

  pub met_at_n : MeetsEnd R → ((decode_of R.rec).current ≡ looks_at (operation_of (code_of x.cmd)) (decode_of rec) x.cmd) × ((decode_of R.rec).position ≡ count (looked_at rec x))
  met_at_n m = go (ends never)
    where
      go : Ends never → ((decode_of R.rec).current ≡ looks_at o d x.cmd) × ((decode_of R.rec).position ≡ count (looked_at rec x))
      go (not_there h e) = absurd (h m)
      go (there h f c z b n t w q e g) = let s = stands t w q m in (s.0, s.1 ∙ ap (λ (y : Seen). length y.objects) (seen_so h w q) ∙ unfold seen_of in length_objects (looked_at rec x))

  -- ---- and nothing else of any outcome: beside the call as 01 had it

  pub as_before : (MeetsEnd R → ⊥) → R ≡ call_by never rec x
  as_before h = go (ends never)
    where
      go : Ends never → R ≡ call_by never rec x
      go (not_there k e) = sym e
      go (there k f c z b n t w q e g) = absurd (h (subst MeetsEnd (sym e) (left_meets f c z (eom_at_end v) b n)))

  pub meets_as_before : MeetsEnd R ↔ MeetsEnd (call_by never rec x)
  meets_as_before = go (ends never)
    where
      go : Ends never → MeetsEnd R ↔ MeetsEnd (call_by never rec x)
      go (not_there k e) = (subst MeetsEnd (sym e), subst MeetsEnd e)
      go (there k f c z b n t w q e g) = ((λ m. subst MeetsEnd (sym g) (left_meets f c z false b n)), (λ m. subst MeetsEnd (sym e) (left_meets f c z (eom_at_end v) b n)))

  -- 08h there was, and is, but in the zone, where it is 48h
  pub one_bit : MeetsEnd R
      → (get_or (call_by never rec x).rec byte2_at 0 ≡ end_byte2 false) × (R ≡ with_byte2 (end_byte2 (zone (looked_at rec x) (count (looked_at rec x)))) (call_by never rec x))
  one_bit m = go (ends never)
    where
      go : Ends never → (get_or (call_by never rec x).rec byte2_at 0 ≡ end_byte2 false) × (R ≡ with_byte2 (end_byte2 (zone (looked_at rec x) (count (looked_at rec x)))) (call_by never rec x))
      go (not_there k e) = absurd (k m)
      go (there k f c z b n t w q e g) = (
        ap (λ (r : Result). get_or r.rec byte2_at 0) g ∙ left_kept f c z false b n,
        e ∙ left_byte f c z (eom_at_end v) false b n ∙ ap (λ (t : Bool). with_byte2 (end_byte2 t) (Left f c z false b n)) (sym (sees_it k w q))
            ∙ ap (with_byte2 (end_byte2 (zone (looked_at rec x) (count (looked_at rec x))))) (sym g),
      )

  -- ---- "Code 3: count ignored, to end of data, GOOD": no sense is kept, in the zone or not

  to_end_silent : (k : ℤ) → (spacing d to_end k v).tells ≡ none
  unfolding spacing movement space_tells M.to_end_of_data
  to_end_silent k = refl

  pub to_end_good : among (Space ∷ Space16 ∷ []) (operation_of (code_of x.cmd)) ≡ true → space_code_of x.cmd ≡ to_end → first (command_tests rec x) ≡ none
      → (R.answer.status ≡ 0x00) × ((decode_of R.rec).sense ≡ empty_sense)
  unfolding status_of kept_of
  to_end_good h c e = let a = after_act rec x e in (a.0 ∙ ap status_of silent_so, a.1 ∙ ap kept_of silent_so)
    where
      Silent : Operation → Type 0
      Silent k = (act k d x.cmd x.sent v).tells ≡ none

      silent_so : E.tells ≡ none
      silent_so = of_all Silent o (Space ∷ Space16 ∷ []) (unfold act in rw c (to_end_silent (space_count_of x.cmd)), (unfold act in rw c (to_end_silent (space_count16_of x.cmd)), tt)) h
