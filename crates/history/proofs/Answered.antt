-- What is read off a command's answer is what demand 2 defines: its events, the bytes carried, and that GOOD put all.
-- Assumes nothing.
use Prim.Native.Nat.{ℕ, zero, suc, ◌+◌}
use native.Mathlib.Omega.{arith}
use mathlib.Core.Path.{◌≡◌, refl, sym, ap, ◌∙◌}
use mathlib.Core.Bool.{Bool, true, false, cond}
use mathlib.Core.Option.{Option, none, some}
use mathlib.Core.List.{List, [], ◌∷◌}
use borrow.Author.Tests.{eqb-true, ne_eqb}
use lib.Dec.{eqb}
use lib.IntN.{ℤ, sub_ℕ}
use lib.ListN.{length, take, drop}
use lib.Seq.{take_all}
use Rattle.answers.specs.Answers as Answers
use Rattle.objects.specs.Object.{Object, block, data_of, bytes_in}
use Rattle.objects.specs.Room.{room_of, zone_in}
use Rattle.sense.specs.declared.Sense.{Sense}
use Rattle.record.specs.declared.drive.Drive.{Drive}
use Rattle.record.specs.Record.{decode_of, with_sense}
use Rattle.codes.specs.declared.operation.Operation.{Operation}
use Rattle.codes.specs.declared.operation.Operation.TheVariants.{Write, WriteFilemarks}
use Rattle.codes.specs.Codes.{code_of, operation_of}
use Rattle.codes.specs.Fields.{fixed_of, transfer_of}
use Rattle.objects.specs.Transfer.{blocks_of, marks_of, put_from}
use Rattle.commands.specs.Stop.{Stop}
use Rattle.answers.specs.Answers.{first}
use Rattle.commands.specs.Kinds.{erases}
use Rattle.commands.specs.Act as A
use Rattle.commands.specs.Act.{Seen, checked, carrying, at, warned, overflowed, offered, goes_down, wrote, writing, marking, act, events_of}
use Rattle.commands.specs.Step.{acted, status_of}
use Rattle.commands.specs.Call.{lent, Result, seen, command_tests, command_call, applied}
use Rattle.commands.proofs.Classes.{Class, blocks, filemarks, erasing, quiet, classify, no_offers, no_events}
use Rattle.history.specs.History.{is_good, caused}
use Rattle.history.specs.Answered.{bytes_put, Answered}
use Rattle.commands.proofs.Faultless.{back, place_small}
use Rattle.history.proofs.Ended.{Finished, by_number, by_sense, by_act, ended, nothing_caused, fitting_first}
use Rattle.history.proofs.Acted.{none_down, no_marks, acts_caused}

-- ---- the bytes carried

pub puts_bytes : (n : ℕ) (os : List Object) → bytes_put (put_from n os) ≡ bytes_in os
unfolding bytes_put put_from bytes_in
puts_bytes n [] = refl
puts_bytes n (o ∷ os) = ap (λ (k : ℕ). length (data_of o) + k) (puts_bytes (suc n) os)

pub writing_carried : (d : Drive) (cmd sent : List ℕ) (v : Seen) → (writing d cmd sent v).carried ≡ bytes_in (goes_down Write d cmd sent v)
unfolding writing bytes_in
writing_carried d cmd sent v = go (eqb (transfer_of cmd) 0) refl
  where
    go : (t : Bool) → eqb (transfer_of cmd) 0 ≡ t
        → (cond t (A.good d) (carrying (bytes_in (goes_down Write d cmd sent v)) (cond (fixed_of cmd) (wrote d v (transfer_of cmd) (goes_down Write d cmd sent v) (sub_ℕ (transfer_of cmd) (length (goes_down Write d cmd sent v)))) (wrote d v 1 (goes_down Write d cmd sent v) (sub_ℕ (transfer_of cmd) (bytes_in (goes_down Write d cmd sent v))))))).carried
        ≡ bytes_in (goes_down Write d cmd sent v)
    go true e = sym (ap bytes_in (none_down d cmd sent v (eqb-true (transfer_of cmd) 0 e)))
    go false e = refl

act_carried : (o : Operation) (d : Drive) (cmd sent : List ℕ) (v : Seen) → o ≡ Write → (act o d cmd sent v).carried ≡ bytes_put (events_of o d cmd sent v)
unfolding act events_of
act_carried o d cmd sent v q = rw q (writing_carried d cmd sent v ∙ sym (puts_bytes d.position (goes_down Write d cmd sent v)))

-- ---- GOOD

wrote_all : (d : Drive) (v : Seen) (n : ℕ) (os : List Object) (z : ℤ) → (wrote d v n os z).tells ≡ none → length os ≡ n
unfolding wrote
wrote_all d v n os z h = go (eqb (length os) n) refl h
  where
    go : (t : Bool) → eqb (length os) n ≡ t
        → (cond t (cond (zone_in v.size (room_of v.size (d.position + length os) (bytes_in (take d.position v.objects) + bytes_in os))) (checked (at d (d.position + length os)) warned) (A.good (at d (d.position + length os)))) (checked (at d (d.position + length os)) (overflowed z))).tells ≡ none
        → length os ≡ n
    go true q h = eqb-true (length os) n q
    go false q h = absurd (let w : some (overflowed z) ≡ none = h in let y : ◌≡◌ {A = ℕ} 0 1 = cc in omega arith)

down_all : (o : Operation) (d : Drive) (cmd sent : List ℕ) (v : Seen) → length (goes_down o d cmd sent v) ≡ length (offered o d cmd sent) → goes_down o d cmd sent v ≡ offered o d cmd sent
unfolding goes_down
down_all o d cmd sent v h =
    sym (fitting_first v.size d.position (bytes_in (take d.position v.objects)) (offered o d cmd sent))
    ∙ ap (λ (k : ℕ). take k (offered o d cmd sent)) h ∙ take_all (length (offered o d cmd sent)) (offered o d cmd sent) (omega arith)

pub length_blocks : (b n : ℕ) (s : List ℕ) → length (blocks_of b n s) ≡ n
unfolding blocks_of
length_blocks b zero s = refl
length_blocks b (suc n) s = ap suc (length_blocks b n (drop b s))

pub length_marks : (n : ℕ) → length (marks_of n) ≡ n
unfolding marks_of
length_marks zero = refl
length_marks (suc n) = ap suc (length_marks n)

none_offered : (d : Drive) (cmd sent : List ℕ) → transfer_of cmd ≡ 0 → offered Write d cmd sent ≡ []
unfolding offered
none_offered d cmd sent z = rw z (go (fixed_of cmd))
  where
    go : (f : Bool) → cond f (blocks_of d.block_length 0 sent) (cond (eqb 0 0) [] (block (take 0 sent) ∷ [])) ≡ []
    go true = unfold blocks_of in refl
    go false = refl

offered_fixed : (d : Drive) (cmd sent : List ℕ) → fixed_of cmd ≡ true → length (offered Write d cmd sent) ≡ transfer_of cmd
unfolding offered
offered_fixed d cmd sent f = rw f (length_blocks d.block_length (transfer_of cmd) sent)

offered_one : (d : Drive) (cmd sent : List ℕ) → fixed_of cmd ≡ false → eqb (transfer_of cmd) 0 ≡ false → length (offered Write d cmd sent) ≡ 1
unfolding offered
offered_one d cmd sent f z = rw (f, z) refl

written_all : (d : Drive) (cmd sent : List ℕ) (v : Seen) → (writing d cmd sent v).tells ≡ none → goes_down Write d cmd sent v ≡ offered Write d cmd sent
unfolding writing
written_all d cmd sent v h = go (eqb (transfer_of cmd) 0) refl h
  where
    by : (f : Bool) → fixed_of cmd ≡ f → eqb (transfer_of cmd) 0 ≡ false
        → (cond f (wrote d v (transfer_of cmd) (goes_down Write d cmd sent v) (sub_ℕ (transfer_of cmd) (length (goes_down Write d cmd sent v)))) (wrote d v 1 (goes_down Write d cmd sent v) (sub_ℕ (transfer_of cmd) (bytes_in (goes_down Write d cmd sent v))))).tells ≡ none
        → goes_down Write d cmd sent v ≡ offered Write d cmd sent
    by true e z h = down_all Write d cmd sent v (wrote_all d v (transfer_of cmd) (goes_down Write d cmd sent v) _ h ∙ sym (offered_fixed d cmd sent e))
    by false e z h = down_all Write d cmd sent v (wrote_all d v 1 (goes_down Write d cmd sent v) _ h ∙ sym (offered_one d cmd sent e z))

    go : (t : Bool) → eqb (transfer_of cmd) 0 ≡ t
        → (cond t (A.good d) (carrying (bytes_in (goes_down Write d cmd sent v)) (cond (fixed_of cmd) (wrote d v (transfer_of cmd) (goes_down Write d cmd sent v) (sub_ℕ (transfer_of cmd) (length (goes_down Write d cmd sent v)))) (wrote d v 1 (goes_down Write d cmd sent v) (sub_ℕ (transfer_of cmd) (bytes_in (goes_down Write d cmd sent v))))))).tells ≡ none
        → goes_down Write d cmd sent v ≡ offered Write d cmd sent
    go true e h = let z = eqb-true (transfer_of cmd) 0 e in none_down d cmd sent v z ∙ sym (none_offered d cmd sent z)
    go false e h = by (fixed_of cmd) refl e h

marked_all : (d : Drive) (cmd sent : List ℕ) (v : Seen) → (marking d cmd sent v).tells ≡ none → goes_down WriteFilemarks d cmd sent v ≡ offered WriteFilemarks d cmd sent
unfolding marking offered
marked_all d cmd sent v h = go (eqb (transfer_of cmd) 0) refl h
  where
    go : (t : Bool) → eqb (transfer_of cmd) 0 ≡ t
        → (cond t (A.good d) (wrote d v (transfer_of cmd) (goes_down WriteFilemarks d cmd sent v) (sub_ℕ (transfer_of cmd) (length (goes_down WriteFilemarks d cmd sent v))))).tells ≡ none
        → goes_down WriteFilemarks d cmd sent v ≡ marks_of (transfer_of cmd)
    go true e h = let z = eqb-true (transfer_of cmd) 0 e in no_marks d cmd sent v z ∙ unfold marks_of in rw z refl
    go false e h = down_all WriteFilemarks d cmd sent v (wrote_all d v (transfer_of cmd) (goes_down WriteFilemarks d cmd sent v) _ h ∙ sym (length_marks (transfer_of cmd)))

act_all : (o : Operation) (d : Drive) (cmd sent : List ℕ) (v : Seen) → (act o d cmd sent v).tells ≡ none → erases o ≡ false → events_of o d cmd sent v ≡ put_from d.position (offered o d cmd sent)
unfolding act events_of put_from
act_all o d cmd sent v h n = go (classify o) h n
  where
    go : Class o → (act o d cmd sent v).tells ≡ none → erases o ≡ false → events_of o d cmd sent v ≡ put_from d.position (offered o d cmd sent)
    go (blocks e) h n = rw e (ap (put_from d.position) (written_all d cmd sent v (rw e at h)))
    go (filemarks e) h n = rw e (ap (put_from d.position) (marked_all d cmd sent v (rw e at h)))
    go (erasing e) h n = absurd (let x : true ≡ false = rw e at n in let z : ◌≡◌ {A = ℕ} 0 1 = cc in omega arith)
    go (quiet m) h n = rw (no_offers o m d cmd sent) (no_events o m d cmd sent v)

good_none : (t : Option Sense) (n m : ℕ) → is_good (Answers.answered (status_of t) n m) ≡ true → t ≡ none
unfolding status_of
good_none none n m h = refl
good_none (some s) n m h = absurd (let z : ◌≡◌ {A = ℕ} 0 1 = cc in omega arith)

-- ---- every call

some_none : (s : Stop) (t : Option Stop) → t ≡ some s → t ≡ none → ⊥
some_none s t a b = let z : ◌≡◌ {A = ℕ} 0 1 = cc in omega arith

module _ (rec cmd p0 p1 sent received : List ℕ) where
  -- stopped
  when_stopped : (s : Stop) → first (command_tests rec (lent cmd p0 p1 sent received)) ≡ some s → (r : Result) → command_call rec (lent cmd p0 p1 sent received) ≡ r → is_good r.answer ≡ false → r.answer.carried ≡ 0 → (decode_of r.rec).position ≡ (decode_of rec).position
      → Answered rec cmd p0 p1 sent received
  when_stopped s f r e g c p =
      let k : caused rec cmd sent (command_call rec (lent cmd p0 p1 sent received)) ≡ [] = ap (caused rec cmd sent) e ∙ nothing_caused rec cmd sent r g p in
      let b : is_good (command_call rec (lent cmd p0 p1 sent received)).answer ≡ false = ap (λ (x : Result). is_good x.answer) e ∙ g in
      record {
        stopped = λ t h. k;
        acted = λ h. absurd (some_none s _ f h);
        carried = λ h. ap (λ (x : Result). x.answer.carried) e ∙ c ∙ sym (ap bytes_put k ∙ unfold bytes_put in refl);
        all_put = λ h n. absurd (let y : true ≡ false = sym h ∙ b in let z : ◌≡◌ {A = ℕ} 0 1 = cc in omega arith);
      }

  -- acted
  when_acted : (o : Operation) → operation_of (code_of cmd) ≡ o → first (command_tests rec (lent cmd p0 p1 sent received)) ≡ none → (r : Result) → command_call rec (lent cmd p0 p1 sent received) ≡ r
      → r.answer ≡ Answers.answered (status_of (act o (decode_of rec) cmd sent (seen o (decode_of rec) (lent cmd p0 p1 sent received))).tells) (act o (decode_of rec) cmd sent (seen o (decode_of rec) (lent cmd p0 p1 sent received))).carried (act o (decode_of rec) cmd sent (seen o (decode_of rec) (lent cmd p0 p1 sent received))).crossed
      → caused rec cmd sent r ≡ events_of o (decode_of rec) cmd sent (seen o (decode_of rec) (lent cmd p0 p1 sent received)) → Answered rec cmd p0 p1 sent received
  when_acted o eo f r e a k =
      let v : Seen = seen o (decode_of rec) (lent cmd p0 p1 sent received) in
      let x : caused rec cmd sent (command_call rec (lent cmd p0 p1 sent received)) ≡ events_of o (decode_of rec) cmd sent v = ap (caused rec cmd sent) e ∙ k in
      record {
        stopped = λ s h. absurd (some_none s _ h f);
        acted = λ h. rw eo x;
        carried = λ h. ap (λ (y : Result). y.answer.carried) e ∙ ap (λ y. y.carried) a ∙ act_carried o (decode_of rec) cmd sent v (sym eo ∙ h) ∙ sym (ap bytes_put x);
        all_put = λ h n. rw eo (x ∙ act_all o (decode_of rec) cmd sent v (good_none (act o (decode_of rec) cmd sent v).tells (act o (decode_of rec) cmd sent v).carried (act o (decode_of rec) cmd sent v).crossed (ap is_good (sym (ap (λ (y : Result). y.answer) e ∙ a)) ∙ h)) (rw eo at n));
      }

  pub answered : Answered rec cmd p0 p1 sent received
  unfolding applied acted with_sense
  answered = go (ended rec cmd p0 p1 sent received)
    where
      go : Finished rec cmd p0 p1 sent received → Answered rec cmd p0 p1 sent received
      go (by_number n h f e) = when_stopped _ f _ e (rw (ne_eqb n 0 (λ z. omega arith)) refl) refl refl
      go (by_sense s f x b w p l e) = when_stopped s f _ e refl refl (ap (λ (y : Drive). y.position) (back x b (place_small x p0 p1 w.cart) w.small l) ∙ p)
      go (by_act f w q e) = when_acted (operation_of (code_of cmd)) refl f _ e refl (acts_caused rec (lent cmd p0 p1 sent received) w (operation_of (code_of cmd)) q refl)
