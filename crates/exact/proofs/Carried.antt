-- "bytes carried: to the receiving buffer, put by WRITE, or taken by a GOOD MODE SELECT, else 0", of every call; and "Bytes past those carried stay."
-- Assumes nothing.
use Prim.Native.Nat.{ℕ, zero, suc, ◌+◌, ◌*◌, ◌≤◌}
use mathlib.Core.Path.{◌≡◌, refl, sym, ap, ◌∙◌, subst}
use mathlib.Core.Logic.{◌≢◌}
use mathlib.Core.Bool.{Bool, true, false, cond}
use mathlib.Core.Option.{Option, none, some}
use mathlib.Core.List.{List, [], ◌∷◌}
use native.Mathlib.Nat.{zero-mul, suc-mul, add_comm, mul-le-mul_right}
use native.Mathlib.Omega.{arith}
use borrow.Author.Tests.{eqb-true, eq-eqb, ne_eqb}
use lib.Dec.{eqb}
use lib.IntN.{ℤ, sub_ℕ}
use lib.ListN.{length, take, drop, get_elem?, length-append, length-take}
use Rattle.answers.specs.declared.Answer.{Answer}
use Rattle.answers.specs.Answers.{refused, first}
use Rattle.answers.proofs.First.{not_both}
use Rattle.words.specs.Words.{over}
use Rattle.words.proofs.Laws.{over_nil, drop_over, length_over}
use Rattle.objects.specs.Object.{Object, filemark, block, bytes_in}
use Rattle.objects.specs.Room.{room_of, zone_in}
use Rattle.objects.specs.Transfer.{odd_length, Run, halted, whole_before, run_of}
use Rattle.sense.specs.declared.Sense.{Sense}
use Rattle.sense.specs.Sense.{illegal_request, invalid_list_field, unqualified, plainly}
use Rattle.record.specs.declared.drive.Drive.{Drive}
use Rattle.record.specs.Record.{decode_of, encode_of, with_sense, loaded_anew, unloaded}
use Rattle.codes.specs.declared.operation.Operation.{Operation}
use Rattle.codes.specs.declared.operation.Operation.TheVariants.{TestUnitReady, Rewind, RequestSense, ReadBlockLimits, Read, Write, WriteFilemarks, Space, ModeSelect, Erase, ModeSense, LoadUnload, Locate, ReadPosition, Space16, Locate16, NotServed}
use Rattle.codes.specs.Codes.{code_of, operation_of}
use Rattle.codes.specs.Fields.{fixed_of, transfer_of, load_of, allocation_of}
use Rattle.commands.specs.Parameters.{whole_length, list_right, new_length}
use Rattle.commands.specs.Act.{Seen, Deed, good, checked, giving, carrying, at, unattended, with_length, warned, overflowed, read_variable, read_run, reading, reply_of, goes_down, wrote, writing, marking, spacing, locating, selecting, act}
use Rattle.commands.specs.Tests.{bytes_asked, reply_length, needed, tests}
use Rattle.commands.specs.Step.{status_of, acted, check_answer}
use Rattle.commands.specs.Call.{Lent, Result, result_of, seen, looks_at, applied, written, command_tests, command_call}
use Rattle.commands.proofs.Passed.{Passed, passed}
use Rattle.image.proofs.Tests.{both}
use Rattle.commands.proofs.Replies.{reply_length_lem}
use Rattle.history.specs.History.{is_good, caused}
use Rattle.history.proofs.Ended.{Finished, by_number, by_sense, by_act, ended}
use Rattle.history.proofs.Answered.{answered}
use Rattle.commands.specs.Stop.{Stop, refuse}
use Rattle.history.specs.Answered.{bytes_put}
use Rattle.exact.specs.Carried.{gives, data_given, Carried}

-- ---- a run of whole blocks: as many bytes as blocks of the set length

module _ (b : ℕ) where
  pub run_size : (n : ℕ) (xs : List Object) → length (run_of b n xs).bytes ≡ (run_of b n xs).blocks * b
  unfolding run_of
  run_size zero xs = sym (zero-mul b)
  run_size (suc n) [] = sym (zero-mul b)
  run_size (suc n) (filemark ∷ xs) = sym (zero-mul b)
  run_size (suc n) (block bs ∷ xs) = go (eqb (length bs) b) refl (run_size n xs)
    where
      more : (k : ℕ) → b + k * b ≡ suc k * b
      more k = add_comm b (k * b) ∙ sym (suc-mul k b)

      go : (t : Bool) → eqb (length bs) b ≡ t → length (run_of b n xs).bytes ≡ (run_of b n xs).blocks * b → length (elim t as (λ x. Run) [ true ↦ whole_before bs (run_of b n xs) | false ↦ halted 1 odd_length ]).bytes ≡ (elim t as (λ x. Run) [ true ↦ whole_before bs (run_of b n xs) | false ↦ halted 1 odd_length ]).blocks * b
      go true e h = length-append bs (run_of b n xs).bytes ∙ (let q : length bs ≡ b = eqb-true (length bs) b e in rw (q, h) (more (run_of b n xs).blocks))
      go false e h = sym (zero-mul b)

  pub run_most : (n : ℕ) (xs : List Object) → (run_of b n xs).blocks ≤ n
  unfolding run_of
  run_most zero xs = omega arith
  run_most (suc n) [] = omega arith
  run_most (suc n) (filemark ∷ xs) = omega arith
  run_most (suc n) (block bs ∷ xs) = go (eqb (length bs) b) (run_most n xs)
    where
      go : (t : Bool) → (run_of b n xs).blocks ≤ n → (elim t as (λ x. Run) [ true ↦ whole_before bs (run_of b n xs) | false ↦ halted 1 odd_length ]).blocks ≤ suc n
      go true h = omega arith
      go false h = omega arith

  pub run_bytes : (n : ℕ) (xs : List Object) → length (run_of b n xs).bytes ≤ bytes_in xs
  unfolding run_of bytes_in
  run_bytes zero xs = omega arith
  run_bytes (suc n) [] = omega arith
  run_bytes (suc n) (filemark ∷ xs) = omega arith
  run_bytes (suc n) (block bs ∷ xs) = go (eqb (length bs) b) (run_bytes n xs)
    where
      go : (t : Bool) → length (run_of b n xs).bytes ≤ bytes_in xs → length (elim t as (λ x. Run) [ true ↦ whole_before bs (run_of b n xs) | false ↦ halted 1 odd_length ]).bytes ≤ length bs + bytes_in xs
      go true h = omega (arith, length-append bs (run_of b n xs).bytes)
      go false h = omega arith

-- ---- what an act lays over the front of the receiving buffer

-- nothing, and nothing carried; or as many bytes as carried, and no more than it may need
pub record Lays (e : Deed) (most : ℕ) : Type 0 where
  pub counted : length e.received ≡ e.carried
  pub within : e.carried ≤ most

module _ (d : Drive) (cmd sent : List ℕ) (v : Seen) where
  variable_lays : (x : Option Object) → Lays (read_variable d cmd v x) (transfer_of cmd)
  unfolding read_variable
  variable_lays none = record { counted = refl; within = omega arith }
  variable_lays (some filemark) = record { counted = refl; within = omega arith }
  variable_lays (some (block bs)) = record { counted = refl; within = omega (arith, length-take (transfer_of cmd) bs) }

  run_lays : (n : ℕ) (r : Run) (most : ℕ) → length r.bytes ≤ most → Lays (read_run d v n r) most
  run_lays n r most h = record { counted = refl; within = h }

  read_lays : Lays (reading d cmd v) (bytes_asked d cmd)
  unfolding reading bytes_asked
  read_lays = go (eqb (transfer_of cmd) 0) (fixed_of cmd)
    where
      xs : List Object
      xs = drop d.position v.objects

      b : ℕ
      b = d.block_length

      go : (z f : Bool) → Lays (cond z (good d) (cond f (read_run d v (transfer_of cmd) (run_of b (transfer_of cmd) xs)) (read_variable d cmd v (get_elem? v.objects d.position)))) (cond f (transfer_of cmd * b) (transfer_of cmd))
      go true f = record { counted = refl; within = omega arith }
      go false true = run_lays (transfer_of cmd) (run_of b (transfer_of cmd) xs) (transfer_of cmd * b) (rw (run_size b (transfer_of cmd) xs) (mul-le-mul_right b (run_most b (transfer_of cmd) xs)))
      go false false = variable_lays (get_elem? v.objects d.position)

  reply_lays : (o : Operation) (e : Deed) → Lays (giving (reply_of o d cmd v) e) (reply_length o d cmd)
  reply_lays o e = record { counted = refl; within = omega (arith, reply_length_lem o d cmd v) }

  pub act_lays : (o : Operation) → gives o ≡ true → Lays (act o d cmd sent v) (needed o d cmd)
  unfolding act needed
  act_lays RequestSense h = reply_lays RequestSense (good (unattended d))
  act_lays ReadBlockLimits h = reply_lays ReadBlockLimits (good d)
  act_lays Read h = read_lays
  act_lays ModeSense h = reply_lays ModeSense (good d)
  act_lays ReadPosition h = reply_lays ReadPosition (good d)
  act_lays TestUnitReady h = absurd (let z : ◌≡◌ {A = ℕ} 0 1 = cc in omega arith)
  act_lays Rewind h = absurd (let z : ◌≡◌ {A = ℕ} 0 1 = cc in omega arith)
  act_lays Write h = absurd (let z : ◌≡◌ {A = ℕ} 0 1 = cc in omega arith)
  act_lays WriteFilemarks h = absurd (let z : ◌≡◌ {A = ℕ} 0 1 = cc in omega arith)
  act_lays Space h = absurd (let z : ◌≡◌ {A = ℕ} 0 1 = cc in omega arith)
  act_lays ModeSelect h = absurd (let z : ◌≡◌ {A = ℕ} 0 1 = cc in omega arith)
  act_lays Erase h = absurd (let z : ◌≡◌ {A = ℕ} 0 1 = cc in omega arith)
  act_lays LoadUnload h = absurd (let z : ◌≡◌ {A = ℕ} 0 1 = cc in omega arith)
  act_lays Locate h = absurd (let z : ◌≡◌ {A = ℕ} 0 1 = cc in omega arith)
  act_lays Space16 h = absurd (let z : ◌≡◌ {A = ℕ} 0 1 = cc in omega arith)
  act_lays Locate16 h = absurd (let z : ◌≡◌ {A = ℕ} 0 1 = cc in omega arith)
  act_lays NotServed h = absurd (let z : ◌≡◌ {A = ℕ} 0 1 = cc in omega arith)

  -- a command of another kind lays nothing
  wrote_lays : (n : ℕ) (os : List Object) (z : ℤ) → ((wrote d v n os z).received ≡ []) × ((wrote d v n os z).carried ≡ 0)
  unfolding wrote
  wrote_lays n os z = go (eqb (length os) n) (zone_in v.size (room_of v.size (d.position + length os) (bytes_in (take d.position v.objects) + bytes_in os)))
    where
      there : Drive
      there = at d (d.position + length os)

      go : (t w : Bool) → ((cond t (cond w (checked there warned) (good there)) (checked there (overflowed z))).received ≡ []) × ((cond t (cond w (checked there warned) (good there)) (checked there (overflowed z))).carried ≡ 0)
      go true true = (refl, refl)
      go true false = (refl, refl)
      go false w = (refl, refl)

  write_lays : (writing d cmd sent v).received ≡ []
  unfolding writing
  write_lays = go (eqb (transfer_of cmd) 0) (fixed_of cmd)
    where
      os : List Object
      os = goes_down Write d cmd sent v

      go : (z f : Bool) → (cond z (good d) (carrying (bytes_in os) (cond f (wrote d v (transfer_of cmd) os (sub_ℕ (transfer_of cmd) (length os))) (wrote d v 1 os (sub_ℕ (transfer_of cmd) (bytes_in os)))))).received ≡ []
      go true f = refl
      go false true = (wrote_lays _ _ _).0
      go false false = (wrote_lays _ _ _).0

  pub marks_lay : ((marking d cmd sent v).received ≡ []) × ((marking d cmd sent v).carried ≡ 0)
  unfolding marking
  marks_lay = go (eqb (transfer_of cmd) 0)
    where
      os : List Object
      os = goes_down WriteFilemarks d cmd sent v

      go : (z : Bool) → ((cond z (good d) (wrote d v (transfer_of cmd) os (sub_ℕ (transfer_of cmd) (length os)))).received ≡ []) × ((cond z (good d) (wrote d v (transfer_of cmd) os (sub_ℕ (transfer_of cmd) (length os)))).carried ≡ 0)
      go true = (refl, refl)
      go false = wrote_lays _ _ _

  -- MODE SELECT: GOOD takes its list, else nothing is carried
  pub record Selects (e : Deed) : Type 0 where
    pub lays : e.received ≡ []
    pub takes : e.tells ≡ none → e.carried ≡ allocation_of cmd
    pub refuses : status_of e.tells ≢ 0 → e.carried ≡ 0

  pub selects : Selects (selecting d cmd sent)
  unfolding selecting status_of
  selects = go (eqb (allocation_of cmd) 0) (list_right (allocation_of cmd) sent) refl (cond (eqb (allocation_of cmd) whole_length) (with_length d (new_length sent)) d)
    where
      go : (z r : Bool) → eqb (allocation_of cmd) 0 ≡ z → (e : Drive) → Selects (cond z (good d) (cond r (carrying (allocation_of cmd) (good e)) (checked d (plainly illegal_request invalid_list_field unqualified))))
      go true r q e = record { lays = refl; takes = λ _. sym (eqb-true (allocation_of cmd) 0 q); refuses = λ _. refl }
      go false true q e = record { lays = refl; takes = λ _. refl; refuses = λ n. absurd (n refl) }
      go false false q e = record { lays = refl; takes = λ h. absurd (let z : ◌≡◌ {A = ℕ} 0 1 = cc in omega arith); refuses = λ _. refl }

  pub act_lays_none : (o : Operation) → gives o ≡ false → (act o d cmd sent v).received ≡ []
  unfolding act spacing locating
  act_lays_none TestUnitReady h = refl
  act_lays_none Rewind h = refl
  act_lays_none Write h = write_lays
  act_lays_none WriteFilemarks h = marks_lay.0
  act_lays_none Space h = refl
  act_lays_none ModeSelect h = selects.lays
  act_lays_none Erase h = refl
  act_lays_none LoadUnload h = go (load_of cmd)
    where
      go : (t : Bool) → (good (cond t (loaded_anew d) (unloaded d))).received ≡ []
      go t = refl
  act_lays_none Locate h = refl
  act_lays_none Space16 h = refl
  act_lays_none Locate16 h = refl
  act_lays_none NotServed h = refl
  act_lays_none RequestSense h = absurd (let z : ◌≡◌ {A = ℕ} 0 1 = cc in omega arith)
  act_lays_none ReadBlockLimits h = absurd (let z : ◌≡◌ {A = ℕ} 0 1 = cc in omega arith)
  act_lays_none Read h = absurd (let z : ◌≡◌ {A = ℕ} 0 1 = cc in omega arith)
  act_lays_none ModeSense h = absurd (let z : ◌≡◌ {A = ℕ} 0 1 = cc in omega arith)
  act_lays_none ReadPosition h = absurd (let z : ◌≡◌ {A = ℕ} 0 1 = cc in omega arith)

  pub act_carries_none : (o : Operation) → gives o ≡ false → o ≢ Write → o ≢ ModeSelect → (act o d cmd sent v).carried ≡ 0
  unfolding act spacing locating
  act_carries_none TestUnitReady h n m = refl
  act_carries_none Rewind h n m = refl
  act_carries_none Write h n m = absurd (n refl)
  act_carries_none WriteFilemarks h n m = marks_lay.1
  act_carries_none Space h n m = refl
  act_carries_none ModeSelect h n m = absurd (m refl)
  act_carries_none Erase h n m = refl
  act_carries_none LoadUnload h n m = refl
  act_carries_none Locate h n m = refl
  act_carries_none Space16 h n m = refl
  act_carries_none Locate16 h n m = refl
  act_carries_none NotServed h n m = refl
  act_carries_none RequestSense h n m = absurd (let z : ◌≡◌ {A = ℕ} 0 1 = cc in omega arith)
  act_carries_none ReadBlockLimits h n m = absurd (let z : ◌≡◌ {A = ℕ} 0 1 = cc in omega arith)
  act_carries_none Read h n m = absurd (let z : ◌≡◌ {A = ℕ} 0 1 = cc in omega arith)
  act_carries_none ModeSense h n m = absurd (let z : ◌≡◌ {A = ℕ} 0 1 = cc in omega arith)
  act_carries_none ReadPosition h n m = absurd (let z : ◌≡◌ {A = ℕ} 0 1 = cc in omega arith)

-- ---- of every call

module _ (rec : List ℕ) (x : Lent) where
  abbrev d : Drive
  d = decode_of rec

  abbrev o : Operation
  o = operation_of (code_of x.cmd)

  abbrev R : Result
  R = command_call rec x

  -- a call that a test stops gives nothing
  stopped_gives : (p : Stop) → first (command_tests rec x) ≡ some p → data_given rec x ≡ []
  unfolding data_given
  stopped_gives p f = rw f refl

  put_so : o ≡ Write → R.answer.carried ≡ bytes_put (caused rec x.cmd x.sent R)
  put_so = (answered rec x.cmd x.part0 x.part1 x.sent x.received).carried

  still : (p : Stop) → first (command_tests rec x) ≡ some p → (a : Answer) (s : List ℕ) → R ≡ result_of a s x → a.carried ≡ 0 → is_good a ≡ false → Carried rec x R
  still p f a s e c g =
      let carried_is : R.answer.carried ≡ 0 = ap (λ (r : Result). r.answer.carried) e ∙ c in
      let nothing : data_given rec x ≡ [] = stopped_gives p f in
      record {
        given = λ _. carried_is ∙ sym (ap length nothing);
        laid = ap (λ (r : Result). r.lent.received) e ∙ sym (ap (over x.received 0) nothing ∙ over_nil x.received 0);
        room = rw nothing (omega arith);
        not_given = λ _. nothing;
        put = put_so;
        taken = λ _ h. absurd (not_both (sym h ∙ ap (λ (r : Result). is_good r.answer) e ∙ g));
        not_taken = λ _ _. carried_is;
        none = λ _ _ _. carried_is;
      }

  abbrev Acted : Result
  Acted = written rec (applied (acted o d x.cmd x.sent (seen o d x)) (looks_at o d x.cmd) x)

  abbrev Act : Deed
  Act = act o d x.cmd x.sent (seen o d x)

  status_is : R ≡ Acted → R.answer.status ≡ status_of Act.tells
  unfolding applied acted
  status_is e = ap (λ (r : Result). r.answer.status) e

  refusal_is : R ≡ Acted → R.answer.refusal ≡ 0
  unfolding applied acted
  refusal_is e = ap (λ (r : Result). r.answer.refusal) e

  good_none : (t : Option Sense) → status_of t ≡ 0 → t ≡ none
  unfolding status_of
  good_none none h = refl
  good_none (some s) h = absurd (omega arith)

  good_so : R.answer.refusal ≡ 0 → R.answer.status ≡ 0x00 → is_good R.answer ≡ true
  good_so a b = rw (eq-eqb R.answer.refusal 0 a, eq-eqb R.answer.status 0x00 b) refl

  never : is_good R.answer ≡ false → is_good R.answer ≡ true → ⊥
  never a b = not_both (sym b ∙ a)

  act_selects : o ≡ ModeSelect → Selects d x.cmd x.sent (seen o d x) Act
  unfolding act
  act_selects m = subst (λ (k : Operation). Selects d x.cmd x.sent (seen o d x) (act k d x.cmd x.sent (seen o d x))) (sym m) (selects d x.cmd x.sent (seen o d x))

  acted_gives : first (command_tests rec x) ≡ none → data_given rec x ≡ Act.received
  unfolding data_given
  acted_gives f = rw f refl

  moved : first (command_tests rec x) ≡ none → first (tests o d x.cmd (seen o d x) x.sent (length x.received)) ≡ none → R ≡ Acted → Carried rec x R
  unfolding applied acted
  moved f q e =
      let v = seen o d x in
      let carried_is : R.answer.carried ≡ Act.carried = ap (λ (r : Result). r.answer.carried) e in
      let data_is : data_given rec x ≡ Act.received = acted_gives f in
      record {
        given = λ h. carried_is ∙ sym (act_lays d x.cmd x.sent v o h).counted ∙ sym (ap length data_is);
        laid = ap (λ (r : Result). r.lent.received) e ∙ ap (over x.received 0) (sym data_is);
        room = rw data_is (fits_so (gives o) refl);
        not_given = λ h. data_is ∙ act_lays_none d x.cmd x.sent v o h;
        put = put_so;
        taken = λ m g. carried_is ∙ (act_selects m).takes (good_none Act.tells (sym (status_is e) ∙ eqb-true R.answer.status 0x00 (both (eqb R.answer.refusal 0) (eqb R.answer.status 0x00) g).1));
        not_taken = λ m g. carried_is ∙ (act_selects m).refuses (λ z. never g (good_so (refusal_is e) (status_is e ∙ z)));
        none = λ h n m. carried_is ∙ act_carries_none d x.cmd x.sent v o h n m;
      }
    where
      k : Passed o d x.cmd (seen o d x) x.sent (length x.received)
      k = passed o d x.cmd (seen o d x) x.sent (length x.received) q

      fits_so : (t : Bool) → gives o ≡ t → length Act.received ≤ length x.received
      fits_so true h = let l = act_lays d x.cmd x.sent (seen o d x) o h in omega (arith, l.counted, l.within, k.receives)
      fits_so false h = rw (act_lays_none d x.cmd x.sent (seen o d x) o h) (omega arith)

  -- "bytes carried: to the receiving buffer, put by WRITE, or taken by a GOOD MODE SELECT, else 0"
  pub carried_bytes : Carried rec x (command_call rec x)
  carried_bytes = go (ended rec x.cmd x.part0 x.part1 x.sent x.received)
    where
      go : Finished rec x.cmd x.part0 x.part1 x.sent x.received → Carried rec x R
      go (by_number n h f e) = still (refuse n) f (refused n) rec e refl (rw (ne_eqb n 0 (λ z. omega arith)) refl)
      go (by_sense s f e b w p l q) = still s f check_answer (encode_of (with_sense e b)) q refl refl
      go (by_act f w q e) = moved f q e

  -- "Bytes past those carried stay."
  abbrev carried_there : ℕ
  carried_there = cond (gives o) R.answer.carried 0

  pub past_carried : (drop carried_there R.lent.received ≡ drop carried_there x.received) × (length R.lent.received ≡ length x.received)
  past_carried = (go (gives o) refl, ap length c.laid ∙ length_over x.received 0 (data_given rec x) (omega (arith, c.room)))
    where
      c : Carried rec x R
      c = carried_bytes

      go : (t : Bool) → gives o ≡ t → drop (cond t R.answer.carried 0) R.lent.received ≡ drop (cond t R.answer.carried 0) x.received
      go true h = ap (drop R.answer.carried) c.laid ∙ drop_over x.received 0 (data_given rec x) R.answer.carried (omega (arith, c.given h)) (omega (arith, c.room))
      go false h = c.laid ∙ ap (over x.received 0) (c.not_given h) ∙ over_nil x.received 0
