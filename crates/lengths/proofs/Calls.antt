-- A call under two records that differ in the block length alone: the same, but for that, where the command does not heed it.
-- Assumes nothing.
use Prim.Native.Nat.{ℕ, suc, ◌+◌}
use mathlib.Core.Path.{◌≡◌, refl, sym, ap, ap₂, ◌∙◌}
use mathlib.Core.Bool.{Bool, true, false, cond, ◌&&◌, ◌||◌}
use mathlib.Core.Option.{Option, none, some}
use mathlib.Core.List.{List, [], ◌∷◌}
use borrow.Author.Tests.{not-false}
use lib.Dec.{eqb}
use lib.IntN.{ℤ, sub_ℕ}
use lib.ListN.{length, take, get_elem?}
use Rattle.words.specs.Words.{be, bytes}
use Rattle.objects.specs.Object.{Object, filemark, block, bytes_in}
use Rattle.objects.specs.Events.{Event}
use Rattle.objects.specs.Room.{room_of, zone_in}
use Rattle.objects.specs.Transfer.{marks_of, fitting}
use Rattle.answers.specs.Answers.{command_short, record_fault, refused, answered, first}
use Rattle.answers.proofs.First.{not_both}
use Rattle.sense.specs.Sense.{illegal_request, invalid_list_field, unqualified, plainly}
use Rattle.record.specs.declared.drive.Drive.{Drive}
use Rattle.record.specs.Record.{decode_of, encode_of, well_record, with_sense, loaded_anew, unloaded}
use Rattle.codes.specs.declared.operation.Operation.{Operation}
use Rattle.codes.specs.declared.operation.Operation.TheVariants.{TestUnitReady, Rewind, RequestSense, ReadBlockLimits, Read, Write, WriteFilemarks, Space, ModeSelect, Erase, ModeSense, LoadUnload, Locate, ReadPosition, Space16, Locate16, NotServed}
use Rattle.codes.specs.Codes.{code_of, too_short, operation_of}
use Rattle.codes.specs.Fields.{fixed_of, sili_of, transfer_of, long_of, load_of, dbd_of, allocation_of}
use Rattle.commands.specs.Kinds.{erases}
use Rattle.commands.specs.Stop.{Stop, refuse, attend, fault}
use Rattle.commands.specs.Parameters.{whole_length, list_right, new_length, mode_data}
use Rattle.commands.specs.Act.{Seen, Deed, good, checked, giving, carrying, at, odd_met, warned, overflowed, with_length, hidden, read_variable, reading, offered, goes_down, wrote, writing, marking, spacing, target_of, locating, selecting, reply_of, act, events_of}
use Rattle.commands.specs.Tests.{bytes_asked, field_error, taken, reply_length, needed, tests}
use Rattle.commands.specs.Step.{Stepped, status_of, kept_of, stopped, acted, unless, step}
use Rattle.commands.specs.Call.{Lent, Outcome, outcome, looks_at, seen, inserted, faulty, laid_out, applied, step_of, called, written, command_call}
use Rattle.lengths.specs.Lengths.{length_in, heeded_by, heeds, but_length, besides, Twins}

-- ---- a deed, a step and an outcome but for the block length

abbrev pub bare_deed : Deed → Deed
bare_deed e = record { drive = but_length e.drive; tells = e.tells; received = e.received; carried = e.carried; crossed = e.crossed }

abbrev bare_step : Stepped → Stepped
bare_step t = record { answer = t.answer; drive = but_length t.drive; laid = t.laid; events = t.events; clears = t.clears }

abbrev bare_outcome : Outcome → Outcome
bare_outcome o = outcome o.answer (but_length o.drive) o.lent

-- neither of two bits is set
pub unset : (a b : Bool) → a || b ≡ false → (a ≡ false) × (b ≡ false)
unset false b h = (refl, h)
unset true b h = absurd (not_both h)

-- ---- the tests, and the act, of a command that does not heed it

module _ (d : Drive) (n : ℕ) (cmd : List ℕ) (v : Seen) (sent : List ℕ) where
  pub fixed_tests : (o : Operation) (room : ℕ) → fixed_of cmd ≡ false → tests o (with_length d n) cmd v sent room ≡ tests o d cmd v sent room
  unfolding tests field_error taken needed bytes_asked reply_length
  fixed_tests o room h = rw h refl

  same_tests : (o : Operation) (room : ℕ) → heeded_by o cmd ≡ false → tests o (with_length d n) cmd v sent room ≡ tests o d cmd v sent room
  unfolding tests field_error taken needed bytes_asked reply_length
  same_tests TestUnitReady room h = refl
  same_tests Rewind room h = refl
  same_tests RequestSense room h = refl
  same_tests ReadBlockLimits room h = refl
  same_tests Read room h = fixed_tests Read room (unset (fixed_of cmd) (sili_of cmd) h).0
  same_tests Write room h = fixed_tests Write room h
  same_tests WriteFilemarks room h = refl
  same_tests Space room h = refl
  same_tests ModeSelect room h = refl
  same_tests Erase room h = refl
  same_tests ModeSense room h = refl
  same_tests LoadUnload room h = refl
  same_tests Locate room h = refl
  same_tests ReadPosition room h = refl
  same_tests Space16 room h = refl
  same_tests Locate16 room h = refl
  same_tests NotServed room h = refl

  -- a variable READ, of a block of whose length both hide the same
  pub same_read : fixed_of cmd ≡ false → ((bs : List ℕ) → get_elem? v.objects d.position ≡ some (block bs) → hidden (with_length d n) cmd (length bs) ≡ hidden d cmd (length bs))
      → bare_deed (reading (with_length d n) cmd v) ≡ bare_deed (reading d cmd v)
  unfolding reading read_variable
  same_read f h = rw f (go (eqb (transfer_of cmd) 0) (get_elem? v.objects d.position) h)
    where
      -- the block is carried, and told or not
      met : Drive → List ℕ → Bool → Deed
      met e bs t = giving (take (transfer_of cmd) bs) (cond t (good (at e (suc d.position))) (checked (at e (suc d.position)) (odd_met (sub_ℕ (transfer_of cmd) (length bs)))))

      same_met : (bs : List ℕ) (t : Bool) → bare_deed (met (with_length d n) bs t) ≡ bare_deed (met d bs t)
      same_met bs true = refl
      same_met bs false = refl

      go : (z : Bool) (x : Option Object) → ((bs : List ℕ) → x ≡ some (block bs) → hidden (with_length d n) cmd (length bs) ≡ hidden d cmd (length bs))
          → bare_deed (cond z (good (with_length d n)) (read_variable (with_length d n) cmd v x)) ≡ bare_deed (cond z (good d) (read_variable d cmd v x))
      go true x h = refl
      go false none h = refl
      go false (some filemark) h = refl
      go false (some (block bs)) h = ap (λ (t : Bool). bare_deed (met (with_length d n) bs (eqb (length bs) (transfer_of cmd) || t))) (h bs refl) ∙ same_met bs (eqb (length bs) (transfer_of cmd) || hidden d cmd (length bs))

  -- what went down, by WRITE and WRITE FILEMARKS
  same_wrote : (k : ℕ) (os : List Object) (z : ℤ) → bare_deed (wrote (with_length d n) v k os z) ≡ bare_deed (wrote d v k os z)
  unfolding wrote
  same_wrote k os z = go (eqb (length os) k) (zone_in v.size (room_of v.size (d.position + length os) (bytes_in (take d.position v.objects) + bytes_in os)))
    where
      by : Drive → Bool → Bool → Deed
      by e a b = cond a (cond b (checked (at e (d.position + length os)) warned) (good (at e (d.position + length os)))) (checked (at e (d.position + length os)) (overflowed z))

      go : (a b : Bool) → bare_deed (by (with_length d n) a b) ≡ bare_deed (by d a b)
      go true true = refl
      go true false = refl
      go false b = refl

  same_write : fixed_of cmd ≡ false → bare_deed (writing (with_length d n) cmd sent v) ≡ bare_deed (writing d cmd sent v)
  unfolding writing goes_down offered
  same_write f = rw f (go (eqb (transfer_of cmd) 0) (fitting v.size d.position (bytes_in (take d.position v.objects)) (cond (eqb (transfer_of cmd) 0) [] (block (take (transfer_of cmd) sent) ∷ []))))
    where
      go : (a : Bool) (os : List Object)
          → bare_deed (cond a (good (with_length d n)) (carrying (bytes_in os) (wrote (with_length d n) v 1 os (sub_ℕ (transfer_of cmd) (bytes_in os)))))
          ≡ bare_deed (cond a (good d) (carrying (bytes_in os) (wrote d v 1 os (sub_ℕ (transfer_of cmd) (bytes_in os)))))
      go true os = refl
      go false os = ap (λ (e : Deed). carrying (bytes_in os) e) (same_wrote 1 os (sub_ℕ (transfer_of cmd) (bytes_in os)))

  same_marks : bare_deed (marking (with_length d n) cmd sent v) ≡ bare_deed (marking d cmd sent v)
  unfolding marking goes_down offered
  same_marks = go (eqb (transfer_of cmd) 0) (fitting v.size d.position (bytes_in (take d.position v.objects)) (marks_of (transfer_of cmd)))
    where
      go : (a : Bool) (os : List Object)
          → bare_deed (cond a (good (with_length d n)) (wrote (with_length d n) v (transfer_of cmd) os (sub_ℕ (transfer_of cmd) (length os))))
          ≡ bare_deed (cond a (good d) (wrote d v (transfer_of cmd) os (sub_ℕ (transfer_of cmd) (length os))))
      go true os = refl
      go false os = same_wrote (transfer_of cmd) os (sub_ℕ (transfer_of cmd) (length os))

  -- MODE SELECT sets the same, or both keep theirs
  same_select : bare_deed (selecting (with_length d n) cmd sent) ≡ bare_deed (selecting d cmd sent)
  unfolding selecting
  same_select = go (eqb (allocation_of cmd) 0) (list_right (allocation_of cmd) sent) (eqb (allocation_of cmd) whole_length)
    where
      by : Drive → Bool → Bool → Bool → Deed
      by e a b c = cond a (good e) (cond b (carrying (allocation_of cmd) (good (cond c (with_length e (new_length sent)) e))) (checked e (plainly illegal_request invalid_list_field unqualified)))

      go : (a b c : Bool) → bare_deed (by (with_length d n) a b c) ≡ bare_deed (by d a b c)
      go true b c = refl
      go false true true = refl
      go false true false = refl
      go false false c = refl

  same_load : (t : Bool) → bare_deed (good (cond t (loaded_anew (with_length d n)) (unloaded (with_length d n)))) ≡ bare_deed (good (cond t (loaded_anew d) (unloaded d)))
  unfolding loaded_anew unloaded
  same_load true = refl
  same_load false = refl

  same_deed : (o : Operation) → heeded_by o cmd ≡ false → bare_deed (act o (with_length d n) cmd sent v) ≡ bare_deed (act o d cmd sent v)
  unfolding act spacing target_of locating reply_of mode_data
  same_deed TestUnitReady h = refl
  same_deed Rewind h = refl
  same_deed RequestSense h = refl
  same_deed ReadBlockLimits h = refl
  same_deed Read h = let f = unset (fixed_of cmd) (sili_of cmd) h in same_read f.0 (λ bs e. unfold hidden in rw f.1 refl)
  same_deed Write h = same_write h
  same_deed WriteFilemarks h = same_marks
  same_deed Space h = refl
  same_deed ModeSelect h = same_select
  same_deed Erase h = refl
  same_deed ModeSense h = rw (not-false (dbd_of cmd) h) refl
  same_deed LoadUnload h = same_load (load_of cmd)
  same_deed Locate h = refl
  same_deed ReadPosition h = refl
  same_deed Space16 h = refl
  same_deed Locate16 h = refl
  same_deed NotServed h = refl

  same_events : (o : Operation) → heeded_by o cmd ≡ false → events_of o (with_length d n) cmd sent v ≡ events_of o d cmd sent v
  unfolding events_of goes_down offered
  same_events TestUnitReady h = refl
  same_events Rewind h = refl
  same_events RequestSense h = refl
  same_events ReadBlockLimits h = refl
  same_events Read h = refl
  same_events Write h = rw h refl
  same_events WriteFilemarks h = refl
  same_events Space h = refl
  same_events ModeSelect h = refl
  same_events Erase h = refl
  same_events ModeSense h = refl
  same_events LoadUnload h = refl
  same_events Locate h = refl
  same_events ReadPosition h = refl
  same_events Space16 h = refl
  same_events Locate16 h = refl
  same_events NotServed h = refl

-- ---- the call, where tests, deed and events are the same

module _ (d : Drive) (n : ℕ) (x : Lent) where
  abbrev o : Operation
  o = operation_of (code_of x.cmd)

  abbrev e : Drive
  e = with_length d n

  pub record Same : Type 0 where
    pub by_tests : tests (operation_of (code_of x.cmd)) (with_length d n) x.cmd (seen (operation_of (code_of x.cmd)) d x) x.sent (length x.received)
        ≡ tests (operation_of (code_of x.cmd)) d x.cmd (seen (operation_of (code_of x.cmd)) d x) x.sent (length x.received)
    pub by_deed : bare_deed (act (operation_of (code_of x.cmd)) (with_length d n) x.cmd x.sent (seen (operation_of (code_of x.cmd)) d x))
        ≡ bare_deed (act (operation_of (code_of x.cmd)) d x.cmd x.sent (seen (operation_of (code_of x.cmd)) d x))
    pub by_events : events_of (operation_of (code_of x.cmd)) (with_length d n) x.cmd x.sent (seen (operation_of (code_of x.cmd)) d x)
        ≡ events_of (operation_of (code_of x.cmd)) d x.cmd x.sent (seen (operation_of (code_of x.cmd)) d x)

  -- what a deed and events make of a step
  abbrev made : Deed → List Event → Stepped
  made y es = record { answer = answered (status_of y.tells) y.carried y.crossed; drive = but_length (with_sense y.drive (kept_of y.tells)); laid = y.received; events = es; clears = erases o && long_of x.cmd }

  same_stop : (s : Stop) → bare_step (stopped s e) ≡ bare_step (stopped s d)
  unfolding stopped with_sense
  same_stop (refuse k) = refl
  same_stop attend = refl
  same_stop (fault k a q) = refl

  same_step : Same → bare_step (step e x.cmd x.sent (length x.received) (seen o d x)) ≡ bare_step (step d x.cmd x.sent (length x.received) (seen o d x))
  unfolding step acted unless with_sense
  same_step s = rw s.by_tests (go (first (tests o d x.cmd (seen o d x) x.sent (length x.received))))
    where
      go : (t : Option Stop) → bare_step (unless t e (acted o e x.cmd x.sent (seen o d x))) ≡ bare_step (unless t d (acted o d x.cmd x.sent (seen o d x)))
      go none = ap₂ made s.by_deed s.by_events
      go (some k) = same_stop k

  pub same_called : (well : Bool) → Same → bare_outcome (called well (with_length d n) x) ≡ bare_outcome (called well d x)
  unfolding called inserted step_of applied laid_out seen looks_at target_of
  same_called well s = go (too_short x.cmd) (faulty well d x)
    where
      by : Stepped → Outcome
      by t = bare_outcome (applied t (looks_at o d x.cmd) x)

      go : (a b : Bool) → bare_outcome (cond a (outcome (refused command_short) e x) (cond b (outcome (refused record_fault) e x) (step_of e x)))
          ≡ bare_outcome (cond a (outcome (refused command_short) d x) (cond b (outcome (refused record_fault) d x) (step_of d x)))
      go true b = refl
      go false true = refl
      go false false = ap by (same_step s)

-- ---- on bytes

-- what a record says besides does not depend on the block length that was written into it
pub encoded_but : (d : Drive) → but_length (decode_of (encode_of d)) ≡ but_length (decode_of (encode_of (but_length d)))
unfolding decode_of encode_of be bytes
encoded_but d = refl

written_but : (rec : List ℕ) (o : Outcome)
    → besides (written rec o) ≡ outcome o.answer (cond (eqb o.answer.refusal 0) (but_length (decode_of (encode_of (but_length o.drive)))) (but_length (decode_of rec))) o.lent
written_but rec o = go (eqb o.answer.refusal 0)
  where
    go : (t : Bool) → outcome o.answer (but_length (decode_of (cond t (encode_of o.drive) rec))) o.lent
        ≡ outcome o.answer (cond t (but_length (decode_of (encode_of (but_length o.drive)))) (but_length (decode_of rec))) o.lent
    go true = ap (λ (y : Drive). outcome o.answer y o.lent) (encoded_but o.drive)
    go false = refl

module _ (rec rec' : List ℕ) (w : Twins rec rec') where
  pub twin : decode_of rec' ≡ with_length (decode_of rec) (length_in rec')
  twin = ap (λ (y : Drive). with_length y (length_in rec')) (sym w.same)

  pub same_call : (x : Lent) → Same (decode_of rec) (length_in rec') x → besides (command_call rec x) ≡ besides (command_call rec' x)
  unfolding command_call
  same_call x s =
      written_but rec (called (well_record rec) (decode_of rec) x)
      ∙ ap₂ left (sym (same_called (decode_of rec) (length_in rec') x (well_record rec) s)) w.same
      ∙ ap₂ (λ (well : Bool) (y : Drive). left (bare_outcome (called well y x)) (but_length (decode_of rec'))) (w.well ∙ sym w.well') (sym twin)
      ∙ sym (written_but rec' (called (well_record rec') (decode_of rec') x))
    where
      left : Outcome → Drive → Outcome
      left o y = outcome o.answer (cond (eqb o.answer.refusal 0) (but_length (decode_of (encode_of o.drive))) y) o.lent

  pub unheeded : (x : Lent) → heeds x.cmd ≡ false → besides (command_call rec x) ≡ besides (command_call rec' x)
  unheeded x h =
      let d = decode_of rec in
      let o = operation_of (code_of x.cmd) in
      same_call x (record {
        by_tests = same_tests d (length_in rec') x.cmd (seen o d x) x.sent o (length x.received) h;
        by_deed = same_deed d (length_in rec') x.cmd (seen o d x) x.sent o h;
        by_events = same_events d (length_in rec') x.cmd (seen o d x) x.sent o h;
      })
