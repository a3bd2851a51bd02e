-- How far a call went (Q-10): what it answers as crossed is the distance of SPACE's movement where it acts, and 0 of all else. So it is never above N
-- of the current partition, and fits its bits in the number that C gets.
-- Assumes nothing.
use Prim.Native.Nat.{ℕ, ◌+◌, ◌^◌, ◌≤◌, ◌<◌}
use native.Mathlib.Omega.{arith}
use mathlib.Core.Path.{◌≡◌, refl, ap, ◌∙◌}
use mathlib.Core.Logic.{◌⊎◌, inl, inr}
use mathlib.Core.Bool.{Bool, true, false, cond, ◌&&◌, ◌||◌}
use mathlib.Core.Option.{Option, none, some}
use mathlib.Core.List.{List}
use borrow.Author.Tests.{eqb-false, not-false}
use lib.Dec.{eqb}
use lib.IntN.{ℤ}
use lib.ListN.{length, take, get_elem?}
use Rattle.answers.specs.Answers.{command_short, sent_short, received_short, record_fault, first, InFields}
use Rattle.objects.specs.Object.{Object, filemark, block, bytes_in}
use Rattle.objects.specs.Room.{room_of, zone_in}
use Rattle.objects.specs.Movement.{blocks, filemarks, Move, space, to_end_of_data}
use Rattle.objects.proofs.Walk.{Went, went, went_end}
use Rattle.image.specs.Image.{count, objects}
use Rattle.image.proofs.Objects.{length_objects}
use Rattle.record.specs.declared.drive.Drive.{Drive}
use Rattle.record.specs.Record.{decode_of}
use Rattle.codes.specs.declared.operation.Operation.{Operation}
use Rattle.codes.specs.declared.operation.Operation.TheVariants.{TestUnitReady, Rewind, RequestSense, ReadBlockLimits, Read, Write, WriteFilemarks, Space, ModeSelect, Erase, ModeSense, LoadUnload, Locate, ReadPosition, Space16, Locate16, NotServed}
use Rattle.codes.specs.Codes.{code_of, operation_of}
use Rattle.codes.specs.Fields.{fixed_of, transfer_of, space_code_of, space_count_of, space_count16_of, allocation_of}
use Rattle.commands.specs.Parameters.{list_right}
use Rattle.commands.specs.Stop.{Stop, refuse, attend, fault}
use Rattle.commands.specs.Kinds.{needs_cartridge}
use Rattle.commands.specs.Act.{Seen, Deed, hidden, to_end, over_blocks, read_variable, reading, wrote, writing, marking, movement, spacing, locating, selecting, act}
use Rattle.commands.specs.Step.{stopped, acted}
use Rattle.commands.specs.Tests.{tests}
use Rattle.commands.specs.Call.{Lent, Result, partition, looks_at, seen_of, seen, applied, command_call, command_tests}
use Rattle.commands.proofs.Passed.{all_false}
use Rattle.commands.proofs.Faultless.{Inside, inside, fault_free, seen_there}
use Rattle.commands.proofs.Ends.{call_stops, call_acts}
use Rattle.commands.proofs.Exact.{refusals}

-- ---- of an act

either : (t : Bool) (x y : Deed) → x.crossed ≡ 0 → y.crossed ≡ 0 → (cond t x y).crossed ≡ 0
either true x y h k = h
either false x y h k = k

reading_crosses : (d : Drive) (cmd : List ℕ) (v : Seen) → (reading d cmd v).crossed ≡ 0
unfolding reading read_variable
reading_crosses d cmd v = either (eqb (transfer_of cmd) 0) _ _ refl (either (fixed_of cmd) _ _ refl (meets (get_elem? v.objects d.position)))
  where
    meets : (y : Option Object) → (read_variable d cmd v y).crossed ≡ 0
    meets (some (block bs)) = either (eqb (length bs) (transfer_of cmd) || hidden d cmd (length bs)) _ _ refl refl
    meets (some filemark) = refl
    meets none = refl

wrote_crosses : (d : Drive) (v : Seen) (n : ℕ) (os : List Object) (z : ℤ) → (wrote d v n os z).crossed ≡ 0
unfolding wrote
wrote_crosses d v n os z = either (eqb (length os) n) _ _ (either (zone_in v.size (room_of v.size (d.position + length os) (bytes_in (take d.position v.objects) + bytes_in os))) _ _ refl refl) refl

writing_crosses : (d : Drive) (cmd sent : List ℕ) (v : Seen) → (writing d cmd sent v).crossed ≡ 0
unfolding writing
writing_crosses d cmd sent v = either (eqb (transfer_of cmd) 0) _ _ refl (either (fixed_of cmd) _ _ (wrote_crosses d v _ _ _) (wrote_crosses d v _ _ _))

marking_crosses : (d : Drive) (cmd sent : List ℕ) (v : Seen) → (marking d cmd sent v).crossed ≡ 0
unfolding marking
marking_crosses d cmd sent v = either (eqb (transfer_of cmd) 0) _ _ refl (wrote_crosses d v _ _ _)

selecting_crosses : (d : Drive) (cmd sent : List ℕ) → (selecting d cmd sent).crossed ≡ 0
unfolding selecting
selecting_crosses d cmd sent = either (eqb (allocation_of cmd) 0) _ _ refl (either (list_right (allocation_of cmd) sent) _ _ refl refl)

-- "Every other call .. answers 0 there"
pub act_crosses : (o : Operation) (d : Drive) (cmd sent : List ℕ) (v : Seen) → ((o ≡ Space) ⊎ (o ≡ Space16)) ⊎ ((act o d cmd sent v).crossed ≡ 0)
unfolding act locating
act_crosses TestUnitReady d cmd sent v = inr refl
act_crosses Rewind d cmd sent v = inr refl
act_crosses RequestSense d cmd sent v = inr refl
act_crosses ReadBlockLimits d cmd sent v = inr refl
act_crosses Read d cmd sent v = inr (reading_crosses d cmd v)
act_crosses Write d cmd sent v = inr (writing_crosses d cmd sent v)
act_crosses WriteFilemarks d cmd sent v = inr (marking_crosses d cmd sent v)
act_crosses Space d cmd sent v = inl (inl refl)
act_crosses ModeSelect d cmd sent v = inr (selecting_crosses d cmd sent)
act_crosses Erase d cmd sent v = inr refl
act_crosses ModeSense d cmd sent v = inr refl
act_crosses LoadUnload d cmd sent v = inr refl
act_crosses Locate d cmd sent v = inr refl
act_crosses ReadPosition d cmd sent v = inr refl
act_crosses Space16 d cmd sent v = inl (inr refl)
act_crosses Locate16 d cmd sent v = inr refl
act_crosses NotServed d cmd sent v = inr refl

-- SPACE's movement, by any code, goes as far as it says, and stays on the partition
pub went_by : (code : ℕ) (k : ℤ) (p : ℕ) (xs : List Object) → p ≤ length xs → Went p (movement code k p xs).to (movement code k p xs).distance (length xs)
unfolding movement
went_by code k p xs h = go (eqb code to_end)
  where
    by : Bool → Move
    by t = cond t (to_end_of_data p xs) (space (cond (eqb code over_blocks) blocks filemarks) k p xs)

    go : (t : Bool) → Went p (by t).to (by t).distance (length xs)
    go true = went_end p xs h
    go false = went (cond (eqb code over_blocks) blocks filemarks) k p xs h

-- ---- of a call

module _ (rec : List ℕ) (x : Lent) where
  abbrev d : Drive
  d = decode_of rec

  abbrev o : Operation
  o = operation_of (code_of x.cmd)

  -- the current partition
  abbrev p : List ℕ
  p = partition (decode_of rec).current x.part0 x.part1

  -- a refusal, an attention and a fault cross nothing
  pub stopped_crosses : (s : Stop) → first (command_tests rec x) ≡ some s → (command_call rec x).answer.crossed ≡ 0
  unfolding stopped
  stopped_crosses s e = ap (λ (r : Result). r.answer.crossed) (call_stops rec x s e) ∙ go s
    where
      go : (s : Stop) → (stopped s d).answer.crossed ≡ 0
      go (refuse n) = refl
      go attend = refl
      go (fault k a q) = refl

  pub acted_crosses : first (command_tests rec x) ≡ none → (command_call rec x).answer.crossed ≡ (act o d x.cmd x.sent (seen o d x)).crossed
  unfolding applied acted
  acted_crosses e = ap (λ (r : Result). r.answer.crossed) (call_acts rec x e)

  -- SPACE, which no test stopped, stands on a sound partition, and sees it
  pub record Stands : Type 0 where
    pub place : Inside (decode_of rec) x.part0 x.part1
    pub sees : seen (operation_of (code_of x.cmd)) (decode_of rec) x ≡ seen_of (partition (decode_of rec).current x.part0 x.part1)

  pub space_stands : (o ≡ Space) ⊎ (o ≡ Space16) → first (command_tests rec x) ≡ none → Stands
  unfolding command_tests tests looks_at
  space_stands w e = go w
    where
      within : (d.loaded ≡ 0 → ⊥) → Inside d x.part0 x.part1
      within l = inside d x.part0 x.part1 (fault_free rec x.part0 x.part1 (not-false _ (all_false (command_tests rec x) e).1.0)).cart l

      ready : needs_cartridge o && eqb d.loaded 0 ≡ false
      ready = (all_false (command_tests rec x) e).1.1.1.1.1.1.0

      stands : needs_cartridge o ≡ true → looks_at o d x.cmd ≡ d.current → Stands
      stands n l =
          let i = within (eqb-false d.loaded 0 (rw n at ready)) in
          record { place = i; sees = seen_there o d x (rw l i.there) ∙ ap (λ (k : ℕ). seen_of (partition k x.part0 x.part1)) l }

      go : (o ≡ Space) ⊎ (o ≡ Space16) → Stands
      go (inl q) = stands (rw q refl) (rw q refl)
      go (inr q) = stands (rw q refl) (rw q refl)

  -- "never above N", which is below 2^28
  crossed_far : ((command_call rec x).answer.crossed ≤ count p) × ((command_call rec x).answer.crossed < 2 ^ 28)
  unfolding act spacing seen_of
  crossed_far = go (first (command_tests rec x)) refl
    where
      none_far : (command_call rec x).answer.crossed ≡ 0 → ((command_call rec x).answer.crossed ≤ count p) × ((command_call rec x).answer.crossed < 2 ^ 28)
      none_far z = (omega arith, omega arith)

      far : Stands → (code : ℕ) (k : ℤ) → (command_call rec x).answer.crossed ≡ (movement code k d.position (seen o d x).objects).distance
          → ((command_call rec x).answer.crossed ≤ count p) × ((command_call rec x).answer.crossed < 2 ^ 28)
      far s code k e =
          let l = length_objects p in
          let w : (movement code k d.position (objects p)).distance ≤ length (objects p) = (went_by code k d.position (objects p) (rw l s.place.place)).within in
          let n : (command_call rec x).answer.crossed ≤ count p = rw (e, s.sees, ← l) w in
          (n, omega (arith, n, s.place.right.dir_is, s.place.right.most))

      acts : first (command_tests rec x) ≡ none → ((o ≡ Space) ⊎ (o ≡ Space16)) ⊎ ((act o d x.cmd x.sent (seen o d x)).crossed ≡ 0)
          → ((command_call rec x).answer.crossed ≤ count p) × ((command_call rec x).answer.crossed < 2 ^ 28)
      acts e (inr z) = none_far (acted_crosses e ∙ z)
      acts e (inl (inl q)) = far (space_stands (inl q) e) (space_code_of x.cmd) (space_count_of x.cmd) (acted_crosses e ∙ ap (λ (k : Operation). (act k d x.cmd x.sent (seen o d x)).crossed) q)
      acts e (inl (inr q)) = far (space_stands (inr q) e) (space_code_of x.cmd) (space_count16_of x.cmd) (acted_crosses e ∙ ap (λ (k : Operation). (act k d x.cmd x.sent (seen o d x)).crossed) q)

      go : (t : Option Stop) → first (command_tests rec x) ≡ t → ((command_call rec x).answer.crossed ≤ count p) × ((command_call rec x).answer.crossed < 2 ^ 28)
      go (some s) e = none_far (stopped_crosses s e)
      go none e = acts e (act_crosses o d x.cmd x.sent (seen o d x))

  pub crossed_most : (command_call rec x).answer.crossed ≤ count (partition (decode_of rec).current x.part0 x.part1)
  crossed_most = crossed_far.0

  -- the refusal and the objects crossed fit their bits
  pub call_fits : InFields (command_call rec x).answer
  call_fits = (go (refusals rec x), crossed_far.1)
    where
      R : ℕ
      R = (command_call rec x).answer.refusal

      go : (R ≡ 0) ⊎ ((R ≡ command_short) ⊎ ((R ≡ sent_short) ⊎ ((R ≡ received_short) ⊎ (R ≡ record_fault)))) → R < 2 ^ 3
      go (inl e) = omega arith
      go (inr (inl e)) = omega arith
      go (inr (inr (inl e))) = omega arith
      go (inr (inr (inr (inl e)))) = omega arith
      go (inr (inr (inr (inr e)))) = omega arith
