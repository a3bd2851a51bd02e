-- LOCATE with CP reaches the beginning of each partition of a mounted cartridge, REWIND that of the current one.
-- Assumes nothing.
use Prim.Native.Nat.{ℕ, ◌<◌, zero-le}
use native.Mathlib.Omega.{arith}
use mathlib.Core.Path.{◌≡◌, refl, ap, ◌∙◌, subst}
use mathlib.Core.Bool.{false}
use mathlib.Core.Option.{none}
use mathlib.Core.List.{List}
use borrow.Author.Tests.{eq-eqb, ne_eqb, le-ltb, lt-leb, le-leb}
use lib.ListN.{length}
use Rattle.answers.specs.Answers.{answered, first}
use Rattle.words.specs.Words.{be, bytes}
use Rattle.objects.specs.Movement as M
use Rattle.record.specs.declared.drive.Drive.{Drive}
use Rattle.record.specs.Record.{no_attention, decode_of, encode_of, with_sense}
use Rattle.codes.specs.declared.operation.Operation.{Operation}
use Rattle.codes.specs.declared.operation.Operation.TheVariants.{Locate, Rewind}
use Rattle.codes.specs.Codes.{code_of, operation_of, too_short, in_masks, masks_hold}
use Rattle.codes.specs.Fields.{changes_partition, partition_of, object_of}
use Rattle.commands.specs.Kinds.{writes}
use Rattle.commands.specs.Act.{Seen, Deed, good, at_partition, target_of, locate_tells, locating, act}
use Rattle.commands.specs.Tests.{tests, field_error, taken, reply_length, needed}
use Rattle.commands.specs.Step.{acted, status_of, kept_of}
use Rattle.commands.specs.Call.{lent, Result, seen, written, command_tests, command_call, applied, looks_at}
use Rattle.commands.proofs.Ends.{call_acts}
use Rattle.history.specs.History.{Slot, slot0, slot1, number, cartridge, is_good, slices_left}
use Rattle.history.specs.Demand3.{NoFault, Mounted, locate_first, rewind, Reached}
use Rattle.commands.proofs.Faultless.{fault_free, back, kept_whole}
use Rattle.history.proofs.Acted.{idle}
use Rattle.history.proofs.Always.{command_faultless}

module _ (rec p0 p1 sent received : List ℕ) (m : Mounted rec (cartridge p0 p1)) where
  locate_passes : (s : Slot) → number s < (decode_of rec).partitions → first (command_tests rec (lent (locate_first s) p0 p1 sent received)) ≡ none
  unfolding first command_tests tests too_short masks_hold in_masks field_error taken needed reply_length changes_partition partition_of bytes
  locate_passes slot0 h =
      rw (m.no_fault, eq-eqb (decode_of rec).attention no_attention m.no_attention_lem, ne_eqb (decode_of rec).loaded 0 (λ z. omega (arith, m.loaded)), lt-leb (decode_of rec).partitions 0 h, le-ltb (length sent) 0 zero-le, le-ltb (length received) 0 zero-le) refl
  locate_passes slot1 h =
      rw (m.no_fault, eq-eqb (decode_of rec).attention no_attention m.no_attention_lem, ne_eqb (decode_of rec).loaded 0 (λ z. omega (arith, m.loaded)), lt-leb (decode_of rec).partitions 1 h, le-ltb (length sent) 0 zero-le, le-ltb (length received) 0 zero-le) refl

  rewind_passes : first (command_tests rec (lent rewind p0 p1 sent received)) ≡ none
  unfolding first command_tests tests too_short masks_hold in_masks field_error taken needed reply_length
  rewind_passes =
      rw (m.no_fault, eq-eqb (decode_of rec).attention no_attention m.no_attention_lem, ne_eqb (decode_of rec).loaded 0 (λ z. omega (arith, m.loaded)), le-ltb (length sent) 0 zero-le, le-ltb (length received) 0 zero-le) refl

  -- a command that acts, alters nothing and leaves the drive at the beginning of partition k
  reaches : (s : Slot) (cmd : List ℕ) (o : Operation) → operation_of (code_of cmd) ≡ o → first (command_tests rec (lent cmd p0 p1 sent received)) ≡ none
      → writes o ≡ false → ((v : Seen) → act o (decode_of rec) cmd sent v ≡ good (at_partition (decode_of rec) (number s) 0))
      → Reached s (cartridge p0 p1) (command_call rec (lent cmd p0 p1 sent received))
  unfolding applied acted with_sense status_of
  reaches s cmd o eo e c g =
      let w = fault_free rec p0 p1 m.no_fault in
      let v : Seen = seen o (decode_of rec) (lent cmd p0 p1 sent received) in
      let r : Result = command_call rec (lent cmd p0 p1 sent received) in
      let q : r ≡ written rec (applied (acted o (decode_of rec) cmd sent v) (looks_at o (decode_of rec) cmd) (lent cmd p0 p1 sent received)) = call_acts rec (lent cmd p0 p1 sent received) e ∙ ap (λ (x : Operation). written rec (applied (acted x (decode_of rec) cmd sent (seen x (decode_of rec) (lent cmd p0 p1 sent received))) (looks_at x (decode_of rec) cmd) (lent cmd p0 p1 sent received))) eo in
      let same : slices_left r ≡ cartridge p0 p1 = ap slices_left q ∙ idle rec (lent cmd p0 p1 sent received) o c in
      let d : decode_of r.rec ≡ with_sense (at_partition (decode_of rec) (number s) 0) (kept_of (act o (decode_of rec) cmd sent v).tells)
      = ap (λ (x : Result). decode_of x.rec) q
      ∙ ap (λ (x : Drive). decode_of (encode_of (with_sense x (kept_of (act o (decode_of rec) cmd sent v).tells)))) (ap (λ (x : Deed). x.drive) (g v))
      ∙ back (at_partition (decode_of rec) (number s) 0) (kept_of (act o (decode_of rec) cmd sent v).tells) (omega arith) w.small (kept_whole (act o (decode_of rec) cmd sent v).tells) in
      record {
        answered_good = ap (λ (x : Result). is_good x.answer) q ∙ ap (λ (x : Deed). is_good (answered (status_of x.tells) x.carried x.crossed)) (g v);
        mounted = record {
          no_fault = subst (NoFault r.rec) same (command_faultless rec cmd p0 p1 sent received m.no_fault);
          loaded = ap (λ (x : Drive). x.loaded) d ∙ m.loaded;
          no_attention_lem = ap (λ (x : Drive). x.attention) d ∙ m.no_attention_lem;
        };
        there = record { current = ap (λ (x : Drive). x.current) d; position = ap (λ (x : Drive). x.position) d };
        same = same;
      }

  located : (s : Slot) (v : Seen) → locating (decode_of rec) (target_of Locate (decode_of rec) (locate_first s)) (M.object (object_of (locate_first s))) v ≡ good (at_partition (decode_of rec) (number s) 0)
  unfolding locating locate_tells M.locate M.to_object target_of changes_partition partition_of object_of be bytes
  located slot0 v = rw (le-leb 0 (length v.objects) zero-le) refl
  located slot1 v = rw (le-leb 0 (length v.objects) zero-le) refl

  pub locate_reaches : (s : Slot) → number s < (decode_of rec).partitions → Reached s (cartridge p0 p1) (command_call rec (lent (locate_first s) p0 p1 sent received))
  unfolding act
  locate_reaches s h = reaches s (locate_first s) Locate refl (locate_passes s h) refl (λ v. located s v)

  pub rewind_reaches : (s : Slot) → (decode_of rec).current ≡ number s → Reached s (cartridge p0 p1) (command_call rec (lent rewind p0 p1 sent received))
  unfolding act
  rewind_reaches s h = reaches s rewind Rewind refl rewind_passes refl (λ v. ap (λ (k : ℕ). good (at_partition (decode_of rec) k 0)) h)
