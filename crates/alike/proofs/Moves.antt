-- A command that moves the drive within its partition and does no more: what it leaves, and what its caller may go on from. SPACE of either length is one.
-- Assumes nothing.
use Prim.Native.Nat.{ℕ, ◌^◌, ◌<◌, ◌≤◌, zero-le}
use native.Mathlib.Omega.{arith}
use mathlib.Core.Path.{◌≡◌, refl, sym, ap, ap₂, ◌∙◌}
use mathlib.Core.Logic.{◌⊎◌, inl, inr}
use mathlib.Core.Bool.{Bool, true, false, cond, not, ◌&&◌, ◌||◌}
use mathlib.Core.Option.{Option, none, some}
use mathlib.Core.List.{List, []}
use borrow.Author.Tests.{eq-eqb, ne_eqb, eqb-true, eqb-false, le-ltb, not-false}
use lib.Dec.{eqb, ltb}
use lib.IntN.{ℤ}
use lib.ListN.{length}
use Rattle.words.specs.Words.{over}
use Rattle.words.proofs.Laws.{over_nil}
use Rattle.answers.specs.Answers.{record_fault, refused, answered, first}
use Rattle.answers.proofs.First.{not_both}
use Rattle.objects.specs.Movement as M
use Rattle.image.specs.Image.{count}
use Rattle.sense.specs.declared.Sense.{Sense}
use Rattle.sense.specs.Sense.{not_ready, medium_not_present, unqualified, empty_sense}
use Rattle.record.specs.declared.drive.Drive.{Drive}
use Rattle.record.specs.Record.{no_attention, decode_of, encode_of, well_record, with_sense}
use Rattle.codes.specs.declared.operation.Operation.{Operation}
use Rattle.codes.specs.declared.operation.Operation.TheVariants.{Space, Space16}
use Rattle.codes.specs.Codes.{code_of, too_short, operation_of, masks_hold}
use Rattle.codes.specs.Fields.{space_count_of, space_count16_of}
use Rattle.commands.specs.Kinds.{passes_attention, needs_cartridge, writes}
use Rattle.commands.specs.Act.{Seen, Deed, at, over_blocks, over_filemarks, to_end, space_tells, movement, spacing, act}
use Rattle.commands.specs.Stop.{Stop, refuse, attend, fault}
use Rattle.commands.specs.Tests.{tests, field_error, taken, reply_length, needed}
use Rattle.commands.specs.Step.{check_answer, status_of, kept_of, acted}
use Rattle.commands.specs.Call.{Lent, lent, Result, result_of, partition, looks_at, seen_of, nothing, seen, inserted, applied, written, command_call, command_tests}
use Rattle.commands.proofs.Ends.{call_acts}
use Rattle.commands.proofs.Faultless.{Well, inside, back, no_fault, empty_whole}
use Rattle.commands.proofs.Passed.{all_false}
use Rattle.history.specs.History.{Cartridge, cartridge, is_good}
use Rattle.history.specs.Demand3.{Mounted}
use Rattle.history.proofs.Ended.{Finished, by_number, by_sense, by_act, ended}
use Rattle.history.proofs.Acted.{idle}
use Rattle.history.proofs.Moved.{moved_well}
use Rattle.alike.specs.Alike.{SpacesBy}

-- ---- to position n of its partition; it tells t, and reports c objects as crossed

abbrev pub moves : Drive → ℕ → Option Sense → ℕ → Deed
moves d n t c = record { drive = at d n; tells = t; received = []; carried = 0; crossed = c }

pub record Goes (rec : List ℕ) (x : Lent) (n : ℕ) (t : Option Sense) (c : ℕ) : Type 0 where
  pub o : Operation
  pub is : operation_of (code_of x.cmd) ≡ o
  pub quiet : writes o ≡ false
  pub does : act o (decode_of rec) x.cmd x.sent (seen o (decode_of rec) x) ≡ moves (decode_of rec) n t c

-- what it leaves, and what if it tells nothing
abbrev pub left : Drive → ℕ → Option Sense → ℕ → Lent → Result
left d n t c x = result_of (answered (status_of t) 0 c) (encode_of (with_sense (at d n) (kept_of t))) x

abbrev pub landed : Drive → ℕ → ℕ → Lent → Result
landed d n c x = result_of (answered 0 0 c) (encode_of (with_sense (at d n) empty_sense)) x

module _ (rec cmd p0 p1 sent received : List ℕ) where
  abbrev d : Drive
  d = decode_of rec

  abbrev x : Lent
  x = lent cmd p0 p1 sent received

  pub goes_left : (n : ℕ) (t : Option Sense) (c : ℕ) → Goes rec (lent cmd p0 p1 sent received) n t c → first (command_tests rec (lent cmd p0 p1 sent received)) ≡ none → command_call rec (lent cmd p0 p1 sent received) ≡ left (decode_of rec) n t c (lent cmd p0 p1 sent received)
  unfolding applied acted
  goes_left n t c w h =
      call_acts rec x h
      ∙ ap (λ (p : Operation). written rec (applied (acted p d cmd sent (seen p d x)) (looks_at p d cmd) x)) w.is
      ∙ ap (λ (q : Cartridge). by (act w.o d cmd sent (seen w.o d x)) q.part0 q.part1) (idle rec x w.o w.quiet)
      ∙ ap (λ (e : Deed). by e p0 p1) w.does
      ∙ ap (λ (l : List ℕ). result_of (answered (status_of t) 0 c) (encode_of (with_sense (at d n) (kept_of t))) (lent cmd p0 p1 sent l)) (over_nil received 0)
    where
      by : Deed → List ℕ → List ℕ → Result
      by e q0 q1 = result_of (answered (status_of e.tells) e.carried e.crossed) (encode_of (with_sense e.drive (kept_of e.tells))) (lent cmd q0 q1 sent (over received 0 e.received))

  -- GOOD: no test stopped it, and it tells nothing
  pub passed : is_good (command_call rec (lent cmd p0 p1 sent received)).answer ≡ true → (first (command_tests rec (lent cmd p0 p1 sent received)) ≡ none) × Well (decode_of rec) p0 p1
  passed g = go (ended rec cmd p0 p1 sent received)
    where
      not_so : (r : Result) → command_call rec x ≡ r → is_good r.answer ≡ false → (first (command_tests rec x) ≡ none) × Well d p0 p1
      not_so r e h = absurd (not_both (sym g ∙ ap (λ (y : Result). is_good y.answer) e ∙ h))

      go : Finished rec cmd p0 p1 sent received → (first (command_tests rec x) ≡ none) × Well d p0 p1
      go (by_number n h e q) = not_so (result_of (refused n) rec x) q (rw (ne_eqb n 0 (λ z. omega arith)) refl)
      go (by_sense s e f b w z l q) = not_so (result_of check_answer (encode_of (with_sense f b)) x) q refl
      go (by_act e w t q) = (e, w)

  pub tells_none : (n : ℕ) (t : Option Sense) (c : ℕ) → Goes rec (lent cmd p0 p1 sent received) n t c → is_good (command_call rec (lent cmd p0 p1 sent received)).answer ≡ true → t ≡ none
  tells_none n t c w g = go t (goes_left n t c w (passed g).0)
    where
      go : (t : Option Sense) → command_call rec x ≡ left d n t c x → t ≡ none
      go none q = refl
      go (some s) q = unfold status_of in absurd (not_both (sym g ∙ ap (λ (y : Result). is_good y.answer) q))

  pub lands : (n : ℕ) (t : Option Sense) (c : ℕ) → Goes rec (lent cmd p0 p1 sent received) n t c → is_good (command_call rec (lent cmd p0 p1 sent received)).answer ≡ true → command_call rec (lent cmd p0 p1 sent received) ≡ landed (decode_of rec) n c (lent cmd p0 p1 sent received)
  unfolding status_of kept_of
  lands n t c w g = goes_left n t c w (passed g).0 ∙ ap (λ (s : Option Sense). left d n s c x) (tells_none n t c w g)

  -- one that needs a cartridge, and passes no attention, found the one and not the other
  pub was_mounted : needs_cartridge (operation_of (code_of cmd)) ≡ true → passes_attention (operation_of (code_of cmd)) ≡ false → is_good (command_call rec (lent cmd p0 p1 sent received)).answer ≡ true → Mounted rec (cartridge p0 p1)
  unfolding command_tests tests
  was_mounted n a g =
      let p = passed g in
      let t = all_false (command_tests rec x) p.0 in
      let ready : needs_cartridge (operation_of (code_of cmd)) && eqb d.loaded 0 ≡ false = t.1.1.1.1.1.1.0 in
      record {
        no_fault = not-false _ t.1.0;
        loaded = (inside d p0 p1 p.1.cart (eqb-false d.loaded 0 (rw n at ready))).is;
        no_attention_lem = eqb-true d.attention no_attention (calm (eqb d.attention no_attention) (passes_attention (operation_of (code_of cmd))) a t.1.1.0);
      }
    where
      calm : (b c : Bool) → c ≡ false → not b && not c ≡ false → b ≡ true
      calm true c h e = refl
      calm false true h e = absurd (not_both h)
      calm false false h e = absurd (not_both e)

-- ---- what it left, to go on from

-- the record of the drive at position n, with nothing told
abbrev pub standing : List ℕ → ℕ → List ℕ
standing rec n = encode_of (with_sense (at (decode_of rec) n) empty_sense)

module _ (rec p0 p1 : List ℕ) (n : ℕ) where
  pub stands : n < 2 ^ 32 → Well (decode_of rec) p0 p1 → decode_of (standing rec n) ≡ with_sense (at (decode_of rec) n) empty_sense
  stands h w = back (at (decode_of rec) n) empty_sense h w.small empty_whole

  pub stays_mounted : n < 2 ^ 32 → n ≤ count (partition (decode_of rec).current p0 p1) → Well (decode_of rec) p0 p1 → Mounted rec (cartridge p0 p1) → Mounted (standing rec n) (cartridge p0 p1)
  unfolding with_sense
  stays_mounted h l w m =
      let e = stands h w in
      record {
        no_fault = no_fault (at (decode_of rec) n) empty_sense p0 p1 (moved_well (decode_of rec) p0 p1 n w (λ z. omega (arith, m.loaded)) l) empty_whole;
        loaded = ap (λ (y : Drive). y.loaded) e ∙ m.loaded;
        no_attention_lem = ap (λ (y : Drive). y.attention) e ∙ m.no_attention_lem;
      }

-- ---- SPACE

-- what a command sees of the current partition
abbrev pub current : Drive → List ℕ → List ℕ → Seen
current d p0 p1 = cond (ltb d.current d.partitions) (seen_of (partition d.current p0 p1)) nothing

-- its movement there, and what it tells of it
abbrev pub movement_in : Drive → ℕ → ℤ → Seen → M.Move
movement_in d code k v = movement code k d.position v.objects

abbrev pub told_in : Drive → ℕ → ℤ → Seen → Option Sense
told_in d code k v = space_tells v k (movement_in d code k v)

abbrev Either : ℤ → List ℕ → Type 0
Either k cmd = ((operation_of (code_of cmd) ≡ Space) × (space_count_of cmd ≡ k)) ⊎ ((operation_of (code_of cmd) ≡ Space16) × (space_count16_of cmd ≡ k))

-- "Other codes than 0, 1, 3" are field errors
abbrev pub served_code : ℕ → Bool
served_code code = eqb code over_blocks || eqb code over_filemarks || eqb code to_end

-- whole and within its masks, number 4, an attention and an empty drive alone stop it
abbrev pub space_stop : List ℕ → List ℕ → List ℕ → Option Stop
space_stop rec p0 p1 =
    cond (well_record rec && inserted (decode_of rec) p0 p1)
    (cond (eqb (decode_of rec).attention no_attention) (cond (eqb (decode_of rec).loaded 0) (some (fault not_ready medium_not_present unqualified)) none) (some attend))
    (some (refuse record_fault))

module _ (code : ℕ) (k : ℤ) (rec cmd p0 p1 sent received : List ℕ) (s : SpacesBy code k cmd) where
  abbrev from : Drive
  from = decode_of rec

  abbrev v : Seen
  v = current from p0 p1

  pub spaced_goes : Goes rec (lent cmd p0 p1 sent received) (movement_in (decode_of rec) code k (current (decode_of rec) p0 p1)).to (told_in (decode_of rec) code k (current (decode_of rec) p0 p1)) (movement_in (decode_of rec) code k (current (decode_of rec) p0 p1)).distance
  unfolding act seen looks_at spacing
  spaced_goes = go s.is
    where
      go : Either k cmd → Goes rec (lent cmd p0 p1 sent received) (movement_in from code k v).to (told_in from code k v) (movement_in from code k v).distance
      go (inl h) = record { o = Space; is = h.0; quiet = refl; does = ap₂ (λ (c : ℕ) (j : ℤ). spacing from c j v) s.code h.1 }
      go (inr h) = record { o = Space16; is = h.0; quiet = refl; does = ap₂ (λ (c : ℕ) (j : ℤ). spacing from c j v) s.code h.1 }

  pub spaced_tests : served_code code ≡ true → too_short cmd ≡ false → masks_hold cmd ≡ true → first (command_tests rec (lent cmd p0 p1 sent received)) ≡ space_stop rec p0 p1
  unfolding first command_tests tests field_error taken needed reply_length
  spaced_tests served whole within = go s.is (well_record rec && inserted from p0 p1) (eqb from.attention no_attention) (eqb from.loaded 0) refl refl refl
    where
      go : Either k cmd → (a b c : Bool) → well_record rec && inserted from p0 p1 ≡ a → eqb from.attention no_attention ≡ b → eqb from.loaded 0 ≡ c → first (command_tests rec (lent cmd p0 p1 sent received)) ≡ space_stop rec p0 p1
      go (inl h) false b c e f g = rw (h.0, whole, e) refl
      go (inl h) true false c e f g = rw (h.0, whole, e, f) refl
      go (inl h) true true true e f g = rw (h.0, whole, e, f, within, s.code, served, g) refl
      go (inl h) true true false e f g = rw (h.0, whole, e, f, within, s.code, served, g, le-ltb (length sent) 0 zero-le, le-ltb (length received) 0 zero-le) refl
      go (inr h) false b c e f g = rw (h.0, whole, e) refl
      go (inr h) true false c e f g = rw (h.0, whole, e, f) refl
      go (inr h) true true true e f g = rw (h.0, whole, e, f, within, s.code, served, g) refl
      go (inr h) true true false e f g = rw (h.0, whole, e, f, within, s.code, served, g, le-ltb (length sent) 0 zero-le, le-ltb (length received) 0 zero-le) refl

  pub spaced_passes : served_code code ≡ true → Mounted rec (cartridge p0 p1) → too_short cmd ≡ false → masks_hold cmd ≡ true → first (command_tests rec (lent cmd p0 p1 sent received)) ≡ none
  spaced_passes served mounted whole within = spaced_tests served whole within ∙ rw (mounted.no_fault, eq-eqb from.attention no_attention mounted.no_attention_lem, ne_eqb from.loaded 0 (λ z. omega (arith, mounted.loaded))) refl

  pub space_mounted : is_good (command_call rec (lent cmd p0 p1 sent received)).answer ≡ true → Mounted rec (cartridge p0 p1)
  space_mounted g = go s.is
    where
      go : Either k cmd → Mounted rec (cartridge p0 p1)
      go (inl h) = was_mounted rec cmd p0 p1 sent received (rw h.0 refl) (rw h.0 refl) g
      go (inr h) = was_mounted rec cmd p0 p1 sent received (rw h.0 refl) (rw h.0 refl) g
