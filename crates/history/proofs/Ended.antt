-- How a call ends: refused by a number, stopped with a sense, or acted. And what its caller then sees that it put or erased.
-- Assumes nothing.
use Prim.Native.Nat.{ℕ, zero, suc, ◌+◌, ◌-◌, ◌<◌}
use native.Mathlib.Omega.{arith}
use mathlib.Core.Path.{◌≡◌, refl, sym, ap, ◌∙◌}
use mathlib.Core.Bool.{Bool, true, false, cond, not, ◌&&◌}
use mathlib.Core.Option.{Option, none, some}
use mathlib.Core.List.{List, [], ◌∷◌}
use borrow.Author.Tests.{not-false}
use lib.ListN.{length, take}
use lib.Seq.{take-nil}
use Rattle.answers.specs.Answers.{refused, first}
use Rattle.objects.specs.Object.{Object, data_of}
use Rattle.objects.specs.Events.{cut}
use Rattle.objects.specs.Room.{room_of, fits_in}
use Rattle.sense.specs.Sense.{sense_length, sense_bytes, plainly, attention_sense}
use Rattle.record.specs.declared.drive.Drive.{Drive}
use Rattle.record.specs.Record.{attention_known, decode_of, encode_of, well_record, with_sense}
use Rattle.codes.specs.declared.operation.Operation.{Operation}
use Rattle.codes.specs.Codes.{code_of, too_short, operation_of}
use Rattle.objects.specs.Transfer.{fitting, put_from}
use Rattle.objects.proofs.Fitting.{fitting_more, fitting_none}
use Rattle.commands.specs.Stop.{Stop, refuse, attend, fault}
use Rattle.commands.specs.Kinds.{erases}
use Rattle.commands.specs.Act.{unattended, offered}
use Rattle.commands.specs.Tests.{tests}
use Rattle.commands.specs.Step.{check_answer, stopped, acted}
use Rattle.commands.specs.Call.{lent, Result, result_of, seen, inserted, written, command_tests, command_call, applied, looks_at}
use Rattle.commands.proofs.Ends.{call_stops, call_acts, refused_leaves}
use Rattle.history.specs.History.{is_good, caused}
use Rattle.commands.proofs.Faultless.{Cart, no_cart, one_part, two_parts, Well, fault_free, sense_whole, attention_whole}

-- ---- lists of tests

after_two : (a b : Bool) (x y : Stop) (ts : List (Bool × Stop)) (s : Option Stop) → first ((a, x) ∷ (b, y) ∷ ts) ≡ s → (some x ≡ s → ⊥) → (some y ≡ s → ⊥) → (a ≡ false) × (b ≡ false) × (first ts ≡ s)
unfolding first
after_two true b x y ts s e h k = absurd (h e)
after_two false true x y ts s e h k = absurd (k e)
after_two false false x y ts s e h k = (refl, refl, e)

-- no stop of the list is a refusal by 0
numbered : Stop → Bool
numbered (refuse zero) = false
numbered (refuse (suc n)) = true
numbered attend = true
numbered (fault k a q) = true

all_numbered : List (Bool × Stop) → Bool
all_numbered [] = true
all_numbered (t ∷ ts) = cond (numbered t.1) (all_numbered ts) false

first_numbered : (ts : List (Bool × Stop)) (s : Stop) → all_numbered ts ≡ true → first ts ≡ some s → numbered s ≡ true
unfolding first all_numbered
first_numbered [] s h e = absurd (let z : ◌≡◌ {A = ℕ} 0 1 = cc in omega arith)
first_numbered (t ∷ ts) s h e = go t.0 (numbered t.1) refl h e (first_numbered ts s)
  where
    go : (b n : Bool) → numbered t.1 ≡ n → cond n (all_numbered ts) false ≡ true → cond b (some t.1) (first ts) ≡ some s → (all_numbered ts ≡ true → first ts ≡ some s → numbered s ≡ true) → numbered s ≡ true
    go b false q h e i = absurd (let z : ◌≡◌ {A = ℕ} 0 1 = cc in omega arith)
    go true true q h e i = let w : t.1 ≡ s = cc in ap numbered (sym w) ∙ q
    go false true q h e i = i h e

not_zero : (n : ℕ) → numbered (refuse n) ≡ true → 0 < n
unfolding numbered
not_zero zero h = absurd (let z : ◌≡◌ {A = ℕ} 0 1 = cc in omega arith)
not_zero (suc n) h = omega arith

-- ---- how a call ends

pub data Finished (rec cmd p0 p1 sent received : List ℕ) : Type 0 where
  by_number : (n : ℕ) → 0 < n → first (command_tests rec (lent cmd p0 p1 sent received)) ≡ some (refuse n) → command_call rec (lent cmd p0 p1 sent received) ≡ result_of (refused n) rec (lent cmd p0 p1 sent received) → Finished rec cmd p0 p1 sent received
  by_sense : (s : Stop) → first (command_tests rec (lent cmd p0 p1 sent received)) ≡ some s → (e : Drive) (b : List ℕ) → Well e p0 p1 → e.position ≡ (decode_of rec).position → length b ≡ sense_length
      → command_call rec (lent cmd p0 p1 sent received) ≡ result_of check_answer (encode_of (with_sense e b)) (lent cmd p0 p1 sent received) → Finished rec cmd p0 p1 sent received
  by_act : first (command_tests rec (lent cmd p0 p1 sent received)) ≡ none → Well (decode_of rec) p0 p1 → first (tests (operation_of (code_of cmd)) (decode_of rec) cmd (seen (operation_of (code_of cmd)) (decode_of rec) (lent cmd p0 p1 sent received)) sent (length received)) ≡ none
      → command_call rec (lent cmd p0 p1 sent received) ≡ written rec (applied (acted (operation_of (code_of cmd)) (decode_of rec) cmd sent (seen (operation_of (code_of cmd)) (decode_of rec) (lent cmd p0 p1 sent received))) (looks_at (operation_of (code_of cmd)) (decode_of rec) cmd) (lent cmd p0 p1 sent received))
      → Finished rec cmd p0 p1 sent received

calm_cart : (d : Drive) (p0 p1 : List ℕ) → Cart d p0 p1 → Cart (unattended d) p0 p1
calm_cart d p0 p1 (no_cart a b c e) = no_cart a b c e
calm_cart d p0 p1 (one_part a b c s e f) = one_part a b c s e f
calm_cart d p0 p1 (two_parts a b c s t f) = two_parts a b c s t f

pub calm_well : (d : Drive) (p0 p1 : List ℕ) → Well d p0 p1 → Well (unattended d) p0 p1
calm_well d p0 p1 w = record { attention = unfold attention_known in refl; small = w.small; cart = calm_cart d p0 p1 w.cart }

pub ended : (rec cmd p0 p1 sent received : List ℕ) → Finished rec cmd p0 p1 sent received
ended rec cmd p0 p1 sent received = go (first (command_tests rec (lent cmd p0 p1 sent received))) refl
  where
    past_four : (s : Option Stop) → first (command_tests rec (lent cmd p0 p1 sent received)) ≡ s → (some (refuse 1) ≡ s → ⊥) → (some (refuse 4) ≡ s → ⊥)
        → (too_short cmd ≡ false) × (not (well_record rec && inserted (decode_of rec) p0 p1) ≡ false) × (first (tests (operation_of (code_of cmd)) (decode_of rec) cmd (seen (operation_of (code_of cmd)) (decode_of rec) (lent cmd p0 p1 sent received)) sent (length received)) ≡ s)
    past_four s e h k = unfold command_tests in after_two (too_short cmd) (not (well_record rec && inserted (decode_of rec) p0 p1)) (refuse 1) (refuse 4) (tests (operation_of (code_of cmd)) (decode_of rec) cmd (seen (operation_of (code_of cmd)) (decode_of rec) (lent cmd p0 p1 sent received)) sent (length received)) s e h k

    well : not (well_record rec && inserted (decode_of rec) p0 p1) ≡ false → Well (decode_of rec) p0 p1
    well h = fault_free rec p0 p1 (not-false (well_record rec && inserted (decode_of rec) p0 p1) h)

    all : all_numbered (command_tests rec (lent cmd p0 p1 sent received)) ≡ true
    all = unfold command_tests tests all_numbered numbered in refl

    go : (s : Option Stop) → first (command_tests rec (lent cmd p0 p1 sent received)) ≡ s → Finished rec cmd p0 p1 sent received
    go none e =
        let x = past_four none e (λ q. let z : ◌≡◌ {A = ℕ} 0 1 = cc in omega arith) (λ q. let z : ◌≡◌ {A = ℕ} 0 1 = cc in omega arith) in
        by_act e (well x.1) x.2 (call_acts rec (lent cmd p0 p1 sent received) e)
    go (some (refuse n)) e =
        let h = not_zero n (first_numbered (command_tests rec (lent cmd p0 p1 sent received)) (refuse n) all e) in
        by_number n h e (call_stops rec (lent cmd p0 p1 sent received) (refuse n) e ∙ refused_leaves rec (lent cmd p0 p1 sent received) n h)
    go (some attend) e =
        let x = past_four (some attend) e (λ q. let z : ◌≡◌ {A = ℕ} 0 1 = cc in omega arith) (λ q. let z : ◌≡◌ {A = ℕ} 0 1 = cc in omega arith) in
        by_sense attend e (unattended (decode_of rec)) (attention_sense (decode_of rec).attention) (calm_well (decode_of rec) p0 p1 (well x.1)) refl (attention_whole (decode_of rec).attention)
        (call_stops rec (lent cmd p0 p1 sent received) attend e ∙ unfold stopped in refl)
    go (some (fault k a q)) e =
        let x = past_four (some (fault k a q)) e (λ q. let z : ◌≡◌ {A = ℕ} 0 1 = cc in omega arith) (λ q. let z : ◌≡◌ {A = ℕ} 0 1 = cc in omega arith) in
        by_sense (fault k a q) e (decode_of rec) (sense_bytes (plainly k a q)) (well x.1) refl (sense_whole (plainly k a q))
        (call_stops rec (lent cmd p0 p1 sent received) (fault k a q) e ∙ unfold stopped in refl)

-- ---- what is seen of it

-- neither GOOD nor moved: nothing was put or erased
pub nothing_caused : (rec cmd sent : List ℕ) (r : Result) → is_good r.answer ≡ false → (decode_of r.rec).position ≡ (decode_of rec).position → caused rec cmd sent r ≡ []
unfolding caused put_from
nothing_caused rec cmd sent r g e = go (erases (operation_of (code_of cmd))) refl
  where
    unerased : cond (is_good r.answer) (cut (decode_of rec).position ∷ []) [] ≡ []
    unerased = rw g refl

    unmoved : put_from (decode_of rec).position (take ((decode_of r.rec).position - (decode_of rec).position) (offered (operation_of (code_of cmd)) (decode_of rec) cmd sent)) ≡ []
    unmoved = let z : (decode_of r.rec).position - (decode_of rec).position ≡ 0 = omega arith in rw z refl

    go : (t : Bool) → erases (operation_of (code_of cmd)) ≡ t → caused rec cmd sent r ≡ []
    go true q = rw q unerased
    go false q = rw q unmoved

-- nothing offered and no ERASE: nothing was put or erased
pub nothing_offered : (rec cmd sent : List ℕ) (r : Result) (o : Operation) → operation_of (code_of cmd) ≡ o → erases o ≡ false → offered o (decode_of rec) cmd sent ≡ [] → caused rec cmd sent r ≡ []
unfolding caused put_from
nothing_offered rec cmd sent r o e h k =
    let z : put_from (decode_of rec).position (take ((decode_of r.rec).position - (decode_of rec).position) []) ≡ [] = rw (take-nil {A = Object} ((decode_of r.rec).position - (decode_of rec).position)) refl in
    rw (e, h, k) z

-- those that fit are the first of those offered
pub fitting_first : (l n e : ℕ) (os : List Object) → take (length (fitting l n e os)) os ≡ fitting l n e os
unfolding fitting
fitting_first l n e [] = refl
fitting_first l n e (o ∷ os) = go (fits_in (room_of l n e) (length (data_of o))) refl (fitting_first l (suc n) (e + length (data_of o)) os)
  where
    go : (t : Bool) → fits_in (room_of l n e) (length (data_of o)) ≡ t → take (length (fitting l (suc n) (e + length (data_of o)) os)) os ≡ fitting l (suc n) (e + length (data_of o)) os
        → take (length (fitting l n e (o ∷ os))) (o ∷ os) ≡ fitting l n e (o ∷ os)
    go true h i = rw (fitting_more l n e o os h) (ap (λ (fs : List Object). o ∷ fs) i)
    go false h i = rw (fitting_none l n e o os h) refl

pub first_fitting : (l n e : ℕ) (os : List Object) (m k : ℕ) → m ≡ k + length (fitting l n e os) → take (m - k) os ≡ fitting l n e os
first_fitting l n e os m k h = let z : m - k ≡ length (fitting l n e os) = omega arith in ap (λ (x : ℕ). take x os) z ∙ fitting_first l n e os
