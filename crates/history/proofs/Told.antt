-- Demand 3, first half: through any calls, what stands on a partition is what the events of its past settled standing.
-- Assumes nothing.
use Prim.Native.Nat.{ℕ}
use native.Mathlib.Omega.{arith}
use mathlib.Core.Path.{◌≡◌, refl, sym, ap, ◌∙◌, subst}
use mathlib.Core.Logic.{◌↔◌, ◌⊎◌}
use mathlib.Core.Bool.{Bool, true, false, cond, not}
use mathlib.Core.Option.{some}
use mathlib.Core.List.{List, [], ◌∷◌, ◌++◌, append_assoc}
use borrow.Author.Tests.{ne_eqb}
use lib.Dec.{eqb}
use lib.ListN.{get_elem?}
use Rattle.answers.specs.declared.Answer.{Answer}
use Rattle.answers.specs.Answers.{settled, refused, done, wrong_length, first, refusal_of, settled_by}
use Rattle.objects.specs.Object.{Object}
use Rattle.objects.specs.Events.{Event, Clear, Stands, happens, Lawful}
use Rattle.objects.proofs.Standing.{stand, stand_blank, happens_append, lawful_append}
use Rattle.image.specs.Image.{right_length, sound, objects}
use Rattle.trailers.specs.Trailers.{blank, protect}
use Rattle.house.specs.Images.{blank_call, protect_call}
use Rattle.image.specs.Image.{fault_of}
use Rattle.image.proofs.Facts.{Sound, sound_parts, right_parts}
use Rattle.trailers.proofs.Trailers.{blanks, protects}
use Rattle.record.specs.Record.{decode_of, with_sense}
use Rattle.codes.specs.Codes.{code_of, operation_of}
use Rattle.commands.specs.Call.{lent, Result, result_of, command_call}
use Rattle.history.specs.History.{Slot, slot0, slot1, number, Cartridge, cartridge, part, MadeBlank, Lending, together, alone, Call, command, mount, protection, slices_left, after, caused, events, ends, past}
use Rattle.commands.proofs.Faultless.{back, place_small}
use Rattle.commands.proofs.Laid.{Turned, still}
use Rattle.history.proofs.Ended.{Finished, by_number, by_sense, by_act, ended, nothing_caused}
use Rattle.history.proofs.Acted.{acts, acts_turned, acts_caused}

-- ---- a command, on the partition of each slot

-- what is to be shown of the slices p0 and p1 and of what the call settled
abbrev pub Shown : Slot → List ℕ → List ℕ → List ℕ → List ℕ → List ℕ → Result → Type 0
Shown s rec cmd p0 p1 sent r = Turned (cond (eqb (decode_of rec).current (number s)) (caused rec cmd sent r) []) (part s (cartridge p0 p1)) (part s (slices_left r))

pub none_either : (t : Bool) (es : List Event) → es ≡ [] → cond t es [] ≡ []
none_either true es e = e
none_either false es e = refl

unchanged : (s : Slot) (rec cmd p0 p1 sent : List ℕ) (r : Result) → caused rec cmd sent r ≡ [] → slices_left r ≡ cartridge p0 p1 → Sound (part s (cartridge p0 p1)) → Shown s rec cmd p0 p1 sent r
unchanged s rec cmd p0 p1 sent r e h k = rw (none_either (eqb (decode_of rec).current (number s)) (caused rec cmd sent r) e, ap (part s) h) (still (part s (cartridge p0 p1)) k)

pub shown : (s : Slot) (rec cmd p0 p1 sent received : List ℕ) → Sound (part s (cartridge p0 p1)) → Shown s rec cmd p0 p1 sent (command_call rec (lent cmd p0 p1 sent received))
unfolding with_sense
shown s rec cmd p0 p1 sent received k = go (ended rec cmd p0 p1 sent received)
  where
    go : Finished rec cmd p0 p1 sent received → Shown s rec cmd p0 p1 sent (command_call rec (lent cmd p0 p1 sent received))
    go (by_number n h f e) = subst (Shown s rec cmd p0 p1 sent) (sym e) (unchanged s rec cmd p0 p1 sent (result_of (refused n) rec (lent cmd p0 p1 sent received)) (nothing_caused rec cmd sent (result_of (refused n) rec (lent cmd p0 p1 sent received)) (rw (ne_eqb n 0 (λ z. omega arith)) refl) refl) refl k)
    go (by_sense z f x b w p l e) =
        subst (Shown s rec cmd p0 p1 sent) (sym e)
        (unchanged s rec cmd p0 p1 sent _ (nothing_caused rec cmd sent _ refl (ap (λ y. y.position) (back x b (place_small x p0 p1 w.cart) w.small l) ∙ p)) refl k)
    go (by_act f w q e) =
        subst (Shown s rec cmd p0 p1 sent) (sym e)
        (subst (λ (es : List Event). Turned (cond (eqb (decode_of rec).current (number s)) es []) (part s (cartridge p0 p1)) (part s (slices_left (acts rec (lent cmd p0 p1 sent received) w (operation_of (code_of cmd)) q))))
        (sym (acts_caused rec (lent cmd p0 p1 sent received) w (operation_of (code_of cmd)) q refl)) (acts_turned rec (lent cmd p0 p1 sent received) w (operation_of (code_of cmd)) q s k))

-- ---- one call

pub protect_turned : (on : Bool) (p : List ℕ) → Sound p → Turned [] p (protect_call on p).lent
unfolding protect_call happens Lawful
protect_turned on p k = go (eqb (fault_of p) 0)
  where
    go : (t : Bool) → Turned [] p (cond t (settled done (protect on p)) (settled (refused (fault_of p)) p)).lent
    go true = let x = protects on p k in record { sound = x.sound; makes = x.same_objects; lawful = tt }
    go false = record { sound = k; makes = refl; lawful = tt }

-- the partition is lent in its slot, alone in either, or not at all
turned_call : (s : Slot) (l : Lending) (c : Cartridge) (rec cmd sent received : List ℕ) → Sound (part s c)
    → Turned (events s (command l rec cmd sent received) c) (part s c) (part s (after (command l rec cmd sent received) c))
unfolding events after
turned_call slot0 together c rec cmd sent received k = shown slot0 rec cmd c.part0 c.part1 sent received k
turned_call slot1 together c rec cmd sent received k = shown slot1 rec cmd c.part0 c.part1 sent received k
turned_call slot0 (alone slot0 slot0 x) c rec cmd sent received k = shown slot0 rec cmd c.part0 x sent received k
turned_call slot0 (alone slot0 slot1 x) c rec cmd sent received k = shown slot1 rec cmd x c.part0 sent received k
turned_call slot1 (alone slot1 slot0 x) c rec cmd sent received k = shown slot0 rec cmd c.part1 x sent received k
turned_call slot1 (alone slot1 slot1 x) c rec cmd sent received k = shown slot1 rec cmd x c.part1 sent received k
turned_call slot0 (alone slot1 t x) c rec cmd sent received k = still c.part0 k
turned_call slot1 (alone slot0 t x) c rec cmd sent received k = still c.part1 k

one_call : (s : Slot) (x : Call) (c : Cartridge) → Sound (part s c) → Turned (events s x c) (part s c) (part s (after x c))
one_call s (command l rec cmd sent received) c k = turned_call s l c rec cmd sent received k
one_call s (mount l rec) c k = unfold events after in still (part s c) k
one_call slot0 (protection slot0 on) c k = unfold events after in protect_turned on c.part0 k
one_call slot1 (protection slot1 on) c k = unfold events after in protect_turned on c.part1 k
one_call slot0 (protection slot1 on) c k = unfold events after in still c.part0 k
one_call slot1 (protection slot0 on) c k = unfold events after in still c.part1 k

-- ---- a life: from any sound partition, and from a blank one

pub told : (s : Slot) (xs : List Call) (c : Cartridge) → Sound (part s c) → Turned (past s xs c) (part s c) (part s (ends xs c))
unfolding ends past
told s [] c k = still (part s c) k
told s (x ∷ xs) c k =
    let t = one_call s x c k in
    let u = told s xs (after x c) t.sound in
    record {
      sound = u.sound;
      makes = u.makes ∙ ap (happens (past s xs (after x c))) t.makes ∙ sym (happens_append (events s x c) (past s xs (after x c)) (objects (part s c)));
      lawful = lawful_append (events s x c) (past s xs (after x c)) (objects (part s c)) t.lawful (subst (Lawful (past s xs (after x c))) t.makes u.lawful);
    }

-- one life after another

pub ends_append : (xs ys : List Call) (c : Cartridge) → ends (xs ++ ys) c ≡ ends ys (ends xs c)
unfolding ends
ends_append [] ys c = refl
ends_append (x ∷ xs) ys c = ends_append xs ys (after x c)

pub past_append : (s : Slot) (xs ys : List Call) (c : Cartridge) → past s (xs ++ ys) c ≡ past s xs c ++ past s ys (ends xs c)
unfolding ends past
past_append s [] ys c = refl
past_append s (x ∷ xs) ys c =
    ap (λ (es : List Event). events s x c ++ es) (past_append s xs ys (after x c)) ∙ sym (append_assoc (events s x c) (past s xs (after x c)) (past s ys (ends xs (after x c))))

-- from any sound partition: what the events settled standing, or what stood before and they are clear of
pub stood : (s : Slot) (c : Cartridge) → sound (part s c) ≡ true → (xs : List Call) (k : ℕ) (o : Object)
    → (get_elem? (objects (part s (ends xs c))) k ≡ some o) ↔ (Stands (past s xs c) k o ⊎ ((get_elem? (objects (part s c)) k ≡ some o) × Clear k (past s xs c)))
stood s c h xs k o =
    let t = told s xs c (sound_parts (part s c) h) in
    rw t.makes (stand (past s xs c) (objects (part s c)) t.lawful k o)

pub blanked : (p : List ℕ) → MadeBlank p → Sound p × (objects p ≡ [])
unfolding blank_call first
blanked p m = go (right_length m.lent) refl m.answered m.left
  where
    go : (t : Bool) → right_length m.lent ≡ t → (settled_by (refusal_of (first ((not t, wrong_length) ∷ []))) m.lent (blank m.lent)).answer ≡ done
        → p ≡ (settled_by (refusal_of (first ((not t, wrong_length) ∷ []))) m.lent (blank m.lent)).lent → Sound p × (objects p ≡ [])
    go true e a l =
        let b = right_parts m.lent e in
        let x = blanks m.lent b.0 b.1 in
        rw l (x.sound, x.no_objects)
    go false e a l = absurd (let z : ◌≡◌ {A = ℕ} wrong_length 0 = ap (λ (y : Answer). y.refusal) a in omega arith)

pub still_sound : (s : Slot) (c : Cartridge) → MadeBlank (part s c) → (xs : List Call) → Sound (part s (ends xs c))
still_sound s c m xs = (told s xs c (blanked (part s c) m).0).sound

pub stands : (s : Slot) (c : Cartridge) → MadeBlank (part s c) → (xs : List Call) (k : ℕ) (o : Object) → (get_elem? (objects (part s (ends xs c))) k ≡ some o) ↔ Stands (past s xs c) k o
stands s c m xs k o =
    let b = blanked (part s c) m in
    let t = told s xs c b.0 in
    let e : objects (part s (ends xs c)) ≡ happens (past s xs c) [] = t.makes ∙ ap (happens (past s xs c)) b.1 in
    rw e (stand_blank (past s xs c) (subst (Lawful (past s xs c)) b.1 t.lawful) k o)
