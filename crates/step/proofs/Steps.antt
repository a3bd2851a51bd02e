-- The step: what its act asks for, and how each end of it is the definition's.
-- Assumes nothing.
use Prim.Native.Nat.{ℕ}
use mathlib.Core.Path.{◌≡◌, refl, sym, ap, ◌∙◌}
use mathlib.Core.Bool.{Bool, true, false, cond, ◌&&◌}
use mathlib.Core.Option.{Option, none, some}
use mathlib.Core.List.{List}
use borrow.Author.Tests.{ne_eqb}
use lib.Dec.{eqb}
use lib.ListN.{length}
use Rattle.std.specs.Prelude.{Ok}
use Rattle.answers.specs.declared.Answer.{Answer}
use Rattle.answers.specs.Answers.{first}
use Rattle.record.specs.declared.drive.Drive.{Drive}
use Rattle.record.specs.Record.{well_formed}
use Rattle.codes.specs.declared.operation.Operation.{Operation}
use Rattle.codes.specs.Codes.{code_of, too_short, operation_of}
use Rattle.deeds.specs.declared.deeds.Left.{Left}
use Rattle.commands.specs.Stop.{Stop}
use Rattle.commands.specs.Kinds.{needs_cartridge, writes}
use Rattle.commands.specs.Tests.{tests}
use Rattle.commands.specs.Act.{Seen}
use Rattle.commands.specs.Step.{acted}
use Rattle.commands.specs.Call.{lent, partition, looks_at, seen_of, nothing, seen, inserted, outcome, laid_out, applied, step_of}
use Rattle.deeds.specs.Left.{protected_only}
use Rattle.commands.proofs.Classes.{unchanged}
use Rattle.commands.proofs.Ends.{Tests, stopped_at, step_stops, step_acts}
use Rattle.step.specs.declared.stepping.Served.{Served}
use Rattle.step.specs.Served.{answer_in, outcome_of, served_of, guarded_now}
use Rattle.acting.specs.Ready.{Free, Ready, ReadyApart}
use Rattle.acting.proofs.Asked.{pass}
use Rattle.acting.proofs.Acts.{Acts, Apart, no_writing}
use Rattle.commands.proofs.Faultless.{small_block}
use Rattle.step.proofs.Looked.{sound_looked, place_looked, seen_loaded, seen_unloaded, guarded_alike}

-- ---- the act

none_needed : (t : Bool) (n : ℕ) → t && eqb n 0 ≡ false → n ≡ 0 → t ≡ false
none_needed true n e h = rw h at e
none_needed false n e h = refl

pub outcomes : {a a' : Answer} {d d' : Drive} {p p' q q' r r' : List ℕ} (cmd sent : List ℕ) → a ≡ a' → d ≡ d' → p ≡ p' → q ≡ q' → r ≡ r' → outcome a d (lent cmd p q sent r) ≡ outcome a' d' (lent cmd p' q' sent r')
outcomes {a} {a'} {d} {d'} {p} {p'} {q} {q'} {r} {r'} cmd sent ea ed ep eq er = λ i. outcome (ea i) (ed i) (lent cmd (ep i) (eq i) sent (er i))

either_way : (t : Bool) (p q : List ℕ) → p ≡ q → p ≡ cond t p q
either_way true p q e = refl
either_way false p q e = e

other_way : (t : Bool) (p q : List ℕ) → p ≡ q → p ≡ cond t q p
other_way true p q e = e
other_way false p q e = refl

module _ (o : Operation) (d : Drive) (cmd p0 p1 sent b : List ℕ) (w : well_formed d ≡ true) (i : inserted d p0 p1 ≡ true) (f : Free o d cmd sent (length b) (seen o d (lent cmd p0 p1 sent b))) where
  needs_none : d.loaded ≡ 0 → needs_cartridge o ≡ false
  needs_none h = none_needed (needs_cartridge o) d.loaded (pass f).ready h

  -- the same command, with what it sees said otherwise
  seeing : (v : Seen) → seen o d (lent cmd p0 p1 sent b) ≡ v → Free o d cmd sent (length b) v
  seeing v e = rw e at f

  pub asks_unloaded : d.loaded ≡ 0 → ReadyApart o d cmd sent (length b) false
  asks_unloaded h = record { free = seeing (protected_only false) (seen_unloaded o d (lent cmd p0 p1 sent b) w h); apart = needs_none h }

  module _ (x : Left) (r : Served) (er : r ≡ served_of x) (b' : List ℕ) where
    left : {y : Left} → x ≡ y → r ≡ served_of y
    left e = er ∙ ap served_of e

    pub acted_apart : d.loaded ≡ 0 → Apart o d cmd sent false b b' x → outcome_of d (Ok r) (lent cmd p0 p1 sent b') ≡ applied (acted o d cmd sent (seen o d (lent cmd p0 p1 sent b))) (looks_at o d cmd) (lent cmd p0 p1 sent b)
    unfolding applied acted
    acted_apart h y =
        rw (seen_unloaded o d (lent cmd p0 p1 sent b) w h)
        (outcomes cmd sent (ap answer_in (left y.0)) (ap (λ (z : Served). z.drive) (left y.0))
        (either_way (eqb (looks_at o d cmd) 1) p0 (laid_out (acted o d cmd sent nothing) p0) (sym (unchanged o (no_writing o (needs_none h)) d cmd sent nothing p0)))
        (other_way (eqb (looks_at o d cmd) 1) p1 (laid_out (acted o d cmd sent nothing) p1) (sym (unchanged o (no_writing o (needs_none h)) d cmd sent nothing p1)))
        y.1)

    module _ (z : d.loaded ≡ 0 → ⊥) (k : ℕ) (ek : k ≡ looks_at o d cmd) where
      seen_at : (s : List ℕ) → partition (looks_at o d cmd) p0 p1 ≡ s → seen o d (lent cmd p0 p1 sent b) ≡ seen_of s
      seen_at s es = seen_loaded d p0 p1 w i z o cmd (pass f).there sent b ∙ ap seen_of es

      pub acted_second : k ≡ 1 → (t : List ℕ) → Acts o d cmd sent (seen_of p1) p1 t b b' x → outcome_of d (Ok r) (lent cmd p0 t sent b') ≡ applied (acted o d cmd sent (seen o d (lent cmd p0 p1 sent b))) (looks_at o d cmd) (lent cmd p0 p1 sent b)
      unfolding applied acted
      acted_second h t y =
          rw (seen_at p1 (rw (← ek, h) refl), ← ek, h)
          (outcomes cmd sent (ap answer_in (left y.0)) (ap (λ (z : Served). z.drive) (left y.0)) refl y.1 y.2)

      pub acted_first : (k ≡ 1 → ⊥) → (t : List ℕ) → Acts o d cmd sent (seen_of p0) p0 t b b' x → outcome_of d (Ok r) (lent cmd t p1 sent b') ≡ applied (acted o d cmd sent (seen o d (lent cmd p0 p1 sent b))) (looks_at o d cmd) (lent cmd p0 p1 sent b)
      unfolding applied acted
      acted_first h t y =
          rw (seen_at p0 (rw (← ek, ne_eqb k 1 h) refl), ← ek, ne_eqb k 1 h)
          (outcomes cmd sent (ap answer_in (left y.0)) (ap (λ (z : Served). z.drive) (left y.0)) y.1 refl y.2)

  module _ (z : d.loaded ≡ 0 → ⊥) (k : ℕ) (ek : k ≡ looks_at o d cmd) where
    asks_at : (s : List ℕ) → partition (looks_at o d cmd) p0 p1 ≡ s → Ready o d cmd sent (length b) s
    asks_at s es =
        let n = (pass f).there in
        record {
          free = seeing (seen_of s) (seen_loaded d p0 p1 w i z o cmd n sent b ∙ ap seen_of es);
          whole = rw es at (sound_looked d p0 p1 w i z o cmd n);
          placed = rw es at (place_looked d p0 p1 w i z o cmd n);
          small = small_block d w;
        }

    pub asks_second : k ≡ 1 → Ready o d cmd sent (length b) p1
    asks_second h = asks_at p1 (rw (← ek, h) refl)

    pub asks_first : (k ≡ 1 → ⊥) → Ready o d cmd sent (length b) p0
    asks_first h = asks_at p0 (rw (← ek, ne_eqb k 1 h) refl)

-- ---- the end of a step

module _ (o : Operation) (d : Drive) (cmd p0 p1 sent b : List ℕ) (eo : o ≡ operation_of (code_of cmd)) (g : Bool) (eg : g ≡ guarded_now d p0 p1) (s : Option Stop)
    (es : (v : Seen) → (writes o ≡ true → v.guarded ≡ g) → s ≡ first (tests o d cmd v sent (length b))) where
  -- the tests found what the definition's find
  found : first (tests o d cmd (seen o d (lent cmd p0 p1 sent b)) sent (length b)) ≡ s
  found = sym (es (seen o d (lent cmd p0 p1 sent b)) (λ t. guarded_alike o d (lent cmd p0 p1 sent b) t ∙ sym eg))

  named : first (Tests d (lent cmd p0 p1 sent b)) ≡ s
  named = rw (← eo) found

  pub stops : (t : Stop) → s ≡ some t → stopped_at t d (lent cmd p0 p1 sent b) ≡ step_of d (lent cmd p0 p1 sent b)
  stops t e = sym (step_stops d (lent cmd p0 p1 sent b) t (named ∙ e))

  pub acts : s ≡ none → applied (acted o d cmd sent (seen o d (lent cmd p0 p1 sent b))) (looks_at o d cmd) (lent cmd p0 p1 sent b) ≡ step_of d (lent cmd p0 p1 sent b)
  acts e = rw eo (sym (step_acts d (lent cmd p0 p1 sent b) (named ∙ e)))

  pub free : too_short cmd ≡ false → s ≡ none → Free o d cmd sent (length b) (seen o d (lent cmd p0 p1 sent b))
  free l e = record { long = l; coded = eo; unstopped = found ∙ e }
