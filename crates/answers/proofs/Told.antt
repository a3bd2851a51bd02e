-- The numbers that a call answers tell its ends apart: where two ends, each done or refused, have the same numbers, they are the same end.
-- Assumes nothing.
use Prim.Native.Nat.{ℕ, ◌≤◌}
use native.Mathlib.Omega.{arith}
use mathlib.Core.Path.{◌≡◌, refl, sym, ap, ◌∙◌}
use mathlib.Core.Logic.{◌↔◌}
use mathlib.Core.Bool.{cond}
use lib.Dec.{eqb}
use Rattle.std.specs.Prelude.{Result, Ok, Err, IsOk}
use Rattle.answers.specs.declared.Answer.{Answer}
use Rattle.answers.specs.declared.Reply.{Reply}
use Rattle.answers.specs.declared.Refusal.{Refusal}
use Rattle.answers.specs.declared.Refusal.TheVariants.{CommandShort, SentShort, ReceivedShort, RecordFault, AlreadyLoaded, UnsoundImage, WrongLength}
use Rattle.answers.specs.Answers.{number_of, answer_of, done_of}
use Rattle.answers.proofs.First.{not_both}

-- ---- a refusal, by its number

-- no refusal has number 0, which says that there is none
refused_some : (r : Refusal) → 1 ≤ number_of r
refused_some CommandShort = omega arith
refused_some SentShort = omega arith
refused_some ReceivedShort = omega arith
refused_some RecordFault = omega arith
refused_some AlreadyLoaded = omega arith
refused_some UnsoundImage = omega arith
refused_some WrongLength = omega arith

pub number_same : (r t : Refusal) → number_of r ≡ number_of t → r ≡ t
number_same r t e = sym (number_back r) ∙ ap refusal_at e ∙ number_back t
  where
    refusal_at : ℕ → Refusal
    refusal_at n =
        cond (eqb n 1) CommandShort
        (cond (eqb n 2) SentShort
        (cond (eqb n 3) ReceivedShort
        (cond (eqb n 4) RecordFault
        (cond (eqb n 5) AlreadyLoaded
        (cond (eqb n 6) UnsoundImage WrongLength)))))

    number_back : (r : Refusal) → refusal_at (number_of r) ≡ r
    number_back CommandShort = refl
    number_back SentShort = refl
    number_back ReceivedShort = refl
    number_back RecordFault = refl
    number_back AlreadyLoaded = refl
    number_back UnsoundImage = refl
    number_back WrongLength = refl

-- ---- the end of a house service, and of a command, by the four numbers

-- done has number 0, which no refusal has
not_refused : (r : Refusal) → 0 ≡ number_of r → ⊥
not_refused r e = let h : 1 ≤ number_of r = refused_some r in omega arith

pub done_same : (a b : Result (Unit {0}) Refusal) → done_of a ≡ done_of b → a ≡ b
done_same (Ok u) (Ok v) e = refl
done_same (Ok u) (Err r) e = absurd (not_refused r (ap (λ (x : Answer). x.refusal) e))
done_same (Err r) (Ok u) e = absurd (not_refused r (sym (ap (λ (x : Answer). x.refusal) e)))
done_same (Err r) (Err t) e = ap Err (number_same r t (ap (λ (x : Answer). x.refusal) e))

pub answer_same : (a b : Result Reply Refusal) → answer_of a ≡ answer_of b → a ≡ b
answer_same (Ok r) (Ok t) e = ap (λ (x : Answer). Ok (record { status = x.status; carried = x.carried; crossed = x.crossed })) e
answer_same (Ok r) (Err t) e = absurd (not_refused t (ap (λ (x : Answer). x.refusal) e))
answer_same (Err r) (Ok t) e = absurd (not_refused r (sym (ap (λ (x : Answer). x.refusal) e)))
answer_same (Err r) (Err t) e = ap Err (number_same r t (ap (λ (x : Answer). x.refusal) e))

-- so a service gives a refusal exactly if its answer has the refusal's number
pub done_refused : (a : Result (Unit {0}) Refusal) (r : Refusal) → ((done_of a).refusal ≡ number_of r) ↔ (a ≡ Err r)
done_refused a r = (go a, (λ e. ap (λ (x : Result (Unit {0}) Refusal). (done_of x).refusal) e))
  where
    go : (a : Result (Unit {0}) Refusal) → (done_of a).refusal ≡ number_of r → a ≡ Err r
    go (Ok u) e = absurd (not_refused r e)
    go (Err t) e = ap Err (number_same t r e)

pub answer_refused : (a : Result Reply Refusal) (r : Refusal) → ((answer_of a).refusal ≡ number_of r) ↔ (a ≡ Err r)
answer_refused a r = (go a, (λ e. ap (λ (x : Result Reply Refusal). (answer_of x).refusal) e))
  where
    go : (a : Result Reply Refusal) → (answer_of a).refusal ≡ number_of r → a ≡ Err r
    go (Ok u) e = absurd (not_refused r e)
    go (Err t) e = ap Err (number_same t r e)

-- and none exactly if its answer has the number 0
pub done_ok : (a : Result (Unit {0}) Refusal) → ((done_of a).refusal ≡ 0) ↔ IsOk a
done_ok (Ok u) = ((λ e. refl), (λ h. refl))
done_ok (Err r) = ((λ e. absurd (not_refused r (sym e))), (λ h. absurd (not_both (sym h))))

pub answer_ok : (a : Result Reply Refusal) → ((answer_of a).refusal ≡ 0) ↔ IsOk a
answer_ok (Ok r) = ((λ e. refl), (λ h. refl))
answer_ok (Err r) = ((λ e. absurd (not_refused r (sym e))), (λ h. absurd (not_both (sym h))))
