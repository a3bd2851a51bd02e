-- Determined.antt speaks of the answer, four numbers. Here the same of the services in Rattle that give a `Result`: since the answer tells the ends of a
-- call apart, their promises determine what they give too, `Ok` with what it holds, or `Err` with the refusal.
-- Assumes nothing.
use Prim.Native.Nat.{ℕ}
use mathlib.Core.Path.{◌≡◌, sym, ap, ◌∙◌}
use mathlib.Core.Bool.{Bool}
use mathlib.Core.List.{List}
use Rattle.std.specs.Prelude.{Result}
use Rattle.answers.specs.declared.Reply.{Reply}
use Rattle.answers.specs.declared.Refusal.{Refusal}
use Rattle.answers.specs.Answers.{settled, answer_of, done_of}
use Rattle.answers.proofs.Told.{done_same, answer_same}
use Rattle.record.specs.declared.drive.Drive.{Drive}
use Rattle.house.specs.Images.{blank_call, protect_call}
use Rattle.house.specs.Mount.{fresh_call, mount_call}
use Rattle.commands.specs.Call.{Lent, Outcome, outcome, result_of, drive_call, command_call}
use Rattle.exact.proofs.Determined.{fresh_determined, blank_determined, mount_determined, protect_determined, command_determined}

-- ---- the house services

pub fresh_result_determined : (rec : List ℕ) (a b : Result (Unit {0}) Refusal) (s t : List ℕ) → settled (done_of a) s ≡ fresh_call rec → settled (done_of b) t ≡ fresh_call rec → (a ≡ b) × (s ≡ t)
fresh_result_determined rec a b s t e f = let h = fresh_determined rec (done_of a) (done_of b) s t e f in (done_same a b h.0, h.1)

pub blank_result_determined : (image : List ℕ) (a b : Result (Unit {0}) Refusal) (s t : List ℕ) → settled (done_of a) s ≡ blank_call image → settled (done_of b) t ≡ blank_call image → (a ≡ b) × (s ≡ t)
blank_result_determined image a b s t e f = let h = blank_determined image (done_of a) (done_of b) s t e f in (done_same a b h.0, h.1)

pub mount_result_determined : (rec p0 p1 : List ℕ) (a b : Result (Unit {0}) Refusal) (s t : List ℕ) → settled (done_of a) s ≡ mount_call rec p0 p1 → settled (done_of b) t ≡ mount_call rec p0 p1 → (a ≡ b) × (s ≡ t)
mount_result_determined rec p0 p1 a b s t e f = let h = mount_determined rec p0 p1 (done_of a) (done_of b) s t e f in (done_same a b h.0, h.1)

pub protect_result_determined : (on : Bool) (image : List ℕ) (a b : Result (Unit {0}) Refusal) (s t : List ℕ) → settled (done_of a) s ≡ protect_call on image → settled (done_of b) t ≡ protect_call on image → (a ≡ b) × (s ≡ t)
protect_result_determined on image a b s t e f = let h = protect_determined on image (done_of a) (done_of b) s t e f in (done_same a b h.0, h.1)

-- ---- the command: on the bytes of the record, and on a drive by value (`drive::serve`)

pub command_result_determined : (rec : List ℕ) (x : Lent) (a b : Result Reply Refusal) (r s : List ℕ) (y z : Lent) → result_of (answer_of a) r y ≡ command_call rec x → result_of (answer_of b) s z ≡ command_call rec x → (a ≡ b) × (r ≡ s) × (y ≡ z)
command_result_determined rec x a b r s y z e f = let h = command_determined rec x (answer_of a) (answer_of b) r s y z e f in (answer_same a b h.0, h.1, h.2)

pub serve_result_determined : (d : Drive) (x : Lent) (a b : Result Reply Refusal) (g k : Drive) (y z : Lent) → outcome (answer_of a) g y ≡ drive_call d x → outcome (answer_of b) k z ≡ drive_call d x → (a ≡ b) × (g ≡ k) × (y ≡ z)
serve_result_determined d x a b g k y z e f =
    let p = e ∙ sym f in
    (answer_same a b (ap (λ (o : Outcome). o.answer) p), ap (λ (o : Outcome). o.drive) p, ap (λ (o : Outcome). o.lent) p)
