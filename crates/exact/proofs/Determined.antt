-- Each promise determines the whole outcome: two that satisfy it, for the same inputs, have the same answer, and leave every lent slice the same.
-- Assumes nothing.
use Prim.Native.Nat.{ℕ}
use mathlib.Core.Path.{◌≡◌, sym, ap, ◌∙◌}
use mathlib.Core.Bool.{Bool}
use mathlib.Core.List.{List}
use Rattle.answers.specs.declared.Answer.{Answer}
use Rattle.answers.specs.Answers.{Settled, settled}
use Rattle.house.specs.Images.{blank_call, protect_call}
use Rattle.views.specs.Views.{view_of}
use Rattle.image.specs.Parts.{shown, place_of}
use Rattle.house.specs.Mount.{fresh_call, mount_call}
use Rattle.commands.specs.Call.{Lent, Result, result_of, command_call}
use Rattle.answers.specs.Answers.{numbered}
use Rattle.views.specs.Views.{view_number}
use Rattle.commands.specs.Call.{Returned, numbered_result}
use Rattle.views.specs.Views.{chosen, chosen_place}

-- ---- the services in Rattle

-- of a service that may alter one slice
left_same : (o : Settled) (a b : Answer) (s t : List ℕ) → settled a s ≡ o → settled b t ≡ o → (a ≡ b) × (s ≡ t)
left_same o a b s t e f = let p = e ∙ sym f in (ap (λ (x : Settled). x.answer) p, ap (λ (x : Settled). x.lent) p)

pub fresh_determined : (rec : List ℕ) (a b : Answer) (s t : List ℕ) → settled a s ≡ fresh_call rec → settled b t ≡ fresh_call rec → (a ≡ b) × (s ≡ t)
fresh_determined rec = left_same (fresh_call rec)

pub blank_determined : (image : List ℕ) (a b : Answer) (s t : List ℕ) → settled a s ≡ blank_call image → settled b t ≡ blank_call image → (a ≡ b) × (s ≡ t)
blank_determined image = left_same (blank_call image)

pub mount_determined : (rec p0 p1 : List ℕ) (a b : Answer) (s t : List ℕ) → settled a s ≡ mount_call rec p0 p1 → settled b t ≡ mount_call rec p0 p1 → (a ≡ b) × (s ≡ t)
mount_determined rec p0 p1 = left_same (mount_call rec p0 p1)

pub protect_determined : (on : Bool) (image : List ℕ) (a b : Answer) (s t : List ℕ) → settled a s ≡ protect_call on image → settled b t ≡ protect_call on image → (a ≡ b) × (s ≡ t)
protect_determined on image = left_same (protect_call on image)

-- the view: the part's bytes, and its place in memory; it alters no slice
pub view_determined : (p0 p1 : List ℕ) (q0 q1 : ℕ × ℕ) (k i : ℕ) (s t : List ℕ) (q r : ℕ × ℕ)
    → (s ≡ shown (chosen p0 p1 k) (view_of p0 p1 k i)) × (q ≡ place_of (chosen_place q0 q1 k) (view_of p0 p1 k i))
    → (t ≡ shown (chosen p0 p1 k) (view_of p0 p1 k i)) × (r ≡ place_of (chosen_place q0 q1 k) (view_of p0 p1 k i))
    → (s ≡ t) × (q ≡ r)
view_determined p0 p1 q0 q1 k i s t q r e f = (e.0 ∙ sym f.0, e.1 ∙ sym f.1)

-- the command: answer, record, and every slice, the partitions and the receiving buffer among them
pub command_determined : (rec : List ℕ) (x : Lent) (a b : Answer) (r s : List ℕ) (y z : Lent) → result_of a r y ≡ command_call rec x → result_of b s z ≡ command_call rec x → (a ≡ b) × (r ≡ s) × (y ≡ z)
command_determined rec x a b r s y z e f = let p = e ∙ sym f in (ap (λ (o : Result). o.answer) p, ap (λ (o : Result). o.rec) p, ap (λ (o : Result). o.lent) p)

-- ---- the entry points for C: the number returned in place of the answer

pub numbered_determined : (o : Settled) (n m : ℕ) (s t : List ℕ) → (n, s) ≡ numbered o → (m, t) ≡ numbered o → (n ≡ m) × (s ≡ t)
numbered_determined o n m s t e f = let p = e ∙ sym f in (ap (λ (x : ℕ × List ℕ). x.0) p, ap (λ (x : ℕ × List ℕ). x.1) p)

pub view_number_determined : (p0 p1 : List ℕ) (k i n m : ℕ) → n ≡ view_number p0 p1 k i → m ≡ view_number p0 p1 k i → n ≡ m
view_number_determined p0 p1 k i n m e f = e ∙ sym f

pub returned_determined : (o : Result) (x y : Returned) → x ≡ numbered_result o → y ≡ numbered_result o → x ≡ y
returned_determined o x y e f = e ∙ sym f
