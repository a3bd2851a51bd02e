-- The operation code of a served command is its number, so a command block that is not too short has the length of its command.
-- Assumes nothing.
use mathlib.Core.Path.{◌≡◌, refl, sym, ap, ◌∙◌, subst}
use mathlib.Core.Bool.{Bool, true, false, cond}
use mathlib.Core.List.{List, [], ◌∷◌}
use Prim.Native.Nat.{ℕ, ◌≤◌}
use native.Mathlib.Omega.{arith}
use borrow.Author.Tests.{leb-true}
use lib.Dec.{eqb, leb}
use lib.ListN.{length}
use Rattle.codes.specs.declared.operation.Operation.{Operation}
use Rattle.codes.specs.declared.operation.Operation.TheVariants.{Locate, Locate16}
use Rattle.codes.specs.Codes.{length_of, code_of, too_short, number_of, Row, rows, find, row_of, operation_of}
use Rattle.codes.proofs.Rules.{long_enough, Found, here, nowhere, found}
use Rattle.commands.specs.Kinds.{is_served, locates}
use Rattle.commands.proofs.Classes.{Locating, by_ten, by_sixteen, which_locate}

-- ---- a row is found by the number of its operation

pub code_number : (op : ℕ) → is_served (operation_of op) ≡ true → number_of (operation_of op) ≡ op
code_number op s = by (row_of op) (found rows op) s
  where
    by : (r : Row) → Found op r → is_served r.operation ≡ true → number_of r.operation ≡ op
    by r (here e) s = e
    by r (nowhere e) s = absurd (let z : false ≡ true = sym (ap (λ (x : Row). is_served x.operation) e) ∙ s in let y : ◌≡◌ {A = ℕ} 0 1 = cc in omega arith)

-- ---- so its length is known

-- a served command has six bytes at least: computed over the rows
has_six : Row → Bool
has_six r = leb 6 (length_of (number_of r.operation))

all_six : List Row → Bool
all_six [] = true
all_six (r ∷ rs) = cond (has_six r) (all_six rs) false

each_six : all_six rows ≡ true
unfolding all_six has_six
each_six = refl

found_six : (rs : List Row) (op : ℕ) → all_six rs ≡ true → is_served (find rs op).operation ≡ true → has_six (find rs op) ≡ true
unfolding all_six
found_six [] op h s = absurd (let z : ◌≡◌ {A = ℕ} 0 1 = cc in omega arith)
found_six (r ∷ rs) op h s = go (eqb (number_of r.operation) op) (has_six r) refl h s (found_six rs op)
  where
    go : (t b : Bool) → has_six r ≡ b → cond b (all_six rs) false ≡ true → is_served (cond t r (find rs op)).operation ≡ true → (all_six rs ≡ true → is_served (find rs op).operation ≡ true → has_six (find rs op) ≡ true) → has_six (cond t r (find rs op)) ≡ true
    go t false e h s f = absurd (let z : ◌≡◌ {A = ℕ} 0 1 = cc in omega arith)
    go true true e h s f = e
    go false true e h s f = f h s

six : (op : ℕ) → is_served (operation_of op) ≡ true → 6 ≤ length_of (number_of (operation_of op))
unfolding has_six
six op s = leb-true 6 (length_of (number_of (operation_of op))) (found_six rows op each_six s)

long : (cmd : List ℕ) → too_short cmd ≡ false → is_served (operation_of (code_of cmd)) ≡ true → length_of (number_of (operation_of (code_of cmd))) ≤ length cmd
long cmd h s = subst (λ (n : ℕ). length_of n ≤ length cmd) (sym (code_number (code_of cmd) s)) (long_enough cmd h).1

pub served_long : (cmd : List ℕ) → too_short cmd ≡ false → is_served (operation_of (code_of cmd)) ≡ true → 6 ≤ length cmd
served_long cmd h s = omega (arith, six (code_of cmd) s, long cmd h s)

-- and that of the command o, as many bytes as it has
pub long_as : (o : Operation) (cmd : List ℕ) → too_short cmd ≡ false → operation_of (code_of cmd) ≡ o → is_served o ≡ true → length_of (number_of o) ≤ length cmd
long_as o cmd h e s = subst (λ (k : Operation). length_of (number_of k) ≤ length cmd) e (long cmd h (ap is_served e ∙ s))

-- LOCATE of either length has ten at least
pub locate_long_lem : (cmd : List ℕ) → too_short cmd ≡ false → locates (operation_of (code_of cmd)) ≡ true → 10 ≤ length cmd
locate_long_lem cmd h l = go (which_locate (operation_of (code_of cmd)) l)
  where
    go : Locating (operation_of (code_of cmd)) → 10 ≤ length cmd
    go (by_ten e) = long_as Locate cmd h e refl
    go (by_sixteen e) = let w = long_as Locate16 cmd h e refl in omega arith
