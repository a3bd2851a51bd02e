-- What a command knows when no test has stopped it: each row of the list is false.
-- Assumes nothing.
use Prim.Native.Nat.{ℕ, ◌≤◌}
use native.Mathlib.Omega.{arith}
use mathlib.Core.Path.{◌≡◌, refl}
use mathlib.Core.Bool.{Bool, true, false, cond, not, ◌&&◌, ◌||◌}
use mathlib.Core.Option.{none, some}
use mathlib.Core.List.{List, [], ◌∷◌}
use borrow.Author.Tests.{ltb-false, not-false}
use lib.Dec.{eqb, leb}
use lib.ListN.{length}
use Rattle.record.specs.declared.drive.Drive.{Drive}
use Rattle.codes.specs.declared.operation.Operation.{Operation}
use Rattle.codes.specs.declared.operation.Operation.TheVariants.{ModeSelect}
use Rattle.codes.specs.Codes.{masks_hold}
use Rattle.codes.specs.Fields.{allocation_of, changes_partition}
use Rattle.commands.specs.Parameters.{list_length_known}
use Rattle.commands.specs.Stop.{Stop}
use Rattle.answers.specs.Answers.{first}
use Rattle.commands.specs.Kinds.{among, is_served, needs_cartridge, locates}
use Rattle.commands.specs.Act.{Seen, named_partition}
use Rattle.commands.specs.Tests.{tests, taken, needed, field_error}

-- none of the tests holds
abbrev pub AllFalse : List (Bool × Stop) → Type 0
AllFalse [] = Unit {0}
AllFalse (t ∷ ts) = (t.0 ≡ false) × AllFalse ts

pub all_false : (ts : List (Bool × Stop)) → first ts ≡ none → AllFalse ts
unfolding first
all_false [] e = tt
all_false (t ∷ ts) e = go t.0 refl e (all_false ts)
  where
    go : (b : Bool) → t.0 ≡ b → cond b (some t.1) (first ts) ≡ none → (first ts ≡ none → AllFalse ts) → AllFalse (t ∷ ts)
    go true q e ih = absurd (let z : ◌≡◌ {A = ℕ} 0 1 = cc in omega arith)
    go false q e ih = (q, ih e)

either_false : (a b : Bool) → (a || b) ≡ false → b ≡ false
either_false true b e = absurd (let z : ◌≡◌ {A = ℕ} 0 1 = cc in omega arith)
either_false false b e = e

pub record Passed (o : Operation) (d : Drive) (cmd : List ℕ) (v : Seen) (sent : List ℕ) (room : ℕ) : Type 0 where
  pub served : is_served o ≡ true
  pub fields : field_error o d cmd ≡ false
  pub list : among (ModeSelect ∷ []) o && not (list_length_known (allocation_of cmd)) ≡ false
  pub ready : needs_cartridge o && eqb d.loaded 0 ≡ false
  pub there : locates o && changes_partition cmd && leb d.partitions (named_partition o cmd) ≡ false
  pub sends : taken o d cmd ≤ length sent
  pub receives : needed o d cmd ≤ room

pub passed : (o : Operation) (d : Drive) (cmd : List ℕ) (v : Seen) (sent : List ℕ) (room : ℕ) → first (tests o d cmd v sent room) ≡ none → Passed o d cmd v sent room
unfolding tests
passed o d cmd v sent room e =
    let f = all_false (tests o d cmd v sent room) e in
    record {
      served = not-false (is_served o) f.1.0;
      fields = either_false (not (masks_hold cmd)) (field_error o d cmd) f.1.1.0;
      list = f.1.1.1.0;
      ready = f.1.1.1.1.0;
      there = f.1.1.1.1.1.0;
      sends = ltb-false (length sent) (taken o d cmd) f.1.1.1.1.1.1.1.0;
      receives = ltb-false room (needed o d cmd) f.1.1.1.1.1.1.1.1.0;
    }
