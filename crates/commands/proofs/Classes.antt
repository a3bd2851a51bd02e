-- The three operations that write a partition, and all others: these offer nothing, cause no event, and leave every partition as it was; and the four that need no
-- cartridge, and the two that locate. Three classifications, for every proof that goes through the operations.
-- Assumes nothing.
use Prim.Native.Nat.{ℕ}
use native.Mathlib.Omega.{arith}
use mathlib.Core.Path.{◌≡◌, refl, sym, ap, ◌∙◌}
use mathlib.Core.Bool.{Bool, true, false, cond, not}
use mathlib.Core.List.{List, []}
use borrow.Author.Tests.{eqb-true}
use lib.Dec.{eqb}
use Rattle.changes.specs.Changes.{occurs}
use Rattle.record.specs.declared.drive.Drive.{Drive}
use Rattle.codes.specs.declared.operation.Operation.{Operation}
use Rattle.codes.specs.declared.operation.Operation.TheVariants.{RequestSense, ReadBlockLimits, Write, WriteFilemarks, ModeSelect, Erase, ModeSense, Locate, Locate16}
use Rattle.codes.specs.Codes.{number_of, operation_of}
use Rattle.codes.proofs.Rules.{operation_number}
use Rattle.objects.specs.Transfer.{fitting, put_from}
use Rattle.commands.specs.Kinds.{needs_cartridge, erases, locates, writes}
use Rattle.commands.specs.Act.{Seen, offered, goes_down, events_of}
use Rattle.commands.specs.Step.{acted}
use Rattle.commands.specs.Call.{laid_out}

-- an operation is known by its number
pub named : (o x : Operation) (n : ℕ) → n ≡ number_of o → n ≡ number_of x → o ≡ x
named o x n e h = sym (operation_number o) ∙ ap operation_of (sym e ∙ h) ∙ operation_number x

pub data Class (o : Operation) : Type 0 where
  blocks : o ≡ Write → Class o
  filemarks : o ≡ WriteFilemarks → Class o
  erasing : o ≡ Erase → Class o
  quiet : writes o ≡ false → Class o

pub classify : (o : Operation) → Class o
classify o = go (eqb (number_of o) (number_of Write)) (eqb (number_of o) (number_of WriteFilemarks)) (eqb (number_of o) (number_of Erase)) refl refl refl
  where
    is : (x : Operation) → eqb (number_of o) (number_of x) ≡ true → o ≡ x
    is x e = named o x (number_of o) refl (eqb-true (number_of o) (number_of x) e)

    go : (a b c : Bool) → eqb (number_of o) (number_of Write) ≡ a → eqb (number_of o) (number_of WriteFilemarks) ≡ b → eqb (number_of o) (number_of Erase) ≡ c → Class o
    go true b c ea eb ec = blocks (is Write ea)
    go false true c ea eb ec = filemarks (is WriteFilemarks eb)
    go false false true ea eb ec = erasing (is Erase ec)
    go false false false ea eb ec = quiet (rw (ea, eb, ec) refl)

-- ---- of those that do not write

none_of : (a b c : Bool) → cond a true (cond b true (cond c true false)) ≡ false → (a ≡ false) × (b ≡ false) × (c ≡ false)
none_of false false false h = (refl, refl, refl)
none_of true b c h = absurd (let z : ◌≡◌ {A = ℕ} 0 1 = cc in omega arith)
none_of false true c h = absurd (let z : ◌≡◌ {A = ℕ} 0 1 = cc in omega arith)
none_of false false true h = absurd (let z : ◌≡◌ {A = ℕ} 0 1 = cc in omega arith)

module _ (o : Operation) (h : writes o ≡ false) where
  unwritten : (eqb (number_of o) (number_of Write) ≡ false) × (eqb (number_of o) (number_of WriteFilemarks) ≡ false) × (eqb (number_of o) (number_of Erase) ≡ false)
  unwritten = none_of (eqb (number_of o) (number_of Write)) (eqb (number_of o) (number_of WriteFilemarks)) (eqb (number_of o) (number_of Erase)) h

  pub no_erase : erases o ≡ false
  no_erase = rw unwritten.2 refl

  module _ (d : Drive) (cmd sent : List ℕ) where
    pub no_offers : offered o d cmd sent ≡ []
    unfolding offered
    no_offers = rw (unwritten.0, unwritten.1) refl

    pub no_events : (v : Seen) → events_of o d cmd sent v ≡ []
    unfolding events_of goes_down fitting put_from
    no_events v = rw (no_erase, no_offers) refl

    pub unchanged : (v : Seen) (p : List ℕ) → laid_out (acted o d cmd sent v) p ≡ p
    unfolding laid_out acted occurs
    unchanged v p = rw (no_erase, no_events v) refl

-- one that writes does not locate
pub not_locate : (o : Operation) → writes o ≡ true → locates o ≡ false
not_locate o h = go (classify o) h
  where
    go : Class o → writes o ≡ true → locates o ≡ false
    go (blocks e) h = rw e refl
    go (filemarks e) h = rw e refl
    go (erasing e) h = rw e refl
    go (quiet q) h = absurd (let x : true ≡ false = sym h ∙ q in let z : ◌≡◌ {A = ℕ} 0 1 = cc in omega arith)

-- ---- LOCATE, of either length

pub data Locating (o : Operation) : Type 0 where
  by_ten : o ≡ Locate → Locating o
  by_sixteen : o ≡ Locate16 → Locating o

pub which_locate : (o : Operation) → locates o ≡ true → Locating o
which_locate o h = go (eqb (number_of o) (number_of Locate)) (eqb (number_of o) (number_of Locate16)) refl refl h
  where
    is : (x : Operation) → eqb (number_of o) (number_of x) ≡ true → o ≡ x
    is x e = named o x (number_of o) refl (eqb-true (number_of o) (number_of x) e)

    go : (a b : Bool) → eqb (number_of o) (number_of Locate) ≡ a → eqb (number_of o) (number_of Locate16) ≡ b → cond a true (cond b true false) ≡ true → Locating o
    go true b ea eb h = by_ten (is Locate ea)
    go false true ea eb h = by_sixteen (is Locate16 eb)
    go false false ea eb h = absurd (let z : ◌≡◌ {A = ℕ} 0 1 = cc in omega arith)

-- ---- the four that need no cartridge

pub data NoCartridge (o : Operation) : Type 0 where
  asks_sense : o ≡ RequestSense → NoCartridge o
  asks_limits : o ≡ ReadBlockLimits → NoCartridge o
  selects : o ≡ ModeSelect → NoCartridge o
  asks_mode : o ≡ ModeSense → NoCartridge o

pub which_apart : (o : Operation) → needs_cartridge o ≡ false → NoCartridge o
which_apart o h = go (eqb (number_of o) (number_of RequestSense)) (eqb (number_of o) (number_of ReadBlockLimits)) (eqb (number_of o) (number_of ModeSelect)) (eqb (number_of o) (number_of ModeSense)) refl refl refl refl h
  where
    is : (x : Operation) → eqb (number_of o) (number_of x) ≡ true → o ≡ x
    is x e = named o x (number_of o) refl (eqb-true (number_of o) (number_of x) e)

    go : (a b c d : Bool) → eqb (number_of o) (number_of RequestSense) ≡ a → eqb (number_of o) (number_of ReadBlockLimits) ≡ b → eqb (number_of o) (number_of ModeSelect) ≡ c → eqb (number_of o) (number_of ModeSense) ≡ d
        → not (cond a true (cond b true (cond c true (cond d true false)))) ≡ false → NoCartridge o
    go true b c d ea eb ec ed h = asks_sense (is RequestSense ea)
    go false true c d ea eb ec ed h = asks_limits (is ReadBlockLimits eb)
    go false false true d ea eb ec ed h = selects (is ModeSelect ec)
    go false false false true ea eb ec ed h = asks_mode (is ModeSense ed)
    go false false false false ea eb ec ed h = absurd (let z : ◌≡◌ {A = ℕ} 0 1 = cc in omega arith)
