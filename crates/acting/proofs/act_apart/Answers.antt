-- The command by its arm, each as its own code says; the last arm cannot be.
-- Assumes nothing.
use Prim.Native.Nat.{ℕ}
use native.Mathlib.Omega.{arith}
use mathlib.Core.Path.{◌≡◌, sym, ◌∙◌}
use mathlib.Core.Bool.{true, false}
use Rattle.commands.specs.Act.{act, reply_of}
use Rattle.acting.proofs.Acts.{unlaid, selecting_none}
use Rattle.acting.proofs.Asked.{asks_sense, asks_limits, asks_select, asks_mode}
use Rattle.acting.proofs.Told.{told_others, among_others}
use Rattle.acting.proofs.act_apart.Goals as goal

pub request_sense-requires : goal.request_sense-requires
request_sense-requires c = asks_sense c.requires c.in-RequestSense.is

pub read_block_limits-requires : goal.read_block_limits-requires
read_block_limits-requires c = asks_limits c.requires c.in-ReadBlockLimits.is

pub select-requires : goal.select-requires
select-requires c = asks_select c.requires c.in-ModeSelect.is

pub mode_sense-requires : goal.mode_sense-requires
mode_sense-requires c = asks_mode c.requires c.in-ModeSense.is

pub returns-in-RequestSense : goal.returns-in-RequestSense
unfolding act reply_of
returns-in-RequestSense c = rw c.in-RequestSense.is c.request_sense.ensures

pub returns-in-ReadBlockLimits : goal.returns-in-ReadBlockLimits
unfolding act reply_of
returns-in-ReadBlockLimits c = rw c.in-ReadBlockLimits.is c.read_block_limits.ensures

pub returns-in-ModeSelect : goal.returns-in-ModeSelect
unfolding act
returns-in-ModeSelect c = rw c.in-ModeSelect.is (c.select.ensures, unlaid _ (selecting_none _ _ _))

pub returns-in-ModeSense : goal.returns-in-ModeSense
unfolding act
returns-in-ModeSense c = rw c.in-ModeSense.is c.mode_sense.ensures

pub returns-in_default : goal.returns-in_default
returns-in_default c = let a = c.in_default in absurd (let e : true ≡ false = sym (told_others c.args.o (among_others c.args.o a.not-RequestSense a.not-ReadBlockLimits a.not-ModeSelect a.not-ModeSense)) ∙ c.requires.apart in let z : ◌≡◌ {A = ℕ} 0 1 = cc in omega arith)
