-- "length × block length": how much a READ or a WRITE can ask for, which 64 bits hold; and that each block can be asked for whole.
-- Assumes nothing.
use Prim.Native.Nat.{ℕ, ◌*◌, ◌^◌, ◌≤◌, ◌<◌}
use native.Mathlib.Nat.{mul-le-mul}
use native.Mathlib.Omega.{arith}
use mathlib.Core.Path.{◌≡◌, refl}
use mathlib.Core.Bool.{Bool, true, false, cond}
use mathlib.Core.List.{List}
use lib.ListN.{get_or}
use Rattle.words.specs.Words.{be, bytes}
use Rattle.words.proofs.Laws.{be_lt}
use Rattle.objects.specs.Object.{largest_block}
use Rattle.record.specs.declared.drive.Drive.{Drive}
use Rattle.record.specs.Record.{well_formed}
use Rattle.codes.specs.Fields.{fixed_of, transfer_of}
use Rattle.codes.specs.Six.{six}
use Rattle.commands.specs.Act.{with_length}
use Rattle.commands.specs.Tests.{bytes_asked}
use Rattle.commands.proofs.Faultless.{small_block}
use Rattle.larger.specs.Blocks.{most_count, most_asked}

module _ (d : Drive) (cmd : List ℕ) (whole : (j : ℕ) → get_or cmd j 0 < 256) where
  counted : transfer_of cmd ≤ most_count
  unfolding transfer_of
  counted = omega (arith, be_lt 3 cmd 2 whole)

  -- without FIXED, so many bytes
  pub variable_most : fixed_of cmd ≡ false → bytes_asked d cmd ≤ most_count
  unfolding bytes_asked
  variable_most f = rw f counted

  -- with FIXED, so many blocks; of a well-formed record, so many bytes
  pub asked_most : well_formed d ≡ true → bytes_asked d cmd ≤ most_asked
  unfolding bytes_asked
  asked_most h = go (fixed_of cmd)
    where
      go : (t : Bool) → cond t (transfer_of cmd * d.block_length) (transfer_of cmd) ≤ most_asked
      go true = mul-le-mul counted (small_block d h)
      go false = omega (arith, counted)

-- which 44 bits hold, and no fewer; and which FFFFFFh blocks of the largest length ask for
pub most_fits : (most_asked < 2 ^ 44) × (2 ^ 43 < most_asked)
most_fits = (omega arith, omega arith)

pub most_reached : (d : Drive) → bytes_asked (with_length d largest_block) (six 0x08 1 most_count) ≡ most_asked
unfolding bytes_asked fixed_of transfer_of be bytes
most_reached d = refl
