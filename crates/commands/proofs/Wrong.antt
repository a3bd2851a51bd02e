-- The fields of WRITE, as what is put requires them; and that those of SPACE are judged alike in either length.
-- Assumes nothing.
use mathlib.Core.Path.{◌≡◌, refl}
use mathlib.Core.Bool.{true, false}
use mathlib.Core.List.{List}
use Prim.Native.Nat.{ℕ, ◌*◌, ◌^◌, ◌≤◌, ◌<◌}
use native.Mathlib.Nat.{mul-le-mul_right}
use native.Mathlib.Omega.{arith}
use borrow.Author.Tests.{eqb-false, ltb-false}
use lib.ListN.{length}
use Rattle.objects.specs.Object.{largest_block}
use Rattle.record.specs.declared.drive.Drive.{Drive}
use Rattle.codes.specs.declared.operation.Operation.TheVariants.{Write, Space, Space16}
use Rattle.codes.specs.Fields.{fixed_of, transfer_of}
use Rattle.commands.specs.Tests.{bytes_asked, field_error}

-- a product of two numbers of 32 bits has 64
pub product_fits : (n b : ℕ) → n < 2 ^ 32 → b < 2 ^ 32 → n * b < 2 ^ 64
product_fits n b h k =
    let le : n ≤ 2 ^ 32 = omega arith in
    let w : n * b ≤ 2 ^ 32 * b = mul-le-mul_right b le in
    omega arith

module _ (d : Drive) (cmd : List ℕ) where
  -- SPACE of either length looks at its code alone
  pub space_alike : field_error Space d cmd ≡ field_error Space16 d cmd
  unfolding field_error
  space_alike = refl

-- ---- the fields of WRITE, as what is put requires them

module _ (d : Drive) (cmd sent : List ℕ) (n : ℕ) (en : n ≡ transfer_of cmd) (w : field_error Write d cmd ≡ false) (q : bytes_asked d cmd ≤ length sent) where
  pub fixed_fields : fixed_of cmd ≡ true → (1 ≤ d.block_length) × (n * d.block_length ≤ length sent)
  unfolding field_error bytes_asked
  fixed_fields f =
      let z : d.block_length ≡ 0 → ⊥ = eqb-false d.block_length 0 (rw f at w) in
      (omega arith, rw en (rw f at q))

  pub one_field : fixed_of cmd ≡ false → (n ≡ 0 → ⊥) → (1 ≤ n) × (n ≤ largest_block) × (1 * n ≤ length sent)
  unfolding field_error bytes_asked
  one_field f z =
      let l : transfer_of cmd ≤ largest_block = ltb-false largest_block (transfer_of cmd) (rw f at w) in
      let m : transfer_of cmd ≤ length sent = rw f at q in
      (omega arith, omega arith, omega arith)
