-- What each command's code asks for, from what is known when it is to act.
-- Assumes nothing.
use Prim.Native.Nat.{ℕ, ◌≤◌}
use native.Mathlib.Omega.{arith}
use mathlib.Core.Path.{◌≡◌, refl, sym, ap, ◌∙◌}
use mathlib.Core.Bool.{Bool, true, false}
use mathlib.Core.List.{List, []}
use borrow.Author.Tests.{leb-true, not-false}
use lib.ListN.{length}
use Rattle.objects.specs.Object.{largest_block}
use Rattle.objects.specs.Room.{trailer_length}
use Rattle.image.specs.Image.{count, sound, protected}
use Rattle.image.proofs.Facts.{sound_parts}
use Rattle.record.specs.declared.drive.Drive.{Drive}
use Rattle.codes.specs.declared.operation.Operation.{Operation}
use Rattle.codes.specs.Codes.{number_of, length_of}
use Rattle.codes.specs.declared.operation.Operation.TheVariants.{RequestSense, ReadBlockLimits, Read, Write, ModeSelect, ModeSense, Locate, ReadPosition, Space16, Locate16}
use Rattle.codes.specs.Fields.{allocation_of}
use Rattle.commands.specs.Parameters.{list_length_known}
use Rattle.commands.specs.Kinds.{is_served, needs_cartridge, locates}
use Rattle.commands.specs.Act.{Seen, reply_of}
use Rattle.commands.specs.Tests.{taken, reply_length, needed, bytes_asked, field_error}
use Rattle.commands.specs.Call.{seen_of, nothing}
use Rattle.deeds.specs.Left.{protected_only}
use Rattle.commands.proofs.Passed.{Passed, passed}
use Rattle.commands.proofs.Replies.{reply_length_lem}
use Rattle.commands.proofs.Long.{served_long, long_as}
use Rattle.acting.specs.Ready.{Free, Ready, ReadyApart}
use Rattle.acting.proofs.Alike.{tests_alike}

module _ {o : Operation} {d : Drive} {cmd sent : List ℕ} {room : ℕ} where
  pub pass : {v : Seen} → Free o d cmd sent room v → Passed o d cmd v sent room
  pass {v} f = passed o d cmd v sent room f.unstopped

  pub five : {v : Seen} → Free o d cmd sent room v → 5 ≤ length cmd
  five f = omega (arith, served_long cmd f.long (ap is_served (sym f.coded) ∙ (pass f).served))

  -- of a command that needs no cartridge
  module _ {g : Bool} (y : ReadyApart o d cmd sent room g) where
    pub asks_sense : o ≡ RequestSense → (5 ≤ length cmd) × (length (reply_of RequestSense d cmd nothing) ≤ room)
    unfolding needed
    asks_sense q = (five y.free, rw (reply_length_lem RequestSense d cmd nothing) (rw q at (pass y.free).receives))

    pub asks_limits : o ≡ ReadBlockLimits → length (reply_of ReadBlockLimits d [] nothing) ≤ room
    unfolding needed reply_length
    asks_limits q = rw (reply_length_lem ReadBlockLimits d [] nothing) (rw q at (pass y.free).receives)

    pub asks_select : o ≡ ModeSelect → (5 ≤ length cmd) × (list_length_known (allocation_of cmd) ≡ true) × (allocation_of cmd ≤ length sent)
    unfolding taken
    asks_select q = (five y.free, not-false (list_length_known (allocation_of cmd)) (rw q at (pass y.free).list), rw q at (pass y.free).sends)

    pub asks_mode : o ≡ ModeSense → (5 ≤ length cmd) × (length (reply_of ModeSense d cmd (protected_only g)) ≤ room)
    unfolding needed
    asks_mode q = (five y.free, rw (reply_length_lem ModeSense d cmd (protected_only g)) (rw q at (pass y.free).receives))

  -- of a command on the partition s
  module _ {s : List ℕ} (y : Ready o d cmd sent room s) where
    there : {x : Operation} → o ≡ x → locates x ≡ false → d.position ≤ count s
    there q f = leb-true d.position (count s) (rw (q, f) at y.placed)

    pub asks_read : o ≡ Read → (sound s ≡ true) × (d.position ≤ count s) × (5 ≤ length cmd) × (field_error Read d cmd ≡ false) × (bytes_asked d cmd ≤ room)
    unfolding needed
    asks_read q = (y.whole, there q refl, five y.free, rw q at (pass y.free).fields, rw q at (pass y.free).receives)

    pub asks_write : o ≡ Write → (sound s ≡ true) × (d.position ≤ count s) × (5 ≤ length cmd) × (field_error Write d cmd ≡ false) × (d.block_length ≤ largest_block) × (bytes_asked d cmd ≤ length sent)
    unfolding taken
    asks_write q = (y.whole, there q refl, five y.free, rw q at (pass y.free).fields, y.small, rw q at (pass y.free).sends)

    -- WRITE FILEMARKS, SPACE, ERASE
    pub asks_place : {x : Operation} → o ≡ x → locates x ≡ false → (sound s ≡ true) × (d.position ≤ count s) × (5 ≤ length cmd)
    asks_place q f = (y.whole, there q f, five y.free)

    -- the block is as long as its command's are
    reach : (x : Operation) → o ≡ x → is_served x ≡ true → length_of (number_of x) ≤ length cmd
    reach x q f = long_as x cmd y.free.long (sym y.free.coded ∙ q) f

    pub asks_space16 : o ≡ Space16 → (sound s ≡ true) × (d.position ≤ count s) × (12 ≤ length cmd)
    asks_space16 q = (y.whole, there q refl, let l = reach Space16 q refl in omega arith)

    pub asks_locate : o ≡ Locate → (sound s ≡ true) × (9 ≤ length cmd)
    asks_locate q = (y.whole, let l = reach Locate q refl in omega arith)

    pub asks_locate16 : o ≡ Locate16 → (sound s ≡ true) × (12 ≤ length cmd)
    asks_locate16 q = (y.whole, let l = reach Locate16 q refl in omega arith)

    pub asks_position : o ≡ ReadPosition → (sound s ≡ true) × (d.position ≤ count s) × (5 ≤ length cmd) × (length (reply_of ReadPosition d cmd (seen_of s)) ≤ room)
    unfolding needed
    asks_position q = (y.whole, there q refl, five y.free, rw (reply_length_lem ReadPosition d cmd (seen_of s)) (rw q at (pass y.free).receives))

    pub asks_protection : trailer_length ≤ length s
    asks_protection = let w = sound_parts s y.whole in omega (arith, w.least)

    pub asks_apart : {g : Bool} → g ≡ protected s → needs_cartridge o ≡ false → ReadyApart o d cmd sent room g
    unfolding seen_of
    asks_apart {g} eg n = record {
      free = record { long = y.free.long; coded = y.free.coded; unstopped = tests_alike d cmd (protected_only g) (seen_of s) o sent room (λ t. eg) ∙ y.free.unstopped };
      apart = n;
    }
