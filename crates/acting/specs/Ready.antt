-- What is known of a command when it is to act: that no test stops it, and what of the partition it is to act on.
-- Assumes nothing: these are definitions.
use Rattle.std.specs.Prelude.{ℕ, ◌≤◌, ◌≡◌, Bool, true, false, cond, List, leb}
use Rattle.std.proofs.Math.Option.{none}
use Rattle.objects.specs.Object.{largest_block}
use Rattle.image.specs.Image.{count, sound}
use Rattle.record.specs.declared.drive.Drive.{Drive}
use Rattle.codes.specs.declared.operation.Operation.{Operation}
use Rattle.codes.specs.Codes.{code_of, too_short, operation_of}
use Rattle.answers.specs.Answers.{first}
use Rattle.commands.specs.Kinds.{needs_cartridge, locates}
use Rattle.commands.specs.Act.{Seen}
use Rattle.commands.specs.Tests.{tests}
use Rattle.commands.specs.Call.{seen_of}
use Rattle.deeds.specs.Left.{protected_only}

-- the operation is that of a whole command block, and no test stops it; v is what it sees, room the length of the receiving buffer
pub record Free (o : Operation) (d : Drive) (cmd sent : List ℕ) (room : ℕ) (v : Seen) : Type 0 where
  pub long : too_short cmd ≡ false
  pub coded : o ≡ operation_of (code_of cmd)
  pub unstopped : first (tests o d cmd v sent room) ≡ none

-- on the partition s: sound, with the position at most at its end, LOCATE's target excepted
pub record Ready (o : Operation) (d : Drive) (cmd sent : List ℕ) (room : ℕ) (s : List ℕ) : Type 0 where
  pub free : Free o d cmd sent room (seen_of s)
  pub whole : sound s ≡ true
  pub placed : cond (locates o) true (leb d.position (count s)) ≡ true
  pub small : d.block_length ≤ largest_block

-- without a cartridge; g says whether a partition is protected
pub record ReadyApart (o : Operation) (d : Drive) (cmd sent : List ℕ) (room : ℕ) (g : Bool) : Type 0 where
  pub free : Free o d cmd sent room (protected_only g)
  pub apart : needs_cartridge o ≡ false
