-- What is before `rest` was written, and each round moves a byte or fails once more.
use Rattle.std.proofs.Common.{◌≡◌, ℕ, ◌+◌, ◌-◌, length, take, drop}
use Rattle.std.specs.Io.KnownBytes.{Appends}
use Rattle.streams.specs.declared.TheConstants.{PATIENCE}
use Rattle.streams.proofs.write_all.Given as goal

abbrev pub invariant-loop-rest : goal.invariant-loop-rest
invariant-loop-rest g l =
    (n : ℕ) × (n + length l.rest ≡ length l.buf) × (l.rest ≡ drop n l.buf)
    × Appends (g.W.Write.contents l.initial.writer) (g.W.Write.contents l.writer) (take n l.buf)

abbrev pub decreases-loop-rest : goal.decreases-loop-rest
decreases-loop-rest g l = length l.rest + (PATIENCE - l.failures.count)
