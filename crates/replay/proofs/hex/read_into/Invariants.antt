use Rattle.std.proofs.Common.{length}
use Rattle.replay.specs.Hex.{bytes_in}
use Rattle.replay.proofs.Copied.{Copied}
use Rattle.replay.proofs.hex.read_into.Given as goal

abbrev pub invariant-loop-i : goal.invariant-loop-i
invariant-loop-i l = Copied (bytes_in (length l.initial.buf) l.word) l.initial.buf l.buf l.i
