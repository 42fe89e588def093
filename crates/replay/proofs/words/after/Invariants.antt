use Rattle.replay.specs.Words.{ended}
use Rattle.std.proofs.Common.{◌≡◌, ◌≤◌, length}
use Rattle.replay.proofs.words.after.Given as goal

abbrev pub invariant-loop : goal.invariant-loop
invariant-loop l = record { passed : l.at ≡ ended l.line l.counter; within : l.at ≤ length l.line }
