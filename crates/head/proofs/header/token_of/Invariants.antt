use Rattle.head.proofs.Token.{tokens}
use Rattle.wire.proofs.Walks.{Walk}
use Rattle.std.proofs.Common.{◌-◌, length}
use Rattle.head.proofs.header.token_of.Given as goal

abbrev pub invariant-loop-k : goal.invariant-loop-k
invariant-loop-k l = Walk tokens l.text l.at

abbrev pub decreases-loop-k : goal.decreases-loop-k
decreases-loop-k l = length l.text - l.at
