use Rattle.show.proofs.Digits.{Reading}
use Rattle.show.proofs.words.number_from.Given as goal

abbrev pub invariant-loop-b : goal.invariant-loop-b
invariant-loop-b l = Reading l.n l.text l.value l.b-index
