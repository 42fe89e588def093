use Rattle.std.proofs.Common.{◌≡◌, length}
use Rattle.symbology.specs.Cursors.{ahead}
use Rattle.symbology.proofs.alike.CellsIterator.next.Given as goal

abbrev pub invariant-loop-self : goal.invariant-loop-self
invariant-loop-self l = ahead l.self.left l.self.colour l.self.runs.now ≡ ahead l.initial.self.left l.initial.self.colour l.initial.self.runs.now

abbrev pub decreases-loop-self : goal.decreases-loop-self
decreases-loop-self l = length l.self.runs.now
