use Rattle.std.proofs.Common.{◌≡◌}
use Rattle.calendar.specs.Calendar.{start}
use Rattle.months.proofs.main.Given as goal

-- what is printed at turn k is the start of month k
abbrev pub invariant-loop-k : goal.invariant-loop-k
invariant-loop-k l = l.first ≡ start l.k
