use Rattle.archive.proofs.Tests.{Standing}
use Rattle.archive.proofs.surplus.place_after.Given as goal

abbrev pub invariant-loop : goal.invariant-loop
invariant-loop l = Standing l.packet l.body l.n_radials l.counter l.at
