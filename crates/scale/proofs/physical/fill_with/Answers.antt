use Rattle.std.proofs.Common.{rules}
use Rattle.scale.proofs.Mapped.{mapped_first, mapped_given, mapped_end}
use Rattle.scale.proofs.physical.fill_with.Goals as goal

pub loop-i-init : goal.loop-i-init
loop-i-init g c = λ f h. mapped_first _ _ _ c.requires.room

pub loop-i-preserved : goal.loop-i-preserved
loop-i-preserved g c = λ f h. mapped_given (c.loop-i.invariant f h) 0 (λ a. g.F.Fn.post c.args.value (a, tt)) h c.loop-i-test.true c.value.ensures (search rules)

pub returns : goal.returns
returns g c = λ f h. mapped_end (c.loop-i.invariant f h) c.loop-i-test.false
