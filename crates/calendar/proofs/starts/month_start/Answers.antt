use Rattle.calendar.specs.declared.starts.TheConstants.{STARTS}
use Rattle.calendar.proofs.Rule.{entry}
use Rattle.calendar.proofs.Table.{ruled}
use Rattle.calendar.proofs.starts.month_start.Goals as goal

pub returns : goal.returns
returns c = entry STARTS ruled c.args.k 0 c.requires
