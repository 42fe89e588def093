use Rattle.calendar.proofs.Search.{a_day}
use borrow.Author.Rules.{rules}
use Rattle.calendar.proofs.date.calendar_day.Goals as goal

pub returns : goal.returns
returns c = a_day (search rules) (search rules) c.month_of_day-k.ensures.1 c.month_start-first.ensures
