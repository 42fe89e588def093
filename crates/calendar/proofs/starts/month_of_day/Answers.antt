use Rattle.std.proofs.Common.{◌≤◌, ◌-◌, arith, rules, tests}
use Rattle.std.proofs.lemmas.List.Sorted.{IsPartitionPoint-from_clause}
use lib.Dec.{leb}
use Rattle.calendar.specs.declared.starts.TheConstants.{STARTS}
use Rattle.calendar.specs.Calendar.{InMonth}
use Rattle.calendar.proofs.Search.{parted, found}
use Rattle.calendar.proofs.Table.{ruled, all_months}
use Rattle.calendar.proofs.starts.month_of_day.Goals as goal

sought : (c : goal.After-partition_point) → (1 ≤ c.partition_point.result) × InMonth (c.partition_point.result - 1) c.args.days
sought c =
    found STARTS c.args.days c.partition_point.result ruled all_months c.requires (search rules) c.partition_point.ensures.bound
    (IsPartitionPoint-from_clause (λ x. leb x c.args.days) STARTS c.partition_point.result c.partition_point.ensures.partitioned (parted STARTS c.args.days ruled)
    (λ a r f k. search (rules, tests)))

pub overflow_sub-result : goal.overflow_sub-result
overflow_sub-result c = (sought c).0

pub returns : goal.returns
returns c = (omega (arith, c.partition_point.ensures.bound, (sought c).0), (sought c).1)
