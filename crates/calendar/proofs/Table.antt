-- The table keeps its rule: one test over the whole list. Assumes nothing.
use mathlib.Core.Bool.{true}
use mathlib.Core.Path.{◌≡◌, refl}
use lib.ListN.{length}
use Rattle.calendar.specs.declared.starts.TheConstants.{STARTS}
use Rattle.calendar.specs.Calendar.{leap, month_length}
use Rattle.calendar.proofs.Rule.{follows}

pub ruled : follows 0 1 STARTS ≡ true
unfolding follows month_length leap
ruled = refl

pub all_months : length STARTS ≡ 2154
all_months = refl
