-- The program's exit status. Assumes nothing.
use Rattle.std.specs.Prelude.{ℕ}
use Rattle.show.specs.declared.answer.Ending.{Ending}
use Rattle.show.specs.declared.answer.Ending.TheVariants.{Shown, Refused, Failed}

-- 0 for a sweep or a head, 1 for a refusal, 2 for anything else
abbrev pub status_of : Ending → ℕ
status_of Shown = 0
status_of Refused = 1
status_of Failed = 2
