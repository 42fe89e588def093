-- A date and a time of day as text, in ASCII: 2026-05-20 and 22:14:37. Assumes nothing.
use Rattle.std.specs.Prelude.{ℕ, ◌+◌, ◌/◌, ◌%◌, List, [], ◌∷◌, ◌++◌}
use Rattle.calendar.specs.declared.date.Date.{Date}

-- the last decimal digit of a number, and its last two
abbrev pub digit_of : ℕ → ℕ
digit_of n = 48 + n % 10

abbrev pub two_of : ℕ → List ℕ
two_of n = digit_of (n / 10) ∷ digit_of n ∷ []

-- year, month and day, with dashes
abbrev pub date_text : Date → List ℕ
date_text d = two_of (d.year / 100) ++ two_of d.year ++ 45 ∷ two_of d.month ++ 45 ∷ two_of d.day

-- hours, minutes and seconds of a second of the day, with colons
abbrev pub time_text : ℕ → List ℕ
time_text second = two_of (second / 3600) ++ 58 ∷ two_of (second / 60 % 60) ++ 58 ∷ two_of (second % 60)
