-- The calendar day of a day number (document 02, M-102). Day 1 is 1 January 1970. Months are numbered from January 1970, which is month 0.
use Rattle.std.specs.Prelude.{ℕ, zero, suc, ◌+◌, ◌-◌, ◌/◌, ◌%◌, ◌≤◌, ◌<◌, Bool, cond, ◌||◌, [], ◌∷◌, eqb, leb, pos}
use Rattle.wire.specs.Refusal.{kind, nat, whole}
use Rattle.wire.specs.Result.{Result, accepted, refuse}
use Rattle.calendar.specs.declared.date.Date.{Date}

-- a year that 4 divides is a leap year; one that 100 divides, only where 400 does
unfoldable pub leap : ℕ → Bool
leap year = cond (eqb (year % 100) 0) (eqb (year % 400) 0) (eqb (year % 4) 0)

-- the Gregorian length of a month, 1 to 12
unfoldable pub month_length : ℕ → ℕ → ℕ
month_length year month =
    cond (eqb month 2) (cond (leap year) 29 28) (cond (eqb month 4 || eqb month 6 || eqb month 9 || eqb month 11) 30 31)

-- the year of month k, and its number in it
abbrev pub year_of : ℕ → ℕ
year_of k = 1970 + k / 12

abbrev pub month_of : ℕ → ℕ
month_of k = 1 + k % 12

-- the first day number of month k: 1, and each next is larger by the length of the month before it
unfoldable pub start : ℕ → ℕ
start zero = 1
start (suc k) = start k + month_length (year_of k) (month_of k)

-- month k has the day
pub record InMonth (k day : ℕ) : Type 0 where
  pub begun : start k ≤ day
  pub before : day < start (suc k)

-- the last month up to month k that starts at or before the day
unfoldable pub latest : ℕ → ℕ → ℕ
latest zero day = 0
latest (suc k) day = cond (leb (start (suc k)) day) (suc k) (latest k day)

-- the last month of the table, June 2149
abbrev pub last_month : ℕ
last_month = 2153

-- a day of month k as a date
abbrev pub date_in : ℕ → ℕ → Date
date_in k day = record { year = year_of k; month = month_of k; day = day - start k + 1 }

-- the date of a day number from 0 to 65,535; 4, with days 0 and seconds 0, for day 0
unfoldable pub date_of : ℕ → Result Date
date_of days = refuse (eqb days 0) (kind 4 (nat 0 ∷ whole (pos 0) ∷ [])) (accepted (date_in (latest last_month days) days))
