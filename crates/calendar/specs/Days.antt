-- What the dates of the day numbers 0 to 65,535 are (document 02, M-102).
use Rattle.std.specs.Prelude.{ℕ, ◌+◌, ◌≤◌, ◌<◌, cond, [], ◌∷◌, ◌≡◌, ltb, pos}
use Rattle.wire.specs.Refusal.{kind, nat, whole}
use Rattle.wire.specs.Result.{accepted, refused}
use Rattle.calendar.specs.declared.date.Date.{Date}
use Rattle.calendar.specs.Calendar.{month_length, start, last_month, date_of}

abbrev pub date : ℕ → ℕ → ℕ → Date
date y m d = record { year = y; month = m; day = d }

-- A date that the calendar has: a month from 1 to 12, and a day of that month.
pub record RealDate (d : Date) : Type 0 where
  pub from_january : 1 ≤ d.month
  pub to_december : d.month ≤ 12
  pub from_first : 1 ≤ d.day
  pub to_last : d.day ≤ month_length d.year d.month

-- the date after a date: the month's next day; after its last, the first of the next month, and after December that of January
unfoldable pub next_date : Date → Date
next_date d =
    cond (ltb d.day (month_length d.year d.month)) (date d.year d.month (d.day + 1))
    (cond (ltb d.month 12) (date d.year (d.month + 1) 1) (date (d.year + 1) 1 1))

pub record Days : Type 0 where
  -- every day number has a date, but for day 0
  pub none : date_of 0 ≡ refused (kind 4 (nat 0 ∷ whole (pos 0) ∷ []))
  pub dated : (n : ℕ) → 1 ≤ n → n ≤ 65535 → (d : Date) × (date_of n ≡ accepted d)
  -- a real one
  pub real : (n : ℕ) (d : Date) → n ≤ 65535 → date_of n ≡ accepted d → RealDate d
  -- the first day's, and each next day's
  pub first : date_of 1 ≡ accepted (date 1970 1 1)
  pub next : (n : ℕ) (d : Date) → n < 65535 → date_of n ≡ accepted d → date_of (n + 1) ≡ accepted (next_date d)
  -- no two share one
  pub apart : (m n : ℕ) (d : Date) → m ≤ 65535 → n ≤ 65535 → date_of m ≡ accepted d → date_of n ≡ accepted d → m ≡ n
  -- the last day's, and the start of its month, the table's last entry
  pub last : date_of 65535 ≡ accepted (date 2149 6 5)
  pub last_start : start last_month ≡ 65531
