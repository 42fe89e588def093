-- The dates of the day numbers, by the months that have them (specs/Days.antt). Assumes nothing.
use Prim.Native.Nat.{ℕ, zero, suc, ◌+◌, ◌-◌, ◌≤◌, ◌<◌}
use native.Mathlib.Omega.{arith}
use mathlib.Core.Bool.{Bool, true, false, cond}
use mathlib.Core.Path.{◌≡◌, refl, sym, ap, subst, ◌∙◌}
use lib.Dec.{ltb}
use borrow.Author.Tests.{lt-ltb, le-ltb, ltb-true, ltb-false}
use Rattle.wire.specs.Result.{accepted}
use Rattle.wire.proofs.Results.{clash, one_value}
use Rattle.calendar.specs.declared.date.Date.{Date}
use Rattle.calendar.specs.Calendar.{leap, month_length, year_of, month_of, start, InMonth, latest, last_month, date_in, date_of}
use Rattle.calendar.specs.Days.{date, RealDate, next_date, Days}
use Rattle.calendar.proofs.Lengths.{a_length}
use Rattle.calendar.proofs.Search.{in_latest, a_day}

-- an accepted date, by its month
record Given (n : ℕ) (d : Date) : Type 0 where
  month : ℕ
  from_one : 1 ≤ n
  has : InMonth month n
  is : d ≡ date_in month n

in_month : {k n : ℕ} → 1 ≤ n → n ≤ 65535 → InMonth k n → date_of n ≡ accepted (date_in k n)
in_month h l m = sym (a_day h l m refl)

given : (n : ℕ) (d : Date) → n ≤ 65535 → date_of n ≡ accepted d → Given n d
unfolding date_of
given zero d l e = clash d _ e
given (suc n) d l e =
    let h : 1 ≤ suc n = omega arith in
    let m : InMonth (latest last_month (suc n)) (suc n) = in_latest h l in
    record { month = latest last_month (suc n); from_one = h; has = m; is = one_value (sym e ∙ in_month h l m) }

-- ---- a real date

real_in : {k n : ℕ} → InMonth k n → RealDate (date_in k n)
unfolding start
real_in {k} {n} m =
    record { from_january = omega arith; to_december = omega arith; from_first = omega arith; to_last = omega (arith, m.begun, m.before) }

-- ---- the next date

same_date : {y y' m m' d d' : ℕ} → y ≡ y' → m ≡ m' → d ≡ d' → date y m d ≡ date y' m' d'
same_date p q r = cc

module _ {k n : ℕ} (m : InMonth k n) where
  -- inside a month
  within : n + 1 < start (suc k) → date_in k (n + 1) ≡ next_date (date_in k n)
  unfolding next_date start
  within h =
      rw (lt-ltb (n - start k + 1) (month_length (year_of k) (month_of k)) (omega (arith, m.begun)))
      (same_date refl refl (omega (arith, m.begun)))

  -- from a month's last day to the next month's first, inside a year and at its end
  first_of_lem : (b : Bool) → ltb (month_of k) 12 ≡ b → n + 1 ≡ start (suc k)
      → date_in (suc k) (n + 1) ≡ cond b (date (year_of k) (month_of k + 1) 1) (date (year_of k + 1) 1 1)
  first_of_lem true e h = let l : month_of k < 12 = ltb-true (month_of k) 12 e in same_date (omega arith) (omega arith) (omega arith)
  first_of_lem false e h = let l : 12 ≤ month_of k = ltb-false (month_of k) 12 e in same_date (omega arith) (omega arith) (omega arith)

  across : n + 1 ≡ start (suc k) → date_in (suc k) (n + 1) ≡ next_date (date_in k n)
  unfolding next_date start
  across h =
      rw (le-ltb (n - start k + 1) (month_length (year_of k) (month_of k)) (omega (arith, m.begun))) (first_of_lem (ltb (month_of k) 12) refl h)

  follows : (b : Bool) → ltb (n + 1) (start (suc k)) ≡ b → n < 65535 → date_of (n + 1) ≡ accepted (next_date (date_in k n))
  unfolding start
  follows true e l =
      let h : n + 1 < start (suc k) = ltb-true _ _ e in
      in_month (omega arith) (omega arith) (record { begun = omega (arith, m.begun); before = h }) ∙ ap accepted (within h)
  follows false e l =
      let h : n + 1 ≡ start (suc k) = omega (arith, ltb-false (n + 1) (start (suc k)) e, m.before) in
      let next : n + 1 < start (suc (suc k)) = omega (arith, h, (a_length (year_of (suc k)) (month_of (suc k))).at_least) in
      in_month (omega arith) (omega arith) (record { begun = omega (arith, h); before = next }) ∙ ap accepted (across h)

-- ---- no two days share a date

same_month : {j k : ℕ} → year_of j ≡ year_of k → month_of j ≡ month_of k → j ≡ k
same_month p q = omega arith

one_day : {j k m n : ℕ} → InMonth j m → InMonth k n → date_in j m ≡ date_in k n → m ≡ n
one_day {j} {k} {m} {n} p q e =
    let s : j ≡ k = same_month (ap (λ (d : Date). d.year) e) (ap (λ (d : Date). d.month) e) in
    let t : m - start j + 1 ≡ n - start k + 1 = ap (λ (d : Date). d.day) e in
    omega (arith, p.begun, q.begun, t, ap start s)

pub days : Days
unfolding date_of latest start month_length leap
days =
    record {
      none = refl;
      dated = λ n h l. (date_in (latest last_month n) n, in_month h l (in_latest h l));
      real = λ n d l e. let g = given n d l e in subst RealDate (sym g.is) (real_in g.has);
      first = in_month {k = 0} {n = 1} (omega arith) (omega arith) (record { begun = omega arith; before = omega arith });
      next = λ n d l e. let g = given n d (omega arith) e in
          follows g.has (ltb (n + 1) (start (suc g.month))) refl l ∙ ap (λ x. accepted (next_date x)) (sym g.is);
      apart = λ m n d l r e f. let g = given m d l e in let h = given n d r f in one_day g.has h.has (sym g.is ∙ h.is);
      last = refl;
      last_start = refl;
    }
