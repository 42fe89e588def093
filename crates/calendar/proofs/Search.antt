-- The month that has a day, and the search for it. Assumes nothing.
use Prim.Native.Nat.{ℕ, zero, suc, ◌+◌, ◌-◌, ◌/◌, ◌%◌, ◌≤◌, ◌<◌}
use native.Mathlib.Nat.{add-zero, add-suc}
use native.Mathlib.Numerals.{add-one}
use native.Mathlib.Omega.{arith}
use mathlib.Core.Bool.{Bool, true, false, cond}
use mathlib.Core.List.{List, [], ◌∷◌}
use lib.ListN.{length}
use Rattle.std.specs.List.Sorted.{IsPartitionedBy, IsPartitionPoint}
use mathlib.Core.Path.{◌≡◌, refl, sym, subst}
use lib.Dec.{leb, ltb}
use borrow.Author.Tests.{eq-eqb, le-leb, ltb-true, ltb-false, ne_eqb, leb-true, leb-false}
use Rattle.wire.specs.Refusal.{kind, nat, whole}
use Rattle.wire.specs.Result.{accepted, refused}
use lib.IntN.{pos}
use Rattle.calendar.specs.Calendar.{leap, month_length, year_of, month_of, start, InMonth, latest, last_month, date_of}
use Rattle.calendar.proofs.Lengths.{a_length}
use Rattle.calendar.proofs.Rule.{follows, entry}

-- the rule, for whoever works a start out
pub start_first : 1 ≡ start 0
unfolding start
start_first = refl

pub start_next : (k : ℕ) {first length : ℕ} → first ≡ start k → length ≡ month_length (year_of k) (month_of k) → first + length ≡ start (k + 1)
unfolding start
start_next k p q = rw (p, q, add-one) refl

-- a later month starts no earlier
grows : (j d : ℕ) → start j ≤ start (j + d)
unfolding start
grows j zero = rw add-zero (omega arith)
grows j (suc d) = let h : start j ≤ start (j + d) = grows j d in rw add-suc (omega arith)

later : {j k : ℕ} → j ≤ k → start j ≤ start k
later {j} {k} h = let e : j + (k - j) ≡ k = omega arith in rw e at (grows j (k - j))

-- the month after the table's last one
after_last : start 2154 ≡ 65561
unfolding start month_length leap
after_last = refl

pub starts_below : {k : ℕ} → k ≤ 2154 → start k ≤ 65561
starts_below h = omega (arith, later h, after_last)

-- ---- one month has a day

-- a month that starts at or before the day is no later than the one that has it
no_later : {j k day : ℕ} → InMonth j day → start k ≤ day → k ≤ j
no_later {j} {k} {day} m h = by (leb k j) refl
  where
    by : (b : Bool) → leb k j ≡ b → k ≤ j
    by true e = leb-true k j e
    by false e = absurd (omega (arith, m.before, later (leb-false k j e), h))

pub one_month : {j k day : ℕ} → InMonth j day → InMonth k day → j ≡ k
one_month m l = omega (arith, no_later m l.begun, no_later l m.begun)

-- the latest one that starts at or before it
chosen : (n j day : ℕ) (b : Bool) → leb (start (suc n)) day ≡ b → day < start (suc (suc n))
    → (day < start (suc n) → InMonth j day) → InMonth (cond b (suc n) j) day
chosen n j day true e l f = record { begun = leb-true _ _ e; before = l }
chosen n j day false e l f = f (leb-false _ _ e)

latest_has : (n : ℕ) {day : ℕ} → 1 ≤ day → day < start (suc n) → InMonth (latest n day) day
unfolding latest start
latest_has zero h l = record { begun = h; before = l }
latest_has (suc n) {day} h l = chosen n (latest n day) day (leb (start (suc n)) day) refl l (latest_has n h)

pub in_latest : {day : ℕ} → 1 ≤ day → day ≤ 65535 → InMonth (latest last_month day) day
in_latest h l = latest_has last_month h (omega (arith, after_last))

-- ---- the search in the table

-- the entries that start at or before a day stand before the others
pub parted : (xs : List ℕ) (day : ℕ) → follows 0 1 xs ≡ true → IsPartitionedBy (λ x. leb x day) xs
parted xs day t i j d h l e =
    let a = entry xs t i d (omega arith) in
    let b = entry xs t j d l in
    le-leb _ _ (omega (arith, leb-true _ _ e, later h))

-- the last of them is the month that has the day
pub found : (xs : List ℕ) (day n : ℕ) → follows 0 1 xs ≡ true → length xs ≡ 2154 → 1 ≤ day → day < 65536 → n ≤ length xs
    → IsPartitionPoint (λ x. leb x day ≡ true) (λ x. leb x day ≡ false) xs n → (1 ≤ n) × InMonth (n - 1) day
found xs day zero t long h l within p =
    let q = p.1 0 0 (omega arith) (omega arith) in
    absurd (omega (arith, leb-false _ _ q, entry xs t 0 0 (omega arith), start_first))
found xs day (suc n) t long h l within p =
    let e : suc n - 1 ≡ n = omega arith in
    let q = p.0 n 0 (omega arith) (omega arith) in
    let begun : start n ≤ day = omega (arith, leb-true _ _ q, entry xs t n 0 within) in
    (omega arith, rw e (record { begun = begun; before = by (ltb (suc n) (length xs)) refl }))
  where
    by : (b : Bool) → ltb (suc n) (length xs) ≡ b → day < start (suc n)
    by true m = omega (arith, leb-false _ _ (p.1 (suc n) 0 (omega arith) (ltb-true _ _ m)), entry xs t (suc n) 0 (ltb-true _ _ m))
    by false m = let z : n ≡ 2153 = omega (arith, ltb-false _ _ m) in subst (λ (m : ℕ). day < start (suc m)) (sym z) (omega (arith, after_last))

-- ---- the answers

-- a day of a month is at most 31
pub day_small : {k day : ℕ} → InMonth k day → day - start k + 1 ≤ 31
unfolding start
day_small {k} {day} m = omega (arith, m.before, (a_length (year_of k) (month_of k)).at_most)

pub no_day : {day : ℕ} → day ≡ 0 → refused (kind 4 (nat 0 ∷ whole (pos 0) ∷ [])) ≡ date_of day
unfolding date_of
no_day {day} e = rw (eq-eqb day 0 e)

pub a_day : {k day first : ℕ} → 1 ≤ day → day ≤ 65535 → InMonth k day → first ≡ start k
    → accepted (record { year = 1970 + k / 12; month = 1 + k % 12; day = day - first + 1 }) ≡ date_of day
unfolding date_of
a_day {k} {day} {first} h l m e =
    let no : day ≡ 0 → ⊥ = λ z. omega arith in
    rw (e, ne_eqb day 0 no, one_month (in_latest h l) m)

-- ---- a search between two months

pub record Between (day low high : ℕ) : Type 0 where
  pub ordered : low < high
  pub inside : high ≤ 2154
  pub begun : start low ≤ day
  pub before : day < start high

-- where one month is left, the day is in it
pub between_found : {day low high : ℕ} → Between day low high → high - low ≤ 1 → InMonth low day
between_found {day} {low} {high} b h =
    let e : high ≡ suc low = omega (arith, b.ordered) in
    record { begun = b.begun; before = rw e at b.before }
