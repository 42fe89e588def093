-- What is due for a total: the parts of its bands, their products, and the loop that adds them. Assumes nothing.
use Prim.Native.Nat.{ℕ, zero, suc, ◌+◌, ◌*◌, ◌-◌, ◌/◌, ◌%◌, ◌≤◌, ◌<◌, min, suc-le-suc}
use native.Mathlib.Nat.{add-mul, mul-le-mul_left, mul-le-mul_right, sub-zero}
use native.Mathlib.Omega.{arith}
use mathlib.Core.Bool.{Bool, true, false, ◌&&◌}
use mathlib.Core.List.{List, [], ◌∷◌}
use mathlib.Core.Logic.{◌⊎◌, inl, inr}
use mathlib.Core.Path.{◌≡◌, refl, sym, ◌∙◌}
use lib.Dec.{leb, eqb}
use lib.ListN.{length, get_or, take}
use borrow.Author.Tests.{leb-true, eqb-true, lt-ltb, le-ltb}
use Rattle.wire.specs.Products.{climbs, Ascending}
use Rattle.wire.specs.Refusal.{kind}
use Rattle.wire.specs.Result.{accepted, refused}
use Rattle.wire.proofs.Codes.{both, ascends}
use Rattle.wire.proofs.Every.{all_at}
use Rattle.tariff.specs.Tariff.{limit, last_of, is_rate, well_formed, part, parts, products, sum, due, charge_of}
use Rattle.tariff.specs.Charges.{Tariff}

-- ---- what a well-formed tariff has

module _ (ends rates : List ℕ) (w : well_formed ends rates ≡ true) where
  -- the tests from the last to the first
  pub is_tariff : Tariff ends rates
  unfolding well_formed
  is_tariff =
      let h5 = both (leb 1 (length ends) && leb (length ends) 8 && eqb (length ends) (length rates) && climbs ends && leb limit (last_of ends)) _ w in
      let h4 = both (leb 1 (length ends) && leb (length ends) 8 && eqb (length ends) (length rates) && climbs ends) _ h5.0 in
      let h3 = both (leb 1 (length ends) && leb (length ends) 8 && eqb (length ends) (length rates)) _ h4.0 in
      let h2 = both (leb 1 (length ends) && leb (length ends) 8) _ h3.0 in
      let h1 = both (leb 1 (length ends)) _ h2.0 in
      record {
        some = leb-true _ _ h1.0;
        few = leb-true _ _ h1.1;
        equal = eqb-true _ _ h2.1;
        ascending = ascends ends h3.1;
        far = leb-true _ _ h4.1;
        low = λ k. leb-true _ _ (all_at is_rate rates k refl h5.1);
      }

-- ---- parts

-- from one end on they add up to what of the total lies above it
parts_from : (total from to : ℕ) (ends : List ℕ) → from ≤ to → Ascending (to ∷ ends) → total ≤ get_or (to ∷ ends) (length ends) 0
    → sum (parts total from (to ∷ ends)) ≡ total - from
unfolding sum parts
parts_from total from to [] h up far = omega arith
parts_from total from to (e ∷ ends) h up far =
    let l : to < e = up 0 1 (omega arith) (omega arith) in
    let above : Ascending (e ∷ ends) = λ i j m k. up (suc i) (suc j) (suc-le-suc m) (suc-le-suc k) in
    let rest : sum (parts total to (e ∷ ends)) ≡ total - to = parts_from total to e ends (omega arith) above far in
    rw rest (omega arith)

pub parts_whole : (total : ℕ) (ends rates : List ℕ) → well_formed ends rates ≡ true → total ≤ limit → sum (parts total 0 ends) ≡ total
parts_whole total ends rates w l = whole ends (is_tariff ends rates w)
  where
    whole : (es : List ℕ) → Tariff es rates → sum (parts total 0 es) ≡ total
    whole [] t = absurd (omega (arith, t.some))
    whole (e ∷ es) t =
        let i : length (e ∷ es) - 1 ≡ length es = omega arith in
        parts_from total 0 e es (omega arith) t.ascending (omega (arith, l, rw i at t.far)) ∙ sub-zero total

-- ---- products

-- a larger total has no smaller part in any band
grows : (from : ℕ) (ends rates : List ℕ) {s t : ℕ} → s ≤ t → sum (products (parts s from ends) rates) ≤ sum (products (parts t from ends) rates)
unfolding sum products parts
grows from [] rates h = omega arith
grows from (e ∷ ends) [] h = omega arith
grows from (e ∷ ends) (r ∷ rates) {s} {t} h =
    let p : part s from e ≤ part t from e = omega arith in
    omega (arith, mul-le-mul_right r p, grows e ends rates {s = s} {t = t} h)

pub due_grows : (ends rates : List ℕ) {s t : ℕ} → s ≤ t → due s ends rates ≤ due t ends rates
unfolding due
due_grows ends rates h = grows 0 ends rates h

-- at most the parts at the highest rate
at_most : (ps rates : List ℕ) → ((k : ℕ) → get_or rates k 0 ≤ 65535) → sum (products ps rates) ≤ sum ps * 65535
unfolding sum products
at_most [] rates low = omega arith
at_most (p ∷ ps) [] low = omega arith
at_most (p ∷ ps) (r ∷ rates) low =
    let l : r ≤ 65535 = low 0 in
    rw add-mul (omega (arith, mul-le-mul_left p l, at_most ps rates (λ k. low (suc k))))

pub due_bound : (total : ℕ) (ends rates : List ℕ) → well_formed ends rates ≡ true → total ≤ limit → due total ends rates ≤ 1099511627776 * 65535
unfolding due
due_bound total ends rates w l =
    let b = at_most (parts total 0 ends) rates (is_tariff ends rates w).low in
    let m : total * 65535 ≤ 1099511627776 * 65535 = mul-le-mul_right 65535 l in
    omega (arith, rw (parts_whole total ends rates w l) at b)

-- one of them, and the sum of the first ones, are no more than all
pub one_of : (xs : List ℕ) (k : ℕ) → get_or xs k 0 ≤ sum xs
unfolding sum
one_of [] k = omega arith
one_of (x ∷ xs) zero = omega arith
one_of (x ∷ xs) (suc k) = omega (arith, one_of xs k)

pub first_of_lem : (xs : List ℕ) (k : ℕ) → sum (take k xs) ≤ sum xs
unfolding sum
first_of_lem [] zero = omega arith
first_of_lem [] (suc k) = omega arith
first_of_lem (x ∷ xs) zero = omega arith
first_of_lem (x ∷ xs) (suc k) = omega (arith, first_of_lem xs k)

-- ---- the loop of `sum_of`: what is added, and what is due in the bands that are left, make the whole

pub record Adding (total : ℕ) (ends rates : List ℕ) (added from whole : ℕ) : Type 0 where
  pub equal : length ends ≡ length rates
  pub left : added + sum (products (parts total from ends) rates) ≡ whole
  pub few : whole ≤ 1099511627776 * 65535

pub adding_first : {total : ℕ} {ends rates : List ℕ} → well_formed ends rates ≡ true → total ≤ limit → Adding total ends rates 0 0 (due total ends rates)
unfolding due
adding_first {total} {ends} {rates} w l = record { equal = (is_tariff ends rates w).equal; left = omega arith; few = due_bound total ends rates w l }

-- no band is left
pub adding_end : {total added from whole : ℕ} {ends rates : List ℕ} → Adding total ends rates added from whole → (length ends ≡ 0) ⊎ (length rates ≡ 0) → added ≡ whole
unfolding parts products sum
adding_end {ends = []} a h = omega (arith, a.left)
adding_end {ends = e ∷ ends} {rates = rates} a (inl h) = absurd (omega arith)
adding_end {ends = e ∷ ends} {rates = rates} a (inr h) = absurd (omega (arith, a.equal))

-- the first band and the others
pub first_band : (total from to rate : ℕ) (ends rates : List ℕ)
    → sum (products (parts total from (to ∷ ends)) (rate ∷ rates)) ≡ (min total to - from) * rate + sum (products (parts total to ends) rates)
unfolding parts products sum
first_band total from to rate ends rates = refl

-- one band more
module _ {total added from whole to rate p : ℕ} {ends rates ends' rates' : List ℕ} (a : Adding total ends rates added from whole)
    (one : (ends ≡ to ∷ ends') × (rates ≡ rate ∷ rates')) (is : p ≡ min total to - from) where
  band : added + (p * rate + sum (products (parts total to ends') rates')) ≡ whole
  band = rw is (rw (one.0, one.1, first_band total from to rate ends' rates') at a.left)

  pub product_fits : p * rate ≤ 1099511627776 * 65535
  product_fits = omega (arith, band, a.few)

  pub sum_fits : added + p * rate ≤ 1099511627776 * 65535
  sum_fits = omega (arith, band, a.few)

  pub adding_next : {sum' : ℕ} → sum' ≡ added + p * rate → Adding total ends' rates' sum' to whole
  adding_next e = record { equal = omega (arith, rw (one.0, one.1) at a.equal); left = omega (arith, band, e); few = a.few }

-- ---- the answers of `rain_charge`

module _ (total : ℕ) (ends rates : List ℕ) {t : Bool} (e : t ≡ well_formed ends rates) where
  pub malformed : t ≡ false → refused (kind 40 []) ≡ charge_of total ends rates
  unfolding charge_of
  malformed h = simp (sym e ∙ h)

  module _ (h : t ≡ true) where
    pub too_large : limit < total → refused (kind 41 []) ≡ charge_of total ends rates
    unfolding charge_of
    too_large l = simp (sym e ∙ h, lt-ltb _ _ l)

    pub charged : {s : ℕ} → total ≤ limit → s ≡ due total ends rates
        → accepted (record { charge = s / 1000; remainder = s % 1000 }) ≡ charge_of total ends rates
    unfolding charge_of
    charged l d = rw d (simp (sym e ∙ h, le-ltb _ _ l))
