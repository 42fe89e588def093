-- What rain charges are, in the request's words (document 02, M-106).
use Rattle.std.specs.Prelude.{ℕ, ◌+◌, ◌*◌, ◌^◌, ◌≤◌, ◌<◌, List, [], ◌≡◌, length, get_or, take}
use Rattle.wire.specs.Products.{Ascending}
use Rattle.wire.specs.Refusal.{kind}
use Rattle.std.specs.Prelude as Std
use Rattle.wire.specs.declared.error.Level3DecodeError.{Level3DecodeError}
use Rattle.wire.specs.Result.{accepted, refused, answer}
use Rattle.tariff.specs.declared.charge.Charge.{Charge}
use Rattle.tariff.specs.Tariff.{last_of, parts, sum, band_products, charge_of}

-- A tariff: 1 to 8 bands, two lists of equal length, ends that ascend strictly, the last at least 2 ^ 40, rates of at most 65,535.
pub record Tariff (ends rates : List ℕ) : Type 0 where
  pub some : 1 ≤ length ends
  pub few : length ends ≤ 8
  pub equal : length ends ≡ length rates
  pub ascending : Ascending ends
  pub far : 2 ^ 40 ≤ last_of ends
  pub low : (k : ℕ) → get_or rates k 0 ≤ 65535

-- What is charged for a total by a tariff.
pub record Charged (total : ℕ) (ends rates : List ℕ) (c : Charge) : Type 0 where
  -- the products are added and divided by 1,000 once, rounded down
  pub whole : c.charge * 1000 + c.remainder ≡ sum (band_products total ends rates)
  pub below : c.remainder < 1000
  pub add_up : sum (parts total 0 ends) ≡ total
  -- no product and no sum of the first ones is over 64 bits
  pub product_fits : (k : ℕ) → get_or (band_products total ends rates) k 0 < 2 ^ 64
  pub sum_fits : (k : ℕ) → sum (take k (band_products total ends rates)) < 2 ^ 64

pub record Charges : Type 0 where
  -- anything but a tariff is malformed; then a total above 2 ^ 40 is too large; all else is charged
  pub malformed : (total : ℕ) (ends rates : List ℕ) → (Tariff ends rates → ⊥) → charge_of total ends rates ≡ refused (kind 40 [])
  pub too_large : (total : ℕ) (ends rates : List ℕ) → Tariff ends rates → 2 ^ 40 < total → charge_of total ends rates ≡ refused (kind 41 [])
  pub taken : (total : ℕ) (ends rates : List ℕ) → Tariff ends rates → total ≤ 2 ^ 40 → (c : Charge) × (charge_of total ends rates ≡ accepted c)
  pub charged : (total : ℕ) (ends rates : List ℕ) (c : Charge) → charge_of total ends rates ≡ accepted c → Charged total ends rates c
  -- a larger total is never charged less: any two calls of `rain_charge` with one tariff
  pub never_less : (s t : ℕ) (ends rates : List ℕ) (q r : Std.Result Charge Level3DecodeError) → answer q ≡ charge_of s ends rates → answer r ≡ charge_of t ends rates
      → s ≤ t → (c d : Charge) → q ≡ Std.Ok c → r ≡ Std.Ok d → c.charge ≤ d.charge
