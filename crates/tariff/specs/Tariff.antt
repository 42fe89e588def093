-- The rain charge of a total by tariff (document 02, M-106). A tariff is two lists: the upper ends of its bands, and their rates, in cents
-- per 1,000 units of total.
use Rattle.std.specs.Prelude.{ℕ, ◌+◌, ◌*◌, ◌-◌, ◌/◌, ◌%◌, min, Bool, not, ◌&&◌, List, [], ◌∷◌, eqb, leb, ltb, length, get_or}
use Rattle.wire.specs.Products.{climbs}
use Rattle.wire.specs.Refusal.{kind}
use Rattle.wire.specs.Result.{Result, accepted, refuse}
use Rattle.wire.specs.Text.{all}
use Rattle.tariff.specs.declared.charge.Charge.{Charge}

-- the largest total that is charged, 2 ^ 40
abbrev pub limit : ℕ
limit = 1099511627776

-- the upper end of the last band
abbrev pub last_of : List ℕ → ℕ
last_of ends = get_or ends (length ends - 1) 0

abbrev pub is_rate : ℕ → Bool
is_rate r = leb r 65535

-- 1 to 8 bands, as many rates as ends, ends that ascend strictly, the last at least 2 ^ 40, rates of at most 65,535
unfoldable pub well_formed : List ℕ → List ℕ → Bool
well_formed ends rates =
    leb 1 (length ends) && leb (length ends) 8 && eqb (length ends) (length rates) && climbs ends && leb limit (last_of ends) && all is_rate rates

-- the part of a total inside the band above `from` with the upper end `to`: `-` of ℕ stops at 0
abbrev pub part : ℕ → ℕ → ℕ → ℕ
part total from to = min total to - from

-- the parts, band after band: each band begins where the one before it ends, the first at 0
unfoldable pub parts : ℕ → ℕ → List ℕ → List ℕ
parts total from [] = []
parts total from (to ∷ ends) = part total from to ∷ parts total to ends

-- each part times its rate
unfoldable pub products : List ℕ → List ℕ → List ℕ
products [] rates = []
products (p ∷ ps) [] = []
products (p ∷ ps) (r ∷ rates) = p * r ∷ products ps rates

unfoldable pub sum : List ℕ → ℕ
sum [] = 0
sum (x ∷ xs) = x + sum xs

-- the products of a tariff's bands, and what they add up to
abbrev pub band_products : ℕ → List ℕ → List ℕ → List ℕ
band_products total ends rates = products (parts total 0 ends) rates

unfoldable pub due : ℕ → List ℕ → List ℕ → ℕ
due total ends rates = sum (band_products total ends rates)

-- 40, then 41; else what is due divided by 1,000 once, rounded down, and what is left of it
unfoldable pub charge_of : ℕ → List ℕ → List ℕ → Result Charge
charge_of total ends rates =
    refuse (not (well_formed ends rates)) (kind 40 [])
    (refuse (ltb limit total) (kind 41 [])
    (accepted (record { charge = due total ends rates / 1000; remainder = due total ends rates % 1000 })))
