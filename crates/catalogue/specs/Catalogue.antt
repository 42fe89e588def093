-- What the products of each known message code are: the Rust's products.rs, with the factors of its decode/mod.rs and a unit for each
-- moment, beyond document 01.
use Rattle.std.specs.Prelude.{ℕ, List, [], ◌∷◌, true, false, cond, ◌==◌, ℤ, pos, negsuc, Float, Option, Some, None}
use Rattle.wire.specs.Float.{f32, ◌⊗◌}
use Rattle.scale.specs.declared.physical.Scheme.{Scheme}
use Rattle.catalogue.specs.declared.product.Product.{Product}
use Rattle.catalogue.specs.declared.product.Moment.{Moment}
use Rattle.catalogue.specs.declared.product.Unit.{Unit}

-- a knot in metres a second; an inch in millimetres, and a hundredth of it
abbrev pub knot : Float
knot = f32 514444 1000000

abbrev pub inch : Float
inch = f32 254 10

abbrev pub hundredth : Float
hundredth = f32 1 100 ⊗ inch

abbrev pub legacy : Float → Scheme
legacy post = Scheme.Legacy post

abbrev pub unscaled : Scheme
unscaled = legacy (f32 1 1)

abbrev pub precipitation : Float → Scheme
precipitation factor = Scheme.Precipitation factor

-- a product of one elevation, with its gate length in metres
abbrev pub radial_scan : Scheme → Moment → ℕ → Product
radial_scan scheme moment gate = record { scheme = scheme; moment = moment; gate_length = Some gate; has_elevation = true }

-- a product of the ground below: the packet has the gate length
abbrev pub surface : Scheme → Moment → Product
surface scheme moment = record { scheme = scheme; moment = moment; gate_length = None; has_elevation = false }

-- a product of the best elevations
abbrev pub best_tilt : Scheme → Moment → ℕ → Product
best_tilt scheme moment gate = record { scheme = scheme; moment = moment; gate_length = Some gate; has_elevation = false }

unfoldable pub table : List (ℕ × Product)
table =
    (19, radial_scan unscaled Moment.Dbzh 1000)
    ∷ (20, radial_scan unscaled Moment.Dbzh 2000)
    ∷ (25, radial_scan (legacy knot) Moment.Vradh 250)
    ∷ (27, radial_scan (legacy knot) Moment.Vradh 1000)
    ∷ (28, radial_scan (legacy knot) Moment.Wradh 250)
    ∷ (30, radial_scan (legacy knot) Moment.Wradh 1000)
    ∷ (56, radial_scan (legacy knot) Moment.Srmv 1000)
    ∷ (78, surface (legacy inch) Moment.Accum)
    ∷ (79, surface (legacy inch) Moment.Accum)
    ∷ (80, surface (legacy inch) Moment.Accum)
    ∷ (94, radial_scan Scheme.Halfword Moment.Dbzh 1000)
    ∷ (99, radial_scan Scheme.Halfword Moment.Vradh 250)
    ∷ (153, radial_scan Scheme.Halfword Moment.Dbzh 250)
    ∷ (154, radial_scan Scheme.Halfword Moment.Vradh 250)
    ∷ (155, radial_scan Scheme.Halfword Moment.Wradh 250)
    ∷ (159, radial_scan Scheme.Float Moment.Zdr 250)
    ∷ (161, radial_scan Scheme.Float Moment.Rhohv 250)
    ∷ (163, radial_scan Scheme.Float Moment.Kdp 250)
    ∷ (165, radial_scan Scheme.Class Moment.Hclass 250)
    ∷ (170, surface (precipitation hundredth) Moment.Accum)
    ∷ (172, surface (precipitation hundredth) Moment.Accum)
    ∷ (173, surface (precipitation hundredth) Moment.Accum)
    ∷ (174, surface (precipitation hundredth) Moment.Accum)
    ∷ (175, surface (precipitation hundredth) Moment.Accum)
    ∷ (176, surface (precipitation inch) Moment.Rate)
    ∷ (177, best_tilt Scheme.Class Moment.Hclass 250)
    ∷ []

-- the entry of a code
unfoldable pub entry_in : List (ℕ × Product) → ℕ → Option Product
entry_in [] code = None
entry_in ((c, p) ∷ entries) code = cond (c == code) (Some p) (entry_in entries code)

unfoldable pub product_of : ℤ → Option Product
product_of (pos n) = entry_in table n
product_of (negsuc n) = None

abbrev pub unit_of : Moment → Unit
unit_of Moment.Dbzh = Unit.Dbz
unit_of Moment.Vradh = Unit.MetresPerSecond
unit_of Moment.Wradh = Unit.MetresPerSecond
unit_of Moment.Srmv = Unit.MetresPerSecond
unit_of Moment.Zdr = Unit.Decibels
unit_of Moment.Rhohv = Unit.Ratio
unit_of Moment.Kdp = Unit.DegreesPerKilometre
unit_of Moment.Hclass = Unit.Class
unit_of Moment.Accum = Unit.Millimetres
unit_of Moment.Rate = Unit.MillimetresPerHour
