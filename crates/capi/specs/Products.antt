-- What an entry says of a message code's products.
use Rattle.std.specs.Prelude.{ℕ, [], ◌∷◌, Bool, cond, Option, Some, None, Float}
use Rattle.wire.specs.Float.{f32}
use Rattle.scale.specs.declared.physical.Scheme.{Scheme}
use Rattle.catalogue.specs.declared.product.Moment.{Moment}
use Rattle.catalogue.specs.declared.product.Unit.{Unit}
use Rattle.catalogue.specs.declared.product.Product.{Product}
use Rattle.catalogue.specs.Catalogue.{unit_of}
use Rattle.capi.specs.declared.report.Report.{Report}
use Rattle.capi.specs.Report.{report}

-- ---- the products of a code

-- the number by which an entry takes the scheme, and the parameter that goes with it
abbrev pub scheme_number : Scheme → ℕ
scheme_number Scheme.Halfword = 0
scheme_number Scheme.Float = 1
scheme_number (Scheme.Precipitation factor) = 2
scheme_number (Scheme.Legacy post) = 3
scheme_number Scheme.Class = 4

abbrev pub parameter_of : Scheme → Float
parameter_of Scheme.Halfword = f32 0 1
parameter_of Scheme.Float = f32 0 1
parameter_of (Scheme.Precipitation factor) = factor
parameter_of (Scheme.Legacy post) = post
parameter_of Scheme.Class = f32 0 1

abbrev pub moment_number : Moment → ℕ
moment_number Moment.Dbzh = 0
moment_number Moment.Vradh = 1
moment_number Moment.Wradh = 2
moment_number Moment.Srmv = 3
moment_number Moment.Zdr = 4
moment_number Moment.Rhohv = 5
moment_number Moment.Kdp = 6
moment_number Moment.Hclass = 7
moment_number Moment.Accum = 8
moment_number Moment.Rate = 9

abbrev pub unit_number : Unit → ℕ
unit_number Unit.Dbz = 0
unit_number Unit.MetresPerSecond = 1
unit_number Unit.Decibels = 2
unit_number Unit.Ratio = 3
unit_number Unit.DegreesPerKilometre = 4
unit_number Unit.Class = 5
unit_number Unit.Millimetres = 6
unit_number Unit.MillimetresPerHour = 7

-- 0 where it is not fixed
abbrev pub gate_number : Option ℕ → ℕ
gate_number None = 0
gate_number (Some n) = n

abbrev pub flag : Bool → ℕ
flag b = cond b 1 0

-- 1, scheme, moment, unit, gate length, whether it has an elevation; and the scheme's parameter. Of a code that is not known zeros alone
abbrev pub product_report : Option Product → Report
product_report None = report 0 [] []
product_report (Some p) =
    report 0
    (1 ∷ scheme_number p.scheme ∷ moment_number p.moment ∷ unit_number (unit_of p.moment) ∷ gate_number p.gate_length ∷ flag p.has_elevation ∷ [])
    (parameter_of p.scheme ∷ [])
