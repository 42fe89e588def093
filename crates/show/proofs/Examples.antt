-- Words and the schemes that they name: a number of these is the float nearest to it. A date and a time of day as text. Assumes nothing.
use Rattle.std.proofs.Common.{◌≡◌, [], ◌∷◌, ◌++◌, refl}
use lib.Ieee.{div, of_int}
use Rattle.wire.specs.Float.{f32}
use Rattle.scale.specs.declared.physical.Scheme.TheVariants as Scheme
use Rattle.std.specs.Prelude.{Ok, Err}
use Rattle.show.specs.declared.words.BadScheme.TheVariants as BadScheme
use Rattle.show.specs.Dates.{date_text, time_text}
use Rattle.show.specs.Words.{number_from, point_at, quotient_of, decimal_of, class, precipitation, legacy, scheme_of}

pub class_named : scheme_of class ≡ Ok Scheme.Class
unfolding scheme_of
class_named = refl

-- precipitation:25.4
pub inches : scheme_of (precipitation ++ (50 ∷ 53 ∷ 46 ∷ 52 ∷ [])) ≡ Ok (Scheme.Precipitation (f32 254 10))
unfolding scheme_of point_at number_from quotient_of decimal_of f32 div of_int
inches = refl

-- legacy:0.01
pub hundredth : scheme_of (legacy ++ (48 ∷ 46 ∷ 48 ∷ 49 ∷ [])) ≡ Ok (Scheme.Legacy (f32 1 100))
unfolding scheme_of point_at number_from quotient_of decimal_of f32 div of_int
hundredth = refl

-- legacy:1. and legacy:.5
pub no_fraction : scheme_of (legacy ++ (49 ∷ 46 ∷ [])) ≡ Err BadScheme.BadNumber
unfolding scheme_of point_at decimal_of
no_fraction = refl

pub no_whole : scheme_of (legacy ++ (46 ∷ 53 ∷ [])) ≡ Err BadScheme.BadNumber
unfolding scheme_of point_at decimal_of
no_whole = refl

-- 2026-05-20 and 22:14:37
pub a_date : date_text (record { year = 2026; month = 5; day = 20 }) ≡ 50 ∷ 48 ∷ 50 ∷ 54 ∷ 45 ∷ 48 ∷ 53 ∷ 45 ∷ 50 ∷ 48 ∷ []
a_date = refl

pub a_time : time_text 80077 ≡ 50 ∷ 50 ∷ 58 ∷ 49 ∷ 52 ∷ 58 ∷ 51 ∷ 55 ∷ []
a_time = refl

-- the last second of a day, 23:59:59
pub last_second : time_text 86399 ≡ 50 ∷ 51 ∷ 58 ∷ 53 ∷ 57 ∷ 58 ∷ 53 ∷ 57 ∷ []
last_second = refl
