-- Centres of radials in degrees. Each f64 operation rounds once, in the written order.
use Rattle.std.specs.Prelude.{ℕ, ◌+◌, ◌*◌, ◌%◌, pos, Float}
use Rattle.std.specs.Float.{binary64}
use Rattle.std.specs.Float.Ieee.{add, div, rem}
use Rattle.wire.specs.Float.{f32, f64, whole32, whole64, ◌⊘◌}

-- packets 16 and AF1F, of start and width in tenths: the centre in twentieths of a degree, wrapped at the whole circle
abbrev pub twentieths : ℕ → ℕ → ℕ
twentieths start width = (2 * start + width) % 7200

-- in degrees
unfoldable pub centre : ℕ → ℕ → Float
centre start width = div binary64 (whole64 (pos (twentieths start width))) (f64 20 1)

-- packet 28, of azimuth and width in degrees: (azimuth + width / 2) % 360, the sign as the dividend's; NaN stays
unfoldable pub centre28 : Float → Float → Float
centre28 azimuth width = rem binary64 (add binary64 azimuth (div binary64 width (f64 2 1))) (f64 360 1)

-- a width in tenths as 20 reports it: in degrees, f32
unfoldable pub width_degrees : ℕ → Float
width_degrees width = whole32 (pos width) ⊘ f32 10 1
