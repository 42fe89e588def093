-- Document 02, M-100: beams inside the circle, from 0 up to but not including 360 degrees.
use Rattle.std.specs.Prelude.{◌≡◌, ℕ, ◌<◌, T, List, slice_index_or, Float}
use Rattle.std.specs.Float.{nan}
use Rattle.std.specs.Float.Ieee.{le, lt}
use Rattle.std.specs.Float.Ieee.Scale.{finite}
use Rattle.wire.specs.Float.{f64}

-- A centre in degrees is k / 20, rounded once, for a whole k below 7,200; and so a number, at least 0 and below 360.
pub record InCircle (x : Float) : Type 0 where
  pub k : ℕ
  pub below_7200 : k < 7200
  pub nearest : x ≡ f64 k 20
  pub is_finite : T (finite x)
  pub from_0 : T (le (f64 0 1) x)
  pub below_360 : T (lt x (f64 360 1))

-- each of the first n places
abbrev pub FirstInCircle : ℕ → List Float → Type 0
FirstInCircle n azimuths = (r : ℕ) → r < n → InCircle (slice_index_or azimuths r nan)
