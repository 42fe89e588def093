-- The physical values of a reading that takes its own buffer for them. Assumes nothing.
use Rattle.std.specs.Prelude.{ℕ, List, replicate, Float}
use Rattle.wire.specs.Float.{f32}

-- what a buffer of n places holds before it
unfoldable pub blank_values : ℕ → List Float
blank_values n = replicate n (f32 0 1)

-- The reading goes as one that leaves these values, and where there was memory for a buffer it holds them.
pub record Leaves (reads holds : List Float → Type 0) : Type 0 where
  pub values : List Float
  pub read : reads values
  pub held : holds values
