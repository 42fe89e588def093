-- Worked answers, computed from the definitions. Assumes nothing.
use mathlib.Core.List.{[], ◌∷◌}
use mathlib.Core.Path.{◌≡◌, refl}
use mathlib.Core.Bool.{true, false}
use lib.ListN.{length}
use lib.IntN.{pos, negsuc}
use lib.Ieee.{nan, inf, neg, of_bits}
use Rattle.std.specs.Prelude.{Some, None}
use Rattle.wire.specs.Bytes.{u16_at, u32_at, i16_at, i32_at, signed, if_inside, read_u16, read_i32}
use Rattle.wire.specs.Float.{f32, f32_at}
use Rattle.wire.specs.Products.{codes, known}
use Rattle.wire.specs.Text.{member}

pub record Reads : Type 0 where
  pub half : read_u16 (1 ∷ 2 ∷ 3 ∷ []) 1 ≡ Some 515
  pub past : read_u16 (1 ∷ 2 ∷ 3 ∷ []) 2 ≡ None
  pub far_past : read_u16 [] 18446744073709551615 ≡ None
  pub least : read_i32 (128 ∷ 0 ∷ 0 ∷ 0 ∷ []) 0 ≡ Some (negsuc 2147483647)
  pub minus_one : i16_at (255 ∷ 255 ∷ []) 0 ≡ negsuc 0
  pub af1f : i16_at (0xAF ∷ 0x1F ∷ []) 0 ≡ negsuc 20704

pub reads : Reads
unfolding if_inside u16_at u32_at i16_at i32_at signed
reads = record { half = refl; past = refl; far_past = refl; least = refl; minus_one = refl; af1f = refl }

pub record Floats : Type 0 where
  pub quarter : f32_at (0x3E ∷ 0x80 ∷ 0 ∷ 0 ∷ []) 0 ≡ f32 1 4
  pub minus_zero : f32_at (0x80 ∷ 0 ∷ 0 ∷ 0 ∷ []) 0 ≡ neg (f32 0 1)
  pub infinite : f32_at (0x7F ∷ 0x80 ∷ 0 ∷ 0 ∷ []) 0 ≡ inf false
  pub quiet : f32_at (0x7F ∷ 0xC0 ∷ 0 ∷ 1 ∷ []) 0 ≡ nan
  pub signalling : f32_at (0xFF ∷ 0x80 ∷ 0 ∷ 1 ∷ []) 0 ≡ nan

pub floats : Floats
unfolding f32_at f32 of_bits neg u32_at u16_at
floats = record { quarter = refl; minus_zero = refl; infinite = refl; quiet = refl; signalling = refl }

pub record Codes : Type 0 where
  pub count : length codes ≡ 26
  pub first : known (pos 19) ≡ true
  pub last : known (pos 177) ≡ true
  pub between : known (pos 171) ≡ false
  pub negative : known (negsuc 18) ≡ false

pub table : Codes
unfolding known member codes
table = record { count = refl; first = refl; last = refl; between = refl; negative = refl }
