-- What codes and values of the halfword scheme have to do with the exact tenths (M-108), for a picture.
use Rattle.std.specs.Prelude.{ℕ, ◌+◌, ◌-◌, ◌≤◌, ◌<◌, List, ◌≡◌, get_or, ℤ, Float}
use Rattle.std.specs.Float.{nan}
use Rattle.wire.specs.Result.{accepted}
use Rattle.head.specs.Header.{message_header}
use Rattle.scale.specs.Tenths.{number, Near, Less, Halfwords}

-- The first n codes and values, by halfwords 22 and 23 of the file's description block, which starts at message header + 18.
pub record InTenths (file : List ℕ) (n : ℕ) (codes : List ℕ) (values : List Float) : Type 0 where
  pub header : ℕ
  pub header_is : message_header file ≡ accepted header
  pub m : ℤ
  pub i : ℕ
  pub halfwords : Halfwords file (header + 18) m i
  pub to_255 : (a : ℕ) → a < n → get_or codes a 0 ≤ 255
  -- each value is within 1 / 8 of (m + (code - 2) × i) / 10
  pub near : (a : ℕ) → a < n → 2 ≤ get_or codes a 0 → Near m i (get_or codes a 0 - 2) (number (get_or values a nan))
  -- and that of a larger code is larger
  pub rise : (a b : ℕ) → a < n → b < n → 2 ≤ get_or codes a 0 → get_or codes a 0 < get_or codes b 0 → Less (number (get_or values a nan)) (number (get_or values b nan))
