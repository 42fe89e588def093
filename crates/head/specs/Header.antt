-- header.rs. The AWIPS token: "first 128 bytes, cut at CR CR LF left to right, space, tab, LF, FF and CR trimmed at both ends, first
-- piece of six alphanumerics, as 3 + 3". The message header: "offsets from 0 below min(length, 128) - 20, first known code with -1
-- eighteen bytes on". The scan time: "(days - 1) × 86,400 + seconds; more than 86,400 ahead of the clock is refused".
use Rattle.std.specs.Prelude.{ℕ, zero, suc, ◌+◌, ◌*◌, ◌-◌, ◌^◌, min, List, [], ◌∷◌, Bool, false, cond, ◌&&◌, ◌||◌, length, take, eqb, ltb, ℤ, pos, negsuc, Option, Some, None}
use Rattle.std.specs.Char.{is_ascii_whitespace, is_ascii_alphanumeric}
use Rattle.std.proofs.Math.Seq.{slice}
use Rattle.wire.specs.Refusal.{kind, nat, whole}
use Rattle.wire.specs.Result.{Result, accepted, refused, refuse}
use Rattle.wire.specs.Text.{same, all, trim_front, trim_end, leading}
use Rattle.wire.specs.Bytes.{i16_at}
use Rattle.wire.specs.Products.{known}

-- CR CR LF
abbrev pub separator : List ℕ
separator = 13 ∷ 13 ∷ 10 ∷ []

-- space, tab, LF, FF, CR
abbrev pub blank : ℕ → Bool
blank = is_ascii_whitespace

-- ASCII: 0 to 9, A to Z, a to z
abbrev pub alphanumeric : ℕ → Bool
alphanumeric = is_ascii_alphanumeric

-- a byte more at the front of the first piece
abbrev pub longer : ℕ → List (List ℕ) → List (List ℕ)
longer a [] = (a ∷ []) ∷ []
longer a (p ∷ ps) = (a ∷ p) ∷ ps

-- the pieces between the separators, left to right; a separator that begins inside another is none
unfoldable pub cut : List ℕ → List (List ℕ)
cut [] = [] ∷ []
cut (a ∷ []) = (a ∷ []) ∷ []
cut (a ∷ b ∷ []) = (a ∷ b ∷ []) ∷ []
cut (a ∷ b ∷ c ∷ s) = cond (same separator (a ∷ b ∷ c ∷ [])) ([] ∷ cut s) (longer a (cut (b ∷ c ∷ s)))

-- the first piece
abbrev pub first : List (List ℕ) → List ℕ
first [] = []
first (p ∷ ps) = p

abbrev pub trimmed : List ℕ → List ℕ
trimmed p = trim_end blank (trim_front blank p)

-- six alphanumerics
abbrev pub is_token : List ℕ → Bool
is_token s = eqb (length s) 6 && all alphanumeric s

-- the place of the first token among the pieces, of which the first stands at `at`
unfoldable pub first_token : ℕ → List (List ℕ) → Result ℕ
first_token at [] = refused (kind 1 [])
first_token at (p ∷ ps) = cond (is_token (trimmed p)) (accepted (at + leading blank p)) (first_token (at + length p + 3) ps)

unfoldable pub token : List ℕ → Result ℕ
token file = first_token 0 (cut (take 128 file))

-- the token at place k "as 3 + 3": its product and its site
abbrev pub product : List ℕ → ℕ → List ℕ
product file k = slice k (k + 3) file

abbrev pub site : List ℕ → ℕ → List ℕ
site file k = slice (k + 3) (k + 6) file

-- a piece's token, by its place in the piece
unfoldable pub token_in : List ℕ → Option ℕ
token_in p = cond (is_token (trimmed p)) (Some (leading blank p)) None

-- the first of `count` numbers from n on that passes the test
unfoldable pub first_of : (ℕ → Bool) → ℕ → ℕ → Result ℕ
first_of p n zero = refused (kind 2 [])
first_of p n (suc count) = cond (p n) (accepted n) (first_of p (n + 1) count)

abbrev pub is_minus_one : ℤ → Bool
is_minus_one (pos n) = false
is_minus_one (negsuc n) = eqb n 0

-- a known code at the offset, and -1 eighteen bytes on
unfoldable pub header_at : List ℕ → ℕ → Bool
header_at file off = known (i16_at file off) && is_minus_one (i16_at file (off + 18))

unfoldable pub message_header : List ℕ → Result ℕ
message_header file = first_of (header_at file) 0 (min (length file) 128 - 20)

-- the seconds since 1970 at second n of a day; day 1 is 1970-01-01
abbrev pub second_of : ℕ → ℕ → ℕ
second_of days n = (days - 1) * 86400 + n

-- 4 for day 0 and for seconds outside 0 to 86,399; 6 for a clock above 2^40; 5, with the seconds ahead, for more than 86,400 ahead of the clock
unfoldable pub scan_time : ℕ → ℤ → ℕ → Result ℕ
scan_time days (negsuc n) clock = refused (kind 4 (nat days ∷ whole (negsuc n) ∷ []))
scan_time days (pos n) clock =
    refuse (eqb days 0 || ltb 86399 n) (kind 4 (nat days ∷ nat n ∷ []))
    (refuse (ltb (2 ^ 40) clock) (kind 6 [])
    (refuse (ltb (clock + 86400) (second_of days n)) (kind 5 (nat (second_of days n - clock) ∷ []))
    (accepted (second_of days n))))
