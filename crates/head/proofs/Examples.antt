-- Worked lines: P13, what stands on an edge, and one description block to the bits. Each is computed. Assumes nothing.
use Prim.Native.Nat.{ℕ, ◌^◌, ◌+◌}
use mathlib.Core.List.{List, [], ◌∷◌, ◌++◌}
use mathlib.Core.Path.{◌≡◌, refl}
use lib.ListN.{replicate}
use lib.IntN.{pos, negsuc}
use lib.Ieee.{binary64, of_bits, of_int, mul, div}
use Rattle.wire.specs.Refusal.{kind, nat, whole}
use Rattle.wire.specs.Result.{accepted, refused}
use Rattle.wire.specs.Text.{leading, trim_front, trim_end}
use Rattle.wire.specs.Bytes.{u16_at, u32_at, i16_at, i32_at, signed}
use Rattle.wire.specs.Float.{f64}
use Rattle.wire.specs.Products.{codes, known}
use Rattle.head.specs.Header.{cut, separator, first_token, token, product, site, first_of, header_at, message_header, scan_time}
use Rattle.head.specs.Pdb.{field_at, hw_i16, hw_u16, hw_i32, pdb_fields}

-- exactly 86,400 ahead passes, one more does not
pub ahead : scan_time 2 (pos 0) 0 ≡ accepted 86400
unfolding scan_time
ahead = refl

pub too_far_ahead : scan_time 2 (pos 1) 0 ≡ refused (kind 5 (nat 86401 ∷ []))
unfolding scan_time
too_far_ahead = refl

-- the greatest clock, and one more
pub last_clock : scan_time 1 (pos 0) (2 ^ 40) ≡ accepted 0
unfolding scan_time
last_clock = refl

pub clock_out : scan_time 1 (pos 0) (2 ^ 40 + 1) ≡ refused (kind 6 [])
unfolding scan_time
clock_out = refl

-- the day's last second, one more, and one below 0
pub last_second : scan_time 1 (pos 86399) 0 ≡ accepted 86399
unfolding scan_time
last_second = refl

pub second_out : scan_time 1 (pos 86400) 0 ≡ refused (kind 4 (nat 1 ∷ nat 86400 ∷ []))
unfolding scan_time
second_out = refl

pub second_below : scan_time 1 (negsuc 0) 0 ≡ refused (kind 4 (nat 1 ∷ whole (negsuc 0) ∷ []))
unfolding scan_time
second_below = refl

-- the order 4, 6, 5: each line has reason for the later ones too (no day of sixteen bits has reason for both 6 and 5)
pub four_first : scan_time (2 ^ 30) (pos 86400) (2 ^ 40 + 1) ≡ refused (kind 4 (nat (2 ^ 30) ∷ nat 86400 ∷ []))
unfolding scan_time
four_first = refl

pub six_next : scan_time (2 ^ 30) (pos 0) (2 ^ 40 + 1) ≡ refused (kind 6 [])
unfolding scan_time
six_next = refl

-- N0BLOT
abbrev n0blot : List ℕ
n0blot = 78 ∷ 48 ∷ 66 ∷ 76 ∷ 79 ∷ 84 ∷ []

-- a line before it that is no token, and blanks at both ends
abbrev two_lines : List ℕ
two_lines = (83 ∷ 68 ∷ 85 ∷ 83 ∷ 53 ∷ 51 ∷ 32 ∷ 75 ∷ []) ++ separator ++ (32 ∷ 9 ∷ []) ++ n0blot ++ (12 ∷ 10 ∷ []) ++ separator

pub second_line : token two_lines ≡ accepted 13
unfolding token cut first_token leading trim_front trim_end
second_line = refl

-- N0B, LOT
pub its_product : product two_lines 13 ≡ 78 ∷ 48 ∷ 66 ∷ []
its_product = refl

pub its_site : site two_lines 13 ≡ 76 ∷ 79 ∷ 84 ∷ []
its_site = refl

-- CR CR CR LF: the separator is at the second CR, and the first is trimmed
pub three_crs : cut (65 ∷ 13 ∷ 13 ∷ 13 ∷ 10 ∷ 66 ∷ []) ≡ (65 ∷ 13 ∷ []) ∷ (66 ∷ []) ∷ []
unfolding cut
three_crs = refl

pub three_crs_token : token (n0blot ++ (13 ∷ 13 ∷ 13 ∷ 10 ∷ [])) ≡ accepted 0
unfolding token cut first_token leading trim_front trim_end
three_crs_token = refl

-- seven alphanumerics are no token, unless byte 128 cuts them to six; and byte 128 cuts six to five
pub seven : token (replicate 121 32 ++ n0blot ++ (88 ∷ [])) ≡ refused (kind 1 [])
unfolding token cut first_token leading trim_front trim_end
seven = refl

pub seven_cut : token (replicate 122 32 ++ n0blot ++ (88 ∷ [])) ≡ accepted 122
unfolding token cut first_token leading trim_front trim_end
seven_cut = refl

pub six_cut : token (replicate 123 32 ++ n0blot) ≡ refused (kind 1 [])
unfolding token cut first_token leading trim_front trim_end
six_cut = refl

-- a header at offset 0 is found in 21 bytes and not in 20
pub twenty : message_header (0 ∷ 19 ∷ replicate 16 0 ++ (255 ∷ 255 ∷ [])) ≡ refused (kind 2 [])
unfolding message_header first_of
twenty = refl

pub twenty_one : message_header (0 ∷ 19 ∷ replicate 16 0 ++ (255 ∷ 255 ∷ 0 ∷ [])) ≡ accepted 0
unfolding message_header first_of header_at known codes i16_at u16_at signed
twenty_one = refl

-- field 0, the last that fits, and a field past the end
pub field_0 : field_at 100 0 0 2 ≡ refused (kind 3 (nat 0 ∷ []))
unfolding field_at
field_0 = refl

pub field_last : field_at 10 2 4 2 ≡ accepted 8
unfolding field_at
field_last = refl

pub field_past : field_at 10 2 5 2 ≡ refused (kind 3 (nat 5 ∷ []))
unfolding field_at
field_past = refl

-- A block at place 2: 30.679 and -88.234 degrees, 187 feet, code 94, vcp 212, day 20,000, second 43,200, 2.4 degrees. The degrees have
-- other bits if multiplied by 0.001 or 0.1, and the height has other bits than 56.9976.
abbrev block : List ℕ
block =
    0 ∷ 0 ∷ 255 ∷ 255 ∷ 0 ∷ 0 ∷ 119 ∷ 215 ∷ 255 ∷ 254 ∷ 167 ∷ 86 ∷ 0 ∷ 187 ∷ 0 ∷ 94 ∷ 0 ∷ 0 ∷ 0 ∷ 212 ∷ 0 ∷ 0 ∷ 0 ∷ 0 ∷ 78 ∷ 32 ∷ 0 ∷ 0 ∷ 168 ∷ 192
    ∷ replicate 12 0 ++ (0 ∷ 24 ∷ [])

pub fields : pdb_fields block 2
    ≡ accepted (record {
      lat = of_bits binary64 0x403e_add2_f1a9_fbe7;
      lon = of_bits binary64 0xc056_0ef9_db22_d0e5;
      height_m = of_bits binary64 0x404c_7fb1_5b57_3eac;
      product_code = pos 94;
      vcp = 212;
      scan_days = 20000;
      scan_seconds = pos 43200;
      elevation_deg = of_bits binary64 0x4003_3333_3333_3333;
      lat_thousandths = pos 30679;
      lon_thousandths = negsuc 88233;
      height_feet = pos 187;
      elevation_tenths = pos 24;
    })
unfolding pdb_fields hw_i32 hw_i16 hw_u16 field_at i32_at i16_at u32_at u16_at signed f64 of_int of_bits mul div
fields = refl
