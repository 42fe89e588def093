-- pdb.rs: "Field i stands at block start + 2 × (i - 1): 2 latitude and 4 longitude (i32, thousandths), 6 height (i16 feet × 0.3048),
-- 7 product code, 9 vcp, 12 days, 13 seconds (i32), 21 elevation (tenths, f64)". "Field 0 or a place past the end is 3", with the index.
-- Latitude, longitude, height and elevation are given as whole numbers too (document 02, M-110).
use Rattle.std.specs.Prelude.{ℕ, ◌+◌, ◌*◌, ◌-◌, List, [], ◌∷◌, ◌||◌, ◌≡◌, length, eqb, ltb, ℤ, Float}
use Rattle.std.specs.Float.{binary64}
use Rattle.std.specs.Float.Ieee.{mul, div}
use Rattle.wire.specs.Refusal.{kind, nat}
use Rattle.wire.specs.Result.{Result, accepted, refuse, then}
use Rattle.wire.specs.Bytes.{u16_at, i16_at, i32_at}
use Rattle.wire.specs.Float.{f64, whole64, f32_at}
use Rattle.head.specs.declared.pdb.F32Pair.{F32Pair}
use Rattle.head.specs.declared.pdb.PdbFields.{PdbFields}

-- the place of field i, of so many bytes, in a file of so many, with the block at a place
unfoldable pub field_at : ℕ → ℕ → ℕ → ℕ → Result ℕ
field_at len block i width =
    refuse (eqb i 0 || ltb len (block + 2 * (i - 1) + width)) (kind 3 (nat i ∷ [])) (accepted (block + 2 * (i - 1)))

unfoldable pub hw_i16 : List ℕ → ℕ → ℕ → Result ℤ
hw_i16 file block i = then (field_at (length file) block i 2) λ k. accepted (i16_at file k)

unfoldable pub hw_u16 : List ℕ → ℕ → ℕ → Result ℕ
hw_u16 file block i = then (field_at (length file) block i 2) λ k. accepted (u16_at file k)

unfoldable pub hw_i32 : List ℕ → ℕ → ℕ → Result ℤ
hw_i32 file block i = then (field_at (length file) block i 4) λ k. accepted (i32_at file k)

-- a scale and an offset, one after the other
unfoldable pub hw_pair : List ℕ → ℕ → ℕ → Result F32Pair
hw_pair file block i = then (field_at (length file) block i 8) λ k. accepted (record { scale = f32_at file k; offset = f32_at file (k + 4) })

abbrev pub thousandths : ℤ → Float
thousandths n = div binary64 (whole64 n) (f64 1000 1)

abbrev pub tenths : ℤ → Float
tenths n = div binary64 (whole64 n) (f64 10 1)

abbrev pub metres : ℤ → Float
metres feet = mul binary64 (whole64 feet) (f64 3048 10000)

unfoldable pub pdb_fields : List ℕ → ℕ → Result PdbFields
pdb_fields file block =
    then (hw_i32 file block 2) λ lat.
    then (hw_i32 file block 4) λ lon.
    then (hw_i16 file block 6) λ feet.
    then (hw_i16 file block 7) λ code.
    then (hw_u16 file block 9) λ vcp.
    then (hw_u16 file block 12) λ days.
    then (hw_i32 file block 13) λ seconds.
    then (hw_i16 file block 21) λ elevation.
    accepted (record {
      lat = thousandths lat;
      lon = thousandths lon;
      height_m = metres feet;
      product_code = code;
      vcp = vcp;
      scan_days = days;
      scan_seconds = seconds;
      elevation_deg = tenths elevation;
      lat_thousandths = lat;
      lon_thousandths = lon;
      height_feet = feet;
      elevation_tenths = elevation;
    })

-- Each float of a description record is the stated operation on the whole number beside it, in f64 (document 02, M-110).
pub record Coherent (f : PdbFields) : Type 0 where
  pub latitude : f.lat ≡ thousandths f.lat_thousandths
  pub longitude : f.lon ≡ thousandths f.lon_thousandths
  pub height : f.height_m ≡ metres f.height_feet
  pub elevation : f.elevation_deg ≡ tenths f.elevation_tenths
