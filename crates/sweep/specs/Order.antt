-- The order of the tests, on small inputs each of which fails several of them: "token, header, fields .., scan time (4, then 6, then 5), scale
-- fields, symbology, 10, 9, 36". And sweeps that are accepted, whole: one of a row, and clear scans (document 02, M-107).
use Rattle.std.specs.Prelude.{ℕ, ◌^◌, ◌+◌, List, [], ◌∷◌, ◌++◌, ◌≡◌, replicate, pos, None}
use Rattle.wire.specs.Float.{f32, f64}
use Rattle.wire.specs.Refusal.{kind, nat, float, buffer}
use Rattle.wire.specs.Result.{accepted, refused}
use Rattle.wire.specs.declared.error.Buffer.TheVariants as Buffer
use Rattle.scale.specs.declared.physical.Scheme.TheVariants as Scheme
use Rattle.symbology.specs.Table.{two, one_radial, no_radials, generic, no_list, two_xdr_radials}
use Rattle.symbology.specs.declared.figures.Packet.{Packet}
use Rattle.symbology.specs.declared.figures.Packet.TheVariants.{Packet16, PacketAf1f}
use Rattle.symbology.specs.declared.figures.Geometry.TheVariants.{RangeScale}
use Rattle.symbology.specs.declared.figures.Figures.{Figures}
use Rattle.sweep.specs.declared.sweep.Sweep.{Sweep}
use Rattle.sweep.specs.Sweep.{Accepted, sweep_of}

-- "N0BLOT" and a separator, a message header of code 94, and the fields 1 to 21 from byte 27 on: -1, zeros, and the day (field 12)
abbrev pub up_to21 : ℕ → List ℕ
up_to21 day =
    (78 ∷ 48 ∷ 66 ∷ 76 ∷ 79 ∷ 84 ∷ 13 ∷ 13 ∷ 10 ∷ [])
    ++ two 94
    ++ replicate 16 0
    ++ two 0xFFFF
    ++ replicate 20 0
    ++ two day
    ++ replicate 18 0

-- with fields 22, 23, 24: zeros, so that the halfword scheme has the step 0
abbrev pub product : List ℕ
product = up_to21 1 ++ replicate 6 0

-- one radial with the row 7 9
abbrev pub body16 : List ℕ
body16 = one_radial 16 2 (2, 0, 10) (7 ∷ 9 ∷ [])

-- what `product` gives beside the picture, under the class scheme
abbrev pub plain_sweep : Figures → Sweep
plain_sweep f =
    record {
      token = 0;
      fields = record {
        lat = f64 0 1;
        lon = f64 0 1;
        height_m = f64 0 1;
        product_code = pos 0;
        vcp = 0;
        scan_days = 1;
        scan_seconds = pos 0;
        elevation_deg = f64 0 1;
        lat_thousandths = pos 0;
        lon_thousandths = pos 0;
        height_feet = pos 0;
        elevation_tenths = pos 0;
      };
      time = 0;
      declared = None;
      figures = f;
    }

-- with the 32 bytes of a legacy scale
abbrev pub with_levels : List ℕ
with_levels = up_to21 1 ++ replicate 32 0

-- what it gives for a clear scan of five bins
abbrev pub no_rows : Packet → Accepted
no_rows packet =
    record { sweep = plain_sweep (record { packet = packet; n_radials = 0; n_bins = 5; geometry = RangeScale 1 }); azimuths = []; codes = []; physical = [] }

pub record Order : Type 0 where
  -- day 0 and a clock out of range, without field 22: 4
  pub time_before_scale : sweep_of Scheme.Halfword (up_to21 0) (2 ^ 40 + 1) [] 0 0 0 ≡ refused (kind 4 (nat 0 ∷ nat 0 ∷ []))
  -- no field 22 and no body: 3
  pub scale_before_body : sweep_of Scheme.Halfword (up_to21 1) 0 [] 0 0 0 ≡ refused (kind 3 (nat 22 ∷ []))
  -- a short body and no room: 12
  pub body_before_room : sweep_of Scheme.Class product 0 (replicate 17 0) 0 0 0 ≡ refused (kind 12 (nat 17 ∷ []))
  -- packet 28 under the halfword scheme, with the step 0 and no room: 10
  pub packet_before_step : sweep_of Scheme.Halfword product 0 (generic no_list two_xdr_radials) 0 0 0 ≡ refused (kind 10 [])
  -- packet 16 with the step 0 and no room: 9
  pub step_before_room : sweep_of Scheme.Halfword product 0 body16 0 0 0 ≡ refused (kind 9 (float (f32 0 10) ∷ []))
  -- no room in any buffer, in codes and physical values, in the last alone: 36
  pub azimuths_first : sweep_of Scheme.Class product 0 body16 0 1 1 ≡ refused (kind 36 (buffer Buffer.Azimuths ∷ []))
  pub codes_next : sweep_of Scheme.Class product 0 body16 1 1 1 ≡ refused (kind 36 (buffer Buffer.Codes ∷ []))
  pub physical_last : sweep_of Scheme.Class product 0 body16 1 2 1 ≡ refused (kind 36 (buffer Buffer.Physical ∷ []))
  -- room enough
  pub all_passed : sweep_of Scheme.Class product 0 body16 1 2 2
      ≡ accepted (record {
        sweep = plain_sweep (record { packet = Packet16; n_radials = 1; n_bins = 2; geometry = RangeScale 1 });
        azimuths = f64 5 10 ∷ [];
        codes = 7 ∷ 9 ∷ [];
        physical = f32 7 1 ∷ f32 9 1 ∷ [];
      })
  -- clear scans, with no room at all
  pub clear_16 : sweep_of Scheme.Class product 0 (no_radials 16 0 5 []) 0 0 0 ≡ accepted (no_rows Packet16)
  pub clear_af1f : sweep_of Scheme.Class product 0 (no_radials 0xAF1F 1 5 (1 ∷ [])) 0 0 0 ≡ accepted (no_rows PacketAf1f)
  -- packet 16 under the legacy scheme: 10, after 17
  pub clear_packet : sweep_of (Scheme.Legacy (f32 1 1)) with_levels 0 (no_radials 16 0 5 []) 0 0 0 ≡ refused (kind 10 [])
  pub clear_first_bin : sweep_of (Scheme.Legacy (f32 1 1)) with_levels 0 (no_radials 16 1 5 []) 0 0 0 ≡ refused (kind 17 (nat 1 ∷ []))
  -- the step 0: 9
  pub clear_step : sweep_of Scheme.Halfword product 0 (no_radials 16 0 5 []) 0 0 0 ≡ refused (kind 9 (float (f32 0 10) ∷ []))
  -- no bins either: 15
  pub no_bins : sweep_of Scheme.Class product 0 (no_radials 16 1 0 []) 0 0 0 ≡ refused (kind 15 (nat 0 ∷ nat 0 ∷ []))
