-- What stands where in the report of an accepted value.
use Rattle.std.specs.Prelude.{◌≡◌, ℕ, List, [], ◌∷◌, ℤ, negsuc, slice_index_or, Option, Some, None, Float}
use Rattle.std.specs.Float.{nan}
use Rattle.wire.specs.Float.{f64}
use Rattle.calendar.specs.declared.date.Date.{Date}
use Rattle.tariff.specs.declared.charge.Charge.{Charge}
use Rattle.head.specs.Pdb.{thousandths, tenths, metres}
use Rattle.head.specs.declared.pdb.F32Pair.{F32Pair}
use Rattle.head.specs.declared.pdb.PdbFields.{PdbFields}
use Rattle.scale.specs.declared.scaling.LinearScale.{LinearScale}
use Rattle.scale.specs.declared.scaling.PrecipScale.{PrecipScale}
use Rattle.scale.specs.declared.scaling.DeclaredLinearScale.{DeclaredLinearScale}
use Rattle.sweep.specs.declared.sweep.Sweep.{Sweep}
use Rattle.fields.specs.declared.fields.SweepTotals.{SweepTotals}
use Rattle.symbology.specs.declared.figures.Figures.{Figures}
use Rattle.symbology.specs.declared.figures.Packet.{Packet}
use Rattle.symbology.specs.declared.figures.Packet.TheVariants.{Packet16, PacketAf1f, Packet28}
use Rattle.symbology.specs.declared.figures.Geometry.{Geometry}
use Rattle.xdr.specs.declared.xdr.Part.{Part}
use Rattle.capi.specs.declared.report.Report.{Report}
use Rattle.capi.specs.declared.places.HeadPlaces.{HeadPlaces}
use Rattle.capi.specs.declared.places.PicturePlaces.{PicturePlaces}
use Rattle.capi.specs.declared.places.ScalePlaces.{ScalePlaces}
use Rattle.capi.specs.Report.{word, report, with_place}

-- ---- small values: nothing, a number, a signed number, a float, two floats, a part of the payload, a date, a charge

abbrev pub no_report : {A : Type 0} → A → Report
no_report a = report 0 [] []

-- a whole number, as the word that holds it
abbrev pub word_report : {A : Type 0} → (A → ℕ) → A → Report
word_report held a = report 0 (held a ∷ []) []

abbrev pub number_report : ℕ → Report
number_report = word_report (λ n. n)

abbrev pub signed_report : ℤ → Report
signed_report = word_report word

abbrev pub float_report : Float → Report
float_report x = report 0 [] (x ∷ [])

abbrev pub pair_report : F32Pair → Report
pair_report p = report 0 [] (p.scale ∷ p.offset ∷ [])

-- whether a number is there, and the number, as the word that holds it
abbrev pub found : {A : Type 0} → (A → ℕ) → Option A → Report
found held (Some a) = report 0 (1 ∷ held a ∷ []) []
found held None = report 0 (0 ∷ []) []

abbrev pub number_found : Option ℕ → Report
number_found = found (λ n. n)

abbrev pub signed_found : Option ℤ → Report
signed_found = found word

abbrev pub part_report : Part → Report
part_report p = report 0 (p.start ∷ p.len ∷ []) []

abbrev pub date_report : Date → Report
date_report d = report 0 (d.year ∷ d.month ∷ d.day ∷ []) []

abbrev pub charge_report : Charge → Report
charge_report c = report 0 (c.charge ∷ c.remainder ∷ []) []

-- ---- file, picture and scale

-- Whole numbers from place 0: token's place, product code, vcp, days, seconds, time; 6 packet, radials, bins, range scale; 10 whether a
-- scale is declared, level count, floor, ceiling; 14 a plan's fields and 15 a position, which are set where there are any; 16 latitude and
-- longitude in thousandths of a degree, height in feet, elevation in tenths of a degree. Floats from place 0: latitude, longitude, height,
-- elevation; 4 gate width, first gate; 6 minimum, step.
abbrev pub placed : HeadPlaces → PicturePlaces → ScalePlaces → Report
placed h p s =
    report 0
    (h.token ∷ h.code ∷ h.vcp ∷ h.days ∷ h.seconds ∷ h.time ∷ p.packet ∷ p.radials ∷ p.bins ∷ p.range ∷ s.declared
    ∷ s.levels ∷ s.floor ∷ s.ceiling ∷ 0 ∷ 0 ∷ h.lat_thousandths ∷ h.lon_thousandths ∷ h.feet ∷ h.tenths ∷ [])
    (h.latitude ∷ h.longitude ∷ h.height ∷ h.elevation ∷ p.width ∷ p.first ∷ s.minimum ∷ s.step ∷ [])

abbrev pub no_head : HeadPlaces
no_head =
    record {
      token = 0;
      code = 0;
      vcp = 0;
      days = 0;
      seconds = 0;
      time = 0;
      lat_thousandths = 0;
      lon_thousandths = 0;
      feet = 0;
      tenths = 0;
      latitude = f64 0 1;
      longitude = f64 0 1;
      height = f64 0 1;
      elevation = f64 0 1;
    }

abbrev pub no_picture : PicturePlaces
no_picture = record { packet = 0; radials = 0; bins = 0; range = 0; width = f64 0 1; first = f64 0 1 }

abbrev pub no_scale : ScalePlaces
no_scale = record { declared = 0; levels = 0; floor = 0; ceiling = 0; minimum = f64 0 1; step = f64 0 1 }

-- the token's place, the fields of the description block, the time
abbrev pub head_places : ℕ → PdbFields → ℕ → HeadPlaces
head_places token f time =
    record {
      token = token;
      code = word f.product_code;
      vcp = f.vcp;
      days = f.scan_days;
      seconds = word f.scan_seconds;
      time = time;
      lat_thousandths = word f.lat_thousandths;
      lon_thousandths = word f.lon_thousandths;
      feet = word f.height_feet;
      tenths = word f.elevation_tenths;
      latitude = f.lat;
      longitude = f.lon;
      height = f.height_m;
      elevation = f.elevation_deg;
    }

abbrev pub packet_number : Packet → ℕ
packet_number Packet16 = 16
packet_number PacketAf1f = 0xAF1F
packet_number Packet28 = 28

abbrev pub range_scale : Geometry → ℕ
range_scale (Geometry.RangeScale n) = n
range_scale (Geometry.Gates width first) = 0

abbrev pub gate_width : Geometry → Float
gate_width (Geometry.RangeScale n) = f64 0 1
gate_width (Geometry.Gates width first) = width

abbrev pub first_gate : Geometry → Float
first_gate (Geometry.RangeScale n) = f64 0 1
first_gate (Geometry.Gates width first) = first

abbrev pub picture_places : Figures → PicturePlaces
picture_places f =
    record {
      packet = packet_number f.packet;
      radials = f.n_radials;
      bins = f.n_bins;
      range = range_scale f.geometry;
      width = gate_width f.geometry;
      first = first_gate f.geometry;
    }

abbrev pub linear_places : LinearScale → ScalePlaces
linear_places s =
    record { declared = 0; levels = s.n_levels; floor = 0; ceiling = 0; minimum = s.value_min; step = s.value_increment }

-- -1 where there is no ceiling
abbrev pub ceiling_number : Option ℕ → ℕ
ceiling_number (Some n) = n
ceiling_number None = word (negsuc 0)

abbrev pub precip_places : PrecipScale → ScalePlaces
precip_places p =
    record {
      declared = 0;
      levels = 0;
      floor = p.floor;
      ceiling = ceiling_number p.ceiling;
      minimum = p.value_min;
      step = p.value_increment;
    }

-- the scale that a product declares, where it declares one
abbrev pub declared_places : Option DeclaredLinearScale → ScalePlaces
declared_places (Some d) =
    record {
      declared = 1;
      levels = d.n_levels;
      floor = d.data_floor_code;
      ceiling = 0;
      minimum = d.value_min;
      step = d.value_increment;
    }
declared_places None = no_scale

abbrev pub fields_report : PdbFields → Report
fields_report f = placed (head_places 0 f 0) no_picture no_scale

abbrev pub figures_report : Figures → Report
figures_report f = placed no_head (picture_places f) no_scale

abbrev pub linear_report : LinearScale → Report
linear_report s = placed no_head no_picture (linear_places s)

abbrev pub precip_report : PrecipScale → Report
precip_report p = placed no_head no_picture (precip_places p)

abbrev pub sweep_report : Sweep → Report
sweep_report s = placed (head_places s.token s.fields s.time) (picture_places s.figures) (declared_places s.declared)

-- the same, and in place 14 the number of fields
abbrev pub totals_report : SweepTotals → Report
totals_report t = with_place (sweep_report t.sweep) 14 t.fields

-- ---- the description record in a report

-- The whole numbers of the record f in their places, and beside each the float that is the stated operation on it (document 02, M-110).
pub record Beside (f : PdbFields) (ints : List ℕ) (floats : List Float) : Type 0 where
  pub lat_whole : slice_index_or ints 16 0 ≡ word f.lat_thousandths
  pub lon_whole : slice_index_or ints 17 0 ≡ word f.lon_thousandths
  pub feet_whole : slice_index_or ints 18 0 ≡ word f.height_feet
  pub tenths_whole : slice_index_or ints 19 0 ≡ word f.elevation_tenths
  pub latitude : slice_index_or floats 0 nan ≡ thousandths f.lat_thousandths
  pub longitude : slice_index_or floats 1 nan ≡ thousandths f.lon_thousandths
  pub height : slice_index_or floats 2 nan ≡ metres f.height_feet
  pub elevation : slice_index_or floats 3 nan ≡ tenths f.elevation_tenths
