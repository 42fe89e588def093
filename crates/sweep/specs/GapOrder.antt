-- The reading with gaps on small inputs: the order of its tests, a gap, and P8's radial, which the ordinary reading refuses.
use Rattle.std.specs.Prelude.{ℕ, List, [], ◌∷◌, ◌≡◌}
use Rattle.std.specs.Float.{nan}
use Rattle.wire.specs.Float.{f64}
use Rattle.wire.specs.Refusal.{kind, nat, buffer}
use Rattle.wire.specs.Result.{accepted, refused}
use Rattle.wire.specs.declared.error.Buffer.TheVariants as Buffer
use Rattle.scale.specs.declared.physical.Scheme.TheVariants as Scheme
use Rattle.symbology.specs.Table.{one_radial, no_radials}
use Rattle.symbology.specs.declared.figures.Packet.TheVariants.{PacketAf1f}
use Rattle.symbology.specs.declared.figures.Geometry.TheVariants.{RangeScale}
use Rattle.sweep.specs.Sweep.{sweep_of}
use Rattle.sweep.specs.GapSweep.{gap_sweep_of}
use Rattle.sweep.specs.Clear.{unmarked_sweep}
use Rattle.sweep.specs.Order.{product, body16, plain_sweep, no_rows}

-- P8: runs of 3 and 3 for 5 bins
abbrev pub broken : List ℕ
broken = one_radial 0xAF1F 5 (1, 0, 10) (0x31 ∷ 0x35 ∷ [])

pub record GapOrder : Type 0 where
  -- no room for values and marks, for marks alone: 36
  pub physical_first : gap_sweep_of Scheme.Class product 0 body16 1 2 1 0 ≡ refused (kind 36 (buffer Buffer.Physical ∷ []))
  pub marks_last : gap_sweep_of Scheme.Class product 0 body16 1 2 2 0 ≡ refused (kind 36 (buffer Buffer.Marks ∷ []))
  -- 22 without gaps; with gaps a row of code 0 and NaN, and the mark 1
  pub ordinary : sweep_of Scheme.Class product 0 broken 1 5 5 ≡ refused (kind 22 (nat 0 ∷ nat 3 ∷ nat 5 ∷ []))
  pub gap : gap_sweep_of Scheme.Class product 0 broken 1 5 5 1
      ≡ accepted (record {
        sweep = plain_sweep (record { packet = PacketAf1f; n_radials = 1; n_bins = 5; geometry = RangeScale 1 });
        azimuths = f64 5 10 ∷ [];
        codes = 0 ∷ 0 ∷ 0 ∷ 0 ∷ 0 ∷ [];
        physical = nan ∷ nan ∷ nan ∷ nan ∷ nan ∷ [];
        marks = 1 ∷ [];
      })
  -- a clear scan has no marks, and asks for no room
  pub clear : gap_sweep_of Scheme.Class product 0 (no_radials 0xAF1F 0 5 []) 0 0 0 0 ≡ accepted (unmarked_sweep (no_rows PacketAf1f))
