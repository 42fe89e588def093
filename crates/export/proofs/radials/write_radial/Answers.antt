use Rattle.export.proofs.Laying.{runs_ready, row_filled, radial_laid}
use lib.Seq.{length-take-le}
use lib.ListN.{drop}
use Prim.Native.Nat.{◌+◌, ◌*◌}
use mathlib.Core.List.{◌++◌}
use mathlib.Core.Path.{sym, ap}
use native.Mathlib.Omega.{arith}
use borrow.Author.Rules.{rules}
use Rattle.export.proofs.radials.write_radial.Goals as goal

pub slice_bounds-write_beam-end-2 : goal.slice_bounds-write_beam-end-2
slice_bounds-write_beam-end-2 c = sym (length-take-le 6 c.args.part.now (omega (arith, c.requires.n_bins_bound.1)))

pub write_beam-requires : goal.write_beam-requires
write_beam-requires c = length-take-le 6 c.args.part.now (omega (arith, c.requires.n_bins_bound.1))

pub returns : goal.returns
returns c =
    record {
      value = ap (λ n. c.args.at + 6 + n * 2) c.count_at.ensures.0;
      part_after = radial_laid c.args.body.now c.args.n_bins c.args.at c.count_at.ensures.0 c.requires.at_in_bounds.1 c.args.part.now c.write_beam.new.part c.write_row_bytes.new.row c.fill.new.self c.requires.n_bins_bound.1 c.u16_at-start.ensures c.u16_at-width.ensures c.write_beam.ensures
          (row_filled _ (runs_ready c.args.body.now c.args.n_bins c.args.at c.count_at.ensures.0 c.requires.at_in_bounds.1 (c.write_beam.new.part ++ drop 6 c.args.part.now) (search rules)) c.write_row_bytes.ensures) (c.fill.ensures.after (λ y h. h));
    }
