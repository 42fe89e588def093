use Rattle.std.proofs.Common.{rules}
use Rattle.fields.specs.Totals.{counts, grid}
use Rattle.fields.proofs.Sums.{strip_is, part_total}
use Rattle.fields.proofs.totals.Grid.strip_total.Goals as goal

pub returns : goal.returns
returns c =
    let s = strip_is c.args.weight (counts c.args.self.now.floor c.args.self.now.ceiling) _ (search rules) c.cells_total-total.ensures in
    let whole = rw (c.from.ensures, c.from-2.ensures, c.from-3.ensures) at s.0 in
    rw (c.from-4.ensures, c.from-5.ensures) (
      part_total (grid c.args.self.now.codes.now c.args.self.now.bins c.args.self.now.floor c.args.self.now.ceiling) c.args.radial c.args.gate c.args.count
          c.args.weight whole,
      s.1,
    )
