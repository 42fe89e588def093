use Rattle.std.proofs.Common.{◌≡◌, ap, ◌∙◌}
use Rattle.std.proofs.lemmas.Iterator.{YieldsList-from_take}
use Rattle.std.proofs.lemmas.Iterator.Consumers.{YieldsList-from_first}
use Rattle.symbology.specs.Rows.{cells}
use Rattle.symbology.specs.Cursors.{ahead}
use Rattle.symbology.specs.declared.alike.Cells.{Cells}
use Rattle.symbology.proofs.CursorLaws.{eq_of_lists}
use Rattle.symbology.proofs.alike.same_runs.Goals as goal

pub returns : goal.returns
returns c =
    let left = λ (s : Cells). ahead s.left s.colour s.runs.now in
    eq_of_lists (λ x y. y ≡ x) c.take-2.result c.eq.result c.eq.ensures.ran
    (YieldsList-from_take c.args.n (YieldsList-from_first (λ x. x) left (cells c.args.a.now) (ap left c.take.ensures.source ∙ c.cells_of.ensures)) c.take.ensures.count)
    (λ it e. YieldsList-from_take c.args.n (YieldsList-from_first (λ x. x) left (cells c.args.b.now) (ap (λ t. left t.iter) e ∙ ap left c.take-2.ensures.source ∙ c.cells_of-2.ensures)) (ap (λ t. t.n) e ∙ c.take-2.ensures.count))
