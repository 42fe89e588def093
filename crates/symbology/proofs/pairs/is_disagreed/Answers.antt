use Rattle.symbology.proofs.PairWalk.{pair_first, pair_second, pair_whole}
use Rattle.symbology.proofs.Showing.{full_there}
use Rattle.symbology.proofs.pairs.is_disagreed.Goals as goal

pub same_row-requires : goal.same_row-requires
same_row-requires c = (full_there _ _ _ _ c.requires.0 c.in-Ok.ensures, full_there _ _ _ _ c.requires.1 c.in-Ok-check_row.ensures)

pub returns-in-Err : goal.returns-in-Err
returns-in-Err c = pair_first _ _ _ c.args.a.now c.args.b.now c.in-Err.ensures

pub returns-in-Err-check_row : goal.returns-in-Err-check_row
returns-in-Err-check_row c = pair_second _ _ _ c.args.a.now c.args.b.now c.in-Err-check_row.ensures

pub returns-in-Ok-check_row : goal.returns-in-Ok-check_row
returns-in-Ok-check_row c = pair_whole _ _ _ _ _ c.requires.0 c.requires.1 c.in-Ok.ensures c.in-Ok-check_row.ensures c.same_row.ensures
