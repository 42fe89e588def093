use Rattle.symbology.proofs.Showing.{full_there, row_shown, gap_shown}
use Rattle.symbology.proofs.rows.show_row.Goals as goal

pub write_row-requires : goal.write_row-requires
write_row-requires c = full_there _ _ _ _ c.requires c.in-Ok.ensures

pub returns-in-Ok : goal.returns-in-Ok
returns-in-Ok c =
    let r = row_shown _ _ _ _ c.requires c.in-Ok.ensures c.write_row.ensures in
    record { value = r.0; row_after = r.1 }

pub returns-in-Err : goal.returns-in-Err
returns-in-Err c =
    let r = gap_shown _ _ _ _ c.in-Err.ensures (c.fill.ensures.after (λ y h. h)) in
    record { value = r.0; row_after = r.1 }
