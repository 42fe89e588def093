use Rattle.std.proofs.Common.{sym, ◌∙◌, to_z-of_z, w32, rules}
use Rattle.symbology.proofs.LevelLoops.{levels_pass, levels_none, levels_stop}
use Rattle.symbology.proofs.rows.check_levels.Goals as goal

pub returns-then-all_levels : goal.returns-then-all_levels
returns-then-all_levels c = levels_pass _ _ (sym c.all_levels.ensures ∙ c.if-all_levels.true)

pub returns-in-None : goal.returns-in-None
returns-in-None c = levels_none _ c.as_chunks.ensures.front c.first_bad.ensures _ c.in-None.is

pub returns-in-Some : goal.returns-in-Some
returns-in-Some c =
    levels_stop _ c.as_chunks.ensures.front c.first_bad.ensures c.in-Some.is _ c.from_be_bytes.ensures
    (to_z-of_z {w = w32} {z = c.as_i32.result} (search rules) ∙ c.as_i32.ensures)
