use Rattle.std.proofs.Common.{arith}
use Rattle.std.proofs.lemmas.Grind.{common_steps}
use Rattle.symbology.proofs.RowWords.{words_length}
use Rattle.symbology.proofs.LevelLoops.{code}
use Rattle.symbology.proofs.rows.write_levels.Goals as goal

pub overflow_cast-cell : goal.overflow_cast-cell
overflow_cast-cell c = record { fits = omega (arith, (code _ c.as_chunks.ensures.front c.loop-i.i c.requires.1 c.from_be_bytes.ensures).1) }

pub loop-i-preserved : goal.loop-i-preserved
loop-i-preserved c =
    let e = (code c.args.body.now c.as_chunks.ensures.front c.loop-i.i c.requires.1 c.from_be_bytes.ensures).0 in
    let n = words_length c.args.body.now in
    grind (arith, common_steps)

pub returns : goal.returns
returns c = let n = words_length c.args.body.now in grind (arith, common_steps)
