use Rattle.std.proofs.Common.{◌≡◌, take}
use Rattle.wire.specs.Text.{all}
use Rattle.symbology.specs.Rows.{words, is_level}
use Rattle.symbology.proofs.LowFirst.{upper_clear}
use Rattle.symbology.proofs.rows.all_levels.Given as goal

abbrev pub invariant-loop-int : goal.invariant-loop-int
invariant-loop-int l = upper_clear l.bits ≡ all is_level (take l.int-index (words l.data))
