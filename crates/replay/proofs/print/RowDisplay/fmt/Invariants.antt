use Rattle.std.proofs.Common.{take}
use Rattle.std.specs.Fmt.{HasWritten, IsPlainFormatter}
use Rattle.std.specs.List.{flat_map}
use Rattle.replay.specs.Printed.{hex_text}
use Rattle.replay.proofs.print.RowDisplay.fmt.Given as goal

abbrev pub invariant-loop-x : goal.invariant-loop-x
invariant-loop-x g l =
    IsPlainFormatter l.initial.f → HasWritten g.W.Write.write_str_gives l.initial.f (flat_map (λ x. hex_text (g.T.Bits.value x) g.T.Bits.DIGITS) (take l.x-index l.x-items)) l.f
