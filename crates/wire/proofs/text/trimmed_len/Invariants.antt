use Rattle.std.proofs.Common.{◌≡◌, length}
use Rattle.wire.specs.Text.{is_zero, trim_end}
use Rattle.wire.proofs.text.trimmed_len.Given as goal

abbrev pub invariant-loop-kept : goal.invariant-loop-kept
invariant-loop-kept l = trim_end is_zero l.kept ≡ trim_end is_zero l.s

abbrev pub decreases-loop-kept : goal.decreases-loop-kept
decreases-loop-kept l = length l.kept
