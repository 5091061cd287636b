use Rattle.std.proofs.Common.{take}
use Rattle.std.specs.Fmt.{HasWritten, IsPlainFormatter}
use Rattle.definition.specs.SkipSums.{decimal_lines}
use Rattle.skip_sums.proofs.LinesDisplay.fmt.Given as goal

abbrev pub invariant-loop-sum : goal.invariant-loop-sum
invariant-loop-sum g l =
    IsPlainFormatter l.initial.f → HasWritten g.W.Write.write_str_gives l.initial.f (decimal_lines (take l.sum-index l.sum-items)) l.f
