-- `filter::turns::eight` meets its contract: after j turns the first j samples are worked out.
use Rattle.filter.proofs.Writes.{Filled}
use Rattle.filter.proofs.turns.eight.Given as goal

abbrev pub invariant-loop-j : goal.invariant-loop-j
invariant-loop-j g l = Filled (goal.F-post g l.sample) 8 l.out l.j
