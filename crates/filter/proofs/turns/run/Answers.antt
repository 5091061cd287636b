-- `filter::turns::run` meets its contract: after each turn the first x samples are written.
use native.Mathlib.Omega.{arith}
use mathlib.Core.Path.{ap, ◌∙◌}
use lib.Seq.{length-sets}
use Rattle.filter.proofs.Writes.{one_turn}
use Rattle.filter.proofs.turns.run.Goals as goal

pub loop-x-preserved : goal.loop-x-preserved
loop-x-preserved g c = (
  omega (arith, c.next_turn-t.ensures.end),
  rw c.put.ensures (simp length-sets c.loop-x.invariant.1),
  λ f h.
      one_turn (c.loop-x.invariant.2 f h) c.next_turn-t.ensures c.eight_from.result c.put.ensures
      (λ j i k l p.
      h.sample c.next_turn-t.result.at c.eight_from.result (omega (arith, c.next_turn-t.ensures.first)) (omega (arith, c.next_turn-t.ensures.first)) c.eight_from.ensures j k ∙ ap f p),
)
