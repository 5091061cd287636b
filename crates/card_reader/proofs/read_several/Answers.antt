use Rattle.std.proofs.Common.{sym, arith}
use Rattle.card_laws.proofs.Several.{filling_begins, filling_more, filling_stops}
use Rattle.card_reader.proofs.read_several.Goals as goal

pub loop-k-init : goal.loop-k-init
loop-k-init g c = λ f h. filling_begins f _ _

pub returns-in_err-value : goal.returns-in_err-value
returns-in_err-value g c =
    λ f h. rw c.from_residual.ensures
    (filling_stops f _ _ c.loop-k.list _ c.loop-k.k (c.loop-k.invariant f h) (omega (arith, c.loop-k.auto.list, c.loop-k-test.true)) (sym (h _ _ _ c.loop-k-test.true c.in_err-value.ensures)))

pub loop-k-preserved : goal.loop-k-preserved
loop-k-preserved g c =
    λ f h. filling_more f _ _ c.loop-k.list _ c.loop-k.k (c.loop-k.invariant f h) _ _ (omega (arith, c.loop-k.auto.list, c.loop-k-test.true)) (sym (h _ _ _ c.loop-k-test.true c.in_ok-value.ensures))
