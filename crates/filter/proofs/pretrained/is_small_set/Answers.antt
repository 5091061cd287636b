-- `filter::pretrained::is_small_set` meets its contract: where none of the first k is large, each of them is small.
use borrow.Author.Rules.{rules}
use native.Mathlib.Omega.{arith}
use Prim.Native.Nat.{◌<◌}
use lib.IntN.{pos}
use Rattle.std.proofs.lemmas.List.{get_or-take, length-take-le}
use Rattle.filter.proofs.pretrained.is_small_set.Goals as goal

pub loop-c-preserved : goal.loop-c-preserved
loop-c-preserved c =
    let below : c.loop-c.c-index < 12 = rw (length-take-le 12 c.args.filter.now (omega arith)) at c.loop-c-test.true in
    let at = get_or-take 12 c.args.filter.now c.loop-c.c-index (pos 0) below in
    search rules
