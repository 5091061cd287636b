-- `filter::turns::put` meets its contract: all eight are what is copied, and after j turns the first j samples are stored.
use native.Mathlib.Omega.{arith}
use mathlib.Core.Path.{◌≡◌, ap}
use Prim.Native.Nat.{◌+◌}
use lib.ListN.{get_or, length-set}
use Rattle.laws.proofs.Lists.{sets_more}
use Rattle.filter.proofs.Writes.{put_whole}
use Rattle.filter.proofs.turns.put.Goals as goal

pub returns-then-m-eq8 : goal.returns-then-m-eq8
returns-then-m-eq8 c =
    rw c.copy_from_slice.ensures.after
    (put_whole c.args.x _ c.args.m c.args.dst.now c.args.eight (λ j. get_or c.args.eight (c.args.skip + j) 0) (omega arith) (omega arith) c.requires.0
    (λ j l. let first : j ≡ c.args.skip + j = omega arith in ap (λ i. get_or c.args.eight i 0) first))

pub loop-j-preserved : goal.loop-j-preserved
loop-j-preserved c =
    (simp length-set c.loop-j.invariant.0, rw c.loop-j.invariant.1 (sets_more c.loop-j.j c.args.dst.now c.args.x (λ i. get_or c.args.eight (c.args.skip + i) 0)))
