-- `padding::beside::fill_into` meets its contract: each turn stores one byte more (`sets_more`).
use lib.ListN.{length-set}
use Rattle.laws.proofs.Lists.{sets_more}
use Rattle.padding.proofs.beside.fill_into.Goals as goal

pub loop-j-preserved : goal.loop-j-preserved
loop-j-preserved c =
    (simp length-set c.loop-j.invariant.0, rw c.loop-j.invariant.1 (sets_more c.loop-j.j c.args.dst.now c.args.at (λ _. c.args.v)))
