-- `filter::chroma::gather` meets its contract: after k turns the first k rows are gathered.
use lib.Seq.{length-sets}
use Rattle.filter.proofs.Gathering.{one-gathered}
use Rattle.filter.proofs.chroma.gather.Goals as goal

pub loop-k-preserved : goal.loop-k-preserved
loop-k-preserved c = (
  rw c.gather_row.ensures (simp length-sets c.loop-k.invariant.0),
  rw c.gather_row.ensures (one-gathered c.loop-k.invariant.1 c.loop-k.invariant.0 c.loop-k-test.true c.requires.short),
)
