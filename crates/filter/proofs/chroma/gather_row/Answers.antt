-- `filter::chroma::gather_row` meets its contract: after j turns the first j bytes are written.
use Rattle.laws.proofs.Lists.{sets_more}
use Rattle.filter.specs.Gathered.{every}
use Rattle.filter.proofs.chroma.gather_row.Goals as goal

pub loop-j-preserved : goal.loop-j-preserved
loop-j-preserved c =
    rw c.loop-j.invariant (sets_more c.loop-j.j c.args.compact.now c.args.to (every c.args.rows.now c.args.from c.args.step))
