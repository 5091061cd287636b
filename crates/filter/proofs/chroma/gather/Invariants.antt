-- `filter::chroma::gather` meets its contract: after k turns the first k rows are gathered.
use mathlib.Core.Path.{◌≡◌}
use lib.ListN.{length}
use Rattle.filter.specs.Gathered.{Gathered, compact_size}
use Rattle.filter.proofs.chroma.gather.Given as goal

abbrev pub invariant-loop-k : goal.invariant-loop-k
invariant-loop-k l =
    (length l.compact ≡ compact_size) × Gathered l.rows l.indices l.first l.step l.n l.k l.compact
