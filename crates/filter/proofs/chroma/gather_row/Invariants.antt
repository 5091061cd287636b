-- `filter::chroma::gather_row` meets its contract: after j turns the first j bytes are written.
use mathlib.Core.Path.{◌≡◌}
use lib.Seq.{sets}
use Rattle.definition.specs.Rows.{tab}
use Rattle.filter.specs.Gathered.{every}
use Rattle.filter.proofs.chroma.gather_row.Given as goal

abbrev pub invariant-loop-j : goal.invariant-loop-j
invariant-loop-j l =
    l.compact ≡ sets l.initial.compact l.to (tab l.j (every l.rows l.from l.step))
