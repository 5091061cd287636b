-- `filter::turns::put` meets its contract: after j turns the first j samples are stored.
use mathlib.Core.Path.{◌≡◌}
use Prim.Native.Nat.{◌+◌}
use lib.ListN.{length, get_or}
use lib.Seq.{sets}
use Rattle.definition.specs.Rows.{tab}
use Rattle.filter.proofs.turns.put.Given as goal

abbrev pub invariant-loop-j : goal.invariant-loop-j
invariant-loop-j l =
    (length l.dst ≡ length l.initial.dst) × (l.dst ≡ sets l.initial.dst l.x (tab l.j (λ i. get_or l.eight (l.skip + i) 0)))
