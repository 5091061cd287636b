-- `padding::beside::copy_into` meets its contract: each turn stores one byte more (`sets_more`).
use mathlib.Core.Path.{◌≡◌}
use lib.ListN.{length, get_or}
use lib.Seq.{sets}
use Rattle.definition.specs.Rows.{tab}
use Rattle.padding.proofs.beside.copy_into.Given as goal

abbrev pub invariant-loop-j : goal.invariant-loop-j
invariant-loop-j l =
    (length l.dst ≡ length l.initial.dst) × (l.dst ≡ sets l.initial.dst l.at (tab l.j (λ i. get_or l.src i 0)))
