-- `filter::pretrained::is_small_set` meets its contract: where none of the first k is large, each of them is small.
use mathlib.Core.Path.{◌≡◌}
use Prim.Native.Nat.{◌≤◌}
use Rattle.filter.specs.Groups.{Small}
use Rattle.filter.proofs.pretrained.is_small_set.Given as goal

abbrev pub invariant-loop-c : goal.invariant-loop-c
invariant-loop-c l =
    (l.found ≤ l.c-index) × (l.found ≡ 0 → Small l.c-index l.filter)
