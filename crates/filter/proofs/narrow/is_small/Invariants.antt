-- `filter::narrow::is_small` meets its contract: where none of the first k is large, each of them is small.
use mathlib.Core.Bool.{true}
use mathlib.Core.Path.{◌≡◌}
use Rattle.filter.specs.Groups.{Small}
use Rattle.filter.proofs.narrow.is_small.Given as goal

abbrev pub invariant-loop-c : goal.invariant-loop-c
invariant-loop-c l =
    l.small ≡ true → Small l.c-index l.filter
