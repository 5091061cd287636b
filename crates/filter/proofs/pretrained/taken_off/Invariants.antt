-- `filter::pretrained::taken_off` meets its contract: after k turns the first k numbers are added up.
use mathlib.Core.Path.{◌≡◌}
use Prim.Native.Nat.{◌*◌, ◌≤◌}
use lib.IntN.{nat_abs}
use Rattle.definition.specs.Numbers.{sum_z}
use Rattle.definition.specs.Leaves.{coefficients}
use Rattle.filter.proofs.pretrained.taken_off.Given as goal

abbrev pub invariant-loop-c : goal.invariant-loop-c
invariant-loop-c l = (l.s ≡ sum_z l.c-index (coefficients l.filter)) × (nat_abs l.s ≤ l.c-index * 32768)
