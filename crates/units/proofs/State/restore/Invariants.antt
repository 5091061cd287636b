-- `State::restore` meets its contract: the blocks below bx are done. Those before the next stretch are masked and stay; the stretch is one run under its class's set.
use Rattle.std.proofs.Common.{◌-◌, ◌/◌, ◌≤◌}
use Rattle.std.specs.Prelude.{get_or}
use Rattle.definition.specs.Blocks.{side}
use Rattle.definition.specs.Calls.{lists_lent}
use Rattle.units.specs.Restored.{seen}
use Rattle.units.proofs.Stretches.{Done}
use Rattle.units.proofs.State.restore.Given as goal

abbrev pub invariant-loop-bx : goal.invariant-loop-bx
invariant-loop-bx l =
    (l.bx ≤ l.bw) × Done l.initial.p l.at l.mask (λ x. seen l.op l.self (lists_lent l.op l.lent) (get_or l.told (x / side) 0) x) l.bx l.p

abbrev pub decreases-loop-bx : goal.decreases-loop-bx
decreases-loop-bx l = l.bw - l.bx
