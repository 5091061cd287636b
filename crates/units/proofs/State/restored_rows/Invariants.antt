-- `State::restored_rows` meets its contract. The loop's invariant: the state and the plane are those after so many rows.
use Rattle.std.proofs.Common.{◌≡◌, ◌+◌}
use Rattle.std.specs.Prelude.{length}
use Rattle.definition.specs.Calls.{lists_lent}
use Rattle.units.specs.Windows.{Sound}
use Rattle.units.specs.Step.{ring_of, Gone}
use Rattle.units.proofs.State.restored_rows.Given as goal

abbrev pub invariant-loop-i : goal.invariant-loop-i
invariant-loop-i l =
    Gone l.op (lists_lent l.op l.lent) l.initial.self l.initial.p l.i l.self l.p
    × (l.self.done ≡ l.initial.self.done + l.i)
    × (l.self.given ≡ l.initial.self.given)
    × Sound l.op (length (lists_lent l.op l.lent).filters) l.self.classes (ring_of l.self)
