-- `State::classes_of_row` meets its contract. The loop's invariant: the classes of the blocks before bx are stored.
use Rattle.std.proofs.Common.{◌≡◌}
use Rattle.std.proofs.lemmas.List.Edits.{sets}
use Rattle.definition.specs.Rows.{tab}
use Rattle.model.proofs.Step.{class_at}
use Rattle.units.specs.Padded.{lent_of}
use Rattle.units.specs.Step.{ring_of, Stays}
use Rattle.units.proofs.State.classes_of_row.Given as goal

abbrev pub invariant-loop-bx : goal.invariant-loop-bx
invariant-loop-bx l =
    (l.self.classes ≡ sets l.initial.self.classes 0 (tab l.bx (class_at l.unit.given (lent_of l.unit) (ring_of l.initial.self) l.initial.self.done)))
    × Stays l.initial.self l.self
    × (ring_of l.self ≡ ring_of l.initial.self)
