-- `Unit::open_rows` meets its contract. The loop's invariant: the rows before n are filled.
use Rattle.std.proofs.Common.{◌≡◌, replicate}
use Rattle.definition.specs.Rows.{state_bytes}
use Rattle.model.proofs.Opening.{filled}
use Rattle.units.specs.Padded.{lent_of}
use Rattle.units.proofs.unit.Unit.open_rows.Given as goal

abbrev pub invariant-loop-n : goal.invariant-loop-n
invariant-loop-n l =
    l.rows ≡ filled l.self.op l.self.given (lent_of l.self) l.self.plane.now (replicate state_bytes 0) l.n
