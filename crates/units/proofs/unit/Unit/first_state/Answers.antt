-- `Unit::first_state` meets its contract: made of the rows and the indices.
use Rattle.units.specs.Padded.{lent_of}
use Rattle.units.proofs.Openings.{first-state}
use Rattle.units.proofs.unit.Unit.first_state.Goals as goal

pub returns : goal.returns
returns c =
    let u = c.args.self.now in
    first-state u.op u.given (lent_of u) u.plane.now c.number_of.ensures c.border_of-e.ensures.0 (c.first_indices.ensures (lent_of u) u.plane.now) c.first_rows.ensures
