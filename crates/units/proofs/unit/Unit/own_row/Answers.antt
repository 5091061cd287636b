-- `Unit::own_row` meets its contract: the padding is not refused.
use Rattle.std.proofs.Common.{◌∙◌}
use Rattle.definition.specs.Units.{own_row}
use Rattle.units.specs.Padded.{lent_of, row_from}
use Rattle.units.proofs.Sources.{served, own_fits}
use Rattle.units.proofs.unit.Unit.own_row.Goals as goal

pub returns : goal.returns
returns c =
    let u = c.args.self.now in
    let e = c.border_of-e.ensures.0 in
    c.backup_row_8bpc.ensures.dst_after ∙
    (served _ _ _ (own_fits u.inside.lie.own c.args.y e c.requires) ∙ (λ i. row_from u.given.edges u.given.w (e i) (own_row u.op u.given (lent_of u) u.plane.now c.args.y)))
