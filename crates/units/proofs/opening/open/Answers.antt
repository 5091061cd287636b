-- `opening::open` meets its contract: declined, or the state before the first row.
use Rattle.std.proofs.Common.{◌≡◌, sym, ◌∙◌, ap}
use Rattle.definition.specs.Calls.{lists_lent}
use Rattle.definition.specs.Refusals.{sizes_of, unit_status}
use Rattle.model.proofs.Fine.{fine}
use Rattle.units.proofs.Fits.{fit}
use Rattle.units.proofs.opening.open.Goals as goal

pub invariant_of-unit : goal.invariant_of-unit
invariant_of-unit c =
    let a = c.args in
    let l = lists_lent a.op a.lent.now in
    let z : unit_status a.op a.g (sizes_of a.op l a.p.now) ≡ 0 = sym (c.in_ok-unit_status.ensures ∙ ap (unit_status a.op a.g) c.sizes.ensures) in
    record { inside = (fit a.op a.g l a.p.now (fine a.op a.g (sizes_of a.op l a.p.now) z)).sources }
