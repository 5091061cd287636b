-- `State::refusal` meets its contract: the shape decides, the kept classes, or the table.
use Rattle.std.proofs.Common.{sym, ◌∙◌}
use Rattle.units.proofs.Admissions.{misshapen, kept_past, well_shaped}
use Rattle.units.proofs.State.refusal.Goals as goal
use Rattle.units.proofs.State.refusal.Goals.{then-misshapen-via-then-misshapen, then-misshapen-via-else-misshapen+then-bad_kept}

pub returns-then-misshapen : goal.returns-then-misshapen
returns-then-misshapen c =
    let e = sym (rw c.number_of.ensures at c.bad_shape-misshapen.ensures) in
    elim c.then-misshapen.branch [
      | then-misshapen-via-then-misshapen w ↦ misshapen c.args.op c.args.self.now c.args.z (e ∙ w.if-misshapen.true)
      | then-misshapen-via-else-misshapen+then-bad_kept w ↦ kept_past c.args.op c.args.self.now c.args.z (e ∙ w.if-misshapen.false) (sym w.bad_kept.ensures ∙ w.if-bad_kept.true)
    ]

pub returns : goal.returns
returns c =
    c.unit_status.ensures ∙
    well_shaped c.args.op c.args.self.now c.args.z (sym (rw c.number_of.ensures at c.bad_shape-misshapen.ensures) ∙ c.if-misshapen.false) (sym c.bad_kept.ensures ∙ c.if-bad_kept.false)
