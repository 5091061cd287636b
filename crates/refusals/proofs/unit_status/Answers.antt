-- `refusals::unit_status` meets its contract: the first four conditions decide, or bound what the others are worked out from.
use mathlib.Core.Path.{◌≡◌, sym, ◌∙◌}
use Rattle.std.proofs.Common.{rules}
use Rattle.definition.specs.Answers.{number, status_from}
use Rattle.definition.specs.Refusals.{unit_status, lowest}
use Rattle.laws.proofs.Answers.{number_some}
use Rattle.laws.proofs.Checks.{stops, passes}
use Rattle.refusals.specs.Table.{first_checks, later_checks}
use Rattle.refusals.proofs.Refused.{within}
use Rattle.refusals.proofs.unit_status.Goals as goal

pub returns-in_err-early : goal.returns-in_err-early
unfolding unit_status
returns-in_err-early c =
    let e : number c.in_err-early.field-0.0 ≡ lowest (first_checks c.args.op c.args.g) = c.in_err-early.ensures in
    let same : status_from c.from_residual.result ≡ number c.in_err-early.field-0.0 = search rules in
    same ∙ e ∙ sym (stops (first_checks c.args.op c.args.g) (later_checks c.args.op c.args.g c.args.z) (λ z. number_some c.in_err-early.field-0.0 (e ∙ z)))

pub invariant_of-unit : goal.invariant_of-unit
invariant_of-unit c =
    record { within = within c.args.op c.args.g (sym c.in_ok-early.ensures) }

pub returns : goal.returns
unfolding unit_status
returns c =
    c.later.ensures ∙ sym (passes (first_checks c.args.op c.args.g) (later_checks c.args.op c.args.g c.args.z) tt (sym c.in_ok-early.ensures))
