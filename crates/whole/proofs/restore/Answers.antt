-- `whole::restore` meets its contract: demand 2, by the theorem of demand 3 at the history of one advance.
use Rattle.std.proofs.Common.{◌≡◌, refl, Err, rules}
use Rattle.definition.specs.Calls.{lists_lent}
use Rattle.units.proofs.AllHistories.{histories}
use Rattle.whole.proofs.Demands.{whole-at}
use Rattle.whole.proofs.restore.Goals as goal

pub returns : goal.returns
returns c =
    let a = c.args in
    let l = lists_lent a.op a.lent.now in
    whole-at a.op a.g l a.p.now (histories a.op a.g l a.p.now) _ c.in_ok-state.ensures refl _ _ c.in_ok-unit_pieces.ensures _ refl refl

pub returns-in_err-unit_pieces : goal.returns-in_err-unit_pieces
returns-in_err-unit_pieces c =
    let a = c.args in
    let l = lists_lent a.op a.lent.now in
    let e : c.from_residual-in_err-unit_pieces.result ≡ Err c.in_err-unit_pieces.field-0.0 = search rules in
    rw e (whole-at a.op a.g l a.p.now (histories a.op a.g l a.p.now) _ c.in_ok-state.ensures refl _ _ c.in_err-unit_pieces.ensures _ refl refl)
