-- `State::advance_by` meets its contract: declined with the state unchanged, or so many rows one after another.
use Rattle.std.proofs.Common.{◌≡◌, sym, ◌∙◌, ap, List, ℕ, Err, arith, rules}
use Rattle.definition.specs.declared.Operation.{Operation}
use Rattle.definition.specs.declared.Sizes.{Sizes}
use Rattle.definition.specs.Units.{Lent}
use Rattle.definition.specs.Refusals.{sizes_of}
use Rattle.definition.specs.Calls.{lists_lent}
use Rattle.units.specs.declared.State.{State}
use Rattle.units.specs.Advances.{status_by}
use Rattle.units.proofs.Admissions.{Admitted, admitted}
use Rattle.units.proofs.Advances.{declined, served}
use Rattle.units.proofs.Fits.{fit, sound-first}
use Rattle.units.proofs.State.advance_by.Goals as goal

-- what a status of 0 says
ready : {op : Operation} {s : State} {p : List ℕ} {z : Sizes} (count : ℕ) (l : Lent) → 0 ≡ status_by op s z → z ≡ sizes_of op l p → Admitted op count s l p
ready {op} {s} {p} count l e f = admitted op count s l p (sym (e ∙ ap (status_by op s) f))

pub returns-in_err-refusal : goal.returns-in_err-refusal
returns-in_err-refusal c =
    let a = c.args in
    let s = a.self.now in
    let e : c.from_residual.result ≡ Err c.in_err-refusal.field-0.0 = search rules in
    rw e
    (declined a.op (lists_lent a.op a.lent.now) s a.p.now a.count _ (c.in_err-refusal.ensures ∙ ap (status_by a.op s) c.sizes.ensures))

pub overflow_sub-self : goal.overflow_sub-self
overflow_sub-self c = (ready c.args.count (lists_lent c.args.op c.args.lent.now) c.in_ok-refusal.ensures c.sizes.ensures).done

pub pieces_of_rows-pieces-requires : goal.pieces_of_rows-pieces-requires
pieces_of_rows-pieces-requires c =
    let f = ready c.args.count (lists_lent c.args.op c.args.lent.now) c.in_ok-refusal.ensures c.sizes.ensures in
    (omega (arith, f.fine.wide.high), omega (arith, f.fine.tall.high, f.done, c.min-n.ensures), omega (arith, f.fine.skip, f.done, c.min-n.ensures))

pub restored_rows-requires-clause-n_bound : goal.restored_rows-requires-clause-n_bound
restored_rows-requires-clause-n_bound c =
    omega (arith, (ready c.args.count (lists_lent c.args.op c.args.lent.now) c.in_ok-refusal.ensures c.sizes.ensures).done, c.min-n.ensures)

pub restored_rows-requires-clause-fit : goal.restored_rows-requires-clause-fit
restored_rows-requires-clause-fit c =
    fit _ _ _ _ (ready c.args.count (lists_lent c.args.op c.args.lent.now) c.in_ok-refusal.ensures c.sizes.ensures).fine

pub restored_rows-requires-clause-sound : goal.restored_rows-requires-clause-sound
restored_rows-requires-clause-sound c =
    sound-first _ c.args.count c.args.self.now _ _ (search rules) (search rules) (search rules) (ready c.args.count (lists_lent c.args.op c.args.lent.now) c.in_ok-refusal.ensures c.sizes.ensures)

pub returns : goal.returns
returns c =
    let a = c.args in
    let l = lists_lent a.op a.lent.now in
    let f = ready a.count l c.in_ok-refusal.ensures c.sizes.ensures in
    served a.op l a.self.now a.p.now a.count c.min-n.result c.pieces_of_rows-pieces.result f.status c.min-n.ensures c.pieces_of_rows-pieces.ensures c.restored_rows.ensures
