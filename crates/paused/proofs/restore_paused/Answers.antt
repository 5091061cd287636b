-- `paused::restore_paused` meets its contract: demand 3 at the history of its calls (Histories).
use Rattle.std.proofs.Common.{◌≡◌, sym, rules}
use Rattle.definition.specs.declared.Operation.TheVariants.{Luma}
use Rattle.definition.specs.Calls.{lists_lent}
use Rattle.definition.specs.Answers.{value_from}
use Rattle.laws.proofs.Answers.{served}
use Rattle.paused.proofs.Histories.{paused_whole, first_served, rest_served, early-size}
use Rattle.paused.proofs.restore_paused.Goals as goal

pub unwrap-first-requires : goal.unwrap-first-requires
unwrap-first-requires c =
    let l = lists_lent Luma c.args.lent.now in
    let b = c.in_ok-state.ensures in
    served c.advance_by.result (first_served c.args.g l c.args.p.now (sym b.status) c.args.count _ _ _ b c.advance_by.ensures)

pub write_over-requires : goal.write_over-requires
write_over-requires c =
    let l = lists_lent Luma c.args.lent.now in
    let b = c.in_ok-state.ensures in
    early-size c.args.g l c.args.p.now (sym b.status) c.args.count _ _ _ b c.advance_by.ensures

pub unwrap-rest-requires : goal.unwrap-rest-requires
unwrap-rest-requires c =
    let l = lists_lent Luma c.args.lent.now in
    let b = c.in_ok-state.ensures in
    served c.advance_by-2.result (rest_served c.args.g l c.args.p.now (sym b.status) c.args.count c.args.v _ _ _ _ _ _ b c.advance_by.ensures c.write_over.ensures c.advance_by-2.ensures)

pub returns : goal.returns
returns c =
    let l = lists_lent Luma c.args.lent.now in
    let b = c.in_ok-state.ensures in
    let first : c.unwrap-first.result ≡ value_from c.advance_by.result = search rules in
    let rest : c.unwrap-rest.result ≡ value_from c.advance_by-2.result = search rules in
    rw (first, rest) (paused_whole c.args.g l c.args.p.now (sym b.status) c.args.count c.args.v _ _ _ _ _ _ b c.advance_by.ensures c.write_over.ensures c.advance_by-2.ensures)
