use Rattle.std.proofs.Common.{sym, ◌∙◌, arith}
use Rattle.definition.specs.Card.{rows_at}
use Rattle.card_laws.proofs.Planes.{in_plane}
use Rattle.card_reader.proofs.Planes.{alike-in-turn, joined-begins, row-long, joined-next, joined_stops, joined_ends}
use Rattle.card_reader.proofs.read_rows.Goals as goal

pub loop-y-init : goal.loop-y-init
loop-y-init c = joined-begins _ _ _ (alike-in-turn c.args.w) _ _

pub returns-in_err-next : goal.returns-in_err-next
unfolding rows_at
returns-in_err-next c =
    let room = in_plane c.loop-y.y c.args.w c.args.h _ c.loop-y-test.true c.requires in
    let e = row-long c.args.s.now _ _ (alike-in-turn c.args.w) c.args.at c.args.p.now c.loop-y.p c.loop-y.next c.loop-y.y c.loop-y.invariant room in
    rw c.from_residual.ensures
    (joined_stops c.args.s.now _ _ (alike-in-turn c.args.w) c.args.at c.args.p.now c.loop-y.p c.loop-y.next c.loop-y.y c.loop-y.invariant c.args.h _ c.loop-y-test.true (rw e at (sym c.in_err-next.ensures)))

pub loop-y-preserved : goal.loop-y-preserved
loop-y-preserved c =
    let room = in_plane c.loop-y.y c.args.w c.args.h _ c.loop-y-test.true c.requires in
    let e = row-long c.args.s.now _ _ (alike-in-turn c.args.w) c.args.at c.args.p.now c.loop-y.p c.loop-y.next c.loop-y.y c.loop-y.invariant room in
    joined-next c.args.s.now _ _ (alike-in-turn c.args.w) c.args.at c.args.p.now c.loop-y.p c.loop-y.next c.loop-y.y c.loop-y.invariant c.read_row_into.new.row (c.read_row_into.auto.row ∙ e) _ (rw e at (sym c.in_ok-next.ensures))

pub returns : goal.returns
unfolding rows_at
returns c =
    joined_ends _ _ _ (alike-in-turn c.args.w) _ _ c.loop-y.p c.loop-y.next c.loop-y.y c.loop-y.invariant _ (omega (arith, c.loop-y.auto, c.loop-y-test.false))
