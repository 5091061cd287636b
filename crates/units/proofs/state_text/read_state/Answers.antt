use Rattle.std.proofs.Common.{sym}
use Rattle.units.proofs.Reading.{all_read}
use Rattle.units.proofs.state_text.read_state.Goals as goal

pub returns : goal.returns
returns c =
    rw c.number_of.ensures
    (all_read c.args.s.now c.in_ok-op.op _ (sym c.in_ok-op.ensures) _ _ (sym c.in_ok-w.ensures) _ _ (sym c.in_ok-h.ensures) _ _ (sym c.in_ok-edges.ensures) _ _ (sym c.in_ok-done.ensures)
    _ _ (sym c.in_ok-classes.ensures) _ _ (sym c.in_ok-indices.ensures) _ _ (sym c.in_ok-next.ensures) _ _ c.in_ok-p9.ensures _ _ (sym c.in_ok-strides.ensures) _ _ (sym c.in_ok-offsets.ensures)
    _ _ (sym c.in_ok-pair.ensures) _ _ (sym c.in_ok-kind.ensures) c.if-end-s.false)
