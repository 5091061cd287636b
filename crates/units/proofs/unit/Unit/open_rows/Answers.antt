-- `Unit::open_rows` meets its contract. The loop's invariant: the rows before n are filled.
use Rattle.std.proofs.Common.{◌∙◌, sym, arith}
use Rattle.model.proofs.Opening.{filled, filled_none, filled_more}
use Rattle.units.proofs.unit.Unit.open_rows.Goals as goal

pub loop-n-init : goal.loop-n-init
unfolding filled
loop-n-init c = sym (filled_none _ _ _ _ _ (omega arith))

pub loop-n-preserved : goal.loop-n-preserved
unfolding filled
loop-n-preserved c =
    c.pad_row.ensures ∙ rw c.loop-n.invariant (sym (filled_more _ _ _ _ c.loop-n.n (omega arith)))
