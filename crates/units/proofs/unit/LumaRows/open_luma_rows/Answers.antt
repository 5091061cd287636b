-- `LumaRows::open_luma_rows` meets its contract. The loop's invariant: the rows before n are filled, behind the chroma rows as they were.
use Rattle.std.proofs.Common.{◌*◌, replicate, arith}
use Rattle.definition.specs.Rows.{luma_row_bytes, luma_rows_at}
use Rattle.units.proofs.TwoLists.{behind-none, behind_more, front-size}
use Rattle.units.proofs.unit.LumaRows.open_luma_rows.Goals as goal

pub loop-n-init : goal.loop-n-init
loop-n-init c =
    behind-none _ _ _ c.args.rows.now (replicate (5 * luma_row_bytes) 0) luma_rows_at c.first_row-n.result c.requires (omega arith)

pub loop-n-preserved : goal.loop-n-preserved
loop-n-preserved c =
    behind_more _ _ _ c.args.rows.now (replicate (5 * luma_row_bytes) 0) luma_rows_at c.loop-n.n (front-size c.args.rows.now luma_rows_at (5 * luma_row_bytes) c.requires (omega arith)) (omega arith) c.loop-n.invariant c.pad_luma_row.ensures
