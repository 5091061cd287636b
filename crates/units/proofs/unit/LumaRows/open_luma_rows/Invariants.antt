-- `LumaRows::open_luma_rows` meets its contract. The loop's invariant: the rows before n are filled, behind the chroma rows as they were.
use Rattle.std.proofs.Common.{◌≡◌, ◌++◌, ◌*◌, take, replicate}
use Rattle.definition.specs.declared.Operation.TheVariants.{Chroma}
use Rattle.definition.specs.Rows.{luma_row_bytes, luma_rows_at}
use Rattle.model.proofs.Rows.{first_row}
use Rattle.model.proofs.Opening.{filled_rows}
use Rattle.units.specs.Padded.{luma_padded}
use Rattle.units.proofs.unit.LumaRows.open_luma_rows.Given as goal

abbrev pub invariant-loop-n : goal.invariant-loop-n
invariant-loop-n l =
    l.rows ≡ take luma_rows_at l.initial.rows ++ filled_rows luma_row_bytes (first_row Chroma l.self.given) (luma_padded l.self) (replicate (5 * luma_row_bytes) 0) l.n
