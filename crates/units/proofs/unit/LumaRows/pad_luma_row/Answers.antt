-- `LumaRows::pad_luma_row` meets its contract: the part of the second ring that is the slot takes the row.
use Rattle.std.proofs.Common.{◌≡◌, ◌∙◌, ap, ◌+◌, ◌*◌, ◌-◌, arith, rules}
use Rattle.std.specs.Prelude.{length}
use Rattle.std.proofs.lemmas.List.Edits.{sets}
use Rattle.definition.specs.Rows.{luma_row_bytes, luma_rows_at}
use Rattle.padding.proofs.Put.{put_at}
use Rattle.units.proofs.unit.LumaRows.pad_luma_row.Goals as goal

pub returns : goal.returns
returns c =
    let at = luma_rows_at + c.args.slot * luma_row_bytes in
    let n : length c.padded_luma_row-row.result ≡ luma_row_bytes = search rules in
    let e : c.copy_from_slice.new.self ≡ c.padded_luma_row-row.result = search rules in
    put_at at (at + luma_row_bytes - at) c.args.rows.now c.copy_from_slice.new.self (omega (arith, n, ap length e)) (omega arith) ∙
    ap (sets c.args.rows.now at) (e ∙ c.padded_luma_row-row.ensures)
