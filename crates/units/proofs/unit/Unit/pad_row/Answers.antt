-- `Unit::pad_row` meets its contract: the part of the ring that is the slot takes the row.
use Rattle.std.proofs.Common.{◌≡◌, ◌∙◌, ap, ◌+◌, ◌*◌, ◌-◌, arith, rules}
use Rattle.std.specs.Prelude.{length}
use Rattle.std.proofs.lemmas.List.Edits.{sets}
use Rattle.definition.specs.Rows.{row_bytes}
use Rattle.padding.proofs.Put.{put_at}
use Rattle.units.proofs.unit.Unit.pad_row.Goals as goal

pub returns : goal.returns
returns c =
    let at = c.args.slot * row_bytes in
    let n : length c.padded_row-row.result ≡ row_bytes = search rules in
    let e : c.copy_from_slice.new.self ≡ c.padded_row-row.result = search rules in
    put_at at (at + row_bytes - at) c.args.rows.now c.copy_from_slice.new.self (omega (arith, n, ap length e)) (omega arith) ∙
    ap (sets c.args.rows.now at) (e ∙ c.padded_row-row.ensures)
