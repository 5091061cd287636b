-- `Unit::first_rows` meets its contract, by the operation.
use Rattle.std.proofs.Common.{◌∙◌, sym}
use Rattle.definition.specs.declared.Operation.TheVariants.{Chroma}
use Rattle.definition.specs.Calls.{lists_lent}
use Rattle.operations.proofs.Chosen.{chroma_is}
use Rattle.units.specs.Padded.{lent_of}
use Rattle.units.proofs.Openings.{first_rows}
use Rattle.units.proofs.ChromaOpening.{blank-behind, opened}
use Rattle.units.proofs.unit.Unit.first_rows.Goals as goal

pub open_luma_rows-requires : goal.open_luma_rows-requires
open_luma_rows-requires c =
    let u = c.args.self.now in
    let e = chroma_is u.op (sym c.is_chroma.ensures ∙ c.if-is_chroma.true) in
    blank-behind (lists_lent Chroma u.lent.now) u.given u.plane.now (rw e at c.open_rows-rows.ensures)

pub returns-then-is_chroma : goal.returns-then-is_chroma
returns-then-is_chroma c =
    let u = c.args.self.now in
    let e = chroma_is u.op (sym c.is_chroma.ensures ∙ c.if-is_chroma.true) in
    rw e (opened (lists_lent Chroma u.lent.now) u.given u.plane.now (rw e at c.open_rows-rows.ensures) c.open_luma_rows.ensures)

pub returns-else-is_chroma : goal.returns-else-is_chroma
returns-else-is_chroma c =
    let u = c.args.self.now in
    first_rows u.op (lent_of u) (sym c.is_chroma.ensures ∙ c.if-is_chroma.false) u.given u.plane.now c.open_rows-rows.ensures
