-- `LumaRows::lower_luma_row` meets its contract: for each of the five sources, `LumaSources` has that it lies inside and that it is the definition's row.
use Rattle.std.proofs.Common.{◌∙◌, ◌-◌, arith}
use Rattle.definition.specs.declared.Operation.TheVariants.{Chroma}
use Rattle.units.proofs.Edges.{bit_is, plane-row}
use Rattle.units.proofs.LumaSources.{plane_fits, bottom-two_fits, bottom_second_fits, own_is, plane-is, last-is, bottom-two-is, bottom_second_is}
use Rattle.units.proofs.unit.LumaRows.lower_luma_row.Goals as goal

pub returns-then-y-g : goal.returns-then-y-g
returns-then-y-g c =
    c.plane_row.ensures ∙ own_is _ _ c.args.y (omega arith)

pub returns-then-is_set : goal.returns-then-is_set
returns-then-is_set c =
    c.plane_row-then-is_set.ensures ∙ plane-is _ _ c.args.y (omega arith) (bit_is c.is_set.ensures c.if-is_set.true)

pub returns-then-y-g-2 : goal.returns-then-y-g-2
returns-then-y-g-2 c =
    c.row_from.ensures ∙
    bottom-two-is _ _ c.args.y (omega arith) (bit_is c.is_set.ensures c.if-is_set.false) (bit_is c.is_set-2.ensures c.if-is_set-2.true)

pub returns-then-is_set-2 : goal.returns-then-is_set-2
returns-then-is_set-2 c =
    c.row_from-then-is_set-2.ensures ∙
    bottom_second_is _ _ c.args.y (omega arith) (bit_is c.is_set.ensures c.if-is_set.false) (bit_is c.is_set-2.ensures c.if-is_set-2.true)

pub returns : goal.returns
returns c =
    c.plane_row-2.ensures ∙
    last-is _ _ c.args.y (omega arith) (bit_is c.is_set.ensures c.if-is_set.false) (bit_is c.is_set-2.ensures c.if-is_set-2.false)

pub plane_row-requires-clause-luma_fits : goal.plane_row-requires-clause-luma_fits
plane_row-requires-clause-luma_fits c =
    plane_fits c.args.self.now.inside.own c.args.y (omega arith)

pub row_from-requires : goal.row_from-requires
row_from-requires c =
    let i = c.args.self.now.inside in
    bottom-two_fits i.own i.below (bit_is c.is_set.ensures c.if-is_set.false) (bit_is c.is_set-2.ensures c.if-is_set-2.true)

pub plane_row-requires-2-clause-luma_fits : goal.plane_row-requires-2-clause-luma_fits
plane_row-requires-2-clause-luma_fits c =
    let i = c.args.self.now.inside in
    plane_fits i.own (c.args.self.now.given.h - 1) (omega (arith, i.own.tall.low))

pub plane_row-requires-then-is_set-clause-luma_fits : goal.plane_row-requires-then-is_set-clause-luma_fits
plane_row-requires-then-is_set-clause-luma_fits c =
    let g = c.args.self.now.given in
    plane_fits c.args.self.now.inside.own c.args.y (plane-row Chroma g.edges g.h c.requires (bit_is c.is_set.ensures c.if-is_set.true))

pub row_from-requires-then-is_set-2 : goal.row_from-requires-then-is_set-2
row_from-requires-then-is_set-2 c =
    let i = c.args.self.now.inside in
    bottom_second_fits i.own i.below (bit_is c.is_set.ensures c.if-is_set.false) (bit_is c.is_set-2.ensures c.if-is_set-2.true)
