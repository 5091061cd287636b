-- `Unit::lower_row` meets its contract: for each of the four sources, `Sources` has that it lies inside and that it is the definition's row.
use Rattle.std.proofs.Common.{◌≡◌, ◌∙◌, refl, ◌-◌, min, arith, rules}
use Rattle.units.proofs.Edges.{bit_is, plane-row, bottom-row}
use Rattle.units.proofs.Sources.{plane_fits, bottom_fits, own_is, plane-is, bottom-is, last-is}
use Rattle.units.proofs.unit.Unit.lower_row.Goals as goal

pub returns-then-y-g : goal.returns-then-y-g
returns-then-y-g c =
    c.own_row.ensures ∙ own_is _ _ _ _ c.args.y refl (omega arith)

pub saved_row-requires : goal.saved_row-requires
saved_row-requires c =
    let u = c.args.self.now in
    plane_fits u.inside.lie.own c.args.y refl (omega arith) (plane-row u.op u.given.edges u.given.h c.requires (bit_is c.is_set.ensures c.if-is_set.true))

pub returns-then-is_set : goal.returns-then-is_set
returns-then-is_set c =
    c.saved_row.ensures ∙ plane-is _ _ _ _ c.args.y refl (omega arith) (bit_is c.is_set.ensures c.if-is_set.true)

pub saved_row-requires-then-is_set-2 : goal.saved_row-requires-then-is_set-2
saved_row-requires-then-is_set-2 c =
    let u = c.args.self.now in
    let m : c.min-n.result ≡ min (c.args.y - u.given.h) 1 = search rules in
    bottom_fits u.inside.lie.own u.inside.lie.below c.min-n.result refl
    (bottom-row u.given.edges (c.args.y - u.given.h) m (bit_is c.is_set.ensures c.if-is_set.false) (bit_is c.is_set-2.ensures c.if-is_set-2.true))

pub returns-then-is_set-2 : goal.returns-then-is_set-2
returns-then-is_set-2 c =
    let m : c.min-n.result ≡ min (c.args.y - c.args.self.now.given.h) 1 = search rules in
    c.saved_row-then-is_set-2.ensures ∙
    bottom-is _ _ _ _ c.args.y refl m (omega arith) (bit_is c.is_set.ensures c.if-is_set.false) (bit_is c.is_set-2.ensures c.if-is_set-2.true)

pub returns : goal.returns
returns c =
    c.own_row-2.ensures ∙ last-is _ _ _ _ c.args.y refl (omega arith) (bit_is c.is_set.ensures c.if-is_set.false) (bit_is c.is_set-2.ensures c.if-is_set-2.false)
