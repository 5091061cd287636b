-- `LumaRows::upper_luma_row` meets its contract: for each of the four sources, `LumaSources` has that it lies inside and that it is the definition's row.
use Rattle.std.proofs.Common.{◌∙◌, ap, ℕ, ◌*◌, ◌-◌, arith}
use Rattle.operations.proofs.Borders.{steps_are}
use Rattle.units.specs.LumaFrom.{luma_from}
use Rattle.units.proofs.Edges.{bit_is}
use Rattle.units.proofs.LumaSources.{ver-low, back_low, back_fits, top-two_fits, top-first_fits, top_second_fits, back_is, top-first-is, top_second_is, top-two-is, saved_top}
use Rattle.units.proofs.unit.LumaRows.upper_luma_row.Goals as goal

pub returns-then-is_set : goal.returns-then-is_set
returns-then-is_set c =
    let u = c.args.self.now in
    let g = u.given in
    let b = bit_is c.is_set.ensures c.if-is_set.true in
    let v = ver-low u.inside.own in
    let k = back_low u.inside.own b (2 - c.args.r) (omega arith) (omega arith) in
    let e = steps_are (2 - c.args.r) g.ss_ver v c.luma_step.ensures.0 in
    c.row_from.ensures ∙
    (ap (λ (n : ℕ). luma_from g u.lent.now.luma.now (g.luma_off - n * g.luma_stride) g.luma_stride) e ∙ back_is _ _ c.args.r c.requires.1 b v (omega (arith, k.1)))

pub returns-then-r-eq0 : goal.returns-then-r-eq0
returns-then-r-eq0 c =
    let a = bit_is c.is_set.ensures c.if-is_set.false in
    c.row_from-then-r-eq0.ensures ∙ top-first-is _ _ c.args.r (omega arith) a (saved_top c.args.self.now.given c.requires.0 c.requires.1 a)

pub returns-then-g-eq0 : goal.returns-then-g-eq0
returns-then-g-eq0 c =
    let a = bit_is c.is_set.ensures c.if-is_set.false in
    c.row_from-then-g-eq0.ensures ∙ top_second_is _ _ c.args.r (omega arith) a (saved_top c.args.self.now.given c.requires.0 c.requires.1 a) (omega arith)

pub returns : goal.returns
returns c =
    let a = bit_is c.is_set.ensures c.if-is_set.false in
    c.row_from-2.ensures ∙
    top-two-is _ _ c.args.r (omega arith) a (saved_top c.args.self.now.given c.requires.0 c.requires.1 a) (omega (arith, ver-low c.args.self.now.inside.own))

pub row_from-requires : goal.row_from-requires
row_from-requires c =
    let u = c.args.self.now in
    let e = steps_are (2 - c.args.r) u.given.ss_ver (ver-low u.inside.own) c.luma_step.ensures.0 in
    rw e (back_fits u.inside.own (bit_is c.is_set.ensures c.if-is_set.true) (2 - c.args.r) (omega arith) (omega arith))

pub row_from-requires-2 : goal.row_from-requires-2
row_from-requires-2 c =
    let u = c.args.self.now in
    let a = bit_is c.is_set.ensures c.if-is_set.false in
    top-two_fits u.inside.own u.inside.above a (saved_top u.given c.requires.0 c.requires.1 a)

pub row_from-requires-then-r-eq0 : goal.row_from-requires-then-r-eq0
row_from-requires-then-r-eq0 c =
    let u = c.args.self.now in
    let a = bit_is c.is_set.ensures c.if-is_set.false in
    top-first_fits u.inside.own u.inside.above a (saved_top u.given c.requires.0 c.requires.1 a)

pub row_from-requires-then-g-eq0 : goal.row_from-requires-then-g-eq0
row_from-requires-then-g-eq0 c =
    let u = c.args.self.now in
    let a = bit_is c.is_set.ensures c.if-is_set.false in
    top_second_fits u.inside.own u.inside.above a (saved_top u.given c.requires.0 c.requires.1 a) (omega arith)
