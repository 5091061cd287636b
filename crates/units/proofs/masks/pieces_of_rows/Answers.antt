-- `masks::pieces_of_rows` meets its contract. The loop's invariant: the pieces of i rows, at most 16 to a row.
use Rattle.std.proofs.Common.{◌≡◌, sym, ◌+◌, arith, rules}
use Rattle.definition.specs.Blocks.{mask_at, clear_below}
use Rattle.units.proofs.Pieces.{clear-low, pieces_none, pieces_more}
use Rattle.units.proofs.masks.pieces_of_rows.Goals as goal

pub loop-i-init : goal.loop-i-init
loop-i-init c = (omega arith, sym (pieces_none c.args.skip.now c.args.bw c.args.k))

pub overflow_add-pieces : goal.overflow_add-pieces
overflow_add-pieces c =
    let e : c.unwrap-pieces.result ≡ clear_below c.mask_of_row-mask.result c.args.bw = search rules in
    record { fits = omega (arith, e, c.loop-i.invariant.0, clear-low c.mask_of_row-mask.result c.args.bw) }

pub loop-i-preserved : goal.loop-i-preserved
loop-i-preserved c =
    let e : c.unwrap-pieces.result ≡ clear_below c.mask_of_row-mask.result c.args.bw = search rules in
    let d : c.mask_of_row-mask.result ≡ mask_at c.args.skip.now (c.args.k + c.loop-i.i) = c.mask_of_row-mask.ensures in
    (omega (arith, e, c.loop-i.invariant.0, clear-low c.mask_of_row-mask.result c.args.bw), rw (e, c.loop-i.invariant.1, d) (pieces_more c.args.skip.now c.args.bw c.args.k c.loop-i.i))
