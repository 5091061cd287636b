use Rattle.std.proofs.Common.{◌∙◌, refl, ap, ◌++◌, take, arith}
use Rattle.definition.specs.StateText.{several_text, text_limit}
use Rattle.text.proofs.Cuts.{cut_none}
use Rattle.units.specs.Texts.{bytes_before}
use Rattle.units.proofs.KeptRows.{before-next, row-inside, texts-more, texts-all}
use Rattle.units.proofs.state_text.put_rows.Goals as goal

pub loop-k-init : goal.loop-k-init
unfolding bytes_before several_text
loop-k-init c = (refl, cut_none text_limit c.args.text.now c.requires)

pub overflow_add-to : goal.overflow_add-to
overflow_add-to c = let i = row-inside c.args.op c.loop-k.k c.loop-k-test.true in omega (arith, i, c.loop-k.invariant.0, c.row_width.ensures)

pub slice_bounds-put_row-end : goal.slice_bounds-put_row-end
slice_bounds-put_row-end c = let i = row-inside c.args.op c.loop-k.k c.loop-k-test.true in omega (arith, i, c.loop-k.invariant.0, c.row_width.ensures)

pub loop-k-preserved : goal.loop-k-preserved
loop-k-preserved c = (
  omega (arith, before-next c.args.op c.loop-k.k, c.loop-k.invariant.0, c.row_width.ensures),
  texts-more c.args.op c.args.rows.now c.args.text.now c.loop-k.text _ text_limit c.loop-k.k c.loop-k.from c.row_width.result c.loop-k-test.true c.loop-k.invariant.0 c.row_width.ensures c.loop-k.invariant.1 c.put_row.ensures,
)

pub returns-clause-bytes : goal.returns-clause-bytes
returns-clause-bytes c = λ i. let f = c.fits-rows i in omega (arith, f)

pub returns-clause-text_after : goal.returns-clause-text_after
returns-clause-text_after c =
    c.loop-k.invariant.1 ∙
    ap (λ t. take text_limit (c.args.text.now ++ t)) (texts-all c.args.op c.args.rows.now c.loop-k.k (omega (arith, c.loop-k.auto, c.loop-k-test.false)))
