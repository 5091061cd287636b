use Rattle.std.proofs.Common.{sym, ap, ◌∙◌, length, arith}
use Rattle.laws.proofs.Inside.{is-sized}
use Rattle.definition.specs.Limits.{width_limit}
use Rattle.text.proofs.Cuts.{cut_short}
use Rattle.card_answer.specs.Answers.{text_size}
use Rattle.card_answer.proofs.Texts.{unit_put}
use Rattle.card_answer.proofs.Restorations.{plane-long}
use Rattle.card_answer.proofs.put_unit.Goals as goal

pub put_rows-requires : goal.put_rows-requires
put_rows-requires c =
    let wide = is-sized width_limit c.args.card.now.w c.requires.0 in
    let k = ap length c.restore-pieces.ensures.plane_after ∙ plane-long _ _ _ _ _ in
    (cut_short text_size _ c.put_head.ensures, omega (arith, wide.low), omega (arith, k))

pub returns : goal.returns
returns c =
    rw (sym c.spread-skip.ensures)
    (unit_put c.args.card.now.w c.args.card.now.h _ _ _ _ _ _ _ _ c.restore-pieces.ensures.pieces c.restore-pieces.ensures.plane_after c.put_head.ensures c.put_rows.ensures)
