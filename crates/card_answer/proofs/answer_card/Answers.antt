use Rattle.std.proofs.Common.{arith}
use Rattle.definition.specs.Card.{meaning, card_answer}
use Rattle.card_laws.proofs.Readings.{meaning_fine}
use Rattle.card_answer.proofs.Answered.{declined, taken}
use Rattle.card_answer.proofs.Texts.{declined-short, unit-short, whole}
use Rattle.card_answer.proofs.answer_card.Goals as goal

pub put_unit-requires : goal.put_unit-requires
put_unit-requires c =
    let t = taken (meaning c.args.s.now) c.in-Ok.card (meaning_fine c.args.s.now) c.in-Ok.ensures in
    (t.wide, t.high)

pub returns-in-Ok : goal.returns-in-Ok
unfolding card_answer
returns-in-Ok c =
    let t = taken (meaning c.args.s.now) c.in-Ok.card (meaning_fine c.args.s.now) c.in-Ok.ensures in
    whole _ _ _ (unit-short c.in-Ok.card.w c.in-Ok.card.h _ _ _ t.wide t.high) (rw c.new-answer.ensures at c.put_unit.ensures) t.text

pub returns-in-Err : goal.returns-in-Err
unfolding card_answer
returns-in-Err c =
    whole _ _ _ (declined-short _ (omega (arith, c.from.ensures, c.from.type_inv))) (rw (c.new-answer.ensures, c.from-in-Err.ensures, c.from.ensures) at c.put_head.ensures)
    (declined (meaning c.args.s.now) _ c.in-Err.ensures)
