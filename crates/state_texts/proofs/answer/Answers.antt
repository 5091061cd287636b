use Rattle.std.proofs.Common.{sym, ap, ◌∙◌}
use Rattle.definition.specs.Card.{line_text, status_name}
use Rattle.units.proofs.RoundTrip.{text-again, read-short}
use Rattle.state_texts.proofs.Answered.{read-whole, refused-whole}
use Rattle.state_texts.proofs.answer.Goals as goal

pub put_state-requires : goal.put_state-requires
put_state-requires c =
    let e = sym c.in-Ok.ensures in
    (text-again c.args.text.now c.in-Ok.state e, read-short c.args.text.now c.in-Ok.state e)

pub returns-in-Ok : goal.returns-in-Ok
returns-in-Ok c =
    rw (← c.in-Ok.ensures, text-again c.args.text.now c.in-Ok.state (sym c.in-Ok.ensures))
    (read-whole c.args.text.now _ _ _ c.new-answer.ensures c.put_line.ensures.text_after c.put_state.ensures (read-short c.args.text.now c.in-Ok.state (sym c.in-Ok.ensures)))

pub returns-in-Err : goal.returns-in-Err
returns-in-Err c =
    rw (← c.in-Err.ensures)
    (refused-whole _ _ _ c.new-answer.ensures c.put_line-in-Err.ensures.text_after c.put_line-in-Err.ensures.in_field ∙ ap (line_text status_name) (c.from-in-Err.ensures ∙ c.from.ensures))
