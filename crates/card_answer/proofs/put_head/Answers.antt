use Rattle.std.proofs.Common.{◌∙◌}
use Rattle.definition.specs.Card.{status_name, filtered_name, line_text}
use Rattle.text.proofs.Cuts.{cut_both}
use Rattle.card_answer.specs.Answers.{text_size}
use Rattle.card_answer.proofs.put_head.Goals as goal

pub returns : goal.returns
returns c =
    rw c.put_line.ensures.text_after at c.put_line-2.ensures.text_after ∙ cut_both text_size c.args.out.now (line_text status_name c.args.status) (line_text filtered_name c.args.pieces)
