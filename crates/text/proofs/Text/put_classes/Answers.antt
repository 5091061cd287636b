use Rattle.std.proofs.Common.{rules, ◌∙◌, get_or}
use Rattle.definition.specs.StateText.{list_text, numbers_text}
use Rattle.text.proofs.Cuts.{put_more}
use Rattle.text.proofs.Text.put_classes.Goals as goal

pub returns-clause-text_after : goal.returns-clause-text_after
unfolding list_text numbers_text
returns-clause-text_after g c =
    c.put_numbers.ensures (λ k. get_or c.args.list.now k 0) (λ k r h e. search rules) ∙ put_more g.row.N c.args.self.now c.args.name.now _ c.put_word.ensures
