use Rattle.std.proofs.Common.{sym, ◌∙◌}
use Rattle.card_reader.proofs.Words.{word-step, word_stop, word_end}
use Rattle.card_reader.proofs.read_word.Goals as goal

pub returns-in_err-next : goal.returns-in_err-next
returns-in_err-next c = rw c.from_residual.ensures (sym (c.loop-byte.invariant ∙ word_stop _ _ _ _ c.loop-byte-test.true (sym c.in_err-next.ensures)))

pub loop-byte-preserved : goal.loop-byte-preserved
loop-byte-preserved c = c.loop-byte.invariant ∙ word-step _ _ _ _ c.loop-byte-test.true _ (sym c.in_ok-next.ensures)

pub returns : goal.returns
returns c = sym (c.loop-byte.invariant ∙ word_end _ _ _ _ c.loop-byte-test.false)
