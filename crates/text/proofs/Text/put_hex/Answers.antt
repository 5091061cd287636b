use Rattle.std.proofs.Common.{◌++◌, ◌∙◌, ap, sym, take, get_or}
use native.Mathlib.Numerals.{add-one}
use lib.Seq.{take-suc}
use Rattle.definition.specs.Card.{hex_text}
use Rattle.text.proofs.Cuts.{cut_hex}
use Rattle.text.proofs.Text.put_hex.Goals as goal

pub loop-sample-preserved : goal.loop-sample-preserved
loop-sample-preserved g c =
    let i = c.loop-sample.sample-index in
    let row = c.args.row.now in
    rw (c.push-in-loop-sample.ensures, c.push.ensures, c.loop-sample.invariant, c.glyph.ensures, c.glyph-in-loop-sample.ensures)
    (cut_hex _ _ (take i row) (get_or row i 0) ∙ ap (λ l. take g.row.N (c.args.self.now ++ hex_text l)) (sym (ap (λ k. take k row) (add-one i) ∙ take-suc row i 0 c.loop-sample-test.true)))
