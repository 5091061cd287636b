use Rattle.std.proofs.Common.{sym, ℕ, ◌∙◌, ◌/◌, replicate, arith}
use lib.Seq.{length-take-le}
use Rattle.definition.specs.Blocks.{side}
use Rattle.definition.specs.Limits.{block_row_limit}
use Rattle.card_reader.specs.Answers.{unit_of}
use Rattle.card_reader.proofs.Meanings.{stood, filled-rows, filled-skip, all_read}
use Rattle.card_reader.proofs.read_lists.Goals as goal

pub returns : goal.returns
unfolding unit_of
returns c =
    let n = length-take-le (c.args.h / side) (replicate {A = ℕ} block_row_limit 0) (omega (arith, c.requires)) in
    let g = stood _ _ _ _ c.in-Some-read_rows.ensures in
    let z = filled-skip (c.args.h / side) c.read_skip.new.skip (c.read_skip.auto.skip ∙ n) in
    rw (all_read _ _ _ _ _ _ (sym c.in-Some.ensures) _ _ (rw n at (sym c.in-Some-read_skip.ensures)) g.rows _ g.is, ← z, ← filled-rows g.rows _ g.plane)
