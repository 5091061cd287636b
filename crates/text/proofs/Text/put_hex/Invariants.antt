use Rattle.std.proofs.Common.{◌≡◌, ◌++◌, take}
use Rattle.definition.specs.Card.{hex_text}
use Rattle.text.proofs.Text.put_hex.Given as goal

abbrev pub invariant-loop-sample : goal.invariant-loop-sample
invariant-loop-sample g l = l.self ≡ take g.row.N (l.initial.self ++ hex_text (take l.sample-index l.row))
