use Rattle.std.proofs.Common.{◌≡◌, ◌≤◌, ◌++◌, ◌-◌, ◌*◌, take}
use lib.ListN.{drop}
use Rattle.definition.specs.Card.{rows_text}
use Rattle.card_answer.specs.Answers.{text_size}
use Rattle.card_answer.proofs.put_rows.Given as goal

abbrev pub invariant-loop-row : goal.invariant-loop-row
invariant-loop-row l =
    let y = l.h - l.row-iterator.n in
    (l.out ≡ take text_size (l.initial.out ++ rows_text l.w l.plane y)) × (l.row-iterator.n ≤ l.h) × (l.row-iterator.iter.size ≡ l.w) × (l.row-iterator.iter.rest.now ≡ drop (y * l.w) l.plane)
