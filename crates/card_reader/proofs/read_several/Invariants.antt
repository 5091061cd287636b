use Rattle.std.proofs.Common.{◌≡◌, ◌<◌, ℕ, length, Option}
use Rattle.definition.specs.Card.{Reading}
use Rattle.card_laws.proofs.Several.{Filling}
use Rattle.card_reader.specs.Answers.{reading_of}
use Rattle.card_reader.proofs.read_several.Given as goal

abbrev pub invariant-loop-k : goal.invariant-loop-k
invariant-loop-k g l =
    (f : ℕ → ℕ → Reading g.row.T.Denot) → ((k p : ℕ) (r : Option (g.row.T.Denot × ℕ)) → k < length l.initial.list → goal.F-post g l.read k p r → reading_of r ≡ f k p) →
    Filling f l.at l.initial.list l.list l.next l.k
