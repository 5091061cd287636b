-- What the private functions that read a line's parts answer.
use Rattle.std.specs.Prelude.{◌≡◌, cond, List, ◌++◌, ℕ, ◌+◌, ltb, length, drop, Option, Some, None}
use Rattle.definition.specs.Card.{Reading, value, wrong, input_at, digit_of, hex_of, joined}

-- a digit, and a hex digit
abbrev pub digit_at : List ℕ → ℕ → Reading ℕ
digit_at s at = cond (ltb 9 (digit_of (input_at s at))) wrong (value (digit_of (input_at s at)) (at + 1))

abbrev pub hex_at : List ℕ → ℕ → Reading ℕ
hex_at s at = cond (ltb 15 (hex_of (input_at s at))) wrong (value (hex_of (input_at s at)) (at + 1))

-- h rows that were read stand at the front of a plane, and what is behind them is as it was
abbrev pub Joins : Reading (List (List ℕ)) → Option ℕ → List ℕ → List ℕ → Type 0
Joins (value rows at) (Some next) p q = (next ≡ at) × (q ≡ joined rows ++ drop (length (joined rows)) p)
Joins (value rows at) None p q = ⊥
Joins wrong (Some next) p q = ⊥
Joins wrong None p q = Unit {0}
