-- What the reader's answers mean: the definition's value for each case, and a refusal's number.
use Rattle.std.specs.Prelude.{List, ◌++◌, ℕ, ◌-◌, length, replicate, Option, Some, None, Result, Ok, Err}
use Rattle.definition.specs.Answers.{number}
use Rattle.definition.specs.Card.{Reading, value, wrong, CardUnit, Meaning, unit, refused, joined}
use Rattle.definition.specs.Limits.{block_row_limit, plane_size}
use Rattle.definition.specs.declared.Refusal.{Refusal}
use Rattle.card_reader.specs.declared.Card.{Card}

-- a value and the place behind it
abbrev pub reading_of : {A : Type 0} → Option (A × ℕ) → Reading A
reading_of (Some r) = value r.0 r.1
reading_of None = wrong

-- the place behind a line whose value is a
abbrev pub line_of : {A : Type 0} → Option ℕ → A → Reading A
line_of (Some at) a = value a at
line_of None a = wrong

-- a list of n, the rest of it zeros
abbrev pub filled {ℓ} : {A : Type ℓ} → A → ℕ → List A → List A
filled zero n l = l ++ replicate (n - length l) zero

-- an answer with the number of its refusal
abbrev pub numbered : {A : Type 0} → Result A Refusal → Result A ℕ
numbered (Ok a) = Ok a
numbered (Err r) = Err (number r)

-- the card of a unit
abbrev pub card : CardUnit → Card
card u = record { w = u.w; h = u.h; filter = u.filter; skip = filled 0 block_row_limit u.skip; rows = filled 0 plane_size (joined u.rows) }

-- what answers a meaning: its card, and with the place behind it
unfoldable pub card_of : Meaning → Result Card ℕ
card_of (unit u at) = Ok (card u)
card_of (refused status) = Err status

unfoldable pub unit_of : Meaning → Result (Card × ℕ) ℕ
unit_of (unit u at) = Ok (card u, at)
unit_of (refused status) = Err status
