-- docs/SCOPE.md, 'Refusals': an answer is a value, or in its place the reason why the call is refused. Its status is 0, or the number that the table has for that reason.
use Rattle.std.specs.Prelude.{ℕ, Result, Ok, Err}
use Rattle.definition.specs.declared.Refusal.{Refusal}
use Rattle.definition.specs.declared.Refusal.TheVariants.{Width, Height, Stride, Sampling, Outside, Left, Top, Bottom, Masks, Filters, Luma, Block, State, Card, Plane, Scratch, Text}

abbrev pub number : Refusal → ℕ
number Width = 1
number Height = 2
number Stride = 3
number Sampling = 4
number Outside = 5
number Left = 6
number Top = 7
number Bottom = 8
number Masks = 9
number Filters = 10
number Luma = 11
number Block = 12
number State = 13
number Card = 14
number Plane = 15
number Scratch = 16
number Text = 17

abbrev pub status_from : {A : Type 0} → Result A Refusal → ℕ
status_from (Ok v) = 0
status_from (Err r) = number r

-- a number, or 0 in its place
abbrev pub value_from : Result ℕ Refusal → ℕ
value_from (Ok n) = n
value_from (Err r) = 0
