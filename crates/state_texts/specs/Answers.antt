-- What is printed for a text: its status and, where a state is read, the text of that state.
use Rattle.std.specs.Prelude.{List, [], ◌++◌, ℕ, ◌+◌, Result, Ok, Err}
use Rattle.definition.specs.declared.Refusal.{Refusal}
use Rattle.definition.specs.Answers.{number}
use Rattle.definition.specs.Card.{line_text, status_name}
use Rattle.definition.specs.StateText.{text_limit}
use Rattle.units.specs.declared.State.{State}
use Rattle.units.specs.Texts.{text_of}

abbrev pub answer_size : ℕ
answer_size = 9 + text_limit

abbrev pub text_from : Result (List ℕ) Refusal → List ℕ
text_from (Ok t) = t
text_from (Err r) = []

abbrev pub answered : Result State Refusal → List ℕ
answered (Ok s) = line_text status_name 0 ++ text_from (text_of s)
answered (Err r) = line_text status_name (number r)
