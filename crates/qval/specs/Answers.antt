-- The answer of a term as a program in C has it: the status, and the value, or 0 where the call is refused.
use Rattle.std.specs.Prelude.{Result, Ok, Err, ℤ, pos}
use Rattle.definition.specs.declared.Refusal.{Refusal}
use Rattle.definition.specs.Answers.{status_from}
use Rattle.qval.specs.declared.Qval.{Qval}

abbrev pub term_from : Result ℤ Refusal → ℤ
term_from (Ok z) = z
term_from (Err r) = pos 0

abbrev pub qval_of : Result ℤ Refusal → Qval
qval_of r = record { status = status_from r; value = term_from r }
