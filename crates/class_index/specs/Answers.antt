-- A class index with its parts, and the answer of a call for one as a program in C has it: the status, and zeros where the call is refused.
use Rattle.std.specs.Prelude.{List, ℕ, zero, suc, ℤ, Result, Ok, Err, replicate}
use Rattle.definition.specs.declared.Refusal.{Refusal}
use Rattle.definition.specs.Answers.{number}
use Rattle.definition.specs.ClassIndex.{skip_sum, bins_of, index_of}
use Rattle.class_index.specs.declared.ClassIndex.{ClassIndex}
use Rattle.class_index.specs.declared.Indexed.{Indexed}

-- of the skip sum and the four bins
abbrev pub of_parts : ℕ → List ℕ → ClassIndex
of_parts sum bins = record { index = index_of bins; skip_sum = sum; bins = bins }

-- of block (bx, by) of a unit with bh block rows, from the block's three features f
abbrev pub class_index_by : List ℕ → List ℕ → ℤ → ℕ → ℕ → ℕ → ClassIndex
class_index_by f noskip q bx by bh = of_parts (skip_sum noskip bh bx by) (bins_of f q (skip_sum noskip bh bx by))

abbrev pub no_class_index : ClassIndex
no_class_index = record { index = 0; skip_sum = 0; bins = replicate 4 0 }

abbrev pub class_index_unless : ℕ → ClassIndex → ClassIndex
class_index_unless zero c = c
class_index_unless (suc status) c = no_class_index

-- as C has it
abbrev pub indexed_of : Result ClassIndex Refusal → Indexed
indexed_of (Ok c) = record { status = 0; class_index = c }
indexed_of (Err r) = record { status = number r; class_index = no_class_index }
