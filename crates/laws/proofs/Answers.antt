-- Answers and their statuses: a reason to refuse has no number 0, so a status of 0 is a value's.
use Rattle.std.specs.Prelude.{◌≡◌, refl, Result, Ok, Err, IsOk}
use Rattle.std.proofs.Common.{arith}
use Rattle.definition.specs.declared.Refusal.{Refusal}
use Rattle.definition.specs.declared.Refusal.TheVariants.{Width, Height, Stride, Sampling, Outside, Left, Top, Bottom, Masks, Filters, Luma, Block, State, Card, Plane, Scratch, Text}
use Rattle.definition.specs.Answers.{number, status_from}

pub number_some : (r : Refusal) → number r ≡ 0 → ⊥
number_some Width e = omega (arith, e)
number_some Height e = omega (arith, e)
number_some Stride e = omega (arith, e)
number_some Sampling e = omega (arith, e)
number_some Outside e = omega (arith, e)
number_some Left e = omega (arith, e)
number_some Top e = omega (arith, e)
number_some Bottom e = omega (arith, e)
number_some Masks e = omega (arith, e)
number_some Filters e = omega (arith, e)
number_some Luma e = omega (arith, e)
number_some Block e = omega (arith, e)
number_some State e = omega (arith, e)
number_some Card e = omega (arith, e)
number_some Plane e = omega (arith, e)
number_some Scratch e = omega (arith, e)
number_some Text e = omega (arith, e)

pub served : {A : Type 0} (r : Result A Refusal) → status_from r ≡ 0 → IsOk r
served (Ok v) e = refl
served (Err r) e = absurd (number_some r e)
