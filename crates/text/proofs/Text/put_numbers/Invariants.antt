use Rattle.std.proofs.Common.{◌≡◌, ◌<◌, ◌++◌, ℕ, take}
use Rattle.text.proofs.Numbers.{first_numbers}
use Rattle.text.proofs.Text.put_numbers.Given as goal

abbrev pub invariant-loop-k : goal.invariant-loop-k
invariant-loop-k g l =
    (f : ℕ → ℕ) → ((k r : ℕ) → k < l.n → goal.F-post g l.number k r → r ≡ f k) → l.self ≡ take g.row.N (l.initial.self ++ first_numbers f l.n l.k)
