-- `padding::backup_row_luma::Sampling::fill_columns` meets its contract: whole steps are filled, and a column that is stepped over keeps its byte (`columns_more`).
use mathlib.Core.Path.{◌≡◌}
use mathlib.Core.Bool.{cond}
use Prim.Native.Nat.{ℕ}
use lib.ListN.{length}
use Rattle.definition.specs.Padding.{even_only}
use Rattle.padding.specs.Steps.{columns}
use Rattle.padding.proofs.Filled.{WholeSteps}
use Rattle.padding.proofs.backup_row_luma.Sampling.fill_columns.Given as goal

abbrev pub invariant-loop-j : goal.invariant-loop-j
invariant-loop-j g l =
    record {
      steps : WholeSteps (even_only l.fn.self.ss_ver l.fn.self.kind) l.j l.n;
      step : l.j-step ≡ cond (even_only l.fn.self.ss_ver l.fn.self.kind) 2 1;
      same_length : length l.dst ≡ length l.initial.dst;
      done : (h : ℕ → ℕ) → ((j r : ℕ) → goal.F-post g l.f j r → r ≡ h j) → l.dst ≡ columns l.initial.dst l.at l.j l.fn.self.ss_ver l.fn.self.kind h;
    }
