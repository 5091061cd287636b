-- `filter::turns::run` meets its contract: after each turn the first x samples are written.
use mathlib.Core.Path.{◌≡◌}
use Prim.Native.Nat.{ℕ, ◌+◌, ◌-◌, ◌≤◌, min}
use lib.ListN.{length}
use Rattle.filter.specs.Windows.{Gives}
use Rattle.filter.proofs.Writes.{Writing}
use Rattle.filter.proofs.turns.run.Given as goal

abbrev pub invariant-loop-x : goal.invariant-loop-x
invariant-loop-x g l =
    (l.x ≤ l.n) × (length l.dst ≡ length l.initial.dst) ×
    ((f : ℕ → ℕ) → Gives (goal.F-post g l.eight_from) (min l.col0 l.last) l.last f → Writing (λ (x : ℕ). f (l.col0 + x)) l.initial.dst l.n l.dst l.x)

abbrev pub decreases-loop-x : goal.decreases-loop-x
decreases-loop-x g l = l.n - l.x
