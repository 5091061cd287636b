-- `features::Rows::column_sums` meets its contract: before turn k the columns from m to k - 1 are summed.
use mathlib.Core.Path.{◌≡◌}
use Prim.Native.Nat.{ℕ, ◌+◌, ◌≤◌, ◌<◌}
use lib.ListN.{length, get_or}
use Rattle.features.specs.Columns.{column_sum, column_count, column_limit}
use Rattle.features.proofs.Rows.column_sums.Given as goal

abbrev pub invariant-loop-k : goal.invariant-loop-k
invariant-loop-k l =
    (length l.out ≡ column_count) ×
    ((j : ℕ) → l.m ≤ j → j < l.k → (get_or l.out j 0 ≡ column_sum l.self.bytes.now l.self.indices.now (l.d.a + j) (3 + j) (l.d.z + j)) × (get_or l.out j 0 ≤ column_limit))
