-- `features::Rows::column_sum` meets its contract: before turn i the first i bends are added up.
use mathlib.Core.Path.{◌≡◌}
use Prim.Native.Nat.{◌*◌, ◌≤◌}
use Rattle.definition.specs.Numbers.{sum_n}
use Rattle.features.specs.Columns.{column_bend, bend_limit}
use Rattle.features.proofs.Rows.column_sum.Given as goal

abbrev pub invariant-loop-i : goal.invariant-loop-i
invariant-loop-i l =
    (l.sum ≤ l.i * bend_limit) × (l.sum ≡ sum_n l.i (column_bend l.self.bytes.now l.self.indices.now l.a l.m l.z))
