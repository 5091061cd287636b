-- `features::Rows::feature_row` meets its contract: before turn bx the features of the first bx blocks are stored.
use mathlib.Core.Path.{◌≡◌}
use lib.IntN.{pos, ◌-ℤ◌}
use lib.ListN.{length}
use Rattle.definition.specs.Limits.{block_column_limit}
use Rattle.definition.specs.Leaves.{feature_at, feature_row}
use Rattle.features.proofs.Rows.feature_row.Given as goal

abbrev pub invariant-loop-bx : goal.invariant-loop-bx
invariant-loop-bx l =
    (length l.out ≡ block_column_limit) × (l.out ≡ feature_row l.bx (feature_at l.self.bytes.now l.self.indices.now (pos l.fn.d.a -ℤ pos 3)))
