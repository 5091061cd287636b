-- `features::Rows::feature` meets its contract: the block's six columns are summed, and their sum is the feature.
use mathlib.Core.Path.{◌∙◌}
use native.Mathlib.Omega.{arith}
use Prim.Native.Nat.{◌+◌, ◌*◌}
use Rattle.features.proofs.Columns.{feature-is}
use Rattle.features.proofs.Rows.feature.Goals as goal

pub returns : goal.returns
returns c =
    c.six.ensures ∙
    feature-is c.args.self.now.bytes.now c.args.self.now.indices.now c.column_sums-columns.result c.args.d.a c.args.d.z c.args.bx (omega arith)
    (λ j h. (c.column_sums-columns.ensures (2 + 4 * c.args.bx + j) (omega arith) (omega arith)).0)
