-- `features::Rows::feature_row` meets its contract: before turn bx the features of the first bx blocks are stored.
use mathlib.Core.Path.{◌∙◌}
use Prim.Native.Nat.{◌+◌, ◌*◌}
use native.Mathlib.Nat.{zero-add}
use native.Mathlib.Omega.{arith}
use lib.IntN.{pos, ◌-ℤ◌}
use lib.ListN.{length-set, replicate}
use Rattle.definition.specs.Limits.{block_column_limit}
use Rattle.laws.proofs.Lists.{sets_more}
use Rattle.definition.specs.Leaves.{feature_at}
use Rattle.features.proofs.Columns.{feature-is}
use Rattle.features.proofs.Rows.feature_row.Goals as goal

pub loop-bx-preserved : goal.loop-bx-preserved
loop-bx-preserved c =
    let f = feature_at c.args.self.now.bytes.now c.args.self.now.indices.now (pos c.args.d.a -ℤ pos 3) in
    let e = c.six.ensures ∙ feature-is c.args.self.now.bytes.now c.args.self.now.indices.now c.column_sums-columns.result c.args.d.a c.args.d.z c.loop-bx.bx (omega arith) (λ j h. (c.column_sums-columns.ensures (2 + 4 * c.loop-bx.bx + j) (omega arith) (omega arith)).0) in
    (simp length-set c.loop-bx.invariant.0, rw (c.loop-bx.invariant.1, e) (rw (zero-add c.loop-bx.bx) at (sets_more c.loop-bx.bx (replicate block_column_limit 0) 0 f)))
