-- `filter::pretrained::Set::sum` meets its contract: what was taken off is given back.
use mathlib.Core.Path.{◌∙◌}
use mir.Syntax.{w32}
use mir.Facts.{to_z-of_z}
use Rattle.definition.specs.Rows.{luma_flat}
use Rattle.definition.specs.Leaves.{coefficients}
use Rattle.filter.proofs.Lessened.{lessened}
use Rattle.filter.proofs.pretrained.Set.sum.Goals as goal

pub returns-clause-value : goal.returns-clause-value
returns-clause-value g c =
    to_z-of_z {w = w32} {z = c.twelve.result} (record { sfits = c.twelve.type_inv }) ∙ c.twelve.ensures.is ∙
    lessened c.args.self.now.base (luma_flat c.args.around.rows.bytes.now c.args.around.rows.indices.now c.args.around.col) (coefficients c.args.self.now.filter.now)
