-- `rows::open_indices` meets its contract: the list by its entries.
use Rattle.std.proofs.Common.{cond, rules}
use Rattle.std.specs.Prelude.{ltb}
use Rattle.model.proofs.Opening.{open_index}
use Rattle.laws.proofs.Made.{made}
use Rattle.units.proofs.rows.open_indices.Goals as goal

pub returns : goal.returns
returns c = made _ (λ j. cond (ltb j 8) (open_index c.args.op c.args.g j) 0) _ (λ i r q h. search rules) 10 _ c.from_fn.ensures.items
