use Rattle.std.proofs.Common.{rules}
use Rattle.definition.specs.Card.{skip_entry}
use Rattle.definition.specs.Limits.{height_limit}
use Rattle.laws.proofs.Made.{made}
use Rattle.card_answer.proofs.spread.Goals as goal

pub returns : goal.returns
returns c = made _ (skip_entry c.args.skip.now) _ (λ i r q h. search rules) height_limit _ c.from_fn.ensures.items
