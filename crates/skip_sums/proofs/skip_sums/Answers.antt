use Rattle.std.proofs.Common.{sym, ◌∙◌, rules}
use Rattle.definition.specs.SkipSums.{pattern_sum, pattern_count}
use Rattle.laws.proofs.Made.{made}
use Rattle.tables.proofs.SkipSums.{by_rule}
use Rattle.skip_sums.proofs.skip_sums.Goals as goal

pub returns-clause-by_rule : goal.returns-clause-by_rule
returns-clause-by_rule c = made _ pattern_sum _ (λ i r q h. search rules) pattern_count _ c.from_fn.ensures.items

pub returns-clause-held : goal.returns-clause-held
returns-clause-held c = returns-clause-by_rule c ∙ sym by_rule
