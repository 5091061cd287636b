use Rattle.std.proofs.Common.{◌≡◌, get_or, ap, ◌∙◌}
use Rattle.tables.specs.declared.TheConstants.{SKIP_SUMS}
use Rattle.tables.proofs.SkipSums.{sum_of_block, entry_small}
use Rattle.class_index.proofs.skip_sum.Goals as goal

pub returns : goal.returns
returns c =
    let e : c.from.result ≡ get_or SKIP_SUMS c.skip_pattern.result 0 = c.from.ensures in
    rw e (ap (λ p. get_or SKIP_SUMS p 0) c.skip_pattern.ensures.0 ∙ sum_of_block _ _ _ _, entry_small c.skip_pattern.result)
