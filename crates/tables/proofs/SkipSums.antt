-- The table of skip sums is the rule's.
use mathlib.Core.Path.{◌≡◌, refl, ap, ◌∙◌}
use mathlib.Core.List.{List}
use Prim.Native.Nat.{ℕ, ◌≤◌, ◌<◌}
use lib.Dec.{leb, leb→le}
use lib.ListN.{get_or}
use Rattle.definition.specs.Numbers.{sum_n}
use Rattle.definition.specs.ClassIndex.{noskip_bit, skip_sum}
use Rattle.definition.specs.SkipSums.{skip_pattern, pattern_sum, pattern_count, skip_sums}
use Rattle.laws.proofs.Lists.{get_or-tab}
use Rattle.laws.proofs.Tables.{all-at}
use Rattle.laws.proofs.Patterns.{pattern_below, sum_of_pattern}
use Rattle.tables.specs.declared.TheConstants.{SKIP_SUMS}

-- THE TEST, over the whole table, which the checker computes
pub by_rule : SKIP_SUMS ≡ skip_sums
unfolding pattern_sum sum_n
by_rule = refl

-- so each entry is the sum of its pattern
pub entry : (p : ℕ) → p < pattern_count → get_or SKIP_SUMS p 0 ≡ pattern_sum p
entry p h = ap (λ l. get_or l p 0) by_rule ∙ get_or-tab pattern_count pattern_sum p h

-- and that of a block's pattern the block's skip sum
module _ (noskip : List ℕ) (bh bx by : ℕ) where
  pub sum_of_block : get_or SKIP_SUMS (skip_pattern noskip bh bx by) 0 ≡ skip_sum noskip bh bx by
  unfolding skip_sum
  sum_of_block = entry _ (pattern_below (noskip_bit noskip bh bx by)) ∙ sum_of_pattern (noskip_bit noskip bh bx by)

-- no entry is over 36: a second test
pub entry_small : (p : ℕ) → get_or SKIP_SUMS p 0 ≤ 36
entry_small p = leb→le _ 36 (all-at (λ s. leb s 36) SKIP_SUMS 0 tt tt p)
