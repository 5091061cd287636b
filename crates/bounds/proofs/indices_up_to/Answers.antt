-- `bounds::indices_up_to` meets its contract: there are as many indices as the definition looks at.
use Rattle.std.proofs.Common.{rules, tests, leb, ◌∙◌}
use mathlib.Core.Path.{ap}
use Rattle.std.proofs.lemmas.Iterator.{YieldsList-from_slice}
use Rattle.std.proofs.lemmas.Iterator.Search.{all_from_yields_List}
use Rattle.definition.specs.Refusals.{first_pass}
use Rattle.bounds.proofs.Passes.{passes_list}
use Rattle.bounds.proofs.indices_up_to.Goals as goal

pub returns : goal.returns
returns c =
    let xs = c.args.indices.now in
    all_from_yields_List (λ i. leb i c.args.limit) _ _ _ c.all.ensures.ran (YieldsList-from_slice xs cc) (λ x b q k. search (rules, tests)) ∙
    passes_list (λ i. leb i c.args.limit) xs ∙
    ap (λ n. first_pass (λ i. leb i c.args.limit) n xs) c.told-indices
