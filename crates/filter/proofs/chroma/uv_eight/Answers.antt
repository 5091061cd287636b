-- `filter::chroma::uv_eight` meets its contract: each of the eight is what its call answered.
use borrow.Author.Rules.{rules}
use Rattle.definition.specs.Sample.{rounded}
use Rattle.filter.proofs.chroma.uv_eight.Goals as goal

pub returns-then-small : goal.returns-then-small
unfolding rounded
returns-then-small c = λ j l. let made = c.eight.ensures j l in search rules

pub returns : goal.returns
unfolding rounded
returns c = λ j l. let made = c.eight-2.ensures j l in search rules
