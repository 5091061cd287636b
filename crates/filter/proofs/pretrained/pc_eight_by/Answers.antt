-- `filter::pretrained::pc_eight_by` meets its contract: each of the eight is what its call answered.
use borrow.Author.Rules.{rules}
use Rattle.filter.proofs.pretrained.pc_eight_by.Goals as goal

pub returns-then-small : goal.returns-then-small
returns-then-small c = λ j l. let made = c.eight.ensures j l in rw (← c.requires.copy_value.0) (search rules)

pub returns : goal.returns
returns c = λ j l. let made = c.eight-2.ensures j l in search rules
