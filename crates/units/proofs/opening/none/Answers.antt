-- `opening::none` meets its contract: every field is 0.
use Rattle.std.proofs.Common.{rules}
use Rattle.units.specs.Openings.{no_state}
use Rattle.units.proofs.opening.none.Goals as goal

pub returns : goal.returns
unfolding no_state
returns c = search rules
