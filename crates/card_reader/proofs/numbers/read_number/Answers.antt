use Rattle.card_reader.proofs.Digits.{within}
use Rattle.card_reader.proofs.numbers.read_number.Goals as goal

pub returns-clause-within : goal.returns-clause-within
returns-clause-within c = within _ _ _ _ _ c.read_digits.ensures
