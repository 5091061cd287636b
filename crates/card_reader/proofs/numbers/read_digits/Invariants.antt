use Rattle.std.proofs.Common.{◌≡◌, drop}
use Rattle.definition.specs.StateText.{digits_from}
use Rattle.card_reader.proofs.numbers.read_digits.Given as goal

abbrev pub invariant-loop-p : goal.invariant-loop-p
invariant-loop-p l = digits_from l.limit l.end 0 (drop l.at l.s) l.at ≡ digits_from l.limit l.end l.number (drop l.p l.s) l.p
