use Rattle.std.proofs.Common.{◌≡◌, drop}
use Rattle.definition.specs.Card.{word_at}
use Rattle.card_reader.proofs.read_word.Given as goal

abbrev pub invariant-loop-byte : goal.invariant-loop-byte
invariant-loop-byte l = word_at l.s l.word l.at ≡ word_at l.s (drop l.byte-index l.word) l.next
