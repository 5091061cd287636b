use Rattle.std.proofs.Common.{◌≡◌}
use Rattle.definition.specs.StateText.{row_width}
use Rattle.card_reader.proofs.Planes.{Joined}
use Rattle.units.specs.Texts.{bytes_before}
use Rattle.units.proofs.state_text.read_rows.Given as goal

abbrev pub invariant-loop-k : goal.invariant-loop-k
invariant-loop-k l = (l.from ≡ bytes_before l.op l.k) × Joined l.s (row_width l.op) (bytes_before l.op) l.at l.initial.rows l.rows l.next l.k
