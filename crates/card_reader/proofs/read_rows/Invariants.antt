use Rattle.std.proofs.Common.{◌*◌}
use Rattle.card_reader.proofs.Planes.{Joined}
use Rattle.card_reader.proofs.read_rows.Given as goal

abbrev pub invariant-loop-y : goal.invariant-loop-y
invariant-loop-y l = Joined l.s (λ k. l.w) (λ k. k * l.w) l.at l.initial.p l.p l.next l.y
