-- `saved::PlaneUnit::save_rows` meets its contract: each turn stores one byte more (`sets_more`).
use Rattle.std.proofs.Common.{◌≡◌, ◌+◌, ◌*◌, ◌-◌}
use lib.ListN.{length, get_or}
use lib.Seq.{sets}
use Rattle.definition.specs.Rows.{tab}
use Rattle.plane.proofs.cut.PlaneUnit.save_rows.Given as goal

abbrev pub invariant-loop-j : goal.invariant-loop-j
invariant-loop-j l =
    (length l.scratch ≡ length l.initial.scratch) × (l.scratch ≡ sets l.initial.scratch l.to (tab l.j (λ i. get_or l.p ((l.self.y + l.self.h - 4) * l.self.plane.w + i) 0)))
