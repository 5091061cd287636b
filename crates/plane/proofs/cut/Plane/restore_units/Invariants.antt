-- `plane::walk::Plane::restore_units` meets its contract: `Reached` holds before each unit, and one unit more keeps it.
use lib.ListN.{length}
use Rattle.plane.proofs.Reached.{Reached}
use Rattle.plane.proofs.cut.Plane.restore_units.Given as goal

abbrev pub invariant-loop-k : goal.invariant-loop-k
invariant-loop-k l =
    Reached l.self.w l.self.h l.self.unit l.initial.p l.self.skip.now l.self.filter.now (length l.initial.scratch) l._k l.y l.x l.bank l.pieces l.p l.scratch l.left
