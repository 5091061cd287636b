-- `saved::PlaneUnit::save_rows` meets its contract: each turn stores one byte more (`sets_more`).
use Rattle.std.proofs.Common.{◌+◌, ◌*◌, ◌-◌}
use lib.ListN.{get_or, length-set}
use Rattle.laws.proofs.Lists.{sets_more}
use Rattle.plane.proofs.cut.PlaneUnit.save_rows.Goals as goal

pub loop-j-preserved : goal.loop-j-preserved
loop-j-preserved c =
    let u = c.args.self.now in
    (simp length-set c.loop-j.invariant.0, rw c.loop-j.invariant.1 (sets_more c.loop-j.j c.args.scratch.now c.args.to (λ i. get_or c.args.p.now ((u.y + u.h - 4) * u.plane.w + i) 0)))
