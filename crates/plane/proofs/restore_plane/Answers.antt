-- `plane::restore_plane` meets its contract: the table first, then the walk.
use Rattle.std.proofs.Common.{sym, arith}
use Rattle.std.specs.Prelude.{length}
use Rattle.plane_laws.proofs.Answers.{plane_fine}
use Rattle.plane.proofs.restore_plane.Goals as goal

pub invariant_of-plane : goal.invariant_of-plane
invariant_of-plane c =
    let a = c.args in
    let f = plane_fine a.w a.h a.unit (length a.p.now) (length a.skip.now) (length a.filter.now) (length a.scratch.now) (sym c.in_ok-plane_status.ensures) in
    record { grid = f.grid; limits = (f.wide, f.high, f.unit); taps = f.taps; masks = f.masks; small = λ i. omega (arith, c.type_inv.skip i) }

pub restore_units-requires : goal.restore_units-requires
restore_units-requires c =
    let a = c.args in
    let f = plane_fine a.w a.h a.unit (length a.p.now) (length a.skip.now) (length a.filter.now) (length a.scratch.now) (sym c.in_ok-plane_status.ensures) in
    record { room = f.room; banks = f.banks }
