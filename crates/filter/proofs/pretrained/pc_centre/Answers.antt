-- `filter::pretrained::pc_centre` meets its contract: a byte times a number of 16 bits.
use native.Mathlib.Omega.{arith}
use mathlib.Core.Path.{◌∙◌}
use lib.Dec.{lit<}
use lib.IntN.{pos, ◌*ℤ◌}
use mir.Syntax.{w32}
use mir.Val.{of_z}
use mir.Facts.{to_z-of_z}
use Rattle.definition.specs.Sample.{limit8}
use Rattle.laws.proofs.Held.{Held, times}
use Rattle.filter.proofs.Steps.{widened}
use Rattle.filter.proofs.pretrained.pc_centre.Goals as goal

pub returns : goal.returns
returns c =
    let m : Held w32 (of_z w32 c.from.result) (pos c.centre-m.result) limit8 =
    record { is = to_z-of_z {w = w32} (record { sfits = c.from.type_inv }) ∙ c.from.ensures; bound = omega (arith, c.centre-m.type_inv) } in
    let by = widened c.ranges.last c.from-2.ensures (record { sfits = c.from-2.type_inv }) in
    let r = times m by (lit< tt) in
    (r.is ∙ (λ i. pos (c.centre-m.ensures i) *ℤ c.args.last), rw r.is r.bound)
