-- `filter::narrow::narrow_tap` meets its contract: a factor of a pair's size times a small number, on top of two such taps.
use native.Mathlib.Omega.{arith}
use Prim.Native.Nat.{◌≤◌}
use lib.Dec.{lit<}
use lib.IntN.{ℤ, nat_abs, ◌*ℤ◌}
use mir.Syntax.{w16}
use mir.Val.{SFits, of_z}
use Rattle.laws.proofs.Held.{Held, mul_b, kept, under, times, plus, plus_fits}
use Rattle.filter.specs.Windows.{pair_limit}
use Rattle.filter.specs.Groups.{small_limit, narrow_limit}
use Rattle.filter.proofs.narrow.narrow_tap.Goals as goal

product : (d c : ℤ) → SFits w16 d → SFits w16 c → nat_abs d ≤ pair_limit → nat_abs c ≤ small_limit → Held w16 (mul_b w16 (of_z w16 d) (of_z w16 c)) (d *ℤ c) narrow_limit
product d c d-fits c-fits d-le c-le =
    let factor : Held w16 (of_z w16 d) d pair_limit = under (kept d-fits) d-le in
    let by : Held w16 (of_z w16 c) c small_limit = under (kept c-fits) c-le in
    times factor by (lit< tt)

pub overflow_add-result : goal.overflow_add-result
overflow_add-result c = plus_fits (kept c.ranges.s) (product c.args.d c.args.c c.ranges.d c.ranges.c c.requires.1 c.requires.2) (omega (arith, c.requires))

pub returns : goal.returns
returns c =
    let r = plus (kept c.ranges.s) (product c.args.d c.args.c c.ranges.d c.ranges.c c.requires.1 c.requires.2) (omega (arith, c.requires)) in
    (r.is, rw r.is r.bound)
