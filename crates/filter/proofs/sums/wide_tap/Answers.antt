-- `filter::sums::wide_tap` meets its contract: the rules of `Held`, in the order of the code.
use native.Mathlib.Omega.{arith}
use mathlib.Core.Path.{◌≡◌}
use Prim.Native.Nat.{ℕ, ◌*◌, ◌≤◌}
use lib.Dec.{lit<}
use lib.IntN.{ℤ, pos, ◌-ℤ◌, ◌*ℤ◌}
use mir.Syntax.{w16, w32}
use mir.Val.{SFits, to_z, of_z}
use Rattle.laws.proofs.Held.{Held, sub_b, mul_b, natural, kept, plus, plus_fits, minus, times, times_fits}
use Rattle.filter.specs.Windows.{pair_limit}
use Rattle.filter.specs.Taps.{tap_limit}
use Rattle.filter.proofs.Steps.{widened}
use Rattle.filter.proofs.sums.wide_tap.Goals as goal

difference : (p b : ℕ) → p ≤ pair_limit → b ≤ pair_limit → Held w32 (sub_b w32 p b) (pos p -ℤ pos b) (2 * pair_limit)
difference p b p-le b-le =
    let pair : Held w32 p (pos p) pair_limit = natural p-le (lit< tt) in
    let base : Held w32 b (pos b) pair_limit = natural b-le (lit< tt) in
    minus pair base (lit< tt)

-- what is added
product : (p b : ℕ) (c n : ℤ) → p ≤ pair_limit → b ≤ pair_limit → SFits w16 c → n ≡ to_z w16 (of_z w16 c) → SFits w32 n → Held w32 (mul_b w32 (sub_b w32 p b) (of_z w32 n)) ((pos p -ℤ pos b) *ℤ c) tap_limit
product p b c n p-le b-le fits e n-fits = times (difference p b p-le b-le) (widened fits e n-fits) (lit< tt)

pub overflow_mul-result : goal.overflow_mul-result
overflow_mul-result c =
    times_fits (difference c.args.p c.args.b c.requires.1 c.requires.2) (widened c.ranges.c c.from.ensures (record { sfits = c.from.type_inv })) (lit< tt)

pub overflow_add-result : goal.overflow_add-result
overflow_add-result c =
    plus_fits (kept c.ranges.s) (product c.args.p c.args.b c.args.c c.from.result c.requires.1 c.requires.2 c.ranges.c c.from.ensures (record { sfits = c.from.type_inv })) (omega (arith, c.requires))

pub returns : goal.returns
returns c =
    let r =
    plus (kept c.ranges.s) (product c.args.p c.args.b c.args.c c.from.result c.requires.1 c.requires.2 c.ranges.c c.from.ensures (record { sfits = c.from.type_inv })) (omega (arith, c.requires)) in
    (r.is, rw r.is r.bound)
