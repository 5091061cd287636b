-- `qval::weighted_sum` meets its contract: three products and two sums, each exact in 64 bits.
use Prim.Native.Nat.{ℕ, ◌+◌, ◌*◌, ◌≤◌}
use native.Mathlib.Omega.{arith}
use lib.Dec.{lit<, lit≤}
use lib.IntN.{ℤ, pos, nat_abs, ◌+ℤ◌, ◌*ℤ◌}
use mir.Syntax.{w64}
use mir.Val.{SFits, of_z}
use Rattle.laws.proofs.Held.{Held, kept, under, natural, times, times_fits, plus, plus_fits, add_b, mul_b}
use Rattle.qval.proofs.Terms.{weight_fits, widened, byte}
use Rattle.qval.proofs.weighted_sum.Goals as goal

thirty_two : Held w64 32 (pos 32) 32
thirty_two = natural (lit≤ tt) (lit< tt)

product : {p : ℤ} → SFits w64 p → nat_abs p ≤ 547608330368 → Held w64 (of_z w64 p) p 547608330368
product f b = under (kept f) b

-- the first two products, added
first_two : {l m n k t : ℕ} {x y q : ℤ} → Held w64 l x 32768 → Held w64 m (pos t) 255 → Held w64 n y 32768 → Held w64 k q 2147483648 →
    Held w64 (add_b w64 (mul_b w64 l (mul_b w64 32 m)) (mul_b w64 n k)) (x *ℤ pos (32 * t) +ℤ y *ℤ q) (32768 * 8160 + 32768 * 2147483648)
first_two x t y q = plus (times x (times thirty_two t (lit< tt)) (lit< tt)) (times y q (lit< tt)) (lit< tt)

pub overflow_add-result : goal.overflow_add-result
overflow_add-result c =
    let b : c.args.tskip ≤ 255 = omega arith in
    plus_fits
    (times (widened c.from.type_inv c.from.ensures (weight_fits c.args.i 0)) (times thirty_two (byte c.from-t.type_inv c.from-t.ensures b) (lit< tt)) (lit< tt))
    (times (widened c.from-2.type_inv c.from-2.ensures (weight_fits c.args.i 1)) (widened c.from-3.type_inv c.from-3.ensures c.ranges.qstep) (lit< tt))
    (lit< tt)

pub overflow_mul-result-3 : goal.overflow_mul-result-3
overflow_mul-result-3 c =
    times_fits (widened c.from-4.type_inv c.from-4.ensures (weight_fits c.args.i 2)) (product c.ranges.p c.requires.1) (lit< tt)

pub overflow_add-result-2 : goal.overflow_add-result-2
overflow_add-result-2 c =
    let b : c.args.tskip ≤ 255 = omega arith in
    plus_fits
    (first_two (widened c.from.type_inv c.from.ensures (weight_fits c.args.i 0)) (byte c.from-t.type_inv c.from-t.ensures b) (widened c.from-2.type_inv c.from-2.ensures (weight_fits c.args.i 1)) (widened c.from-3.type_inv c.from-3.ensures c.ranges.qstep))
    (times (widened c.from-4.type_inv c.from-4.ensures (weight_fits c.args.i 2)) (product c.ranges.p c.requires.1) (lit< tt))
    (lit< tt)

pub returns : goal.returns
returns c =
    let b : c.args.tskip ≤ 255 = omega arith in
    let r =
    plus
    (first_two (widened c.from.type_inv c.from.ensures (weight_fits c.args.i 0)) (byte c.from-t.type_inv c.from-t.ensures b) (widened c.from-2.type_inv c.from-2.ensures (weight_fits c.args.i 1)) (widened c.from-3.type_inv c.from-3.ensures c.ranges.qstep))
    (times (widened c.from-4.type_inv c.from-4.ensures (weight_fits c.args.i 2)) (product c.ranges.p c.requires.1) (lit< tt))
    (lit< tt)
    in
    (r.is, rw r.is (omega (arith, r.bound)))
