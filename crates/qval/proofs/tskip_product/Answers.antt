-- `qval::tskip_product` meets its contract: each step is exact in 64 bits.
use native.Mathlib.Omega.{arith}
use Prim.Native.Nat.{◌≤◌}
use lib.Dec.{lit<, lit≤}
use lib.IntN.{pos}
use mir.Syntax.{w64}
use Rattle.laws.proofs.Held.{Held, natural, times, plus, shifted}
use Rattle.qval.proofs.Terms.{widened, byte}
use Rattle.qval.proofs.tskip_product.Goals as goal

half : Held w64 128 (pos 128) 128
half = natural (lit≤ tt) (lit< tt)

pub returns : goal.returns
returns c =
    let b : c.args.tskip ≤ 255 = omega arith in
    let r = shifted 256 (plus (times (byte c.from.type_inv c.from.ensures b) (widened c.from-2.type_inv c.from-2.ensures c.ranges.qstep) (lit< tt)) half (lit< tt)) (lit< tt) in
    (r.is, rw r.is r.bound)
