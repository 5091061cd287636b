-- `filter::around::Around::pair_at` meets its contract: both taps are read, the second with its offsets turned.
use native.Mathlib.Omega.{arith}
use mathlib.Core.Path.{◌≡◌, ◌∙◌}
use Prim.Native.Nat.{◌+◌, ◌<◌}
use lib.IntN.{ℤ, pos, neg_ℤ, nat_abs, ◌-ℤ◌, +ℤ_idl}
use mir.Syntax.{w8}
use mir.Val.{SFits, to_z, of_z}
use mir.Facts.{to_z-of_z}
use Rattle.definition.specs.Rows.{flat_around, row_bytes}
use Rattle.laws.proofs.Ints.{sfits_abs, abs_neg}
use Rattle.filter.proofs.around.Around.pair_at.Goals as goal

-- 0 - z, as the machine holds it
module _ (z : ℤ) (fits : SFits w8 z) (near : nat_abs z < 128) where
  turn_is : pos 0 -ℤ to_z w8 (of_z w8 z) ≡ neg_ℤ z
  turn_is = rw (to_z-of_z fits) (+ℤ_idl (neg_ℤ z))

  turn_fits : SFits w8 (pos 0 -ℤ to_z w8 (of_z w8 z))
  turn_fits = rw turn_is (sfits_abs (rw (abs_neg z) near))

  turned : to_z w8 (of_z w8 (pos 0 -ℤ to_z w8 (of_z w8 z))) ≡ neg_ℤ z
  turned = to_z-of_z turn_fits ∙ turn_is

pub returns : goal.returns
returns g c =
    let at = flat_around 0 row_bytes g.row.MID c.args.self.now.rows.bytes.now c.args.self.now.rows.indices.now c.args.self.now.col in
    let a-is = c.from.ensures ∙ c.byte_at-a.ensures ∙ (λ i. at (to_z-of_z c.ranges.dy i) (to_z-of_z c.ranges.dx i)) in
    let b-is = c.from-2.ensures ∙ c.byte_at-b.ensures ∙ (λ i. at (turned c.args.dy c.ranges.dy (omega arith) i) (turned c.args.dx c.ranges.dx (omega arith) i)) in
    record { is = λ i. a-is i + b-is i; bound = omega (arith, c.from.ensures, c.from-2.ensures, c.byte_at-a.type_inv, c.byte_at-b.type_inv) }
