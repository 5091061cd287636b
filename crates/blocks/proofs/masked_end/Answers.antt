-- `blocks::masked_end` meets its contract: the blocks below the trailing zeros are clear, so the first masked one is past them.
use mathlib.Core.Path.{◌≡◌, sym, ap, ◌∙◌}
use Prim.Native.Nat.{ℕ, ◌+◌, ◌-◌, ◌/◌, ◌^◌, ◌≤◌, min}
use native.Mathlib.Decide.{dec_lt}
use native.Mathlib.Omega.{arith}
use lib.Count.{count_trailing_zeros}
use Rattle.definition.specs.Limits.{block_column_limit}
use Rattle.definition.specs.Blocks.{masked, stretch_end}
use Rattle.blocks.proofs.First.{first_jump, first-here, first-end}
use Rattle.blocks.proofs.Bits.{shifted_below, shifted_there}
use Rattle.blocks.proofs.masked_end.Goals as goal

end_of : (mask bx bw : ℕ) → bx ≤ bw → bw ≤ block_column_limit → min (bx + count_trailing_zeros 32 (mask / 2 ^ bx)) bw ≡ stretch_end mask bx bw
end_of mask bx bw h k =
    let z = count_trailing_zeros 32 (mask / 2 ^ bx) in
    elim (dec_lt z (bw - bx)) [
      | yes l ↦
          let m : min (bx + z) bw ≡ bx + z = omega arith in
          m ∙
          sym (first_jump (masked mask) z bx bw (omega arith) (λ k i j. shifted_below 32 mask bx k i j) ∙
          first-here (masked mask) (bx + z) bw (omega arith) (shifted_there 32 mask bx (omega arith)))
      | no n ↦
          let m : min (bx + z) bw ≡ bw = omega arith in
          let e : bx + (bw - bx) ≡ bw = omega arith in
          m ∙
          sym (first_jump (masked mask) (bw - bx) bx bw (omega arith) (λ k i j. shifted_below 32 mask bx k i (omega arith)) ∙
          (rw e (first-end (masked mask) bw bw (omega arith))))
    ]

pub returns : goal.returns
returns c =
    c.min.ensures ∙
    ap (λ (m : ℕ). min (c.args.bx + count_trailing_zeros 32 (m / 2 ^ c.args.bx)) c.args.bw) c.from.ensures ∙
    end_of c.args.mask c.args.bx c.args.bw c.requires.0 c.requires.1
