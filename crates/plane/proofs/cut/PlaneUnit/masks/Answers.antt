-- `plane::cut::PlaneUnit::masks` meets its contract: after j turns the masks of the first j block rows stand in their places.
use mathlib.Core.Path.{◌≡◌, ◌∙◌}
use mathlib.Core.Bool.{cond}
use mathlib.Core.List.{List}
use Prim.Native.Nat.{ℕ, ◌+◌, ◌*◌, ◌/◌, ◌%◌, ◌<◌}
use native.Mathlib.Decide.{ℕ_discrete}
use native.Mathlib.Omega.{arith}
use lib.Dec.{ltb}
use lib.ListN.{length, get_or, length-set}
use lib.Seq.{get_or-set_same, get_or-set_other}
use Rattle.definition.specs.Blocks.{side}
use Rattle.definition.specs.Planes.{mask_bits, skip_numbers}
use Rattle.plane_laws.proofs.Cut.{gathered, unit_mask}
use Rattle.plane.proofs.cut.PlaneUnit.masks.Goals as goal

-- the number that holds a block, and the one behind it, are those of the mask
mask_is : (skip : List ℕ) (w bw by bx : ℕ) {numbers : ℕ} → numbers ≡ skip_numbers w →
    gathered (get_or skip (by * numbers + bx / mask_bits) 0) (cond (ltb mask_bits (bx % mask_bits + bw)) (get_or skip (by * numbers + bx / mask_bits + 1) 0) 0) (bx % mask_bits) ≡ unit_mask w skip bw by bx
unfolding unit_mask
mask_is skip w bw by bx e = rw e

pub loop-j-preserved : goal.loop-j-preserved
loop-j-preserved c =
    let room : 4 * c.loop-j.j < length c.loop-j.r = omega (arith, c.loop-j-test.true, c.args.self.now.lies.short, c.loop-j.invariant.0) in (
      length-set c.loop-j.r (4 * c.loop-j.j) c.gather.result ∙ c.loop-j.invariant.0,
      λ i h.
          elim (ℕ_discrete i c.loop-j.j) [
            | yes e ↦
                rw e
                (get_or-set_same c.loop-j.r (4 * c.loop-j.j) c.gather.result 0 room ∙
                (c.gather.ensures ∙ mask_is c.args.self.now.plane.skip.now c.args.self.now.plane.w (c.args.self.now.w / side) (c.args.self.now.y / side + c.loop-j.j) (c.args.self.now.x / side) c.skip_numbers-numbers.ensures))
            | no ne ↦ get_or-set_other c.loop-j.r (4 * c.loop-j.j) (4 * i) c.gather.result 0 (omega arith) ∙ c.loop-j.invariant.1 i (omega arith)
          ],
    )
