-- `plane::cut::PlaneUnit::masks` meets its contract: after j turns the masks of the first j block rows stand in their places.
use mathlib.Core.Path.{◌≡◌}
use Prim.Native.Nat.{ℕ, ◌+◌, ◌*◌, ◌/◌, ◌<◌}
use lib.ListN.{length, get_or}
use Rattle.definition.specs.Blocks.{side}
use Rattle.definition.specs.Limits.{unit_size_limit}
use Rattle.plane_laws.proofs.Cut.{unit_mask}
use Rattle.plane.proofs.cut.PlaneUnit.masks.Given as goal

abbrev pub invariant-loop-j : goal.invariant-loop-j
invariant-loop-j l =
    (length l.r ≡ unit_size_limit) × ((i : ℕ) → i < l.j → get_or l.r (4 * i) 0 ≡ unit_mask l.self.plane.w l.self.plane.skip.now (l.self.w / side) (l.self.y / side + i) (l.self.x / side))
