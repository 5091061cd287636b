-- `plane::saved::PlaneUnit::columns_before` meets its contract: after j turns the columns of the first j rows stand in the list.
use mathlib.Core.Path.{◌≡◌}
use Prim.Native.Nat.{ℕ, ◌+◌, ◌*◌, ◌-◌, ◌<◌}
use lib.ListN.{length, get_or}
use Rattle.definition.specs.Limits.{unit_size_limit}
use Rattle.definition.specs.Planes.{sample_in}
use Rattle.plane.proofs.cut.PlaneUnit.columns_before.Given as goal

abbrev pub invariant-loop-j : goal.invariant-loop-j
invariant-loop-j l =
    (length l.r ≡ 6 * unit_size_limit) × ((i k : ℕ) → i < l.j → k < 4 → get_or l.r (6 * i + 2 + k) 0 ≡ sample_in l.self.plane.w l.p (l.self.y + i) (l.x - 4 + k))
