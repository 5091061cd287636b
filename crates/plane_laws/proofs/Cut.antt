-- How a plane is cut into units: the edge bits and the masks that a unit is lent. The functions that walk the units promise these.
use mathlib.Core.Bool.{Bool, cond}
use mathlib.Core.List.{List}
use Prim.Native.Nat.{ℕ, ◌+◌, ◌*◌, ◌/◌, ◌%◌, ◌^◌, ◌≤◌}
use lib.Dec.{ltb}
use lib.ListN.{get_or}
use Rattle.definition.specs.declared.Given.{Given}
use Rattle.definition.specs.Blocks.{side}
use Rattle.definition.specs.Limits.{plane_side_limit, unit_size_limit}
use Rattle.definition.specs.Planes.{skip_numbers}
use Rattle.definition.specs.Calls.{given_y}

-- a unit of w by h samples at (y0, x0) that lies in a plane of W by H, all within their limits
pub record Lies (W H y0 x0 w h : ℕ) : Type 0 where
  pub wide : W ≤ plane_side_limit
  pub high : H ≤ plane_side_limit
  pub far : x0 + w ≤ W
  pub low : y0 + h ≤ H
  pub some_w : side ≤ w
  pub some_h : side ≤ h
  pub narrow : w ≤ unit_size_limit
  pub short : h ≤ unit_size_limit

-- the edge bits left, right, top integrated, bottom integrated
abbrev pub edges_of : Bool → Bool → Bool → Bool → ℕ
edges_of left right top bottom = cond left 1 0 + cond right 2 0 + cond top 16 0 + cond bottom 32 0

-- .. of the unit at (y0, x0): set where the plane goes on
abbrev pub unit_edges : ℕ → ℕ → ℕ → ℕ → ℕ → ℕ → ℕ
unit_edges W H y0 x0 w h = edges_of (ltb 0 x0) (ltb (x0 + w) W) (ltb 0 y0) (ltb (y0 + h) H)

-- sixteen bits from bit s on of two numbers, `lo` the lower
abbrev pub gathered : ℕ → ℕ → ℕ → ℕ
gathered lo hi s = (lo + 65536 * hi) / 2 ^ s % 65536

-- the number of the skip list in which block bx of block row by stands, and the one behind it
abbrev pub low_number : ℕ → List ℕ → ℕ → ℕ → ℕ
low_number W skip by bx = get_or skip (by * skip_numbers W + bx / 16) 0

abbrev pub high_number : ℕ → List ℕ → ℕ → ℕ → ℕ
high_number W skip by bx = get_or skip (by * skip_numbers W + bx / 16 + 1) 0

-- THE MASK of bw blocks from block bx of block row by on: the second number is looked at only where they reach into it
unfoldable pub unit_mask : ℕ → List ℕ → ℕ → ℕ → ℕ → ℕ
unit_mask W skip bw by bx = gathered (low_number W skip by bx) (cond (ltb 16 (bx % 16 + bw)) (high_number W skip by bx) 0) (bx % 16)

-- THE NUMBERS that it is opened with, the rows saved above it from byte b on
abbrev pub unit_given : ℕ → ℕ → ℕ → ℕ → ℕ → ℕ → ℕ → Given
unit_given W H y0 x0 w h b = given_y w h (unit_edges W H y0 x0 w h) W (y0 * W + x0) (b + x0) 0
