-- The pattern of a block, by the noskip bits that are read for it.
use mathlib.Core.Path.{◌≡◌, refl, ◌∙◌}
use mathlib.Core.Bool.{cond}
use mathlib.Core.List.{List}
use Prim.Native.Nat.{ℕ, ◌+◌, ◌-◌, ◌*◌, ◌≤◌, ◌<◌, min}
use native.Mathlib.Omega.{arith}
use lib.ListN.{get_or}
use Rattle.definition.specs.Numbers.{bit_set}
use Rattle.definition.specs.ClassIndex.{last_column, noskip_bit}
use Rattle.definition.specs.SkipSums.{skip_pattern}
use Rattle.laws.proofs.Patterns.{by_rows}

-- in a row: of the column before it, its own and the next
module _ (noskip : List ℕ) (bh bx by : ℕ) (hx : bx ≤ last_column) (hy : by < bh) where
  abbrev pub three : ℕ → ℕ
  three y =
      cond (bit_set (get_or noskip y 0) (bx - 1)) 1 0 + cond (bit_set (get_or noskip y 0) bx) 2 0 + cond (bit_set (get_or noskip y 0) (min (bx + 1) last_column)) 4 0

  left : min (bx + 0 - 1) last_column ≡ bx - 1
  left = omega (arith, hx)

  middle : min (bx + 1 - 1) last_column ≡ bx
  middle = omega (arith, hx)

  right : min (bx + 2 - 1) last_column ≡ min (bx + 1) last_column
  right = omega arith

  above : min (by + 0 - 1) (bh - 1) ≡ by - 1
  above = omega (arith, hy)

  own : min (by + 1 - 1) (bh - 1) ≡ by
  own = omega (arith, hy)

  below : min (by + 2 - 1) (bh - 1) ≡ min (by + 1) (bh - 1)
  below = omega arith

  pub of_block : skip_pattern noskip bh bx by ≡ three (by - 1) + 8 * three by + 64 * three (min (by + 1) (bh - 1))
  of_block = by_rows (noskip_bit noskip bh bx by) ∙ rw (left, middle, right, above, own, below) refl
