-- docs/SCOPE.md, 'A whole luma plane': its rows stand without gaps, and it is padded by repetition at its four sides. A restored sample speaks of no unit; units only say
-- which samples are restored where fewer than all of them are done.
use Rattle.std.specs.Prelude.{Bool, cond, ◌&&◌, List, ℕ, ◌+◌, ◌-◌, ◌*◌, ◌/◌, ◌%◌, ltb, ℤ, pos, ◌+ℤ◌, length, get_or}
use Rattle.definition.specs.declared.Operation.TheVariants.{Luma}
use Rattle.definition.specs.Numbers.{clip_to, sum_n, bit_set}
use Rattle.definition.specs.Rows.{tab}
use Rattle.definition.specs.Blocks.{side}
use Rattle.definition.specs.Sample.{limit8, luma_sample}
use Rattle.definition.specs.Units.{set_of}

-- the sample at row r and column c of a plane that is w wide
abbrev pub sample_in : ℕ → List ℕ → ℕ → ℕ → ℕ
sample_in w plane r c = get_or plane (r * w + c) 0

-- THE PADDED SAMPLE of a plane: the nearest row of 0 .. h - 1, the nearest column of 0 .. w - 1
unfoldable pub padded_in : ℕ → ℕ → List ℕ → ℤ → ℤ → ℕ
padded_in w h plane r c = sample_in w plane (clip_to (h - 1) r) (clip_to (w - 1) c)

-- the padded samples as seen from (y, x)
abbrev pub around_in : ℕ → ℕ → List ℕ → ℕ → ℕ → ℤ → ℤ → ℕ
around_in w h plane y x dy dx = padded_in w h plane (pos y +ℤ dy) (pos x +ℤ dx)

-- THE SKIP LIST of a plane: a number has a bit for each of 16 blocks, the lowest leftmost; each block row starts a new one
abbrev pub mask_bits : ℕ
mask_bits = 16

abbrev pub skip_numbers : ℕ → ℕ
skip_numbers w = (w / side + (mask_bits - 1)) / mask_bits

unfoldable pub skip_bit : ℕ → List ℕ → ℕ → ℕ → Bool
skip_bit w skip by bx = bit_set (get_or skip (by * skip_numbers w + bx / mask_bits) 0) (bx % mask_bits)

-- THE FINAL SAMPLE at (y, x): the luma rule over the untouched plane; a masked block keeps its samples
unfoldable pub final_in : ℕ → ℕ → List ℕ → List ℕ → List ℤ → ℕ → ℕ → ℕ
final_in w h plane skip filter y x =
    cond (skip_bit w skip (y / side) (x / side)) (sample_in w plane y x) (luma_sample limit8 (around_in w h plane y x) (set_of Luma filter 0))

-- THE UNITS, u by u, smaller at the right and below: so many side by side, so many in all, and the number of the one that holds (r, c), row by row from the top left
unfoldable pub across : ℕ → ℕ → ℕ
across w u = (w + u - 1) / u

abbrev pub unit_count : ℕ → ℕ → ℕ → ℕ
unit_count w h u = across h u * across w u

unfoldable pub unit_number : ℕ → ℕ → ℕ → ℕ → ℕ
unit_number w u r c = r / u * across w u + c / u

-- THE PLANE AFTER ITS FIRST k UNITS: they are restored whole, and the others and what stands behind the plane are old
unfoldable pub plane_after : ℕ → ℕ → ℕ → ℕ → List ℕ → List ℕ → List ℤ → List ℕ
plane_after w h u k plane skip filter =
    tab (length plane) (λ i. cond (ltb i (h * w) && ltb (unit_number w u (i / w) (i % w)) k) (final_in w h plane skip filter (i / w) (i % w)) (get_or plane i 0))

-- .. and with all units done, which speaks of none
unfoldable pub plane_restored : ℕ → ℕ → List ℕ → List ℕ → List ℤ → List ℕ
plane_restored w h plane skip filter =
    tab (length plane) (λ i. cond (ltb i (h * w)) (final_in w h plane skip filter (i / w) (i % w)) (get_or plane i 0))

-- THE PIECES of the first k units: four samples of row r in block bx, where the block is not masked and its unit is one of them
unfoldable pub piece_at : ℕ → ℕ → ℕ → List ℕ → ℕ → ℕ → ℕ
piece_at w u k skip r bx = cond (ltb (unit_number w u r (side * bx)) k) (cond (skip_bit w skip (r / side) bx) 0 1) 0

unfoldable pub plane_pieces : ℕ → ℕ → ℕ → ℕ → List ℕ → ℕ
plane_pieces w h u k skip = sum_n h (λ r. sum_n (w / side) (λ bx. piece_at w u k skip r bx))
