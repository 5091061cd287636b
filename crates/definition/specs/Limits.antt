-- docs/SCOPE.md, 'Limits': the limits, as the code's constants have them. Nothing above the definition says these numbers again.
use Rattle.std.specs.Prelude.{ℕ, ◌*◌, ◌/◌}
use Rattle.definition.specs.Blocks.{side}

-- the sides of a unit, in samples and in blocks
abbrev pub width_limit : ℕ
width_limit = 64

abbrev pub height_limit : ℕ
height_limit = 64

abbrev pub block_column_limit : ℕ
block_column_limit = width_limit / side

abbrev pub block_row_limit : ℕ
block_row_limit = height_limit / side

-- the samples of a unit
abbrev pub plane_size : ℕ
plane_size = width_limit * height_limit

-- the distance of two rows of a plane
abbrev pub stride_limit : ℕ
stride_limit = 65536

-- the entries of a class map
abbrev pub map_size : ℕ
map_size = 4096

-- the sides of a plane that is restored whole, the side of its units, and the rows of scratch lent for it
abbrev pub plane_side_limit : ℕ
plane_side_limit = 1024

abbrev pub unit_size_limit : ℕ
unit_size_limit = 64

abbrev pub scratch_rows : ℕ
scratch_rows = 8
