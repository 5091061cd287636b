-- What the private functions ask and leave: rows that lie inside, and the sums down the columns of a block row that features are taken from.
use Rattle.std.specs.Prelude.{List, ℕ, ◌+◌, ◌*◌, ◌<◌, ◌≤◌, pos, nat_abs, ◌+ℤ◌, ◌-ℤ◌, length, get_or}
use Rattle.definition.specs.Numbers.{sum_n}
use Rattle.definition.specs.Rows.{row_bytes, index_count}
use Rattle.definition.specs.Limits.{width_limit}
use Rattle.definition.specs.Sample.{limit8}
use Rattle.definition.specs.Refusals.{rows_size}

-- the indices lead to rows that lie inside
pub record TenRows (rows indices : List ℕ) : Type 0 where
  pub size : rows_size ≤ length rows
  pub low : (j : ℕ) → j < index_count → get_or indices j 0 ≤ 9

-- the columns that are summed for a block row, and how much a bend and the sum of a column's six are at the most
abbrev pub column_count : ℕ
column_count = width_limit + 8

abbrev pub bend_limit : ℕ
bend_limit = 2 * limit8

abbrev pub column_limit : ℕ
column_limit = 6 * bend_limit

-- the bend around row i of six, from columns a, m and z of three rows, and the sum of all six
module _ (rows indices : List ℕ) (a m z : ℕ) where
  abbrev pub column_bend : ℕ → ℕ
  column_bend i =
      nat_abs
      (pos (get_or rows (row_bytes * get_or indices (i + 2) 0 + a) 0) -ℤ
      pos (2 * get_or rows (row_bytes * get_or indices (i + 3) 0 + m) 0) +ℤ
      pos (get_or rows (row_bytes * get_or indices (i + 4) 0 + z) 0))

  abbrev pub column_sum : ℕ
  column_sum = sum_n 6 column_bend
