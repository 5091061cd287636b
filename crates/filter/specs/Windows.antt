-- What the private functions of the runs ask: rows that the indices do not lead out of, and a tap that stays in its row.
use Rattle.std.specs.Prelude.{ℕ, ◌+◌, ◌*◌, ◌^◌, ◌≤◌, ◌<◌, min, Bool, ◌&&◌, List, leb, ◌≡◌, ℤ, pos, neg_ℤ, nat_abs, ◌-ℤ◌, ◌*ℤ◌, length, get_or}
use Rattle.definition.specs.Numbers.{sum_z}
use Rattle.definition.specs.Rows.{row_bytes, index_count}
use Rattle.definition.specs.Refusals.{indices_up_to}
use Rattle.definition.specs.Sample.{limit8, pair_of, pc_config}
use Rattle.definition.specs.Leaves.{coefficients, window_inside}

-- the tests that the runs share, against rows of `size` bytes to which indices up to a limit lead
abbrev pub own_inside : ℕ → ℕ → List ℕ → ℕ → ℕ → ℕ → ℕ → ℕ → Bool
own_inside dst rows indices col0 n size limit e = leb n dst && leb size rows && indices_up_to limit indices && window_inside row_bytes e col0 n

-- the ten indices lead to rows of `size` bytes, from `first` on, that lie inside
pub record RowsReached (first size : ℕ) (rows indices : List ℕ) : Type 0 where
  pub inside : (j : ℕ) → j < index_count → first + size * get_or indices j 0 + size ≤ length rows

-- twice the largest sample
abbrev pub pair_limit : ℕ
pair_limit = 2 * limit8

-- how far from 0 the sums of luma and chroma start at the most
abbrev pub start_limit : ℕ
start_limit = 128 * limit8

-- the same of a pretrained set: its centre, and what twelve taps take off
abbrev pub centre_limit : ℕ
centre_limit = limit8 * 2 ^ 15

abbrev pub taken_off_limit : ℕ
taken_off_limit = limit8 * (12 * 2 ^ 15)

-- a + b, which is at most twice a sample
pub record PairAt (s : ℤ → ℤ → ℕ) (dy dx : ℤ) (r : ℕ) : Type 0 where
  pub is : r ≡ s dy dx + s (neg_ℤ dy) (neg_ℤ dx)
  pub bound : r ≤ pair_limit

-- a run of n samples from byte col0 on over its own rows, with `reach` columns on both sides
pub record OwnInside (reach dst : ℕ) (rows indices : List ℕ) (col0 n : ℕ) : Type 0 where
  pub room : n ≤ dst
  pub inside : RowsReached 0 row_bytes rows indices
  pub left : reach ≤ col0
  pub right : col0 + n + reach ≤ row_bytes

-- one turn of a run, from sample x on: of the eight samples from byte `at` on it writes m, from the `skip`-th on
pub record Turned (col0 x n last at skip m : ℕ) : Type 0 where
  pub first : at ≡ min (col0 + x) last
  pub place : at + skip ≡ col0 + x
  pub some : 1 ≤ m
  pub eight : skip + m ≤ 8
  pub end : x + m ≤ n

-- a pretrained filter's tap, whose pair is less a base, and what the twelve of them take off
abbrev pub less_tap : ℕ → (ℤ → ℤ → ℕ) → (ℕ → ℤ) → ℕ → ℤ
less_tap base s c k = (pos (pair_of s pc_config k) -ℤ pos base) *ℤ c k

abbrev pub taken_off : ℕ → (ℕ → ℤ) → ℤ
taken_off base c = pos base *ℤ sum_z 12 c

pub record TakenOff (base : ℕ) (filter : List ℤ) (off : ℤ) : Type 0 where
  pub is : off ≡ taken_off base (coefficients filter)
  pub bound : nat_abs off ≤ taken_off_limit

-- what eight samples from a byte between two on are, by what works them out
pub record Gives (post : ℕ → List ℕ → Type 0) (first last : ℕ) (f : ℕ → ℕ) : Type 0 where
  pub sample : (at : ℕ) (eight : List ℕ) → first ≤ at → at ≤ last → post at eight → (j : ℕ) → j < 8 → get_or eight j 0 ≡ f (at + j)
