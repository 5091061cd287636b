-- What the private functions ask and leave of luma that is gathered at chroma's resolution.
use Rattle.std.specs.Prelude.{ℕ, ◌+◌, ◌*◌, ◌≤◌, ◌<◌, List, ◌≡◌, ℤ, pos, nat_abs, ◌+ℤ◌, ◌-ℤ◌, ◌*ℤ◌, get_or}
use Rattle.std.proofs.lemmas.List.Edits.{sets}
use Rattle.definition.specs.Numbers.{sum_z}
use Rattle.definition.specs.Rows.{tab, row_bytes, luma_row_bytes, luma_rows_at, chroma_flat}
use Rattle.definition.specs.Sample.{limit8, rounded, dy_of, dx_of, centre, ns_tap, ns_config_uv, ns_config_uv_from_y}
use Rattle.definition.specs.Leaves.{coefficients}
use Rattle.filter.specs.Windows.{RowsReached}

-- every `step`-th byte from `from` on
abbrev pub every : List ℕ → ℕ → ℕ → ℕ → ℕ
every rows from step j = get_or rows (from + j * step) 0

-- n + 4 bytes of each row of luma, every `step`-th from column `first` on, lie in the row
pub record Gatherable (rows indices : List ℕ) (first step n : ℕ) : Type 0 where
  pub inside : RowsReached luma_rows_at luma_row_bytes rows indices
  pub columns : (j : ℕ) → j < n + 4 → first + j * step < luma_row_bytes
  pub short : n + 4 ≤ row_bytes

-- a row of them, behind eight bytes; the five rows; and up to where the taps of a sample, two columns on both sides, stay in the row
abbrev pub compact_bytes : ℕ
compact_bytes = row_bytes + 8

abbrev pub compact_size : ℕ
compact_size = 5 * compact_bytes

abbrev pub compact_end : ℕ
compact_end = row_bytes + 4

-- the first m of the five rows so gathered
pub record Gathered (rows indices : List ℕ) (first step n m : ℕ) (compact : List ℕ) : Type 0 where
  pub is : (k j : ℕ) → k < m → j < n + 4 → get_or compact (compact_bytes * k + 8 + j) 0 ≡ every rows (luma_rows_at + luma_row_bytes * get_or indices (5 + k) 0 + first) step j

-- the luma of sample x - 8, dy rows and dx columns away: its own is the byte x + 2 of the third row
abbrev pub compact_at : List ℕ → ℕ → ℤ → ℤ → ℕ
compact_at compact x dy dx = get_or compact (compact_bytes * nat_abs (pos 2 +ℤ dy) + nat_abs (pos (x + 2) +ℤ dx)) 0

-- `luma_tap` and `chroma_sum` of luma that is gathered
abbrev pub compact_tap : (ℤ → ℤ → ℕ) → (ℕ → ℤ) → ℕ → ℤ
compact_tap l c k = (pos (l (dy_of ns_config_uv_from_y k) (dx_of ns_config_uv_from_y k)) -ℤ pos (centre l)) *ℤ c (6 + k)

abbrev pub compact_sum : (ℤ → ℤ → ℕ) → (ℤ → ℤ → ℕ) → (ℕ → ℤ) → ℤ
compact_sum s l c = pos (128 * centre s) +ℤ sum_z 6 (ns_tap s c ns_config_uv) +ℤ sum_z 12 (compact_tap l c)

-- the sample of byte col whose luma is that of sample x - 8, and a run of n of them from byte col0 on
abbrev pub compact_sample : List ℕ → List ℕ → List ℕ → List ℤ → ℕ → ℕ → ℕ
compact_sample rows indices compact filter col x = rounded limit8 (compact_sum (chroma_flat rows indices col) (compact_at compact x) (coefficients filter))

abbrev pub compact_run : List ℕ → List ℕ → List ℕ → ℕ → List ℕ → List ℤ → ℕ → List ℕ
compact_run dst rows indices col0 compact filter n = sets dst 0 (tab n (λ x. compact_sample rows indices compact filter (col0 + x) (x + 8)))
