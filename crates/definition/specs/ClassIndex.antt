-- docs/SCOPE.md, 'The class index', at depth 8.
use Rattle.std.specs.Prelude.{Bool, cond, List, [], ◌∷◌, ℕ, ◌+◌, ◌-◌, ◌*◌, ◌/◌, min, ℤ, pos, negsuc, neg_ℤ, nat_abs, ◌+ℤ◌, ◌-ℤ◌, ◌*ℤ◌, get_or}
use Rattle.std.specs.Int.Signed.{shr_z}
use Rattle.definition.specs.Numbers.{to_i32, raised, sum_n, bit_set}

-- W by term, and the offsets
abbrev pub mode_weights : List (List ℤ)
mode_weights =
    (negsuc 526 ∷ pos 15325 ∷ pos 321 ∷ []) ∷
    (pos 26436 ∷ negsuc 17704 ∷ pos 17905 ∷ []) ∷
    (pos 366 ∷ negsuc 146 ∷ negsuc 193 ∷ []) ∷
    (pos 202 ∷ negsuc 266 ∷ negsuc 178 ∷ []) ∷
    []

abbrev pub mode_offsets : List ℤ
mode_offsets = negsuc 546 ∷ negsuc 21564 ∷ negsuc 572 ∷ negsuc 679 ∷ []

abbrev pub weight : ℕ → ℕ → ℤ
weight i j = get_or (get_or mode_weights i []) j (pos 0)

-- v divided by 8,192, halves away from zero
abbrev pub by8192 : ℤ → ℤ
by8192 (pos n) = pos ((n + 4096) / 8192)
by8192 (negsuc n) = neg_ℤ (pos ((n + 1 + 4096) / 8192))

-- term i for quantizer q and skip t
module _ (q : ℤ) (t : ℕ) where
  abbrev pub prod : ℤ
  prod = shr_z (pos t *ℤ q +ℤ pos 128) 256

  abbrev pub weighted : ℕ → ℤ
  weighted i = weight i 0 *ℤ pos (32 * t) +ℤ weight i 1 *ℤ q +ℤ weight i 2 *ℤ prod

  unfoldable pub term : ℕ → ℤ
  term i = to_i32 (pos 255 *ℤ (get_or mode_offsets i (pos 0) +ℤ by8192 (weighted i)))

-- raise to 0, add 8,192 saturating at the i32 end, shift by 14, cap at 255, shift by 5
unfoldable pub bin : ℤ → ℕ
bin v = min (min (raised v + 8192) 2147483647 / 16384) 255 / 32

-- The features of a block: s gives the padded sample at a row and a column counted from the block's first sample.
-- `d` is the column of `up` against `mid`: 0 for vertical, then 1 with `down` at -1, then -1 with `down` at 1.
module _ (s : ℤ → ℤ → ℕ) where
  -- | up - 2 mid + down |
  abbrev pub bend : ℤ → ℤ → ℤ → ℕ
  bend d r c = nat_abs (pos (s (r -ℤ pos 1) (c +ℤ d)) -ℤ pos (2 * s r c) +ℤ pos (s (r +ℤ pos 1) (c -ℤ d)))

  -- over rows -1 .. 4 and columns -1 .. 4
  unfoldable pub feature : ℤ → ℕ
  feature d = sum_n 6 (λ i. sum_n 6 (λ j. bend d (pos i -ℤ pos 1) (pos j -ℤ pos 1)))

  -- a block's three: vertical, falling, rising
  abbrev pub features_of : List ℕ
  features_of = feature (pos 0) ∷ feature (pos 1) ∷ feature (negsuc 0) ∷ []

-- the last column of the noskip bits, to which a column is clipped also in a narrow unit
abbrev pub last_column : ℕ
last_column = 15

-- 16 for the centre, 4 for a side, 1 for a corner
abbrev pub neighbours : List (List ℕ)
neighbours = (1 ∷ 4 ∷ 1 ∷ []) ∷ (4 ∷ 16 ∷ 4 ∷ []) ∷ (1 ∷ 4 ∷ 1 ∷ []) ∷ []

abbrev pub share : ℕ → ℕ → ℕ
share i j = get_or (get_or neighbours i []) j 0

-- the skip sum of block (bx, by) of a unit with bh block rows: neighbour (i, j) of 3 by 3 adds its share where its noskip bit is 0
module _ (noskip : List ℕ) (bh bx by : ℕ) where
  abbrev pub skip_column : ℕ → ℕ
  skip_column j = min (bx + j - 1) last_column

  abbrev pub skip_row : ℕ → ℕ
  skip_row i = min (by + i - 1) (bh - 1)

  abbrev pub noskip_bit : ℕ → ℕ → Bool
  noskip_bit i j = bit_set (get_or noskip (skip_row i) 0) (skip_column j)

  abbrev pub skip_share : ℕ → ℕ → ℕ
  skip_share i j = cond (noskip_bit i j) 0 (share i j)

  unfoldable pub skip_sum : ℕ
  skip_sum = sum_n 3 (λ i. sum_n 3 (λ j. skip_share i j))

-- the factors of the features and of the skip sum
abbrev pub factors : List ℕ
factors = 3739 ∷ 3273 ∷ 3074 ∷ []

abbrev pub skip_factor : ℕ
skip_factor = 7

-- THE FOUR BINS, from the three features f, the quantizer q and the skip sum s; the skip t is 7 times s
-- that of term 0
abbrev pub first_bin : ℤ → ℕ → ℕ
first_bin q s = bin (term q (skip_factor * s) 0)

-- that of feature k plus term k + 1, the sum saturating
abbrev pub feature_bin : List ℕ → ℤ → ℕ → ℕ → ℕ
feature_bin f q s k = bin (to_i32 (pos (get_or f k 0 * get_or factors k 0) +ℤ term q (skip_factor * s) (k + 1)))

unfoldable pub bins_of : List ℕ → ℤ → ℕ → List ℕ
bins_of f q s = first_bin q s ∷ feature_bin f q s 0 ∷ feature_bin f q s 1 ∷ feature_bin f q s 2 ∷ []

-- the index, from its bins
unfoldable pub index_of : List ℕ → ℕ
index_of bins = 512 * get_or bins 0 0 + 64 * get_or bins 1 0 + 8 * get_or bins 2 0 + get_or bins 3 0

-- of block (bx, by), from the padded samples s
module _ (s : ℤ → ℤ → ℕ) (noskip : List ℕ) (q : ℤ) (bx by bh : ℕ) where
  abbrev pub class_bins : List ℕ
  class_bins = bins_of (features_of s) q (skip_sum noskip bh bx by)

  abbrev pub class_index : ℕ
  class_index = index_of class_bins
