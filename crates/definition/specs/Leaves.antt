-- docs/SCOPE.md, 'Leaves': when one is refused, and what it answers or leaves. 5 where a byte or a place lies outside; what is refused answers zeros and writes nothing.
use Rattle.std.specs.Prelude.{Bool, cond, not, ◌&&◌, ◌||◌, List, ℕ, zero, suc, ◌+◌, ◌-◌, ◌*◌, ◌%◌, ltb, leb, eqb, ℤ, pos, ◌-ℤ◌, length, get_or, replicate}
use Rattle.std.proofs.lemmas.List.Edits.{sets}
use Rattle.definition.specs.Rows.{tab, outside_unless, unless_refused, row_bytes, row_origin, luma_row_bytes, luma_flat, chroma_flat, chroma_luma_flat, state_bytes}
use Rattle.definition.specs.ClassIndex.{last_column, feature}
use Rattle.definition.specs.Sample.{limit8, luma_sample, pretrained_sample, chroma_sample}
use Rattle.definition.specs.Padding.{has_left, has_right, row_at, after, padded, luma_padded, even_only}
use Rattle.definition.specs.Blocks.{side, class_end}
use Rattle.definition.specs.Limits.{block_column_limit, block_row_limit}
use Rattle.definition.specs.Refusals.{beside, bad_sampling, rows_size, indices_up_to}

-- A TERM of the quantizer: one past the fourth is outside; 0 where refused
abbrev pub term_status : ℕ → ℕ
term_status i = outside_unless (ltb i 4)

abbrev pub or_zero_z : ℕ → ℤ → ℤ
or_zero_z zero z = z
or_zero_z (suc status) z = pos 0

-- FEATURES over ten flat rows: rows under their size, a row index over 9, or blocks that are none (`inside` is false) are outside
unfoldable pub rows_status : ℕ → List ℕ → Bool → ℕ
rows_status rows indices inside = outside_unless (leb rows_size rows && indices_up_to 9 indices && inside)

-- .. of the block in column bx, and of the first n blocks
abbrev pub block_features_status : ℕ → List ℕ → ℕ → ℕ
block_features_status rows indices bx = rows_status rows indices (leb bx last_column)

abbrev pub row_features_status : ℕ → List ℕ → ℕ → ℕ
row_features_status rows indices n = rows_status rows indices (leb n block_column_limit)

-- the padded samples as seen from the first sample of block column bx, and the feature there in direction d
abbrev pub block_flat : List ℕ → List ℕ → ℕ → ℤ → ℤ → ℕ
block_flat rows indices bx = luma_flat rows indices (row_origin + side * bx)

abbrev pub feature_at : List ℕ → List ℕ → ℤ → ℕ → ℕ
feature_at rows indices d bx = feature (block_flat rows indices bx) d

-- those of n blocks, and zeros behind them
abbrev pub feature_row : ℕ → (ℕ → ℕ) → List ℕ
feature_row n f = sets (replicate block_column_limit 0) 0 (tab n f)

-- THE CLASS INDEX of a block whose features are given: as `class_status` has it of rows that lie inside. A place that is no block's of a unit gives 12.
abbrev pub bad_place : ℕ → ℕ → ℕ → Bool
bad_place bx by bh = ltb last_column bx || ltb block_row_limit bh || leb bh by

unfoldable pub place_status : ℕ → ℕ → ℕ → ℕ → ℕ
place_status noskip bx by bh = cond (bad_place bx by bh) 12 (cond (ltb noskip bh) 9 0)

-- MASKS: a mask has a bit for each block of the widest row; a row of more blocks, or a block past the row's end, is outside
abbrev pub row_status : ℕ → ℕ
row_status bw = outside_unless (leb bw block_column_limit)

abbrev pub block_status : ℕ → ℕ → ℕ
block_status bx bw = outside_unless (leb bw block_column_limit && leb bx bw)

-- the end of the stretch of one class that starts at a block; bw where no stretch is left
abbrev pub end_from : ℕ → List ℕ → ℕ → ℕ → ℕ
end_from mask classes start bw = cond (ltb start bw) (class_end mask classes start bw) bw

-- FILTER RUNS. A run restores the n samples from byte col0 on of the row that the indices name as their centre. Its window is the border's columns on both
-- sides too: columns col0 - e .. col0 + n + e - 1 lie in a row of `size` bytes.
abbrev pub window_inside : ℕ → ℕ → ℕ → ℕ → Bool
window_inside size e col0 n = leb e col0 && leb (col0 + n + e) size

-- luma and pretrained, by the lengths of destination and rows: ten rows, border 4
unfoldable pub run_status : ℕ → ℕ → List ℕ → ℕ → ℕ → ℕ
run_status dst rows indices col0 n =
    outside_unless (leb n dst && leb rows_size rows && indices_up_to 9 indices && window_inside row_bytes 4 col0 n)

-- a filter as the function of its index that the definition of a sample takes
abbrev pub coefficients : List ℤ → ℕ → ℤ
coefficients filter k = get_or filter k (pos 0)

module _ (dst rows indices : List ℕ) (col0 : ℕ) (filter : List ℤ) (n : ℕ) where
  abbrev pub luma_run : List ℕ
  luma_run =
      unless_refused (run_status (length dst) (length rows) indices col0 n) dst
      (sets dst 0 (tab n (λ x. luma_sample limit8 (luma_flat rows indices (col0 + x)) (coefficients filter))))

  abbrev pub pretrained_run : List ℕ
  pretrained_run =
      unless_refused (run_status (length dst) (length rows) indices col0 n) dst
      (sets dst 0 (tab n (λ x. pretrained_sample limit8 (luma_flat rows indices (col0 + x)) (coefficients filter))))

-- chroma: five rows, border 2, and five luma rows behind them, border 4, `step` luma columns for one of chroma
unfoldable pub uv_status : ℕ → ℕ → List ℕ → ℕ → ℕ → ℕ → ℕ → ℕ
uv_status dst rows indices col0 lcol0 step n =
    outside_unless
    (leb n dst && leb state_bytes rows && indices_up_to 4 indices && window_inside row_bytes 2 col0 n &&
    leb step 2 && window_inside luma_row_bytes 4 lcol0 (step * n))

abbrev pub chroma_run : List ℕ → List ℕ → List ℕ → ℕ → ℕ → ℕ → List ℤ → ℕ → List ℕ
chroma_run dst rows indices col0 lcol0 step filter n =
    unless_refused (uv_status (length dst) (length rows) indices col0 lcol0 step n) dst
    (sets dst 0
    (tab n (λ x. chroma_sample limit8 (chroma_flat rows indices (col0 + x)) (chroma_luma_flat rows indices (lcol0 + x * step)) step (coefficients filter))))

-- PADDINGS. A row of w samples is padded into dst from byte o - e on: e samples before it, the row, e behind it. A row of no samples has no first one to
-- repeat, and is outside.
abbrev pub target_inside : ℕ → ℕ → ℕ → ℕ → Bool
target_inside dst o w e = leb 1 w && leb e o && leb (o + w + e) dst

-- a unit's own row, by lengths: with left the e bytes of the left list that end at left_o, with right the e bytes behind the row
unfoldable pub backup_status : ℕ → ℕ → ℕ → ℕ → ℕ → ℕ → ℕ → ℕ → ℕ → ℕ
backup_status dst o src src_o left left_o w e edges =
    outside_unless
    (target_inside dst o w e && leb (src_o + w + beside (has_right edges) e) src && (not (has_left edges) || leb e left_o && leb left_o left))

-- the e + w + e bytes of a padded row
abbrev pub padded_row : ℕ → ℕ → ℕ → (ℤ → ℕ) → List ℕ
padded_row edges w e row = tab (e + w + e) (λ j. padded (has_left edges) (has_right edges) w (w - 1) row (pos j -ℤ pos e))

abbrev pub backup_row : List ℕ → ℕ → List ℕ → ℕ → List ℕ → ℕ → ℕ → ℕ → ℕ → List ℕ
backup_row dst o src src_o left left_o w e edges =
    unless_refused (backup_status (length dst) o (length src) src_o (length left) left_o w e edges) dst
    (sets dst (o - e) (padded_row edges w e (after left left_o (row_at src (pos src_o)))))

-- a saved or integrated row: with left the e bytes before the row
unfoldable pub lpf_status : ℕ → ℕ → ℕ → ℕ → ℕ → ℕ → ℕ → ℕ
lpf_status dst o src src_o w e edges =
    outside_unless
    (target_inside dst o w e && leb (src_o + w + beside (has_right edges) e) src && leb (beside (has_left edges) e) src_o)

abbrev pub lpf_row : List ℕ → ℕ → List ℕ → ℕ → ℕ → ℕ → ℕ → List ℕ
lpf_row dst o src src_o w e edges =
    unless_refused (lpf_status (length dst) o (length src) src_o w e edges) dst
    (sets dst (o - e) (padded_row edges w e (row_at src (pos src_o))))

-- a luma row of a chroma unit: w luma samples, four on each side. The lower row stands a stride below the upper one, where it is read at all.
abbrev pub lower_at : ℕ → ℕ → ℕ → ℕ
lower_at zero kind stride = 0
lower_at (suc ss_ver) zero stride = stride
lower_at (suc ss_ver) (suc zero) stride = stride
lower_at (suc ss_ver) (suc (suc kind)) stride = 0

-- 4 for another pair or kind; a width that is no whole number of sampled columns is outside
unfoldable pub luma_status : ℕ → ℕ → ℕ → ℕ → ℕ → ℕ → ℕ → ℕ → ℕ → ℕ → ℕ
luma_status dst o src src_o stride w edges ss_hor ss_ver kind =
    cond (bad_sampling ss_hor ss_ver kind) 4
    (outside_unless
    (target_inside dst o w 4 && eqb (w % (ss_hor + 1)) 0 &&
    leb (src_o + lower_at ss_ver kind stride + (w + beside (has_right edges) 4)) src && leb (beside (has_left edges) 4) src_o))

-- the slice that the row is a part of
abbrev pub source : Bool → List ℕ → List ℕ → List ℕ
source from_saved plane saved = cond from_saved saved plane

module _ (dst : List ℕ) (o : ℕ) (src : List ℕ) (src_o stride w edges ss_hor ss_ver kind : ℕ) where
  -- a column that is not filled keeps its byte
  abbrev pub luma_byte : ℕ → ℕ
  luma_byte j =
      cond (even_only ss_ver kind && eqb (j % 2) 1) (get_or dst (o - 4 + j) 0)
      (luma_padded edges ss_hor ss_ver kind w (row_at src (pos src_o)) (row_at src (pos (src_o + stride))) (pos j -ℤ pos 4))

  abbrev pub backup_luma_row : List ℕ
  backup_luma_row =
      unless_refused (luma_status (length dst) o (length src) src_o stride w edges ss_hor ss_ver kind) dst
      (sets dst (o - 4) (tab (4 + w + 4) luma_byte))
