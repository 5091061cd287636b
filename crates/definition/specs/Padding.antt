-- docs/SCOPE.md, 'Edges and padding': the rows and columns around a unit. A row is a function of its column, which may be negative or past its end.
use Rattle.std.specs.Prelude.{Bool, true, false, cond, List, ℕ, zero, suc, ◌+◌, ◌-◌, ◌/◌, ltb, ℤ, pos, negsuc, ◌+ℤ◌, ◌*ℤ◌}
use Rattle.definition.specs.Numbers.{byte_at, bit_set}

-- the edge bits; higher bits are ignored
abbrev pub has_left : ℕ → Bool
has_left edges = bit_set edges 0

abbrev pub has_right : ℕ → Bool
has_right edges = bit_set edges 1

abbrev pub has_top : ℕ → Bool
has_top edges = bit_set edges 2

abbrev pub has_bottom : ℕ → Bool
has_bottom edges = bit_set edges 3

abbrev pub top_integrated : ℕ → Bool
top_integrated edges = bit_set edges 4

abbrev pub bottom_integrated : ℕ → Bool
bottom_integrated edges = bit_set edges 5

-- where row r starts in lent bytes
abbrev pub row_start : ℕ → ℕ → ℤ → ℤ
row_start off stride r = pos off +ℤ r *ℤ pos stride

-- the row that starts at a place, with the bytes before and behind it
abbrev pub row_at : List ℕ → ℤ → ℤ → ℕ
row_at bytes start c = byte_at bytes (start +ℤ c)

-- a row before whose first sample stand the bytes of another list that end at `end`
abbrev pub after : List ℕ → ℕ → (ℤ → ℕ) → ℤ → ℕ
after before end row (negsuc n) = byte_at before (pos end +ℤ negsuc n)
after before end row (pos x) = row (pos x)

-- Columns: with left the samples before the row, else its first one repeats; with right those behind it, else the last one that is sampled repeats
abbrev pub padded : Bool → Bool → ℕ → ℕ → (ℤ → ℕ) → ℤ → ℕ
padded left right w last row (negsuc n) = cond left (row (negsuc n)) (row (pos 0))
padded left right w last row (pos x) = cond (ltb x w) (row (pos x)) (cond right (row (pos x)) (row (pos last)))

-- THE LUMA ROWS OF A CHROMA UNIT. A pair is horizontal and vertical subsampling, each 0 or 1.
-- the last luma column that is sampled: the even one where subsampled horizontally
abbrev pub last_sampled : ℕ → ℕ → ℕ
last_sampled zero lw = lw - 1
last_sampled (suc ss_hor) lw = lw - 2

-- what stands at column c for an upper and a lower row: without vertical subsampling the row itself; kind 0 the mean of 2 by 2,
-- kind 1 the mean of two rows, kind 2 the upper row, all rounded down
abbrev pub mixed : ℕ → ℕ → (ℤ → ℕ) → (ℤ → ℕ) → ℤ → ℕ
mixed zero kind upper lower c = upper c
mixed (suc ss_ver) zero upper lower c = (upper c + lower c + upper (c +ℤ pos 1) + lower (c +ℤ pos 1)) / 4
mixed (suc ss_ver) (suc zero) upper lower c = (upper c + lower c) / 2
mixed (suc ss_ver) (suc (suc kind)) upper lower c = upper c

-- kind 0 with vertical subsampling fills even columns only, counted from the row's first sample
abbrev pub even_only : ℕ → ℕ → Bool
even_only zero kind = false
even_only (suc ss_ver) zero = true
even_only (suc ss_ver) (suc kind) = false

-- a luma row of a chroma unit, lw samples wide
abbrev pub luma_padded : ℕ → ℕ → ℕ → ℕ → ℕ → (ℤ → ℕ) → (ℤ → ℕ) → ℤ → ℕ
luma_padded edges ss_hor ss_ver kind lw upper lower =
    padded (has_left edges) (has_right edges) lw (last_sampled ss_hor lw) (mixed ss_ver kind upper lower)
