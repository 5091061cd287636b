-- What the private functions ask and leave of a luma row of a chroma unit, from the slice that it lies in: where it may start, and its bytes.
use Rattle.std.specs.Prelude.{◌≡◌, cond, ◌&&◌, List, ℕ, ◌+◌, ◌*◌, ◌-◌, ◌%◌, ◌^◌, eqb, pos, ◌-ℤ◌, replicate}
use Rattle.std.proofs.lemmas.List.Edits.{sets}
use Rattle.definition.specs.declared.Given.{Given}
use Rattle.definition.specs.Rows.{tab, row_origin, luma_row_bytes}
use Rattle.definition.specs.Padding.{row_at, luma_padded, even_only}
use Rattle.definition.specs.Leaves.{luma_status}

-- the width in luma samples
abbrev pub luma_width : Given → ℕ
luma_width g = g.w * 2 ^ g.ss_hor

-- in a slice of `len` bytes the row that starts at `at` is not refused
abbrev pub LumaFits : Given → ℕ → ℕ → ℕ → Type 0
LumaFits g len at stride = luma_status luma_row_bytes row_origin len at stride (luma_width g) g.edges g.ss_hor g.ss_ver g.kind ≡ 0

abbrev pub luma_from : Given → List ℕ → ℕ → ℕ → List ℕ
luma_from g src at stride =
    sets (replicate luma_row_bytes 0) (row_origin - 4)
    (tab (4 + luma_width g + 4)
    (λ j. cond (even_only g.ss_ver g.kind && eqb (j % 2) 1) 0
    (luma_padded g.edges g.ss_hor g.ss_ver g.kind (luma_width g) (row_at src (pos at)) (row_at src (pos (at + stride))) (pos j -ℤ pos 4))))
