-- A unit's rows as the code has them: what is lent for them, and row r - e of the unit padded, e the border.
use Rattle.std.specs.Prelude.{List, ℕ, ◌-◌, ℤ, replicate}
use Rattle.std.proofs.lemmas.List.Edits.{sets}
use Rattle.definition.specs.Rows.{row_bytes, row_origin}
use Rattle.definition.specs.Leaves.{padded_row}
use Rattle.definition.specs.declared.Operation.TheVariants.{Chroma}
use Rattle.definition.specs.Units.{Lent}
use Rattle.definition.specs.Calls.{lists_lent}
use Rattle.model.proofs.Rows.{pad_row}
use Rattle.model.proofs.LumaRows.{luma_pad_row}
use Rattle.units.specs.declared.unit.Unit.{Unit}
use Rattle.units.specs.declared.unit.LumaRows.{LumaRows}

abbrev pub lent_of : Unit → Lent
lent_of u = lists_lent u.op u.lent.now

abbrev pub padded : Unit → ℕ → List ℕ
padded u r = pad_row u.op u.given (lent_of u) u.plane.now r

-- .. from what stands at its columns
abbrev pub row_from : ℕ → ℕ → ℕ → (ℤ → ℕ) → List ℕ
row_from edges w e row = sets (replicate row_bytes 0) (row_origin - e) (padded_row edges w e row)

-- the luma row beside it
abbrev pub luma_lent_of : LumaRows → Lent
luma_lent_of u = lists_lent Chroma u.lent.now

abbrev pub luma_padded : LumaRows → ℕ → List ℕ
luma_padded u r = luma_pad_row u.given (luma_lent_of u) r
