-- What a row's filter runs ask of a state, and the samples that they write.
use Rattle.std.specs.Prelude.{◌≡◌, ℕ, ◌+◌, ◌*◌, ◌%◌, ◌^◌, ◌≤◌, ◌<◌, min, length, get_or}
use Rattle.definition.specs.declared.Operation.{Operation}
use Rattle.definition.specs.Blocks.{side}
use Rattle.definition.specs.Limits.{width_limit, block_column_limit}
use Rattle.definition.specs.Rows.{index_count}
use Rattle.definition.specs.Sample.{limit8}
use Rattle.definition.specs.Units.{Lent}
use Rattle.definition.specs.Refusals.{index_limit}
use Rattle.model.proofs.Cells.{unmasked, set_for, HasSet}
use Rattle.units.specs.declared.State.{State}

-- luma columns to one of chroma
abbrev pub columns_of : State → ℕ
columns_of s = 2 ^ min s.given.ss_hor 1

-- sample x of row `done`, in a block of a class
abbrev pub seen : Operation → State → Lent → ℕ → ℕ → ℕ
seen op s l cls x = unmasked limit8 op s.rows s.indices (columns_of s) (set_for op l.filters cls) x

-- the row lies in the plane, it has a mask, and each class a set
pub record Restorable (op : Operation) (s : State) (l : Lent) (plane : ℕ) : Type 0 where
  pub whole : s.given.w % side ≡ 0
  pub wide : s.given.w ≤ width_limit
  pub room : s.given.off + s.done * s.given.stride + s.given.w ≤ plane
  pub masks : s.done < length l.skip
  pub low : (j : ℕ) → j < index_count → get_or s.indices j 0 ≤ index_limit op
  pub kept : (j : ℕ) → j < block_column_limit → HasSet op (length l.filters) (get_or s.classes j 0)
