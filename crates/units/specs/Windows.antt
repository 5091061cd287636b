-- What the private functions ask: that all they pad from lies inside, that a class leads to a set, and that what is kept from row to row is sound.
use Rattle.std.specs.Prelude.{◌≡◌, true, List, ℕ, ◌+◌, ◌*◌, ◌/◌, ◌^◌, ◌≤◌, ◌<◌, ltb, length, get_or}
use Rattle.definition.specs.declared.Operation.{Operation}
use Rattle.definition.specs.declared.Given.{Given}
use Rattle.definition.specs.Blocks.{side}
use Rattle.definition.specs.Limits.{width_limit, height_limit, block_column_limit, stride_limit, map_size}
use Rattle.definition.specs.Rows.{state_bytes, index_count}
use Rattle.definition.specs.Padding.{has_left}
use Rattle.definition.specs.Units.{border, classed, chromatic, set_size, Lent}
use Rattle.definition.specs.Refusals.{top_rows, bottom_rows, plane_rows, left_of, right_of, luma_above, luma_down, luma_top_rows, every, index_limit, next_limit}
use Rattle.laws.proofs.Inside.{Inside, Sized}
use Rattle.history.proofs.Ring.{Ring}
use Rattle.model.proofs.Cells.{HasSet}

-- THE UNIT'S OWN ROWS: those of the plane with the left list, the saved ones above and below
pub record PlaneLies (op : Operation) (g : Given) (plane left : ℕ) : Type 0 where
  pub wide : Sized width_limit g.w
  pub tall : Sized height_limit g.h
  pub apart : g.w + right_of g (border op) ≤ g.stride
  pub near : g.stride ≤ stride_limit
  pub plane_in : Inside plane g.off g.stride (g.h + plane_rows op g.edges) g.w 0 (right_of g (border op))
  pub left_in : has_left g.edges ≡ true → 6 * g.h ≤ left

abbrev pub TopLies : Operation → Given → ℕ → Type 0
TopLies op g top = 0 < top_rows op g.edges → Inside top g.top_off g.stride (top_rows op g.edges) g.w (left_of g (border op)) (right_of g (border op))

abbrev pub BottomLies : Operation → Given → ℕ → Type 0
BottomLies op g bottom = 0 < bottom_rows g.edges → Inside bottom g.bottom_off g.stride (bottom_rows g.edges) g.w (left_of g (border op)) (right_of g (border op))

pub record RowsLie (op : Operation) (g : Given) (plane left top bottom : ℕ) : Type 0 where
  pub own : PlaneLies op g plane left
  pub above : TopLies op g top
  pub below : BottomLies op g bottom

-- THE LUMA ROWS OF A CHROMA UNIT, likewise
pub record LumaPlaneLies (g : Given) (plane : ℕ) : Type 0 where
  pub wide : Sized width_limit g.w
  pub tall : Sized height_limit g.h
  pub near : g.luma_stride ≤ stride_limit
  pub hor : g.ss_hor ≤ 1
  pub ver : g.ss_ver ≤ g.ss_hor
  pub kinds : g.kind ≤ 2
  pub plane_in : Inside plane g.luma_off g.luma_stride (luma_down g) (g.w * 2 ^ g.ss_hor) (luma_above g * g.luma_stride + left_of g 4) (right_of g 4)

abbrev pub LumaTopLies : Given → ℕ → Type 0
LumaTopLies g top =
    0 < luma_top_rows g → Inside top g.luma_top_off g.luma_stride (luma_top_rows g) (g.w * 2 ^ g.ss_hor) (0 * g.luma_stride + left_of g 4) (right_of g 4)

abbrev pub LumaBottomLies : Given → ℕ → Type 0
LumaBottomLies g bottom =
    0 < bottom_rows g.edges → Inside bottom g.luma_bottom_off g.luma_stride (bottom_rows g.edges) (g.w * 2 ^ g.ss_hor) (0 * g.luma_stride + left_of g 4) (right_of g 4)

pub record LumaLie (g : Given) (plane top bottom : ℕ) : Type 0 where
  pub own : LumaPlaneLies g plane
  pub above : LumaTopLies g top
  pub below : LumaBottomLies g bottom

-- CLASSES: noskip has a number for each block row, and the map leads to subclasses
pub record Mapped (g : Given) (l : Lent) : Type 0 where
  pub noskip : g.h / side ≤ length l.noskip
  pub size : length l.map ≡ map_size
  pub maps : every (λ m. ltb m (length l.subclass)) l.map ≡ true

-- WHAT IS LENT to a unit that is not declined: what its rows are restored from, then the masks, and a set for each subclass
pub record Sources (op : Operation) (g : Given) (l : Lent) (plane : ℕ) : Type 0 where
  pub lie : RowsLie op g plane (length l.left) (length l.top) (length l.bottom)
  pub mapped : classed op ≡ true → Mapped g l
  pub luma : chromatic op ≡ true → LumaLie g (length l.luma_plane) (length l.luma_top) (length l.luma_bottom)

pub record Fit (op : Operation) (g : Given) (l : Lent) (plane : ℕ) : Type 0 where
  pub sources : Sources op g l plane
  pub masks : g.h ≤ length l.skip
  pub subs : classed op ≡ true → every (λ c. ltb c (length l.filters / set_size op)) l.subclass ≡ true

-- WHAT IS KEPT from row to row: indices and the next slot within their limits, and a set for each class
pub record Ringed (op : Operation) (r : Ring) : Type 0 where
  pub low : (j : ℕ) → get_or r.idx j 0 ≤ index_limit op
  pub next : r.next ≤ next_limit op
  pub long : length r.slots ≡ state_bytes
  pub count : length r.idx ≡ index_count

pub record Sound (op : Operation) (filters : ℕ) (classes : List ℕ) (r : Ring) : Type 0 where
  pub ringed : Ringed op r
  pub kept : (j : ℕ) → j < block_column_limit → HasSet op filters (get_or classes j 0)
  pub sixteen : length classes ≡ block_column_limit
