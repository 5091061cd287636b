-- docs/SCOPE.md, 'Refusals': each line of the table as a condition, and the status that comes first. Exact over ℕ: nothing wraps.
use Rattle.std.specs.Prelude.{Bool, true, false, cond, not, ◌&&◌, ◌||◌, List, [], ◌∷◌, ℕ, zero, suc, ◌+◌, ◌-◌, ◌*◌, ◌/◌, ◌%◌, ◌^◌, ltb, leb, eqb, length, get_or}
use Rattle.definition.specs.declared.Operation.{Operation}
use Rattle.definition.specs.declared.Given.{Given}
use Rattle.definition.specs.declared.Sizes.{Sizes}
use Rattle.definition.specs.Padding.{has_left, has_right, has_top, has_bottom, top_integrated, bottom_integrated}
use Rattle.definition.specs.Blocks.{side}
use Rattle.definition.specs.Limits.{width_limit, height_limit, block_column_limit, block_row_limit, stride_limit, map_size, plane_side_limit, unit_size_limit, scratch_rows}
use Rattle.definition.specs.ClassIndex.{last_column}
use Rattle.definition.specs.declared.Operation.TheVariants.{Luma}
use Rattle.definition.specs.Units.{border, classed, chromatic, set_size, Lent}
use Rattle.definition.specs.Planes.{skip_numbers}

-- a condition with the number that is returned where it holds
infix 30 ◌⇒◌
pub data Check : Type 0 where
  ◌⇒◌ : Bool → ℕ → Check

-- the number of the first condition that holds, and 0 where none does
abbrev pub lowest : List Check → ℕ
lowest [] = 0
lowest ((b ⇒ n) ∷ cs) = cond b n (lowest cs)

-- a multiple of 4 in 4 .. limit
abbrev pub sized : ℕ → ℕ → Bool
sized limit n = eqb (n % side) 0 && leb side n && leb n limit

-- whether every entry of a list passes a test
abbrev pub every : (ℕ → Bool) → List ℕ → Bool
every test [] = true
every test (x ∷ xs) = test x && every test xs

-- The last of `rows` rows, w samples and `behind` more, ends past the list, or `before` samples before the first row are missing; no rows: nothing is looked at.
abbrev pub outside : ℕ → ℕ → ℕ → ℕ → ℕ → ℕ → ℕ → Bool
outside len off stride zero w before behind = false
outside len off stride (suc rows) w before behind = ltb off before || ltb len (off + rows * stride + w + behind)

-- pairs are (0,0), (1,0) and (1,1), kinds 0 to 2
abbrev pub bad_sampling : ℕ → ℕ → ℕ → Bool
bad_sampling ss_hor ss_ver kind = ltb 1 ss_hor || ltb ss_hor ss_ver || ltb 2 kind

-- samples that are padded from only where an edge bit is set
abbrev pub beside : Bool → ℕ → ℕ
beside bit e = cond bit e 0

-- saved rows that are padded from above: e where integrated, else 2 under the top bit
abbrev pub top_rows : Operation → ℕ → ℕ
top_rows op edges = cond (top_integrated edges) (border op) (cond (has_top edges) 2 0)

-- .. and below: 2 under the bottom bit, unless it is integrated; then rows of the plane itself
abbrev pub bottom_rows : ℕ → ℕ
bottom_rows edges = cond (bottom_integrated edges) 0 (cond (has_bottom edges) 2 0)

abbrev pub plane_rows : Operation → ℕ → ℕ
plane_rows op edges = beside (bottom_integrated edges) (border op)

-- classed: map not 4,096, an entry past the subclass list, a subclass past the filters (so many numbers)
abbrev pub bad_map : Operation → List ℕ → List ℕ → ℕ → Bool
bad_map op map subclass filters =
    not (eqb (length map) map_size) ||
    not (every (λ m. ltb m (length subclass)) map) ||
    not (every (λ c. ltb c (filters / set_size op)) subclass)

abbrev pub sizes_of : Operation → Lent → List ℕ → Sizes
sizes_of op l plane =
    record {
      plane = length plane;
      left = length l.left;
      top = length l.top;
      bottom = length l.bottom;
      luma_plane = length l.luma_plane;
      luma_top = length l.luma_top;
      luma_bottom = length l.luma_bottom;
      skip = length l.skip;
      noskip = length l.noskip;
      filters = length l.filters;
      bad_map = bad_map op l.map l.subclass (length l.filters);
    }

module _ (g : Given) where
  -- before and behind a row; e is four for luma rows of a chroma unit too
  abbrev pub left_of : ℕ → ℕ
  left_of e = beside (has_left g.edges) e

  abbrev pub right_of : ℕ → ℕ
  right_of e = beside (has_right g.edges) e

  -- luma rows of a chroma unit that are padded from: under kind 2 the lower of two is not
  abbrev pub luma_rows : ℕ → ℕ
  luma_rows rows = cond (eqb g.ss_ver 1 && eqb g.kind 2) (rows - 1) rows

  -- .. above the unit's first, from it on, and saved ones above
  abbrev pub luma_above : ℕ
  luma_above = beside (top_integrated g.edges) (2 * 2 ^ g.ss_ver)

  abbrev pub luma_down : ℕ
  luma_down = luma_rows (2 ^ g.ss_ver * (g.h + beside (bottom_integrated g.edges) 2))

  abbrev pub luma_top_rows : ℕ
  luma_top_rows = cond (top_integrated g.edges) 0 (cond (has_top g.edges) (luma_rows 2) 0)

  abbrev pub luma_outside : ℕ → ℕ → ℕ → ℕ → Bool
  luma_outside len off rows above =
      outside len off g.luma_stride rows (g.w * 2 ^ g.ss_hor) (above * g.luma_stride + left_of 4) (right_of 4)

module _ (op : Operation) (g : Given) where
  -- 3: stride under w, or under w + e with the right bit; a stride (luma's too) over the limit
  abbrev pub bad_stride : Bool
  bad_stride =
      ltb g.stride (g.w + right_of g (border op)) || ltb stride_limit g.stride || (chromatic op && ltb stride_limit g.luma_stride)

  -- 4: chroma: other pair, or kind not 0 .. 2
  abbrev pub bad_pair : Bool
  bad_pair = chromatic op && bad_sampling g.ss_hor g.ss_ver g.kind

module _ (g : Given) (z : Sizes) where
  -- 6: left bit, list under 6h bytes
  abbrev pub bad_left : Bool
  bad_left = has_left g.edges && ltb z.left (6 * g.h)

  -- 11: a sample of the luma plane or its saved borders that is padded from lies outside
  abbrev pub any_luma_outside : Bool
  any_luma_outside =
      luma_outside g z.luma_plane g.luma_off (luma_down g) (luma_above g) ||
      luma_outside g z.luma_top g.luma_top_off (luma_top_rows g) 0 ||
      luma_outside g z.luma_bottom g.luma_bottom_off (bottom_rows g.edges) 0

module _ (op : Operation) (g : Given) (z : Sizes) where
  -- 5: a sample of the unit's own plane that is written or padded from lies outside, masked or not
  abbrev pub bad_plane : Bool
  bad_plane = outside z.plane g.off g.stride (g.h + plane_rows op g.edges) g.w 0 (right_of g (border op))

  -- 7, 8: a saved sample of the unit's own plane that is padded from lies outside
  abbrev pub bad_top : Bool
  bad_top = outside z.top g.top_off g.stride (top_rows op g.edges) g.w (left_of g (border op)) (right_of g (border op))

  abbrev pub bad_bottom : Bool
  bad_bottom = outside z.bottom g.bottom_off g.stride (bottom_rows g.edges) g.w (left_of g (border op)) (right_of g (border op))

  -- 9: masks: skip under h numbers; noskip under one for each block row (classed)
  abbrev pub bad_masks : Bool
  bad_masks = ltb z.skip g.h || (classed op && ltb z.noskip (g.h / side))

  -- 10: luma filter not 16, chroma not 18 numbers; classed: filters not whole sets of 18 or 13, or the map is wrong
  abbrev pub bad_filters : Bool
  bad_filters = cond (classed op) (not (eqb (z.filters % set_size op) 0) || z.bad_map) (not (eqb z.filters (set_size op)))

  abbrev pub bad_luma : Bool
  bad_luma = chromatic op && any_luma_outside g z

  -- the table, in its order
  abbrev pub unit_checks : List Check
  unit_checks =
      (not (sized width_limit g.w) ⇒ 1) ∷
      (not (sized height_limit g.h) ⇒ 2) ∷
      (bad_stride op g ⇒ 3) ∷
      (bad_pair op g ⇒ 4) ∷
      (bad_plane ⇒ 5) ∷
      (bad_left g z ⇒ 6) ∷
      (bad_top ⇒ 7) ∷
      (bad_bottom ⇒ 8) ∷
      (bad_masks ⇒ 9) ∷
      (bad_filters ⇒ 10) ∷
      (bad_luma ⇒ 11) ∷
      []

  -- the status of a unit that is opened
  unfoldable pub unit_status : ℕ
  unit_status = lowest unit_checks

-- .. over what it is lent
abbrev pub open_status : Operation → Given → Lent → List ℕ → ℕ
open_status op n l p = unit_status op n (sizes_of op l p)

-- 13, in two parts. The state's shape: of another operation, rows done over h, a row index over 9 or a next row over 8 (chroma: either over 4).
abbrev pub index_limit : Operation → ℕ
index_limit op = cond (chromatic op) 4 9

abbrev pub next_limit : Operation → ℕ
next_limit op = cond (chromatic op) 4 8

-- whether the first n of a list pass a test
unfoldable pub first_pass : (ℕ → Bool) → ℕ → List ℕ → Bool
first_pass test zero xs = true
first_pass test (suc n) xs = first_pass test n xs && test (get_or xs n 0)

-- the row indices: ten, each at most a limit
abbrev pub indices_up_to : ℕ → List ℕ → Bool
indices_up_to limit indices = first_pass (λ i. leb i limit) 10 indices

abbrev pub bad_shape : Operation → Bool → ℕ → ℕ → List ℕ → ℕ → Bool
bad_shape op other done h indices next =
    other || ltb h done || not (indices_up_to (index_limit op) indices) || ltb (next_limit op) next

-- .. and, classed, a kept class past the filters
abbrev pub bad_kept : Operation → List ℕ → ℕ → Bool
bad_kept op classes filters = classed op && not (first_pass (λ c. ltb c (filters / set_size op)) block_column_limit classes)

-- THE CLASS INDEX: 12 precedes all; then 5 for rows under 760 bytes or a row index over 9, and 9 for noskip under one for each block row
abbrev pub rows_size : ℕ
rows_size = 760

abbrev pub class_checks : ℕ → List ℕ → ℕ → ℕ → ℕ → ℕ → List Check
class_checks rows indices noskip bx by bh =
    ((ltb last_column bx || eqb bh 0 || ltb block_row_limit bh || leb bh by) ⇒ 12) ∷
    ((ltb rows rows_size || not (indices_up_to 9 indices)) ⇒ 5) ∷
    (ltb noskip bh ⇒ 9) ∷
    []

unfoldable pub class_status : ℕ → List ℕ → ℕ → ℕ → ℕ → ℕ → ℕ
class_status rows indices noskip bx by bh = lowest (class_checks rows indices noskip bx by bh)

-- A WHOLE LUMA PLANE, by the numbers and the lengths of what is lent: 15, a side or the unit size off its limits, precedes all; then plane, skip list and filter, and scratch last
abbrev pub plane_checks : ℕ → ℕ → ℕ → ℕ → ℕ → ℕ → ℕ → List Check
plane_checks w h u plane skip filter scratch =
    ((not (sized plane_side_limit w) || not (sized plane_side_limit h) || not (sized unit_size_limit u)) ⇒ 15) ∷
    (ltb plane (h * w) ⇒ 5) ∷
    (ltb skip (h / side * skip_numbers w) ⇒ 9) ∷
    (not (eqb filter (set_size Luma)) ⇒ 10) ∷
    (ltb scratch (scratch_rows * w) ⇒ 16) ∷
    []

unfoldable pub plane_status : ℕ → ℕ → ℕ → ℕ → ℕ → ℕ → ℕ → ℕ
plane_status w h u plane skip filter scratch = lowest (plane_checks w h u plane skip filter scratch)
