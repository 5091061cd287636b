-- docs/SCOPE.md, 'The padded sample and the final sample': the padded sample at a row and a column of a unit, and its final sample, over the plane as it was when the unit was opened.
use Rattle.std.specs.Prelude.{Bool, true, false, cond, ◌||◌, List, ℕ, zero, suc, ◌+◌, ◌-◌, ◌*◌, ◌/◌, ◌^◌, min, ltb, eqb, ℤ, pos, negsuc, ◌+ℤ◌, ◌*ℤ◌, get_or, Option, Some, None}
use Rattle.definition.specs.declared.Operation.{Operation}
use Rattle.definition.specs.declared.Operation.TheVariants.{Luma, User, Pretrained, Chroma}
use Rattle.definition.specs.declared.Given.{Given}
use Rattle.definition.specs.Padding.{has_left, has_right, has_top, has_bottom, top_integrated, bottom_integrated, row_start, row_at, after, padded, luma_padded}
use Rattle.definition.specs.Blocks.{side, mask_at, masked}
use Rattle.definition.specs.Sample.{limit8, luma_sample, pretrained_sample, chroma_sample}
use Rattle.definition.specs.ClassIndex.{class_index}

-- the border e
abbrev pub border : Operation → ℕ
border Luma = 4
border User = 4
border Pretrained = 4
border Chroma = 2

-- the number of an operation in a state: 0 is none
abbrev pub number_of : Operation → ℕ
number_of Luma = 1
number_of User = 2
number_of Pretrained = 3
number_of Chroma = 4

-- .. and the operation that has a number
abbrev pub operation_of : ℕ → Option Operation
operation_of n =
    cond (eqb n (number_of Luma)) (Some Luma)
    (cond (eqb n (number_of User)) (Some User) (cond (eqb n (number_of Pretrained)) (Some Pretrained) (cond (eqb n (number_of Chroma)) (Some Chroma) None)))

-- the operations that have classes, and the one that reads luma rows beside its own
abbrev pub classed : Operation → Bool
classed Luma = false
classed User = true
classed Pretrained = true
classed Chroma = false

abbrev pub chromatic : Operation → Bool
chromatic Luma = false
chromatic User = false
chromatic Pretrained = false
chromatic Chroma = true

-- all that is lent besides the unit's own plane
pub record Lent : Type 0 where
  pub left : List ℕ
  pub top : List ℕ
  pub bottom : List ℕ
  pub luma_plane : List ℕ
  pub luma_top : List ℕ
  pub luma_bottom : List ℕ
  pub skip : List ℕ
  pub noskip : List ℕ
  pub map : List ℕ
  pub subclass : List ℕ
  pub filters : List ℤ
  pub q : ℤ

-- THE UNIT'S OWN ROWS
-- the saved row that stands for row r = -1 - n under a top bit: r + e where the top is integrated, else max (r + 2, 0)
abbrev pub saved_above : Operation → ℕ → ℕ → ℕ
saved_above op edges n = cond (top_integrated edges) (border op - 1 - n) (1 - n)

module _ (op : Operation) (g : Given) (l : Lent) (plane : List ℕ) where
  -- row r of the plane; a row of the unit, which takes the left list, six bytes to a row; a saved row
  abbrev pub plane_row : ℕ → ℤ → ℕ
  plane_row r = row_at plane (row_start g.off g.stride (pos r))

  abbrev pub own_row : ℕ → ℤ → ℕ
  own_row r = after l.left (6 * r + 6) (plane_row r)

  abbrev pub top_row : ℕ → ℤ → ℕ
  top_row r = row_at l.top (row_start g.top_off g.stride (pos r))

  abbrev pub bottom_row : ℕ → ℤ → ℕ
  bottom_row r = row_at l.bottom (row_start g.bottom_off g.stride (pos r))

  -- the row that stands at row r, before its columns are padded
  abbrev pub unit_row : ℤ → ℤ → ℕ
  unit_row (negsuc n) c = cond (top_integrated g.edges || has_top g.edges) (top_row (saved_above op g.edges n) c) (own_row 0 c)
  unit_row (pos r) c =
      cond (ltb r g.h) (own_row r c)
      (cond (bottom_integrated g.edges) (plane_row r c)
      (cond (has_bottom g.edges) (bottom_row (min (r - g.h) 1) c) (own_row (g.h - 1) c)))

  -- THE PADDED SAMPLE
  unfoldable pub sample_at : ℤ → ℤ → ℕ
  sample_at r c = padded (has_left g.edges) (has_right g.edges) g.w (g.w - 1) (unit_row r) c

  -- the padded samples as seen from (y, x)
  abbrev pub around : ℕ → ℕ → ℤ → ℤ → ℕ
  around y x dy dx = sample_at (pos y +ℤ dy) (pos x +ℤ dx)

-- THE LUMA ROWS OF A CHROMA UNIT
module _ (g : Given) (l : Lent) where
  -- luma rows to a chroma row, and luma columns
  abbrev pub vertical : ℕ
  vertical = 2 ^ g.ss_ver

  abbrev pub step : ℕ
  step = 2 ^ g.ss_hor

  abbrev pub luma_row : ℤ → ℤ → ℕ
  luma_row r = row_at l.luma_plane (row_start g.luma_off g.luma_stride r)

  abbrev pub luma_top_row : ℕ → ℤ → ℕ
  luma_top_row r = row_at l.luma_top (row_start g.luma_top_off g.luma_stride (pos r))

  abbrev pub luma_bottom_row : ℕ → ℤ → ℕ
  luma_bottom_row r = row_at l.luma_bottom (row_start g.luma_bottom_off g.luma_stride (pos r))

  -- the first of the luma plane's rows for chroma row r, and the one `more` below it
  abbrev pub luma_own : ℕ → ℤ → ℤ → ℕ
  luma_own more r = luma_row (r *ℤ pos vertical +ℤ pos more)

  -- Row -1 under top uses saved rows 0 and 1 (without vertical subsampling, row 1), row -2 saved row 0 twice
  abbrev pub upper_saved : ℕ → ℕ
  upper_saved zero = 1 - g.ss_ver
  upper_saved (suc n) = 0

  abbrev pub lower_saved : ℕ → ℕ
  lower_saved zero = 1
  lower_saved (suc n) = 0

  -- the upper row (more = 0) or the lower one (more = 1) of two for chroma row r; row h under bottom uses bottom rows 0 and 1, row h + 1 row 1 twice
  abbrev pub luma_part : ℕ → (ℕ → ℕ) → ℤ → ℤ → ℕ
  luma_part more saved (negsuc n) c =
      cond (top_integrated g.edges) (luma_own more (negsuc n) c)
      (cond (has_top g.edges) (luma_top_row (saved n) c) (luma_own more (pos 0) c))
  luma_part more saved (pos r) c =
      cond (ltb r g.h || bottom_integrated g.edges) (luma_own more (pos r) c)
      (cond (has_bottom g.edges) (luma_bottom_row (min (r - g.h + more) 1) c) (luma_own more (pos (g.h - 1)) c))

  -- the padded luma sample at chroma row r and luma column c
  unfoldable pub luma_at : ℤ → ℤ → ℕ
  luma_at r c =
      luma_padded g.edges g.ss_hor g.ss_ver g.kind (g.w * step) (luma_part 0 upper_saved r) (luma_part 1 lower_saved r) c

  abbrev pub luma_around : ℕ → ℕ → ℤ → ℤ → ℕ
  luma_around y x dy dx = luma_at (pos y +ℤ dy) (pos (x * step) +ℤ dx)

-- CLASSES
-- the class of block (bx, by): the index, through the map and the subclass list
unfoldable pub class_of : Operation → Given → Lent → List ℕ → ℕ → ℕ → ℕ
class_of op g l plane bx by =
    get_or l.subclass (get_or l.map (class_index (around op g l plane (side * by) (side * bx)) l.noskip l.q bx by (g.h / side)) 0) 0

-- numbers to a set; a user set of 18 gives its first 16, a pretrained set's last is the centre
abbrev pub set_size : Operation → ℕ
set_size Luma = 16
set_size User = 18
set_size Pretrained = 13
set_size Chroma = 18

abbrev pub set_of : Operation → List ℤ → ℕ → ℕ → ℤ
set_of op filters cls k = get_or filters (set_size op * cls + k) (pos 0)

-- THE FINAL SAMPLE at (y, x), under a class for each block where the operation has classes; `limit` is the largest sample
module _ (limit : ℕ) (g : Given) (l : Lent) (plane : List ℕ) where
  abbrev pub restored : Operation → ℕ → ℕ → ℕ → ℕ
  restored Luma cls y x = luma_sample limit (around Luma g l plane y x) (set_of Luma l.filters 0)
  restored User cls y x = luma_sample limit (around User g l plane y x) (set_of User l.filters cls)
  restored Pretrained cls y x = pretrained_sample limit (around Pretrained g l plane y x) (set_of Pretrained l.filters cls)
  restored Chroma cls y x = chroma_sample limit (around Chroma g l plane y x) (luma_around g l y x) (step g l) (set_of Chroma l.filters 0)

-- a masked block keeps the sample at the open
unfoldable pub final_sample : Given → Lent → List ℕ → Operation → ℕ → ℕ → ℕ
final_sample g l plane op y x =
    cond (masked (mask_at l.skip y) (x / side))
    (plane_row op g l plane y (pos x))
    (restored limit8 g l plane op (class_of op g l plane (x / side) (y / side)) y x)
