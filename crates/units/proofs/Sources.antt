-- Where a padded row is taken from: that a call of a padding is not refused, and that the row is the definition's.
use mathlib.Core.Path.{◌≡◌, refl, sym, ◌∙◌, ap}
use mathlib.Core.Bool.{Bool, true, false, not, ◌&&◌, ◌||◌}
use mathlib.Core.List.{List}
use Prim.Native.Nat.{ℕ, zero, suc, ◌+◌, ◌*◌, ◌-◌, ◌≤◌, ◌<◌, min}
use native.Mathlib.Nat.{mul-le-mul_right, one-mul}
use native.Mathlib.Omega.{arith}
use lib.Dec.{leb}
use lib.IntN.{ℤ, pos, negsuc, ◌-ℤ◌}
use borrow.Author.Tests.{le-leb, lt-ltb, le-ltb}
use Rattle.definition.specs.declared.Operation.{Operation}
use Rattle.definition.specs.declared.Given.{Given}
use Rattle.definition.specs.Rows.{outside_unless, unless_refused, row_bytes, row_origin}
use Rattle.definition.specs.Padding.{has_left, has_right, has_bottom, bottom_integrated}
use Rattle.definition.specs.Units.{border, Lent, unit_row, sample_at, own_row, plane_row, top_row, bottom_row, saved_above}
use Rattle.definition.specs.Refusals.{beside, top_rows, bottom_rows, plane_rows, left_of, right_of}
use Rattle.laws.proofs.Ints.{sub_pos, sub_neg}
use Rattle.definition.specs.Leaves.{backup_status, lpf_status}
use Rattle.model.proofs.Rows.{pad_row, first_row}
use Rattle.laws.proofs.Inside.{Inside}
use Rattle.operations.proofs.Borders.{border_high}
use Rattle.units.specs.Padded.{row_from}
use Rattle.units.proofs.Edges.{above_saved, saved_above_lem}
use Rattle.units.specs.Windows.{PlaneLies, TopLies, BottomLies}

-- NOT REFUSED
pub served : (status : ℕ) (old written : List ℕ) → status ≡ 0 → unless_refused status old written ≡ written
served zero old written e = refl
served (suc status) old written e = absurd (omega arith)

left_fits : (L : Bool) (e left_o left : ℕ) → (L ≡ true → (e ≤ left_o) × (left_o ≤ left)) → outside_unless (not L || leb e left_o && leb left_o left) ≡ 0
left_fits true e left_o left h = rw (le-leb e left_o (h refl).0, le-leb left_o left (h refl).1)
left_fits false e left_o left h = refl

pub backup_fits : (dst o src src_o left left_o w e edges : ℕ) → 1 ≤ w → e ≤ o → o + w + e ≤ dst → src_o + w + beside (has_right edges) e ≤ src →
    (has_left edges ≡ true → (e ≤ left_o) × (left_o ≤ left)) → backup_status dst o src src_o left left_o w e edges ≡ 0
unfolding backup_status
backup_fits dst o src src_o left left_o w e edges some front room row before =
    rw (le-leb 1 w some, le-leb e o front, le-leb (o + w + e) dst room, le-leb (src_o + w + beside (has_right edges) e) src row)
    (left_fits (has_left edges) e left_o left before)

pub lpf_fits : (dst o src src_o w e edges : ℕ) → 1 ≤ w → e ≤ o → o + w + e ≤ dst → src_o + w + beside (has_right edges) e ≤ src →
    beside (has_left edges) e ≤ src_o → lpf_status dst o src src_o w e edges ≡ 0
unfolding lpf_status
lpf_fits dst o src src_o w e edges some front room row before =
    rw (le-leb 1 w some, le-leb e o front, le-leb (o + w + e) dst room, le-leb (src_o + w + beside (has_right edges) e) src row, le-leb (beside (has_left edges) e) src_o before)

-- a row of those that lie inside lies inside
pub row_inside : (len off stride rows w before behind : ℕ) → Inside len off stride rows w before behind → (r : ℕ) → r < rows → off + r * stride + w + behind ≤ len
row_inside len off stride rows w before behind i r h =
    let m : r * stride ≤ (rows - 1) * stride = mul-le-mul_right stride (omega arith) in
    omega (arith, i.high)

beside-low : (b : Bool) (e : ℕ) → beside b e ≤ e
beside-low true e = omega arith
beside-low false e = omega arith

module _ {op : Operation} {g : Given} {plane left : ℕ} (lie : PlaneLies op g plane left) where
  width : row_origin + g.w + border op ≤ row_bytes
  width = omega (arith, lie.wide.high, border_high op)

  pub plane-inside : (y : ℕ) → y < g.h + plane_rows op g.edges → g.off + y * g.stride + g.w + right_of g (border op) ≤ plane
  plane-inside y h = row_inside plane g.off g.stride (g.h + plane_rows op g.edges) g.w 0 (right_of g (border op)) lie.plane_in y h

  pub top-inside : {top : ℕ} → TopLies op g top → (n : ℕ) → n < top_rows op g.edges → g.top_off + n * g.stride + g.w + right_of g (border op) ≤ top
  top-inside {top} t n h =
      row_inside top g.top_off g.stride (top_rows op g.edges) g.w (left_of g (border op)) (right_of g (border op))
      (t (omega arith)) n h

  pub bottom-inside : {bottom : ℕ} → BottomLies op g bottom → (n : ℕ) → n < bottom_rows g.edges → g.bottom_off + n * g.stride + g.w + right_of g (border op) ≤ bottom
  bottom-inside {bottom} b n h =
      row_inside bottom g.bottom_off g.stride (bottom_rows g.edges) g.w (left_of g (border op)) (right_of g (border op))
      (b (omega arith)) n h

  -- a row of the unit, with the left list
  pub own_fits : {e : ℕ} (y : ℕ) → e ≡ border op → y < g.h → backup_status row_bytes row_origin plane (g.off + y * g.stride) left (6 * y + 6) g.w e g.edges ≡ 0
  own_fits y q h =
      rw q
      (backup_fits row_bytes row_origin plane (g.off + y * g.stride) left (6 * y + 6) g.w (border op) g.edges
      (omega (arith, lie.wide.low)) (omega (arith, border_high op)) width (plane-inside y (omega arith))
      (λ b. (omega (arith, border_high op), omega (arith, lie.left_in b))))

  -- a row of the plane below the unit
  pub plane_fits : {e : ℕ} (y : ℕ) → e ≡ border op → g.h ≤ y → y < g.h + plane_rows op g.edges → lpf_status row_bytes row_origin plane (g.off + y * g.stride) g.w e g.edges ≡ 0
  plane_fits y q h k =
      let m : g.stride ≤ y * g.stride = rw (one-mul g.stride) at (mul-le-mul_right {m = 1} {n = y} g.stride (omega (arith, lie.tall.low))) in
      rw q
      (lpf_fits row_bytes row_origin plane (g.off + y * g.stride) g.w (border op) g.edges
      (omega (arith, lie.wide.low)) (omega (arith, border_high op)) width (plane-inside y k)
      (omega (arith, beside-low (has_left g.edges) (border op), border_high op, lie.wide.low, lie.apart)))

  pub top_fits : {e top : ℕ} → TopLies op g top → (n : ℕ) → e ≡ border op → n < top_rows op g.edges → lpf_status row_bytes row_origin top (g.top_off + n * g.stride) g.w e g.edges ≡ 0
  top_fits {top = top} t n q h =
      let i = t (omega arith) in
      rw q
      (lpf_fits row_bytes row_origin top (g.top_off + n * g.stride) g.w (border op) g.edges
      (omega (arith, lie.wide.low)) (omega (arith, border_high op)) width (top-inside t n h) (omega (arith, i.low)))

  pub bottom_fits : {e bottom : ℕ} → BottomLies op g bottom → (n : ℕ) → e ≡ border op → n < bottom_rows g.edges → lpf_status row_bytes row_origin bottom (g.bottom_off + n * g.stride) g.w e g.edges ≡ 0
  bottom_fits {bottom = bottom} b n q h =
      let i = b (omega arith) in
      rw q
      (lpf_fits row_bytes row_origin bottom (g.bottom_off + n * g.stride) g.w (border op) g.edges
      (omega (arith, lie.wide.low)) (omega (arith, border_high op)) width (bottom-inside b n h) (omega (arith, i.low)))

-- THE ROW
module _ (op : Operation) (g : Given) (l : Lent) (p : List ℕ) where
  pub pad_from : (r : ℕ) (row : ℤ → ℕ) → ((c : ℤ) → unit_row op g l p (pos r -ℤ pos (border op)) c ≡ row c) → pad_row op g l p r ≡ row_from g.edges g.w (border op) row
  unfolding pad_row sample_at
  pad_from r row e = λ i. row_from g.edges g.w (border op) (λ c. e c i)

  lower : {e : ℕ} (y : ℕ) (row : ℤ → ℕ) → e ≡ border op → ((c : ℤ) → unit_row op g l p (pos y) c ≡ row c) → row_from g.edges g.w e row ≡ pad_row op g l p (y + border op)
  lower y row q f =
      let d : pos (y + border op) -ℤ pos (border op) ≡ pos y = sub_pos (y + border op) (border op) (omega arith) ∙ ap pos (omega arith) in
      rw q (sym (pad_from (y + border op) row (λ c. rw d (f c))))

  pub own_is : {e : ℕ} (y : ℕ) → e ≡ border op → y < g.h → row_from g.edges g.w e (own_row op g l p y) ≡ pad_row op g l p (y + border op)
  own_is y q h = lower y (own_row op g l p y) q (λ c. rw (lt-ltb y g.h h))

  pub plane-is : {e : ℕ} (y : ℕ) → e ≡ border op → g.h ≤ y → bottom_integrated g.edges ≡ true → row_from g.edges g.w e (plane_row op g l p y) ≡ pad_row op g l p (y + border op)
  plane-is y q h b = lower y (plane_row op g l p y) q (λ c. rw (le-ltb y g.h h, b))

  pub bottom-is : {e n : ℕ} (y : ℕ) → e ≡ border op → n ≡ min (y - g.h) 1 → g.h ≤ y → bottom_integrated g.edges ≡ false → has_bottom g.edges ≡ true →
      row_from g.edges g.w e (bottom_row op g l p n) ≡ pad_row op g l p (y + border op)
  bottom-is {n = n} y q m h a b = lower y (bottom_row op g l p n) q (λ c. rw (le-ltb y g.h h, a, b) (ap (λ (k : ℕ). bottom_row op g l p k c) (sym m)))

  pub last-is : {e : ℕ} (y : ℕ) → e ≡ border op → g.h ≤ y → bottom_integrated g.edges ≡ false → has_bottom g.edges ≡ false →
      row_from g.edges g.w e (own_row op g l p (g.h - 1)) ≡ pad_row op g l p (y + border op)
  last-is y q h a b = lower y (own_row op g l p (g.h - 1)) q (λ c. rw (le-ltb y g.h h, a, b))

  pub top-is : {e n : ℕ} (r : ℕ) → e ≡ border op → n ≡ r - first_row op g → first_row op g ≤ r → r < border op →
      row_from g.edges g.w e (top_row op g l p n) ≡ pad_row op g l p r
  top-is {n = n} r q m h k =
      let d : pos r -ℤ pos (border op) ≡ negsuc (border op - suc r) = sub_neg r (border op) k in
      let s : saved_above op g.edges (border op - suc r) ≡ n = saved_above_lem op g.edges r h k ∙ sym m in
      rw q (sym (pad_from r (top_row op g l p n) (λ c. rw (d, above_saved op g.edges (omega arith)) (ap (λ (n : ℕ). top_row op g l p n c) s))))
