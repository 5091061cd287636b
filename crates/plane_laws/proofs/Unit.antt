-- THE LAW OF A UNIT of a plane: its padded samples are the padded plane's, over any current plane that is untouched on the unit, right of it and below it.
-- The edge bits are set exactly where the plane goes on; the four rows above and the four columns before were saved untouched.
use mathlib.Core.Path.{◌≡◌, refl, sym, ◌∙◌, ap}
use mathlib.Core.Bool.{Bool, true, false, cond}
use mathlib.Core.List.{List}
use Prim.Native.Nat.{ℕ, suc, ◌+◌, ◌-◌, ◌*◌, ◌%◌, ◌≤◌, ◌<◌, min}
use native.Mathlib.Nat.{add-mul}
use native.Mathlib.Decide.{dec_lt}
use native.Mathlib.Omega.{arith}
use lib.Dec.{ltb}
use lib.IntN.{ℤ, pos, negsuc, nat_abs, ◌+ℤ◌}
use lib.ListN.{get_or}
use borrow.Author.Tests.{lt-ltb, le-ltb}
use Rattle.definition.specs.Numbers.{raised, clip_to, byte_at}
use Rattle.definition.specs.Padding.{has_left, has_right, has_top, has_bottom, top_integrated, bottom_integrated, padded}
use Rattle.definition.specs.declared.Operation.TheVariants.{Luma}
use Rattle.definition.specs.declared.Given.{Given}
use Rattle.definition.specs.Units.{Lent, saved_above, plane_row, own_row, top_row, unit_row, sample_at}
use Rattle.laws.proofs.Ints.{sub_cases, before_pos}
use Rattle.definition.specs.Planes.{sample_in, padded_in}

-- where a unit lies, and what it is opened with
pub record Cut (W H y0 x0 b : ℕ) (g : Given) : Type 0 where
  pub tall : 1 ≤ g.h
  pub wide : 1 ≤ g.w
  pub low : y0 + g.h ≤ H
  pub far : x0 + g.w ≤ W
  pub four_w : W % 4 ≡ 0
  pub four_h : H % 4 ≡ 0
  pub four_y : y0 % 4 ≡ 0
  pub four_x : x0 % 4 ≡ 0
  pub fourw : g.w % 4 ≡ 0
  pub fourh : g.h % 4 ≡ 0
  pub left_bit : has_left g.edges ≡ ltb 0 x0
  pub right_bit : has_right g.edges ≡ ltb (x0 + g.w) W
  pub top_bit : top_integrated g.edges ≡ ltb 0 y0
  pub bottom_bit : bottom_integrated g.edges ≡ ltb (y0 + g.h) H
  pub no_top : has_top g.edges ≡ false
  pub no_bottom : has_bottom g.edges ≡ false
  pub stride_is : g.stride ≡ W
  pub off_is : g.off ≡ y0 * W + x0
  pub top_off_is : g.top_off ≡ b + x0

-- what was saved of the untouched plane: four rows above row y, of the plane's width, from byte b on; of six bytes a row before column x the last four
abbrev pub Above : ℕ → ℕ → ℕ → List ℕ → List ℕ → Type 0
Above W b y p0 rows = (j c : ℕ) → j < 4 → c < W → get_or rows (b + j * W + c) 0 ≡ sample_in W p0 (y - 4 + j) c

abbrev pub Before : ℕ → ℕ → ℕ → ℕ → List ℕ → List ℕ → Type 0
Before W y x h p0 left = (r k : ℕ) → r < h → k < 4 → get_or left (6 * r + 2 + k) 0 ≡ sample_in W p0 (y + r) (x - 4 + k)

pub record Saved (W y0 x0 b : ℕ) (g : Given) (l : Lent) (p0 : List ℕ) : Type 0 where
  pub above : 0 < y0 → Above W b y0 p0 l.top
  pub before : 0 < x0 → Before W y0 x0 g.h p0 l.left

-- a current plane that is untouched where the unit reads it
pub record Untouched (W H y0 x0 w h : ℕ) (p0 p : List ℕ) : Type 0 where
  pub own : (r c : ℕ) → y0 ≤ r → r < y0 + h → x0 ≤ c → c < x0 + w + 4 → c < W → sample_in W p r c ≡ sample_in W p0 r c
  pub below : (r c : ℕ) → y0 + h ≤ r → r < y0 + h + 4 → r < H → x0 ≤ c + 4 → c < x0 + w + 4 → c < W → sample_in W p r c ≡ sample_in W p0 r c

-- from four before 0 to four past n
abbrev pub Near : ℕ → ℤ → Type 0
Near n (pos x) = x < n + 4
Near n (negsuc m) = m < 4

-- NUMBERS
raised-back : (a n : ℕ) → raised (pos a +ℤ negsuc n) ≡ a - suc n
raised-back a n = sub_cases a (suc n) (λ (z : ℤ). raised z ≡ a - suc n) (λ h. omega arith) (λ h. refl)

near-back : (n y m : ℕ) → y < n → suc m ≤ 4 → Near n (pos y +ℤ negsuc m)
near-back n y m h k = sub_cases y (suc m) (λ (z : ℤ). Near n z) (λ l. omega arith) (λ l. omega arith)

-- what lies at most four from a place of the unit
pub near-at_most : (n y : ℕ) (d : ℤ) → y < n → nat_abs d ≤ 4 → Near n (pos y +ℤ d)
near-at_most n y (pos x) h k = omega arith
near-at_most n y (negsuc m) h k = near-back n y m h k

-- A ROW THAT STANDS FOR ROW R of the untouched plane, from column x0 - 4 to x0 + w + 3
record Stands (W x0 w : ℕ) (p0 : List ℕ) (row : ℤ → ℕ) (R : ℕ) : Type 0 where
  pub on : (x : ℕ) → x < w + 4 → x0 + x < W → row (pos x) ≡ sample_in W p0 R (x0 + x)
  pub back : 0 < x0 → (n : ℕ) → n < 4 → row (negsuc n) ≡ sample_in W p0 R (x0 - suc n)

-- padded to its sides it is the plane's row, padded
module _ (W x0 w : ℕ) (p0 : List ℕ) (row : ℤ → ℕ) (R : ℕ) (s : Stands W x0 w p0 row R)
    (wide : 1 ≤ w) (far : x0 + w ≤ W) (four_w : W % 4 ≡ 0) (four_x : x0 % 4 ≡ 0) (fourw : w % 4 ≡ 0) where
  cols_back : (left : Bool) → left ≡ ltb 0 x0 → (n : ℕ) → n < 4 → cond left (row (negsuc n)) (row (pos 0)) ≡ sample_in W p0 R (min (x0 - suc n) (W - 1))
  cols_back left e n h =
      elim (dec_lt 0 x0) [
        | yes lt ↦
            let d : x0 - suc n ≡ min (x0 - suc n) (W - 1) = omega arith in
            rw (e, lt-ltb 0 x0 lt) (s.back lt n h ∙ ap (λ (c : ℕ). sample_in W p0 R c) d)
        | no ge ↦
            let d : x0 + 0 ≡ min (x0 - suc n) (W - 1) = omega arith in
            rw (e, le-ltb 0 x0 (omega arith)) (s.on 0 (omega arith) (omega arith) ∙ ap (λ (c : ℕ). sample_in W p0 R c) d)
      ]

  cols_past : (right : Bool) → right ≡ ltb (x0 + w) W → (x : ℕ) → w ≤ x → x < w + 4 → cond right (row (pos x)) (row (pos (w - 1))) ≡ sample_in W p0 R (min (x0 + x) (W - 1))
  cols_past right e x l h =
      elim (dec_lt (x0 + w) W) [
        | yes lt ↦
            let d : x0 + x ≡ min (x0 + x) (W - 1) = omega arith in
            rw (e, lt-ltb (x0 + w) W lt) (s.on x h (omega arith) ∙ ap (λ (c : ℕ). sample_in W p0 R c) d)
        | no ge ↦
            let d : x0 + (w - 1) ≡ min (x0 + x) (W - 1) = omega arith in
            rw (e, le-ltb (x0 + w) W (omega arith)) (s.on (w - 1) (omega arith) (omega arith) ∙ ap (λ (c : ℕ). sample_in W p0 R c) d)
      ]

  cols : (left right : Bool) → left ≡ ltb 0 x0 → right ≡ ltb (x0 + w) W → (c : ℤ) → Near w c →
      padded left right w (w - 1) row c ≡ sample_in W p0 R (clip_to (W - 1) (pos x0 +ℤ c))
  cols left right el er (negsuc n) h = cols_back left el n h ∙ ap (λ (z : ℕ). sample_in W p0 R (min z (W - 1))) (sym (raised-back x0 n))
  cols left right el er (pos x) h =
      elim (dec_lt x w) [
        | yes lt ↦
            let d : x0 + x ≡ min (x0 + x) (W - 1) = omega arith in
            rw (lt-ltb x w lt) (s.on x h (omega arith) ∙ ap (λ (c : ℕ). sample_in W p0 R c) d)
        | no ge ↦ rw (le-ltb x w (omega arith)) (cols_past right er x (omega arith) h)
      ]

-- THE ROWS
module _ (W H y0 x0 b : ℕ) (g : Given) (l : Lent) (p0 p : List ℕ) (u : Cut W H y0 x0 b g) (s : Saved W y0 x0 b g l p0) (f : Untouched W H y0 x0 g.w g.h p0 p) where
  -- the samples of row r of the plane, from the unit's column x on, and n before it
  pub plane_on : (r x : ℕ) → plane_row Luma g l p r (pos x) ≡ sample_in W p (y0 + r) (x0 + x)
  plane_on r x =
      let d : y0 * W + x0 + r * W + x ≡ (y0 + r) * W + (x0 + x) = omega (arith, add-mul y0 r W) in
      rw (u.off_is, u.stride_is) (ap (λ (i : ℕ). get_or p i 0) d)

  plane-back : 0 < x0 → (r n : ℕ) → n < 4 → plane_row Luma g l p r (negsuc n) ≡ sample_in W p (y0 + r) (x0 - suc n)
  plane-back h r n k =
      let x4 = u.four_x in
      let e : y0 * W + x0 + r * W - suc n ≡ (y0 + r) * W + (x0 - suc n) = omega (arith, add-mul y0 r W) in
      let d : pos (y0 * W + x0 + r * W) +ℤ negsuc n ≡ pos ((y0 + r) * W + (x0 - suc n)) = before_pos (y0 * W + x0 + r * W) n (omega arith) ∙ ap pos e in
      rw (u.off_is, u.stride_is) (ap (byte_at p) d)

  own_stands : (r : ℕ) → r < g.h → Stands W x0 g.w p0 (own_row Luma g l p r) (y0 + r)
  own_stands r h =
      record {
        on = λ x k m. plane_on r x ∙ f.own (y0 + r) (x0 + x) (omega arith) (omega arith) (omega arith) (omega arith) m;
        back = λ z n k.
            let x4 = u.four_x in
            let e : 6 * r + 6 - suc n ≡ 6 * r + 2 + (3 - n) = omega arith in
            let d : pos (6 * r + 6) +ℤ negsuc n ≡ pos (6 * r + 2 + (3 - n)) = before_pos (6 * r + 6) n (omega arith) ∙ ap pos e in
            let c : x0 - 4 + (3 - n) ≡ x0 - suc n = omega arith in
            ap (byte_at l.left) d ∙ (s.before z r (3 - n) h (omega arith) ∙ ap (λ (i : ℕ). sample_in W p0 (y0 + r) i) c);
      }

  below_stands : (r : ℕ) → g.h ≤ r → r < g.h + 4 → y0 + r < H → Stands W x0 g.w p0 (plane_row Luma g l p r) (y0 + r)
  below_stands r h k in_plane =
      record {
        on = λ x m t. plane_on r x ∙ f.below (y0 + r) (x0 + x) (omega arith) (omega arith) in_plane (omega arith) (omega arith) t;
        back = λ z n m. plane-back z r n m ∙ f.below (y0 + r) (x0 - suc n) (omega arith) (omega arith) in_plane (omega arith) (omega arith) (omega (arith, u.far));
      }

  above_stands : 0 < y0 → (n : ℕ) → n < 4 → Stands W x0 g.w p0 (top_row Luma g l p (3 - n)) (y0 - suc n)
  above_stands z n h =
      let y4 = u.four_y in
      let R : y0 - 4 + (3 - n) ≡ y0 - suc n = omega arith in
      record {
        on = λ x k m.
            let d : b + x0 + (3 - n) * W + x ≡ b + (3 - n) * W + (x0 + x) = omega arith in
            rw (u.top_off_is, u.stride_is)
            (ap (λ (i : ℕ). get_or l.top i 0) d ∙ (s.above z (3 - n) (x0 + x) (omega arith) m ∙ ap (λ (r : ℕ). sample_in W p0 r (x0 + x)) R));
        back = λ z' m k.
            let x4 = u.four_x in
            let e : b + x0 + (3 - n) * W - suc m ≡ b + (3 - n) * W + (x0 - suc m) = omega arith in
            let d : pos (b + x0 + (3 - n) * W) +ℤ negsuc m ≡ pos (b + (3 - n) * W + (x0 - suc m)) = before_pos (b + x0 + (3 - n) * W) m (omega arith) ∙ ap pos e in
            rw (u.top_off_is, u.stride_is)
            (ap (byte_at l.top) d ∙ (s.above z (3 - n) (x0 - suc m) (omega arith) (omega (arith, u.far)) ∙ ap (λ (r : ℕ). sample_in W p0 r (x0 - suc m)) R));
      }

  -- a row that is the same at each column, under another number
  as_row : (row row' : ℤ → ℕ) {R S : ℕ} → ((c : ℤ) → row' c ≡ row c) → R ≡ S → Stands W x0 g.w p0 row R → Stands W x0 g.w p0 row' S
  as_row row row' {R} {S} a e h =
      record {
        on = λ x k m. a (pos x) ∙ (h.on x k m ∙ ap (λ (r : ℕ). sample_in W p0 r (x0 + x)) e);
        back = λ z n k. a (negsuc n) ∙ (h.back z n k ∙ ap (λ (r : ℕ). sample_in W p0 r (x0 - suc n)) e);
      }

  row-above : (n : ℕ) → n < 4 → Stands W x0 g.w p0 (unit_row Luma g l p (negsuc n)) (min (raised (pos y0 +ℤ negsuc n)) (H - 1))
  row-above n h =
      elim (dec_lt 0 y0) [
        | yes lt ↦
            let d : y0 - suc n ≡ min (raised (pos y0 +ℤ negsuc n)) (H - 1) = omega (arith, raised-back y0 n, u.low) in
            let t : top_integrated g.edges ≡ true = u.top_bit ∙ lt-ltb 0 y0 lt in
            let v : saved_above Luma g.edges n ≡ 3 - n = rw t in
            as_row (top_row Luma g l p (3 - n)) (unit_row Luma g l p (negsuc n)) (λ c. rw t (ap (λ (r : ℕ). top_row Luma g l p r c) v)) d (above_stands lt n h)
        | no ge ↦
            let d : y0 + 0 ≡ min (raised (pos y0 +ℤ negsuc n)) (H - 1) = omega (arith, raised-back y0 n) in
            as_row (own_row Luma g l p 0) (unit_row Luma g l p (negsuc n)) (λ c. rw (u.top_bit, u.no_top, le-ltb 0 y0 (omega arith))) d (own_stands 0 u.tall)
      ]

  row_below : (r : ℕ) → g.h ≤ r → r < g.h + 4 → Stands W x0 g.w p0 (unit_row Luma g l p (pos r)) (min (y0 + r) (H - 1))
  row_below r ge h =
      elim (dec_lt (y0 + g.h) H) [
        | yes on ↦
            let d : y0 + r ≡ min (y0 + r) (H - 1) = omega arith in
            as_row (plane_row Luma g l p r) (unit_row Luma g l p (pos r)) (λ c. rw (le-ltb r g.h ge, u.bottom_bit, lt-ltb (y0 + g.h) H on)) d
            (below_stands r ge h (omega arith))
        | no end ↦
            let d : y0 + (g.h - 1) ≡ min (y0 + r) (H - 1) = omega arith in
            as_row (own_row Luma g l p (g.h - 1)) (unit_row Luma g l p (pos r))
            (λ c. rw (le-ltb r g.h ge, u.bottom_bit, le-ltb (y0 + g.h) H (omega arith), u.no_bottom)) d
            (own_stands (g.h - 1) (omega arith))
      ]

  row_stands : (r : ℤ) → Near g.h r → Stands W x0 g.w p0 (unit_row Luma g l p r) (clip_to (H - 1) (pos y0 +ℤ r))
  row_stands (negsuc n) h = row-above n h
  row_stands (pos r) h =
      elim (dec_lt r g.h) [
        | yes lt ↦
            let d : y0 + r ≡ min (y0 + r) (H - 1) = omega (arith, u.low) in
            as_row (own_row Luma g l p r) (unit_row Luma g l p (pos r)) (λ c. rw (lt-ltb r g.h lt)) d (own_stands r lt)
        | no ge ↦ row_below r (omega arith) h
      ]

  -- THE UNIT LAW
  pub unit-sample : (r c : ℤ) → Near g.h r → Near g.w c → sample_at Luma g l p r c ≡ padded_in W H p0 (pos y0 +ℤ r) (pos x0 +ℤ c)
  unfolding sample_at padded_in
  unit-sample r c hr hc =
      cols W x0 g.w p0 (unit_row Luma g l p r) (clip_to (H - 1) (pos y0 +ℤ r)) (row_stands r hr) u.wide u.far u.four_w u.four_x u.fourw
      (has_left g.edges) (has_right g.edges) u.left_bit u.right_bit c hc
