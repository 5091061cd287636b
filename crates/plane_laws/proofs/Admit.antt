-- A UNIT OF A PLANE IS NOT REFUSED, where what it is lent is long enough.
use mathlib.Core.Path.{◌≡◌, refl, ap}
use mathlib.Core.Bool.{Bool, true, false, cond, not, ◌&&◌, ◌||◌}
use mathlib.Core.List.{List}
use Prim.Native.Nat.{ℕ, zero, suc, ◌+◌, ◌-◌, ◌*◌, ◌%◌, ◌≤◌, ◌<◌}
use native.Mathlib.Nat.{mul-le-mul_right, suc-mul, add-mul}
use native.Mathlib.Decide.{dec_lt}
use native.Mathlib.Omega.{arith}
use lib.Dec.{ltb, eqb}
use lib.ListN.{length}
use borrow.Author.Tests.{lt-ltb, le-ltb, le-leb, eq-eqb}
use Rattle.definition.specs.Padding.{has_left, has_right, has_top, top_integrated, bottom_integrated}
use Rattle.definition.specs.declared.Operation.TheVariants.{Luma}
use Rattle.definition.specs.declared.Given.{Given}
use Rattle.definition.specs.Units.{Lent}
use Rattle.definition.specs.Limits.{width_limit, height_limit, stride_limit}
use Rattle.definition.specs.Refusals.{sized, outside, beside, top_rows, bottom_rows, plane_rows, sizes_of, unit_checks, unit_status}
use Rattle.laws.proofs.Checks.{cleared}
use Rattle.plane_laws.proofs.Unit.{Cut}

-- how long what is lent has to be
pub record Room (W H b : ℕ) (g : Given) (l : Lent) (p : List ℕ) : Type 0 where
  pub narrow : g.w ≤ width_limit
  pub short : g.h ≤ height_limit
  pub stride : W ≤ stride_limit
  pub plane : H * W ≤ length p
  pub left : has_left g.edges ≡ true → 6 * g.h ≤ length l.left
  pub top : top_integrated g.edges ≡ true → b + 4 * W ≤ length l.top
  pub skip : g.h ≤ length l.skip
  pub filter : length l.filters ≡ 16

sized_not : (limit n : ℕ) → n % 4 ≡ 0 → 4 ≤ n → n ≤ limit → not (sized limit n) ≡ false
sized_not limit n a b c = rw (eq-eqb (n % 4) 0 a, le-leb 4 n b, le-leb n limit c)

inside_false : (len off stride rows w before behind : ℕ) → (0 < rows → before ≤ off) → (0 < rows → off + (rows - 1) * stride + w + behind ≤ len) → outside len off stride rows w before behind ≡ false
inside_false len off stride zero w before behind a b = refl
inside_false len off stride (suc rows) w before behind a b =
    let d : suc rows - 1 ≡ rows = omega arith in
    let m : off + rows * stride + w + behind ≤ len = rw d at (b (omega arith)) in
    rw (le-ltb off before (a (omega arith)), le-ltb len (off + rows * stride + w + behind) m)

-- samples beside the rows are asked for only where the plane goes on
beside-low : (bit : Bool) (a b : ℕ) → bit ≡ ltb a b → a % 4 ≡ 0 → b % 4 ≡ 0 → a ≤ b → a + beside bit 4 ≤ b
beside-low bit a b e fa fb h =
    elim (dec_lt a b) [
      | yes lt ↦ rw (e, lt-ltb a b lt) (omega arith)
      | no ge ↦ rw (e, le-ltb a b (omega arith)) (omega arith)
    ]

module _ (W H y0 x0 b : ℕ) (g : Given) (l : Lent) (p : List ℕ) (u : Cut W H y0 x0 b g) (m : Room W H b g l p) where
  right-low : x0 + g.w + beside (has_right g.edges) 4 ≤ W
  right-low = beside-low (has_right g.edges) (x0 + g.w) W u.right_bit (omega (arith, u.four_x, u.fourw)) u.four_w u.far

  left-low : beside (has_left g.edges) 4 ≤ x0
  left-low = omega (arith, beside-low (has_left g.edges) 0 x0 u.left_bit (omega arith) u.four_x (omega arith))

  below-low : y0 + g.h + plane_rows Luma g.edges ≤ H
  below-low = beside-low (bottom_integrated g.edges) (y0 + g.h) H u.bottom_bit (omega (arith, u.four_y, u.fourh)) u.four_h u.low

  -- the plane: its last row that is padded from ends within it
  plane-room : g.off + (g.h + plane_rows Luma g.edges - 1) * g.stride + g.w + beside (has_right g.edges) 4 ≤ length p
  plane-room =
      let n : ℕ = g.h + plane_rows Luma g.edges - 1 in
      let d : suc (y0 + n) ≤ H = omega (arith, below-low, u.tall) in
      rw (u.off_is, u.stride_is) (omega (arith, mul-le-mul_right W d, suc-mul (y0 + n) W, add-mul y0 n W, right-low, m.plane))

  top-room : 0 < top_rows Luma g.edges → g.top_off + (top_rows Luma g.edges - 1) * g.stride + g.w + beside (has_right g.edges) 4 ≤ length l.top
  top-room h = go (top_integrated g.edges) (has_top g.edges) refl u.no_top h
    where
      go : (int top : Bool) → top_integrated g.edges ≡ int → top ≡ false → 0 < cond int 4 (cond top 2 0) →
          g.top_off + (cond int 4 (cond top 2 0) - 1) * g.stride + g.w + beside (has_right g.edges) 4 ≤ length l.top
      go true top ei et k = rw (u.top_off_is, u.stride_is) (omega (arith, m.top ei, right-low))
      go false true ei et k = let z : ◌≡◌ {A = ℕ} 0 1 = cc in absurd (omega arith)
      go false false ei et k = absurd (omega arith)

  left_fine : (has_left g.edges && ltb (length l.left) (6 * g.h)) ≡ false
  left_fine = go (has_left g.edges) refl
    where
      go : (b : Bool) → has_left g.edges ≡ b → (b && ltb (length l.left) (6 * g.h)) ≡ false
      go true e = le-ltb (length l.left) (6 * g.h) (m.left e)
      go false e = refl

  no_bottom-rows : bottom_rows g.edges ≡ 0
  no_bottom-rows = rw u.no_bottom (go (bottom_integrated g.edges))
    where
      go : (b : Bool) → ◌≡◌ {A = ℕ} (cond b 0 0) 0
      go true = refl
      go false = refl

  stride_fine : (ltb g.stride (g.w + beside (has_right g.edges) 4) || ltb stride_limit g.stride || false) ≡ false
  stride_fine =
      rw (u.stride_is, le-ltb W (g.w + beside (has_right g.edges) 4) (omega (arith, right-low)), le-ltb stride_limit W m.stride)

  bottom_fine : outside (length l.bottom) g.bottom_off g.stride (bottom_rows g.edges) g.w (beside (has_left g.edges) 4) (beside (has_right g.edges) 4) ≡ false
  bottom_fine =
      ap (λ (n : ℕ). outside (length l.bottom) g.bottom_off g.stride n g.w (beside (has_left g.edges) 4) (beside (has_right g.edges) 4)) no_bottom-rows

  masks_fine : (ltb (length l.skip) g.h || false) ≡ false
  masks_fine = rw (le-ltb (length l.skip) g.h m.skip)

  filter_fine : not (eqb (length l.filters) 16) ≡ false
  filter_fine = rw (eq-eqb (length l.filters) 16 m.filter)

  pub unit_admitted : unit_status Luma g (sizes_of Luma l p) ≡ 0
  unfolding unit_status
  unit_admitted =
      cleared (unit_checks Luma g (sizes_of Luma l p)) (
        sized_not width_limit g.w u.fourw (omega (arith, u.wide, u.fourw)) m.narrow,
        (
          sized_not height_limit g.h u.fourh (omega (arith, u.tall, u.fourh)) m.short,
          (
            stride_fine,
            (
              refl,
              (
                inside_false (length p) g.off g.stride (g.h + plane_rows Luma g.edges) g.w 0 (beside (has_right g.edges) 4) (λ h. omega arith) (λ h. plane-room),
                (
                  left_fine,
                  (
                    inside_false (length l.top) g.top_off g.stride (top_rows Luma g.edges) g.w (beside (has_left g.edges) 4) (beside (has_right g.edges) 4)
                        (λ h. rw u.top_off_is (omega (arith, left-low))) top-room,
                    (
                      bottom_fine,
                      (
                        masks_fine,
                        (
                          filter_fine,
                          (
                            refl,
                            tt,
                          ),
                        ),
                      ),
                    ),
                  ),
                ),
              ),
            ),
          ),
        ),
      )
