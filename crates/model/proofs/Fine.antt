-- What a status of 0 says of a unit: each line of the table, turned round.
use mathlib.Core.Path.{◌≡◌}
use mathlib.Core.Bool.{true, false, ◌&&◌, ◌||◌}
use Prim.Native.Nat.{ℕ, ◌+◌, ◌*◌, ◌-◌, ◌/◌, ◌≤◌, ◌<◌}
use native.Mathlib.Nat.{mul-le-mul_right}
use native.Mathlib.Omega.{arith}
use lib.Dec.{ltb}
use borrow.Author.Tests.{ltb-false, not-false}
use Rattle.definition.specs.declared.Operation.{Operation}
use Rattle.definition.specs.declared.Given.{Given}
use Rattle.definition.specs.declared.Sizes.{Sizes}
use Rattle.definition.specs.Blocks.{side}
use Rattle.definition.specs.Limits.{width_limit, height_limit, stride_limit}
use Rattle.definition.specs.Padding.{has_left}
use Rattle.definition.specs.Units.{border, classed, chromatic}
use Rattle.definition.specs.Refusals.{unit_status, unit_checks, top_rows, bottom_rows, plane_rows, left_of, right_of, bad_pair, bad_filters, bad_luma}
use Rattle.laws.proofs.Passes.{not_both}
use Rattle.laws.proofs.Checks.{clear}
use Rattle.laws.proofs.Inside.{unless, Sized, is-sized, Inside, inside}

module _ (op : Operation) (g : Given) (z : Sizes) where
  pub record Fine : Type 0 where
    pub wide : Sized width_limit g.w
    pub tall : Sized height_limit g.h
    pub apart : g.w + right_of g (border op) ≤ g.stride
    pub near : g.stride ≤ stride_limit
    pub luma_near : chromatic op ≡ true → g.luma_stride ≤ stride_limit
    pub pair : bad_pair op g ≡ false
    pub plane : Inside z.plane g.off g.stride (g.h + plane_rows op g.edges) g.w 0 (right_of g (border op))
    pub left : has_left g.edges ≡ true → 6 * g.h ≤ z.left
    pub top : 0 < top_rows op g.edges → Inside z.top g.top_off g.stride (top_rows op g.edges) g.w (left_of g (border op)) (right_of g (border op))
    pub bottom : 0 < bottom_rows g.edges → Inside z.bottom g.bottom_off g.stride (bottom_rows g.edges) g.w (left_of g (border op)) (right_of g (border op))
    pub skip : g.h ≤ z.skip
    pub noskip : classed op ≡ true → g.h / side ≤ z.noskip
    pub filters : bad_filters op g z ≡ false
    pub luma : bad_luma op g z ≡ false

  pub fine : unit_status op g z ≡ 0 → Fine
  unfolding unit_status
  fine e =
      let c = clear (unit_checks op g z) tt e in
      let h = is-sized height_limit g.h (not-false _ c.1.0) in
      let s = not_both (ltb g.stride (g.w + right_of g (border op)) || ltb stride_limit g.stride) (chromatic op && ltb stride_limit g.luma_stride) c.1.1.0 in
      let t = not_both (ltb g.stride (g.w + right_of g (border op))) (ltb stride_limit g.stride) s.0 in
      let m = not_both (ltb z.skip g.h) (classed op && ltb z.noskip (g.h / side)) c.1.1.1.1.1.1.1.1.0 in
      record {
        wide = is-sized width_limit g.w (not-false _ c.0);
        tall = h;
        apart = ltb-false _ _ t.0;
        near = ltb-false _ _ t.1;
        luma_near = λ b. ltb-false _ _ (unless (chromatic op) _ s.1 b);
        pair = c.1.1.1.0;
        plane = inside z.plane g.off g.stride (g.h + plane_rows op g.edges) g.w 0 (right_of g (border op)) c.1.1.1.1.0 (omega (arith, h.low));
        left = λ b. ltb-false _ _ (unless (has_left g.edges) (ltb z.left (6 * g.h)) c.1.1.1.1.1.0 b);
        top = λ r. inside z.top g.top_off g.stride (top_rows op g.edges) g.w (left_of g (border op)) (right_of g (border op)) c.1.1.1.1.1.1.0 r;
        bottom = λ r. inside z.bottom g.bottom_off g.stride (bottom_rows g.edges) g.w (left_of g (border op)) (right_of g (border op)) c.1.1.1.1.1.1.1.0 r;
        skip = ltb-false _ _ m.0;
        noskip = λ b. ltb-false _ _ (unless (classed op) _ m.1 b);
        filters = c.1.1.1.1.1.1.1.1.1.0;
        luma = c.1.1.1.1.1.1.1.1.1.1.0;
      }

  -- each row of the rectangle lies inside the plane
  pub row_room : Fine → (k : ℕ) → k < g.h → g.off + k * g.stride + g.w ≤ z.plane
  row_room f k h =
      let e : k ≤ g.h + plane_rows op g.edges - 1 = omega arith in
      omega (arith, f.plane.high, mul-le-mul_right g.stride e)
