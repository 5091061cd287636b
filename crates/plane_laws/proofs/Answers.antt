-- WHAT THE OPERATION ANSWERS: the plane after its first k units as one list, with all units done the restored plane, whatever the unit size; and what a status of 0 says.
use mathlib.Core.Path.{◌≡◌, sym, ◌∙◌}
use mathlib.Core.Bool.{cond, not, ◌&&◌, ◌||◌}
use mathlib.Core.List.{List}
use Prim.Native.Nat.{ℕ, ◌+◌, ◌*◌, ◌/◌, ◌%◌, ◌≤◌, ◌<◌}
use native.Mathlib.Nat.{mul-le-mul_right, suc-mul, mul-add-div_right, div-eq_of_lt, mul-add-mod_self_right, mod-eq_of_lt, mod-lt, div-lt_iff_lt-mul}
use native.Mathlib.Decide.{dec_lt}
use native.Mathlib.Omega.{arith}
use lib.Dec.{ltb, eqb}
use lib.IntN.{ℤ}
use lib.ListN.{length, get_or, get_or-eq_default}
use borrow.Author.Tests.{lt-ltb, le-ltb, ltb-false, eqb-true, not-false}
use Rattle.definition.specs.Rows.{tab}
use Rattle.definition.specs.Blocks.{side}
use Rattle.definition.specs.Limits.{plane_side_limit, unit_size_limit, scratch_rows}
use Rattle.definition.specs.Refusals.{sized, plane_checks, plane_status}
use Rattle.laws.proofs.Lists.{tab_cong, length_tab, get_or-tab}
use Rattle.laws.proofs.Inside.{is-sized}
use Rattle.laws.proofs.Passes.{not_both}
use Rattle.laws.proofs.Checks.{clear}
use Rattle.definition.specs.Planes.{final_in, unit_number, plane_after, plane_restored, skip_numbers}
use Rattle.plane_laws.proofs.Order.{UnitsDone, Grid}
use Rattle.plane_laws.proofs.Walk.{AllHeld, one_answer}

-- the row and the column of a place
module _ (W r c : ℕ) (hc : c < W) where
  row_of : (r * W + c) / W ≡ r
  row_of = mul-add-div_right {m = W} (omega arith) r c ∙ omega (arith, div-eq_of_lt {n = c} {m = W} hc)

  column_of : (r * W + c) % W ≡ c
  column_of = mul-add-mod_self_right r W c ∙ mod-eq_of_lt {n = c} {m = W} hc

  place_in : (H : ℕ) → r < H → r * W + c < H * W
  place_in H h = omega (arith, mul-le-mul_right W h, suc-mul r W)

module _ (W H : ℕ) (p0 skip : List ℕ) (filter : List ℤ) (some : 1 ≤ W) (long : H * W ≤ length p0) where
  -- the list is a plane after its first k units, and the only one
  pub is-after : (u k : ℕ) → UnitsDone W H u k p0 skip filter (plane_after W H u k p0 skip filter)
  unfolding plane_after
  is-after u k =
      let f : ℕ → ℕ = λ i. cond (ltb i (H * W) && ltb (unit_number W u (i / W) (i % W)) k) (final_in W H p0 skip filter (i / W) (i % W)) (get_or p0 i 0) in
      record {
        size = length_tab (length p0) f;
        here = λ r c hr hc.
            let n : r * W + c < H * W = place_in W r c hc H hr in
            get_or-tab (length p0) f (r * W + c) (omega arith) ∙
            (rw (lt-ltb (r * W + c) (H * W) n)
            (λ t. cond (ltb (unit_number W u (row_of W r c hc t) (column_of W r c hc t)) k) (final_in W H p0 skip filter (row_of W r c hc t) (column_of W r c hc t)) (get_or p0 (r * W + c) 0)));
        behind = λ i h.
            elim (dec_lt i (length p0)) [
              | yes lt ↦ get_or-tab (length p0) f i lt ∙ rw (le-ltb i (H * W) h)
              | no ge ↦ get_or-eq_default (tab (length p0) f) 0 (rw (length_tab (length p0) f) (omega arith)) ∙ sym (get_or-eq_default p0 0 (omega arith))
            ];
      }

  pub after_is : (u k : ℕ) (p : List ℕ) → UnitsDone W H u k p0 skip filter p → p ≡ plane_after W H u k p0 skip filter
  after_is u k p a = one_answer W H p0 skip filter u k some p (plane_after W H u k p0 skip filter) a (is-after u k)

  -- WITH ALL UNITS DONE it is the restored plane, whatever the unit size
  pub all-restored : (u k : ℕ) → AllHeld W H u k → plane_after W H u k p0 skip filter ≡ plane_restored W H p0 skip filter
  unfolding plane_after plane_restored
  all-restored u k h =
      tab_cong (length p0) _ _
      (λ i l.
      elim (dec_lt i (H * W)) [
        | yes lt ↦ rw (lt-ltb i (H * W) lt, lt-ltb (unit_number W u (i / W) (i % W)) k (h (i / W) (i % W) ((div-lt_iff_lt-mul {k = W} {x = i} {y = H} some).1 lt) (mod-lt i {m = W} some)))
        | no ge ↦ rw (le-ltb i (H * W) (omega arith))
      ])

-- WHAT A STATUS OF 0 SAYS
pub record PlaneFine (W H u plane skip filter scratch : ℕ) : Type 0 where
  pub grid : Grid W H u
  pub wide : W ≤ plane_side_limit
  pub high : H ≤ plane_side_limit
  pub unit : u ≤ unit_size_limit
  pub room : H * W ≤ plane
  pub masks : H / 4 * skip_numbers W ≤ skip
  pub taps : filter ≡ 16
  pub banks : scratch_rows * W ≤ scratch

pub plane_fine : (W H u plane skip filter scratch : ℕ) → plane_status W H u plane skip filter scratch ≡ 0 → PlaneFine W H u plane skip filter scratch
unfolding plane_status
plane_fine W H u plane skip filter scratch z =
    let c = clear (plane_checks W H u plane skip filter scratch) tt z in
    let d = not_both (not (sized plane_side_limit W) || not (sized plane_side_limit H)) (not (sized unit_size_limit u)) c.0 in
    let e = not_both (not (sized plane_side_limit W)) (not (sized plane_side_limit H)) d.0 in
    let w = is-sized plane_side_limit W (not-false _ e.0) in
    let h = is-sized plane_side_limit H (not-false _ e.1) in
    let s = is-sized unit_size_limit u (not-false _ d.1) in
    record {
      grid = record { some_w = omega (arith, w.low); some_h = omega (arith, h.low); some_u = omega (arith, s.low); four_w = w.fours; four_h = h.fours; four_u = s.fours };
      wide = w.high;
      high = h.high;
      unit = s.high;
      room = ltb-false plane (H * W) c.1.0;
      masks = ltb-false skip (H / side * skip_numbers W) c.1.1.0;
      taps = eqb-true filter 16 (not-false (eqb filter 16) c.1.1.1.0);
      banks = ltb-false scratch (scratch_rows * W) c.1.1.1.1.0;
    }
