-- THE FINAL SAMPLE of a unit of a plane is the plane's, where the unit's masks are the plane's skip bits.
use mathlib.Core.Path.{◌≡◌, refl, sym, ◌∙◌, ap}
use mathlib.Core.Bool.{cond}
use mathlib.Core.List.{List}
use Prim.Native.Nat.{ℕ, ◌+◌, ◌*◌, ◌/◌, ◌≤◌, ◌<◌}
use native.Mathlib.Omega.{arith}
use lib.IntN.{pos, ◌+ℤ◌, +ℤ_assoc}
use lib.ListN.{get_or}
use Rattle.definition.specs.Numbers.{bit_set}
use Rattle.definition.specs.Blocks.{side, mask_at, masked}
use Rattle.definition.specs.Sample.{limit8, luma_sample}
use Rattle.definition.specs.declared.Operation.TheVariants.{Luma}
use Rattle.definition.specs.declared.Given.{Given}
use Rattle.definition.specs.Units.{Lent, around, set_of, class_of, plane_row, restored, final_sample}
use Rattle.definition.specs.Planes.{sample_in, padded_in, around_in, skip_bit, final_in}
use Rattle.plane_laws.proofs.Cut.{unit_mask}
use Rattle.laws.proofs.Agree.{Agree, luma-agree}
use Rattle.plane_laws.proofs.Masks.{mask_bit}
use Rattle.plane_laws.proofs.Unit.{Cut, Saved, Untouched, near-at_most, plane_on, unit-sample}

-- the unit's masks are the plane's skip bits
abbrev pub Masks : ℕ → ℕ → ℕ → Given → Lent → List ℕ → Type 0
Masks W y0 x0 g l skip = (y x : ℕ) → y < g.h → x < g.w → masked (mask_at l.skip y) (x / side) ≡ skip_bit W skip ((y0 + y) / side) ((x0 + x) / side)

-- a skip list of the unit, four numbers a block row of which the first is used, each the mask of its blocks; the plane's numbers are u16
pub gathered-masks : (W H y0 x0 b : ℕ) (g : Given) (l : Lent) (skip : List ℕ) → Cut W H y0 x0 b g → g.w ≤ 64 → ((i : ℕ) → get_or skip i 0 < 65536) →
    ((j : ℕ) → j < g.h / 4 → get_or l.skip (4 * j) 0 ≡ unit_mask W skip (g.w / 4) (y0 / 4 + j) (x0 / 4)) → Masks W y0 x0 g l skip
gathered-masks W H y0 x0 b g l skip u narrow small is y x hy hx =
    let j : y / 4 < g.h / 4 = omega (arith, u.fourh) in
    let by : y0 / 4 + y / 4 ≡ (y0 + y) / 4 = omega (arith, u.four_y) in
    let bx : x0 / 4 + x / 4 ≡ (x0 + x) / 4 = omega (arith, u.four_x) in
    ap (λ (m : ℕ). bit_set m (x / 4)) (is (y / 4) j) ∙
    (mask_bit W skip (g.w / 4) (y0 / 4 + y / 4) (x0 / 4) (x / 4) (small _) (omega arith) (omega (arith, u.fourw)) ∙ (λ i. skip_bit W skip (by i) (bx i)))

module _ (W H y0 x0 b : ℕ) (g : Given) (l : Lent) (p0 p : List ℕ) (u : Cut W H y0 x0 b g) (s : Saved W y0 x0 b g l p0) (f : Untouched W H y0 x0 g.w g.h p0 p) where
  unit-around : (y x : ℕ) → y < g.h → x < g.w → Agree 4 (around Luma g l p y x) (around_in W H p0 (y0 + y) (x0 + x))
  unit-around y x hy hx dy dx ny nx =
      unit-sample W H y0 x0 b g l p0 p u s f (pos y +ℤ dy) (pos x +ℤ dx) (near-at_most g.h y dy hy ny) (near-at_most g.w x dx hx nx) ∙
      (λ i. padded_in W H p0 (sym (+ℤ_assoc (pos y0) (pos y) dy) i) (sym (+ℤ_assoc (pos x0) (pos x) dx) i))

  -- what the filter gives, whatever the class
  pub unit-restored : (cls y x : ℕ) → y < g.h → x < g.w → restored limit8 g l p Luma cls y x ≡ luma_sample limit8 (around_in W H p0 (y0 + y) (x0 + x)) (set_of Luma l.filters 0)
  unit-restored cls y x hy hx = luma-agree limit8 (around Luma g l p y x) (around_in W H p0 (y0 + y) (x0 + x)) (set_of Luma l.filters 0) (set_of Luma l.filters 0) (unit-around y x hy hx) (λ k h. refl)

  -- what a masked block keeps
  pub unit_kept : (y x : ℕ) → y < g.h → x < g.w → plane_row Luma g l p y (pos x) ≡ sample_in W p0 (y0 + y) (x0 + x)
  unit_kept y x hy hx =
      plane_on W H y0 x0 b g l p0 p u s f y x ∙ f.own (y0 + y) (x0 + x) (omega arith) (omega arith) (omega arith) (omega arith) (omega (arith, u.far))

  -- THE LAW
  pub unit-final : (skip : List ℕ) → Masks W y0 x0 g l skip → (y x : ℕ) → y < g.h → x < g.w → final_sample g l p Luma y x ≡ final_in W H p0 skip l.filters (y0 + y) (x0 + x)
  unfolding final_sample final_in
  unit-final skip m y x hy hx = λ i. cond (m y x hy hx i) (unit_kept y x hy hx i) (unit-restored (class_of Luma g l p (x / side) (y / side)) y x hy hx i)
