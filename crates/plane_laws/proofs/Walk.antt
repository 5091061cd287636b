-- A WALK OF UNITS over a plane: what unit k is opened with, that its result is the plane after the first k + 1 units, and that the first k units
-- fix every byte.
use mathlib.Core.Path.{◌≡◌, refl, sym, ◌∙◌, ap}
use mathlib.Core.Bool.{Bool, true, false, cond}
use mathlib.Core.Logic.{◌≢◌}
use mathlib.Core.List.{List}
use Prim.Native.Nat.{ℕ, suc, ◌+◌, ◌-◌, ◌*◌, ◌/◌, ◌%◌, ◌≤◌, ◌<◌, min}
use native.Mathlib.Nat.{mul-le-mul_right, suc-mul, add-mul, mod-lt, div-add-mod', div-lt_iff_lt-mul}
use native.Mathlib.Decide.{dec_lt}
use native.Mathlib.Omega.{arith}
use lib.Dec.{ltb}
use lib.IntN.{ℤ}
use lib.ListN.{length, get_or}
use lib.Seq.{ext_get_or}
use borrow.Author.Tests.{lt-ltb, le-ltb}
use Rattle.definition.specs.Padding.{has_left, has_right, has_top, has_bottom, top_integrated, bottom_integrated}
use Rattle.definition.specs.declared.Operation.TheVariants.{Luma}
use Rattle.definition.specs.declared.Given.{Given}
use Rattle.definition.specs.Units.{Lent, final_sample}
use Rattle.definition.specs.Planes.{sample_in, final_in, across, unit_number}
use Rattle.plane_laws.proofs.Cut.{edges_of, unit_edges}
use Rattle.plane_laws.proofs.Unit.{Cut, Saved, Untouched}
use Rattle.plane_laws.proofs.Final.{Masks, unit-final}
use Rattle.plane_laws.proofs.Order.{UnitsDone, Grid, Position, below_div, across_reach, in_width, held-above, held_below, held-left, held_in, held-right, untouched}

-- THE EDGE BITS
pub record Bits (edges : ℕ) (left right top bottom : Bool) : Type 0 where
  pub left_bit : has_left edges ≡ left
  pub right_bit : has_right edges ≡ right
  pub top_bit : top_integrated edges ≡ top
  pub bottom_bit : bottom_integrated edges ≡ bottom
  pub no_top : has_top edges ≡ false
  pub no_bottom : has_bottom edges ≡ false

pub edge_bits : (left right top bottom : Bool) → Bits (edges_of left right top bottom) left right top bottom
edge_bits false false false false = record { left_bit = refl; right_bit = refl; top_bit = refl; bottom_bit = refl; no_top = refl; no_bottom = refl }
edge_bits false false false true = record { left_bit = refl; right_bit = refl; top_bit = refl; bottom_bit = refl; no_top = refl; no_bottom = refl }
edge_bits false false true false = record { left_bit = refl; right_bit = refl; top_bit = refl; bottom_bit = refl; no_top = refl; no_bottom = refl }
edge_bits false false true true = record { left_bit = refl; right_bit = refl; top_bit = refl; bottom_bit = refl; no_top = refl; no_bottom = refl }
edge_bits false true false false = record { left_bit = refl; right_bit = refl; top_bit = refl; bottom_bit = refl; no_top = refl; no_bottom = refl }
edge_bits false true false true = record { left_bit = refl; right_bit = refl; top_bit = refl; bottom_bit = refl; no_top = refl; no_bottom = refl }
edge_bits false true true false = record { left_bit = refl; right_bit = refl; top_bit = refl; bottom_bit = refl; no_top = refl; no_bottom = refl }
edge_bits false true true true = record { left_bit = refl; right_bit = refl; top_bit = refl; bottom_bit = refl; no_top = refl; no_bottom = refl }
edge_bits true false false false = record { left_bit = refl; right_bit = refl; top_bit = refl; bottom_bit = refl; no_top = refl; no_bottom = refl }
edge_bits true false false true = record { left_bit = refl; right_bit = refl; top_bit = refl; bottom_bit = refl; no_top = refl; no_bottom = refl }
edge_bits true false true false = record { left_bit = refl; right_bit = refl; top_bit = refl; bottom_bit = refl; no_top = refl; no_bottom = refl }
edge_bits true false true true = record { left_bit = refl; right_bit = refl; top_bit = refl; bottom_bit = refl; no_top = refl; no_bottom = refl }
edge_bits true true false false = record { left_bit = refl; right_bit = refl; top_bit = refl; bottom_bit = refl; no_top = refl; no_bottom = refl }
edge_bits true true false true = record { left_bit = refl; right_bit = refl; top_bit = refl; bottom_bit = refl; no_top = refl; no_bottom = refl }
edge_bits true true true false = record { left_bit = refl; right_bit = refl; top_bit = refl; bottom_bit = refl; no_top = refl; no_bottom = refl }
edge_bits true true true true = record { left_bit = refl; right_bit = refl; top_bit = refl; bottom_bit = refl; no_top = refl; no_bottom = refl }

-- what unit k is opened with
pub cut_at : (W H u : ℕ) → Grid W H u → (k y0 x0 : ℕ) → Position W u k y0 x0 → y0 < H → (b : ℕ) (g : Given) → g.w ≡ min u (W - x0) → g.h ≡ min u (H - y0) →
    g.edges ≡ unit_edges W H y0 x0 g.w g.h → g.stride ≡ W → g.off ≡ y0 * W + x0 → g.top_off ≡ b + x0 → Cut W H y0 x0 b g
cut_at W H u grid k y0 x0 at hy b g ew eh ee es eo et =
    let hx = in_width W H u grid k y0 x0 at in
    let bits : Bits g.edges (ltb 0 x0) (ltb (x0 + g.w) W) (ltb 0 y0) (ltb (y0 + g.h) H) = rw ee (edge_bits (ltb 0 x0) (ltb (x0 + g.w) W) (ltb 0 y0) (ltb (y0 + g.h) H)) in
    record {
      tall = omega (arith, grid.some_u);
      wide = omega (arith, grid.some_u);
      low = omega arith;
      far = omega arith;
      four_w = grid.four_w;
      four_h = grid.four_h;
      four_y = at.four_y;
      four_x = at.four_x;
      fourw = omega (arith, grid.four_u, grid.four_w, at.four_x);
      fourh = omega (arith, grid.four_u, grid.four_h, at.four_y);
      left_bit = bits.left_bit;
      right_bit = bits.right_bit;
      top_bit = bits.top_bit;
      bottom_bit = bits.bottom_bit;
      no_top = bits.no_top;
      no_bottom = bits.no_bottom;
      stride_is = es;
      off_is = eo;
      top_off_is = et;
    }

-- A PLANE IN WHICH A RECTANGLE WAS WRITTEN, and nothing else: what a whole unit leaves
pub record Written (off stride w h : ℕ) (f : ℕ → ℕ → ℕ) (p q : List ℕ) : Type 0 where
  pub size : length q ≡ length p
  pub here : (y x : ℕ) → y < h → x < w → get_or q (off + y * stride + x) 0 ≡ f y x
  pub other : (i : ℕ) → ((y x : ℕ) → y < h → x < w → i ≢ off + y * stride + x) → get_or q i 0 ≡ get_or p i 0

apart : (W r c r' c' : ℕ) → c < W → c' < W → r * W + c ≡ r' * W + c' → (r ≡ r') × (c ≡ c')
apart W r c r' c' hc hc' e =
    elim (dec_lt r r') [
      | yes lt ↦ absurd (omega (arith, mul-le-mul_right W lt, suc-mul r W))
      | no ge ↦
          elim (dec_lt r' r) [
            | yes lt ↦ absurd (omega (arith, mul-le-mul_right W lt, suc-mul r' W))
            | no ge' ↦
                let d : r ≡ r' = omega arith in
                (d, omega (arith, ap (λ (n : ℕ). n * W) d))
          ]
    ]

module _ (W H y0 x0 b : ℕ) (g : Given) (f : ℕ → ℕ → ℕ) (p q : List ℕ) (u : Cut W H y0 x0 b g) (put : Written g.off g.stride g.w g.h f p q) where
  place : (y x : ℕ) → g.off + y * g.stride + x ≡ (y0 + y) * W + (x0 + x)
  place y x = rw (u.off_is, u.stride_is) (omega (arith, add-mul y0 y W))

  put_in : (y x : ℕ) → y < g.h → x < g.w → sample_in W q (y0 + y) (x0 + x) ≡ f y x
  put_in y x hy hx = ap (λ (i : ℕ). get_or q i 0) (sym (place y x)) ∙ put.here y x hy hx

  put-out : (r c : ℕ) → c < W → ((y x : ℕ) → y < g.h → x < g.w → r ≡ y0 + y → c ≡ x0 + x → ⊥) → sample_in W q r c ≡ sample_in W p r c
  put-out r c hc no_place =
      put.other (r * W + c)
      (λ y x hy hx e.
      let d = apart W r c (y0 + y) (x0 + x) hc (omega (arith, u.far)) (e ∙ place y x) in
      no_place y x hy hx d.0 d.1)

  put-behind : (i : ℕ) → H * W ≤ i → get_or q i 0 ≡ get_or p i 0
  put-behind i h =
      put.other i
      (λ y x hy hx e.
      let l : suc (y0 + y) ≤ H = omega (arith, u.low) in
      omega (arith, e ∙ place y x, mul-le-mul_right W l, suc-mul (y0 + y) W, u.far))

-- THE STEP: unit k, restored over a plane after the first k units
module _ (W H u : ℕ) (grid : Grid W H u) (p0 skip : List ℕ) (filter : List ℤ) (k y0 x0 b : ℕ) (at : Position W u k y0 x0)
    (g : Given) (l : Lent) (ew : g.w ≡ min u (W - x0)) (eh : g.h ≡ min u (H - y0)) (cut : Cut W H y0 x0 b g) (saved : Saved W y0 x0 b g l p0)
    (masks : Masks W y0 x0 g l skip) (taps : l.filters ≡ filter) (p q : List ℕ) (a : UnitsDone W H u k p0 skip filter p)
    (put : Written g.off g.stride g.w g.h (final_sample g l p Luma) p q) where
  abbrev Next : ℕ → ℕ → Type 0
  Next r c = sample_in W q r c ≡ cond (ltb (unit_number W u r c) (k + 1)) (final_in W H p0 skip filter r c) (sample_in W p0 r c)

  -- a sample outside the unit, of a unit before it or behind it
  next_old : (r c : ℕ) → r < H → c < W → sample_in W q r c ≡ sample_in W p r c → k < unit_number W u r c → Next r c
  next_old r c hr hc e n = e ∙ (a.here r c hr hc ∙ rw (le-ltb (unit_number W u r c) k (omega arith), le-ltb (unit_number W u r c) (k + 1) (omega arith)))

  next_new : (r c : ℕ) → r < H → c < W → sample_in W q r c ≡ sample_in W p r c → unit_number W u r c < k → Next r c
  next_new r c hr hc e n = e ∙ (a.here r c hr hc ∙ rw (lt-ltb (unit_number W u r c) k n, lt-ltb (unit_number W u r c) (k + 1) (omega arith)))

  -- a sample of the unit
  next_in : (y x : ℕ) → y < g.h → x < g.w → unit_number W u (y0 + y) (x0 + x) ≡ k → Next (y0 + y) (x0 + x)
  next_in y x hy hx e =
      let fresh : Untouched W H y0 x0 g.w g.h p0 p = untouched W H u grid p0 skip filter k y0 x0 at p a g.w g.h ew eh in
      put_in W H y0 x0 b g (final_sample g l p Luma) p q cut put y x hy hx ∙
      (unit-final W H y0 x0 b g l p0 p cut saved fresh skip masks y x hy hx ∙
      rw (lt-ltb (unit_number W u (y0 + y) (x0 + x)) (k + 1) (omega arith)) (ap (λ (c : List ℤ). final_in W H p0 skip c (y0 + y) (x0 + x)) taps))

  out : (r c : ℕ) → c < W → ((y x : ℕ) → y < g.h → x < g.w → r ≡ y0 + y → c ≡ x0 + x → ⊥) → sample_in W q r c ≡ sample_in W p r c
  out r c hc h = put-out W H y0 x0 b g (final_sample g l p Luma) p q cut put r c hc h

  -- in the unit's row of units
  next-row_in : (r c : ℕ) → r < H → c < W → y0 ≤ r → r < y0 + u → Next r c
  next-row_in r c hr hc lo hi =
      elim (dec_lt c x0) [
        | yes lt ↦ next_new r c hr hc (out r c hc (λ y x hy hx er ec. omega arith)) (held-left W u k y0 x0 grid.some_u at r c hc lo hi lt)
        | no ge ↦
            elim (dec_lt c (x0 + u)) [
              | yes within ↦
                  let dr : y0 + (r - y0) ≡ r = omega arith in
                  let dc : x0 + (c - x0) ≡ c = omega arith in
                  let n : unit_number W u r c ≡ k = held_in W u k y0 x0 grid.some_u at r c hc lo hi (omega arith) within in
                  let m : unit_number W u (y0 + (r - y0)) (x0 + (c - x0)) ≡ k = rw (dr, dc) n in
                  rw (dr, dc) at (next_in (r - y0) (c - x0) (omega arith) (omega arith) m)
              | no past ↦
                  next_old r c hr hc (out r c hc (λ y x hy hx er ec. omega arith)) (held-right W u k y0 x0 grid.some_u at r c hc lo hi (omega arith))
            ]
      ]

  next-at : (r c : ℕ) → r < H → c < W → Next r c
  next-at r c hr hc =
      elim (dec_lt r y0) [
        | yes lt ↦ next_new r c hr hc (out r c hc (λ y x hy hx er ec. omega arith)) (held-above W u k y0 x0 grid.some_u at r c hc lt)
        | no ge ↦
            elim (dec_lt r (y0 + u)) [
              | yes within ↦ next-row_in r c hr hc (omega arith) within
              | no past ↦
                  next_old r c hr hc (out r c hc (λ y x hy hx er ec. omega arith)) (held_below W u k y0 x0 grid.some_u at r c hc (omega arith))
            ]
      ]

  -- THE STEP LAW
  pub unit-step : UnitsDone W H u (k + 1) p0 skip filter q
  unit-step =
      record {
        size = put.size ∙ a.size;
        here = next-at;
        behind = λ n h. put-behind W H y0 x0 b g (final_sample g l p Luma) p q cut put n h ∙ a.behind n h;
      }

-- before the first unit
pub no_units : (W H u : ℕ) (p0 skip : List ℕ) (filter : List ℤ) → UnitsDone W H u 0 p0 skip filter p0
no_units W H u p0 skip filter = record { size = refl; here = λ r c hr hc. rw (le-ltb (unit_number W u r c) 0 (omega arith)); behind = λ i h. refl }

-- ALL UNITS. There are `across H u` rows of them.
abbrev pub AllHeld : ℕ → ℕ → ℕ → ℕ → Type 0
AllHeld W H u k = (r c : ℕ) → r < H → c < W → unit_number W u r c < k

pub all_counted : (W H u k : ℕ) → 1 ≤ u → across H u * across W u ≤ k → AllHeld W H u k
unfolding unit_number
all_counted W H u k h l r c hr hc =
    let dr : r / u < across H u = below_div u r (across H u) h (omega (arith, across_reach H u h)) in
    let dc : c / u < across W u = below_div u c (across W u) h (omega (arith, across_reach W u h)) in
    omega (arith, mul-le-mul_right (across W u) dr, suc-mul (r / u) (across W u))

-- more units than all
pub held_more : (W H u k n : ℕ) → k ≤ n → AllHeld W H u k → AllHeld W H u n
held_more W H u k n l h r c hr hc = omega (arith, h r c hr hc)

-- with all units done: each sample is the plane's final one, whatever the unit size
module _ (W H : ℕ) (p0 skip : List ℕ) (filter : List ℤ) where
  pub all-final : (u k : ℕ) → AllHeld W H u k → (p : List ℕ) → UnitsDone W H u k p0 skip filter p → (r c : ℕ) → r < H → c < W → sample_in W p r c ≡ final_in W H p0 skip filter r c
  all-final u k h p a r c hr hc = a.here r c hr hc ∙ rw (lt-ltb (unit_number W u r c) k (h r c hr hc))

  -- a number of units past all of them does what all of them do
  pub after_more : (u k n : ℕ) → AllHeld W H u k → k ≤ n → (p : List ℕ) → UnitsDone W H u k p0 skip filter p → UnitsDone W H u n p0 skip filter p
  after_more u k n hk l p a =
      record {
        size = a.size;
        here = λ r c hr hc. all-final u k hk p a r c hr hc ∙ rw (lt-ltb (unit_number W u r c) n (held_more W H u k n l hk r c hr hc));
        behind = a.behind;
      }

  -- two planes of one length that agree on every sample and behind are one list
  same-plane : 1 ≤ W → (p q : List ℕ) → length p ≡ length q → ((r c : ℕ) → r < H → c < W → sample_in W p r c ≡ sample_in W q r c) →
      ((i : ℕ) → H * W ≤ i → get_or p i 0 ≡ get_or q i 0) → p ≡ q
  same-plane w p q e here behind =
      ext_get_or 0 p q e
      (λ i h.
      elim (dec_lt i (H * W)) [
        | yes lt ↦
            let d : i / W * W + i % W ≡ i = div-add-mod' i W in
            rw d at (here (i / W) (i % W) ((div-lt_iff_lt-mul {k = W} {x = i} {y = H} w).1 lt) (mod-lt i {m = W} w))
        | no ge ↦ behind i (omega arith)
      ])

  -- THE FIRST k UNITS fix every byte
  pub one_answer : (u k : ℕ) → 1 ≤ W → (p q : List ℕ) → UnitsDone W H u k p0 skip filter p → UnitsDone W H u k p0 skip filter q → p ≡ q
  one_answer u k w p q a b =
      same-plane w p q (a.size ∙ sym b.size) (λ r c hr hc. a.here r c hr hc ∙ sym (b.here r c hr hc)) (λ i h. a.behind i h ∙ sym (b.behind i h))
