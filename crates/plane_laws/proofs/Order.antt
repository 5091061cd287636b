-- THE ORDER OF UNITS: where unit k lies, which samples the units before it hold, and that a plane after the first k units is untouched where unit k reads it.
use mathlib.Core.Path.{◌≡◌, ◌∙◌, ap}
use mathlib.Core.Bool.{cond}
use mathlib.Core.List.{List}
use Prim.Native.Nat.{ℕ, suc, ◌+◌, ◌-◌, ◌*◌, ◌/◌, ◌%◌, ◌≤◌, ◌<◌, min}
use native.Mathlib.Nat.{mul-le-mul_right, suc-mul, add-mul, div-lt_iff_lt-mul, le-div_iff_mul-le, lt-div-mul-add}
use native.Mathlib.Decide.{dec_lt}
use native.Mathlib.Omega.{arith}
use lib.Dec.{ltb}
use lib.IntN.{ℤ}
use lib.ListN.{length, get_or}
use borrow.Author.Tests.{le-ltb}
use Rattle.definition.specs.Planes.{sample_in, final_in, across, unit_number}
use Rattle.plane_laws.proofs.Unit.{Above, Before, Untouched}

-- THE PLANE AFTER ITS FIRST k UNITS, sample by sample
pub record UnitsDone (W H u k : ℕ) (p0 skip : List ℕ) (filter : List ℤ) (p : List ℕ) : Type 0 where
  pub size : length p ≡ length p0
  pub here : (r c : ℕ) → r < H → c < W → sample_in W p r c ≡ cond (ltb (unit_number W u r c) k) (final_in W H p0 skip filter r c) (sample_in W p0 r c)
  pub behind : (i : ℕ) → H * W ≤ i → get_or p i 0 ≡ get_or p0 i 0

-- the sides and the unit size
pub record Grid (W H u : ℕ) : Type 0 where
  pub some_w : 1 ≤ W
  pub some_h : 1 ≤ H
  pub some_u : 1 ≤ u
  pub four_w : W % 4 ≡ 0
  pub four_h : H % 4 ≡ 0
  pub four_u : u % 4 ≡ 0

-- unit k, unit j in row i of units, starts at (y0, x0)
pub record Position (W u k y0 x0 : ℕ) : Type 0 where
  pub i : ℕ
  pub j : ℕ
  pub is_k : k ≡ i * across W u + j
  pub is_y : y0 ≡ i * u
  pub is_x : x0 ≡ j * u
  pub in_row : j < across W u
  pub four_y : y0 % 4 ≡ 0
  pub four_x : x0 % 4 ≡ 0

-- NUMBERS
pub below_div : (u r i : ℕ) → 1 ≤ u → r < i * u → r / u < i
below_div u r i h l = (div-lt_iff_lt-mul {k = u} {x = r} {y = i} h).1 l

from_div : (u r i : ℕ) → 1 ≤ u → i * u ≤ r → i ≤ r / u
from_div u r i h l = (le-div_iff_mul-le {k = u} {x = i} {y = r} h).1 l

-- units side by side reach the plane's end, and the last starts before it
pub across_reach : (W u : ℕ) → 1 ≤ u → W ≤ across W u * u
unfolding across
across_reach W u h = omega (arith, lt-div-mul-add {a = W + u - 1} {b = u} h)

pub across-last : (W u j : ℕ) → 1 ≤ u → j < across W u → j * u < W
unfolding across
across-last W u j h l =
    let t : suc j * u ≤ W + u - 1 = (le-div_iff_mul-le {k = u} {x = suc j} {y = W + u - 1} h).0 l in
    omega (arith, suc-mul j u)

-- WHICH UNIT HOLDS (r, c), by where it lies
module _ (W u k y0 x0 : ℕ) (h : 1 ≤ u) (at : Position W u k y0 x0) (r c : ℕ) (hc : c < W) where
  in_across : c / u < across W u
  in_across = below_div u c (across W u) h (omega (arith, across_reach W u h))

  -- above the unit's row of units
  pub held-above : r < y0 → unit_number W u r c < k
  unfolding unit_number
  held-above l =
      let d : r / u < at.i = below_div u r at.i h (omega (arith, at.is_y)) in
      omega (arith, mul-le-mul_right (across W u) d, suc-mul (r / u) (across W u), in_across, at.is_k)

  -- below it
  pub held_below : y0 + u ≤ r → k < unit_number W u r c
  unfolding unit_number
  held_below l =
      let d : suc at.i ≤ r / u = from_div u r (suc at.i) h (omega (arith, at.is_y, suc-mul at.i u)) in
      omega (arith, mul-le-mul_right (across W u) d, suc-mul at.i (across W u), at.is_k, at.in_row)

  module _ (lo : y0 ≤ r) (hi : r < y0 + u) where
    row_is : r / u ≡ at.i
    row_is =
        let a : at.i ≤ r / u = from_div u r at.i h (omega (arith, at.is_y)) in
        let b : r / u < suc at.i = below_div u r (suc at.i) h (omega (arith, at.is_y, suc-mul at.i u)) in
        omega arith

    row_base : r / u * across W u ≡ at.i * across W u
    row_base = ap (λ (n : ℕ). n * across W u) row_is

    -- left of the unit, in it, right of it
    pub held-left : c < x0 → unit_number W u r c < k
    unfolding unit_number
    held-left l =
        let d : c / u < at.j = below_div u c at.j h (omega (arith, at.is_x)) in
        omega (arith, row_base, at.is_k)

    pub held_in : x0 ≤ c → c < x0 + u → unit_number W u r c ≡ k
    unfolding unit_number
    held_in a b =
        let d : at.j ≤ c / u = from_div u c at.j h (omega (arith, at.is_x)) in
        let e : c / u < suc at.j = below_div u c (suc at.j) h (omega (arith, at.is_x, suc-mul at.j u)) in
        omega (arith, row_base, at.is_k)

    pub held-right : x0 + u ≤ c → k < unit_number W u r c
    unfolding unit_number
    held-right a =
        let d : suc at.j ≤ c / u = from_div u c (suc at.j) h (omega (arith, at.is_x, suc-mul at.j u)) in
        omega (arith, row_base, at.is_k)

-- THE WALK over positions: the first unit, the next one in the row, the first of the next row
module _ (W H u : ℕ) (grid : Grid W H u) where
  across-some : 0 < across W u
  unfolding across
  across-some = from_div u (W + u - 1) 1 grid.some_u (omega (arith, grid.some_w, grid.some_u))

  pub first-unit : Position W u 0 0 0
  first-unit = record { i = 0; j = 0; is_k = omega arith; is_y = omega arith; is_x = omega arith; in_row = across-some; four_y = omega arith; four_x = omega arith }

  module _ (k y0 x0 : ℕ) (at : Position W u k y0 x0) where
    pub next-unit : x0 + u < W → Position W u (k + 1) y0 (x0 + u)
    next-unit l =
        record {
          i = at.i;
          j = at.j + 1;
          is_k = omega (arith, at.is_k);
          is_y = at.is_y;
          is_x = omega (arith, at.is_x, add-mul at.j 1 u);
          in_row =
              elim (dec_lt (at.j + 1) (across W u)) [
                | yes lt ↦ lt
                | no ge ↦
                    let d : across W u ≤ at.j + 1 = omega arith in
                    absurd (omega (arith, mul-le-mul_right u d, across_reach W u grid.some_u, add-mul at.j 1 u, at.is_x))
              ];
          four_y = at.four_y;
          four_x = omega (arith, at.four_x, grid.four_u);
        }

    pub next_row : W ≤ x0 + u → Position W u (k + 1) (y0 + u) 0
    next_row l =
        let d : across W u ≡ at.j + 1 =
        elim (dec_lt (at.j + 1) (across W u)) [
          | yes lt ↦ absurd (omega (arith, across-last W u (at.j + 1) grid.some_u lt, add-mul at.j 1 u, at.is_x))
          | no ge ↦ omega (arith, at.in_row)
        ] in
        record {
          i = at.i + 1;
          j = 0;
          is_k = omega (arith, at.is_k, add-mul at.i 1 (across W u));
          is_y = omega (arith, at.is_y, add-mul at.i 1 u);
          is_x = omega arith;
          in_row = across-some;
          four_y = omega (arith, at.four_y, grid.four_u);
          four_x = omega arith;
        }

    pub in_width : x0 < W
    in_width = omega (arith, across-last W u at.j grid.some_u at.in_row, at.is_x)

-- A PLANE AFTER THE FIRST k UNITS, where unit k lies at (y0, x0)
module _ (W H u : ℕ) (grid : Grid W H u) (p0 skip : List ℕ) (filter : List ℤ) (k y0 x0 : ℕ) (at : Position W u k y0 x0)
    (p : List ℕ) (a : UnitsDone W H u k p0 skip filter p) where
  old_at : (r c : ℕ) → r < H → c < W → k ≤ unit_number W u r c → sample_in W p r c ≡ sample_in W p0 r c
  old_at r c hr hc l = a.here r c hr hc ∙ rw (le-ltb (unit_number W u r c) k l)

  -- in its row of units, from its first column on; and below that row
  pub old_beside : (r c : ℕ) → r < H → c < W → y0 ≤ r → r < y0 + u → x0 ≤ c → sample_in W p r c ≡ sample_in W p0 r c
  old_beside r c hr hc lo hi l =
      elim (dec_lt c (x0 + u)) [
        | yes lt ↦ old_at r c hr hc (omega (arith, held_in W u k y0 x0 grid.some_u at r c hc lo hi l lt))
        | no ge ↦ old_at r c hr hc (omega (arith, held-right W u k y0 x0 grid.some_u at r c hc lo hi (omega arith)))
      ]

  pub old_below : (r c : ℕ) → r < H → c < W → y0 + u ≤ r → sample_in W p r c ≡ sample_in W p0 r c
  old_below r c hr hc l = old_at r c hr hc (omega (arith, held_below W u k y0 x0 grid.some_u at r c hc l))

  -- THE HYPOTHESIS OF THE UNIT LAW
  pub untouched : (w h : ℕ) → w ≡ min u (W - x0) → h ≡ min u (H - y0) → Untouched W H y0 x0 w h p0 p
  untouched w h ew eh =
      record {
        own = λ r c lo hi l m hc. old_beside r c (omega arith) hc lo (omega arith) l;
        below = λ r c lo hi hr l m hc. old_below r c hr hc (omega arith);
      }

  -- WHAT IS SAVED of the plane before unit k is restored. At the first unit of a row: the last four rows of that row of units, which stand above the next.
  pub save_rows : (b : ℕ) → x0 ≡ 0 → y0 + u < H → (rows : List ℕ) → Above W b (y0 + u) p rows → Above W b (y0 + u) p0 rows
  save_rows b z l rows is n c hn hc =
      let f = grid.four_u in
      let s = grid.some_u in
      is n c hn hc ∙ old_beside (y0 + u - 4 + n) c (omega arith) hc (omega arith) (omega arith) (omega arith)

  -- At any unit: its last four columns, which stand before the next.
  pub save_columns : x0 + u < W → (left : List ℕ) → Before W y0 (x0 + u) (min u (H - y0)) p left → Before W y0 (x0 + u) (min u (H - y0)) p0 left
  save_columns l left is r n hr hn =
      let f = grid.four_u in
      let s = grid.some_u in
      is r n hr hn ∙ old_beside (y0 + r) (x0 + u - 4 + n) (omega arith) (omega arith) (omega arith) (omega arith) (omega arith)
