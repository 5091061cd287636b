-- THE WALK over a plane's units: what holds before unit k is restored (`Reached`), that one unit more keeps it, and what it says at the end.
use mathlib.Core.Path.{◌≡◌, refl, sym, ◌∙◌, ap}
use mathlib.Core.Bool.{cond}
use mathlib.Core.Logic.{◌⊎◌, inl, inr, ⊎_elim}
use mathlib.Core.List.{List, []}
use Prim.Native.Nat.{ℕ, ◌+◌, ◌-◌, ◌*◌, ◌/◌, ◌≤◌, ◌<◌, min}
use native.Mathlib.Nat.{mul-le-mul_right, suc-mul, add-mul, mul-le-mul}
use native.Mathlib.Decide.{dec_lt}
use native.Mathlib.Omega.{arith}
use lib.Dec.{eqb}
use lib.IntN.{ℤ}
use lib.ListN.{length, get_or}
use lib.Seq.{sets, length-sets}
use borrow.Author.Tests.{eq-eqb, ne_eqb}
use Rattle.definition.specs.declared.Operation.TheVariants.{Luma}
use Rattle.definition.specs.declared.Given.{Given}
use Rattle.definition.specs.Rows.{tab}
use Rattle.definition.specs.Blocks.{side}
use Rattle.definition.specs.Limits.{plane_side_limit, unit_size_limit}
use Rattle.definition.specs.Units.{Lent}
use Rattle.definition.specs.Planes.{unit_count, across, plane_after, plane_pieces}
use Rattle.definition.specs.Calls.{luma_lent}
use Rattle.definition.specs.Refusals.{open_status}
use Rattle.laws.proofs.Lists.{length_tab, get_or-tab, sets_in, sets_other}
use Rattle.plane_laws.proofs.Cut.{Lies, unit_given, unit_mask}
use Rattle.plane_laws.proofs.Unit.{Cut, Above, Before, Saved}
use Rattle.plane_laws.proofs.Final.{Masks, gathered-masks}
use Rattle.plane_laws.proofs.Order.{UnitsDone, Position, first-unit, next-unit, next_row, in_width, across-last, save_rows, save_columns}
use Rattle.plane_laws.proofs.Walk.{AllHeld, cut_at, unit-step, no_units, all_counted, after_more}
use Rattle.plane_laws.proofs.Admit.{Room, unit_admitted}
use Rattle.plane_laws.proofs.Pieces.{unit-pieces, no_pieces, every-size-pieces, pieces_most}
use Rattle.plane_laws.proofs.Answers.{PlaneFine, after_is}
use Rattle.whole.specs.Whole.{Whole}
use Rattle.whole.specs.declared.Restored.{Restored}

-- Unit k lies at (y, x). The four rows above it stand in scratch from `bank` on, and those above the next row of units in the other bank once the present row is begun;
-- the four columns before it stand in the list. All of them are untouched.
pub record Reached (W H u : ℕ) (p0 skip : List ℕ) (filter : List ℤ) (size k y x bank pieces : ℕ) (p s left : List ℕ) : Type 0 where
  pub at : Position W u k y x
  pub done : UnitsDone W H u k p0 skip filter p
  pub counted : pieces ≡ plane_pieces W H u k skip
  pub banks : (bank ≡ 0) ⊎ (bank ≡ 4 * W)
  pub above : 0 < y → y < H → Above W bank y p0 s
  pub ahead : 0 < x → y + u < H → Above W (4 * W - bank) (y + u) p0 s
  pub before : 0 < x → Before W y x (min u (H - y)) p0 left
  pub scratch : length s ≡ size
  pub list : length left ≡ 6 * unit_size_limit

module _ (W H u : ℕ) (p0 skip : List ℕ) (filter : List ℤ) (size : ℕ) (fine : PlaneFine W H u (length p0) (length skip) (length filter) size) where
  -- before the first unit
  pub start : (s left : List ℕ) → length s ≡ size → length left ≡ 6 * unit_size_limit → Reached W H u p0 skip filter size 0 0 0 0 0 p0 s left
  start s left es el =
      record {
        at = first-unit W H u fine.grid;
        done = no_units W H u p0 skip filter;
        counted = sym (no_pieces W H u skip);
        banks = inl refl;
        above = λ z. absurd (omega arith);
        ahead = λ z. absurd (omega arith);
        before = λ z. absurd (omega arith);
        scratch = es;
        list = el;
      }

  -- after the last
  pub ended : (count k y x bank pieces : ℕ) (p s left : List ℕ) → Reached W H u p0 skip filter size k y x bank pieces p s left → k ≡ min count (unit_count W H u) →
      (pieces ≡ plane_pieces W H u count skip) × (p ≡ plane_after W H u count p0 skip filter)
  ended count k y x bank pieces p s left here e =
      let g = fine.grid in
      elim (dec_lt (unit_count W H u) count) [
        | yes more ↦
            let all : AllHeld W H u k = all_counted W H u k g.some_u (omega arith) in
            let all' : AllHeld W H u count = all_counted W H u count g.some_u (omega arith) in (
              here.counted ∙ every-size-pieces W H u k u count skip all all',
              after_is W H p0 skip filter g.some_w fine.room u count p (after_more W H p0 skip filter u k count all (omega arith) p here.done),
            )
        | no fewer ↦
            let c : k ≡ count = omega arith in
            (rw c at here.counted, after_is W H p0 skip filter g.some_w fine.room u count p (rw c at here.done))
      ]

  module _ (k y x bank pieces : ℕ) (p s left : List ℕ) (here : Reached W H u p0 skip filter size k y x bank pieces p s left) (more : k < unit_count W H u) where
    abbrev at : Position W u k y x
    at = here.at

    -- the unit lies in the plane
    pub in_height : y < H
    in_height =
        let i : at.i < across H u =
        elim (dec_lt at.i (across H u)) [
          | yes lt ↦ lt
          | no ge ↦
              let d : across H u ≤ at.i = omega arith in
              absurd (omega (arith, mul-le-mul_right (across W u) d, at.is_k))
        ] in
        omega (arith, across-last H u at.i fine.grid.some_u i, at.is_y)

    pub in_row : x < W
    in_row = in_width W H u fine.grid k y x at

    pub lies : Lies W H y x (min u (W - x)) (min u (H - y))
    lies =
        let g = fine.grid in
        record {
          wide = fine.wide;
          high = fine.high;
          far = omega (arith, in_row);
          low = omega (arith, in_height);
          some_w = omega (arith, in_row, at.four_x, g.four_w, g.four_u, g.some_u);
          some_h = omega (arith, in_height, at.four_y, g.four_h, g.four_u, g.some_u);
          narrow = omega (arith, fine.unit);
          short = omega (arith, fine.unit);
        }

    pub bank_low : bank ≤ 4 * W
    bank_low = ⊎_elim (λ e. omega arith) (λ e. omega arith) here.banks

    -- ONE UNIT MORE: what was saved before it, s' and `next`, its masks, and the whole unit's promise
    module _ (small : (n : ℕ) → get_or skip n 0 < 65536) (s' next masks q : List ℕ) (r : Restored)
        (saved : s' ≡ cond (eqb x 0) (sets s (4 * W - bank) (tab (4 * W) (λ j. get_or p ((y + min u (H - y) - 4) * W + j) 0))) s)
        (listed : (length next ≡ 6 * unit_size_limit) × (4 ≤ x + min u (W - x) → Before W y (x + min u (W - x)) (min u (H - y)) p next))
        (gathered : (length masks ≡ unit_size_limit) × ((j : ℕ) → j < min u (H - y) / side → get_or masks (4 * j) 0 ≡ unit_mask W skip (min u (W - x) / side) (y / side + j) (x / side)))
        (whole : Whole Luma r (unit_given W H y x (min u (W - x)) (min u (H - y)) bank) (luma_lent left s' [] filter masks) p q) where
      abbrev n : Given
      n = unit_given W H y x (min u (W - x)) (min u (H - y)) bank

      abbrev l : Lent
      l = luma_lent left s' [] filter masks

      abbrev rows : List ℕ
      rows = tab (4 * W) (λ j. get_or p ((y + min u (H - y) - 4) * W + j) 0)

      -- scratch keeps its length, and all but the bank that is filled
      size_is : length s' ≡ size
      size_is =
          elim (dec_lt 0 x) [
            | yes lt ↦ ap length saved ∙ rw (ne_eqb x 0 (omega arith)) here.scratch
            | no ge ↦ ap length saved ∙ rw (eq-eqb x 0 (omega arith)) (length-sets s (4 * W - bank) rows ∙ here.scratch)
          ]

      kept_at : (i : ℕ) → ((c : ℕ) → c < 4 * W → i ≡ 4 * W - bank + c → ⊥) → get_or s' i 0 ≡ get_or s i 0
      kept_at i out =
          elim (dec_lt 0 x) [
            | yes lt ↦ ap (λ (z : List ℕ). get_or z i 0) saved ∙ rw (ne_eqb x 0 (omega arith))
            | no ge ↦
                ap (λ (z : List ℕ). get_or z i 0) saved ∙
                rw (eq-eqb x 0 (omega arith)) (sets_other s rows (4 * W - bank) (4 * W) i (length_tab (4 * W) (λ j. get_or p ((y + min u (H - y) - 4) * W + j) 0)) out)
          ]

      in_bank : (j c : ℕ) → j < 4 → c < W → j * W + c < 4 * W
      in_bank j c hj hc = omega (arith, mul-le-mul_right W hj, suc-mul j W)

      above_still : 0 < y → Above W bank y p0 s'
      above_still z j c hj hc =
          kept_at (bank + j * W + c) (λ d hd e. ⊎_elim (λ b. omega (arith, in_bank j c hj hc)) (λ b. omega (arith, in_bank j c hj hc)) here.banks) ∙
          here.above z in_height j c hj hc

      -- the rows that are saved at the first unit of a row
      fresh : x ≡ 0 → y + u < H → Above W (4 * W - bank) (y + u) p s'
      fresh z low j c hj hc =
          let d : 4 * W - bank + j * W + c ≡ 4 * W - bank + (j * W + c) = omega arith in
          let h : min u (H - y) ≡ u = omega arith in
          let i : (y + u - 4) * W + (j * W + c) ≡ (y + u - 4 + j) * W + c = omega (arith, add-mul (y + u - 4) j W) in
          ap (λ (t : List ℕ). get_or t (4 * W - bank + j * W + c) 0) saved ∙
          rw (eq-eqb x 0 z, d)
          (sets_in rows s (4 * W - bank) (j * W + c) (rw (length_tab (4 * W) (λ i. get_or p ((y + min u (H - y) - 4) * W + i) 0)) (in_bank j c hj hc))
          (omega (arith, in_bank j c hj hc, here.scratch, fine.banks)) ∙
          (get_or-tab (4 * W) (λ i. get_or p ((y + min u (H - y) - 4) * W + i) 0) (j * W + c) (in_bank j c hj hc) ∙
          rw h (ap (λ (m : ℕ). get_or p m 0) i)))

      ahead_now : y + u < H → Above W (4 * W - bank) (y + u) p0 s'
      ahead_now low =
          elim (dec_lt 0 x) [
            | yes lt ↦ λ j c hj hc. ap (λ (t : List ℕ). get_or t (4 * W - bank + j * W + c) 0) saved ∙ rw (ne_eqb x 0 (omega arith)) (here.ahead lt low j c hj hc)
            | no ge ↦
                let z : x ≡ 0 = omega arith in
                save_rows W H u fine.grid p0 skip filter k y x at p here.done (4 * W - bank) z low s' (fresh z low)
          ]

      cut : Cut W H y x bank n
      cut = cut_at W H u fine.grid k y x at in_height bank n refl refl refl refl refl refl

      room : Room W H bank n l p
      room =
          record {
            narrow = lies.narrow;
            short = lies.short;
            stride = omega (arith, fine.wide);
            plane = omega (arith, fine.room, here.done.size);
            left = λ e. omega (arith, lies.short, here.list);
            top = λ e. omega (arith, bank_low, size_is, fine.banks);
            skip = omega (arith, lies.short, gathered.0);
            filter = fine.taps;
          }

      admitted : open_status Luma n l p ≡ 0
      admitted = unit_admitted W H y x bank n l p cut room

      masks_are : Masks W y x n l skip
      masks_are = gathered-masks W H y x bank n l skip cut lies.narrow small gathered.1

      saved_are : Saved W y x bank n l p0
      saved_are = record { above = above_still; before = here.before }

      done_more : UnitsDone W H u (k + 1) p0 skip filter q
      done_more =
          let f = whole.plane admitted in
          unit-step W H u fine.grid p0 skip filter k y x bank at n l refl refl cut saved_are masks_are refl p q here.done
          (record { size = f.size; here = f.here; other = f.other })

      served_one : r.status ≡ 0
      served_one = whole.status ∙ admitted

      counted_more : pieces + r.pieces ≡ plane_pieces W H u (k + 1) skip
      counted_more =
          (λ i. here.counted i + whole.pieces admitted i) ∙ sym (unit-pieces W H u fine.grid k y x bank at n l skip refl refl cut masks_are)

      pieces-low : pieces + r.pieces ≤ plane_side_limit * plane_side_limit
      pieces-low =
          let w : W / side * 1 ≤ plane_side_limit = omega (arith, fine.wide) in
          omega (arith, counted_more, pieces_most W H u (k + 1) skip, mul-le-mul fine.high w)

      -- the next unit of the row
      next_reached : x + u < W → Reached W H u p0 skip filter size (k + 1) y (x + u) bank (pieces + r.pieces) q s' next
      next_reached far =
          let w : x + min u (W - x) ≡ x + u = omega arith in
          let b : Before W y (x + u) (min u (H - y)) p next = rw w at (listed.1 (omega (arith, lies.some_w))) in
          record {
            at = next-unit W H u fine.grid k y x at far;
            done = done_more;
            counted = counted_more;
            banks = here.banks;
            above = λ z low. above_still z;
            ahead = λ z low. ahead_now low;
            before = λ z. save_columns W H u fine.grid p0 skip filter k y x at p here.done far next b;
            scratch = size_is;
            list = listed.0;
          }

      -- the first of the next row
      row_reached : W ≤ x + u → Reached W H u p0 skip filter size (k + 1) (y + u) 0 (4 * W - bank) (pieces + r.pieces) q s' next
      row_reached end =
          record {
            at = next_row W H u fine.grid k y x at end;
            done = done_more;
            counted = counted_more;
            banks = ⊎_elim (λ e. inr (omega arith)) (λ e. inl (omega arith)) here.banks;
            above = λ z low. ahead_now low;
            ahead = λ z. absurd (omega arith);
            before = λ z. absurd (omega arith);
            scratch = size_is;
            list = listed.0;
          }

    -- all of it, by a width and a height that were worked out
    pub one_more : (small : (n : ℕ) → get_or skip n 0 < 65536) (w h : ℕ) → w ≡ min u (W - x) → h ≡ min u (H - y) → (s' next masks q : List ℕ) (r : Restored) →
        s' ≡ cond (eqb x 0) (sets s (4 * W - bank) (tab (4 * W) (λ j. get_or p ((y + h - 4) * W + j) 0))) s →
        (length next ≡ 6 * unit_size_limit) × (4 ≤ x + w → Before W y (x + w) h p next) →
        (length masks ≡ unit_size_limit) × ((j : ℕ) → j < h / side → get_or masks (4 * j) 0 ≡ unit_mask W skip (w / side) (y / side + j) (x / side)) →
        Whole Luma r (unit_given W H y x w h bank) (luma_lent left s' [] filter masks) p q →
        (r.status ≡ 0) ×
        (pieces + r.pieces ≤ plane_side_limit * plane_side_limit) ×
        (x + u < W → Reached W H u p0 skip filter size (k + 1) y (x + u) bank (pieces + r.pieces) q s' next) ×
        (W ≤ x + u → Reached W H u p0 skip filter size (k + 1) (y + u) 0 (4 * W - bank) (pieces + r.pieces) q s' next)
    one_more small w h ew eh s' next masks q r saved listed gathered whole =
        let sv = rw eh at saved in
        let li = rw (ew, eh) at listed in
        let ga = rw (ew, eh) at gathered in
        let wh = rw (ew, eh) at whole in (
          served_one small s' next masks q r sv li ga wh,
          pieces-low small s' next masks q r sv li ga wh,
          next_reached small s' next masks q r sv li ga wh,
          row_reached small s' next masks q r sv li ga wh,
        )
