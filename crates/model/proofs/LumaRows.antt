-- The luma rows of a chroma unit as its second ring holds them: row R stands beside chroma row R - 2. They are padded from what is lent alone.
-- The laws: what a repeated row is, the rule of their ring, and that the rows seen from a sample are the definition's.
use mathlib.Core.Path.{◌≡◌, refl, ◌∙◌, ap, subst}
use mathlib.Core.Bool.{Bool, true, false, cond, ◌&&◌, ◌||◌}
use mathlib.Core.List.{List, []}
use Prim.Native.Nat.{ℕ, zero, suc, ◌+◌, ◌*◌, ◌-◌, ◌%◌, ◌^◌, ◌≤◌, ◌<◌}
use native.Mathlib.Decide.{dec_lt}
use native.Mathlib.Nat.{mul-le-mul}
use native.Mathlib.Omega.{arith}
use lib.Dec.{eqb, ltb}
use lib.IntN.{ℤ, pos, negsuc, neg_ℤ, nat_abs, ◌+ℤ◌, ◌-ℤ◌, ◌*ℤ◌, *ℤ-zero}
use lib.ListN.{length, get_or, replicate, length-replicate}
use lib.Seq.{sets, length-sets}
use borrow.Author.Tests.{lt-ltb, le-ltb, ltb-false}
use Rattle.definition.specs.Limits.{width_limit}
use Rattle.definition.specs.declared.Operation.TheVariants.{Chroma}
use Rattle.definition.specs.declared.Given.{Given}
use Rattle.definition.specs.Rows.{tab, row_bytes, luma_row_bytes, row_origin}
use Rattle.definition.specs.Padding.{has_top, has_bottom, top_integrated, bottom_integrated, even_only, luma_padded}
use Rattle.definition.specs.Units.{Lent, luma_at, luma_around, luma_part, luma_own, upper_saved, lower_saved, step}
use Rattle.definition.specs.Refusals.{bad_sampling}
use Rattle.laws.proofs.Ints.{sub_pos, sub_neg, sub_cases, abs_mul, nonneg_add}
use Rattle.laws.proofs.Lists.{length_tab, tab-at, get_or-tab, sets_in}
use Rattle.history.proofs.Ring.{Rule, rows_apart}
use Rattle.model.proofs.Rows.{pad_row, own, src, first_row}
use Rattle.laws.proofs.Passes.{not_both}
use Rattle.model.proofs.Views.{view_around, place_high, back, place_split}

-- the bytes of a luma row: four before the samples, the samples, four behind them; columns that are not filled, and all else, are 0
unfoldable pub luma_pad_row : Given → Lent → ℕ → List ℕ
luma_pad_row g l R =
    sets (replicate luma_row_bytes 0) (row_origin - 4)
    (tab (4 + g.w * step g l + 4)
    (λ j. cond (even_only g.ss_ver g.kind && eqb (j % 2) 1) 0 (luma_at g l (pos R -ℤ pos 2) (pos j -ℤ pos 4))))

pub luma-size : (g : Given) (l : Lent) (R : ℕ) → length (luma_pad_row g l R) ≡ luma_row_bytes
unfolding luma_pad_row
luma-size g l R = rw length-sets (length-replicate {A = ℕ} luma_row_bytes 0)

-- ROWS THAT ARE ALIKE, the upper of two and the lower
pub luma-alike : (g : Given) (l : Lent) (R S : ℕ) →
    ((c : ℤ) → luma_part g l 0 (upper_saved g l) (pos R -ℤ pos 2) c ≡ luma_part g l 0 (upper_saved g l) (pos S -ℤ pos 2) c) →
    ((c : ℤ) → luma_part g l 1 (lower_saved g l) (pos R -ℤ pos 2) c ≡ luma_part g l 1 (lower_saved g l) (pos S -ℤ pos 2) c) → luma_pad_row g l R ≡ luma_pad_row g l S
unfolding luma_pad_row luma_at
luma-alike g l R S u d = λ i.
    sets (replicate luma_row_bytes 0) (row_origin - 4)
    (tab (4 + g.w * step g l + 4)
    (λ j.
    cond (even_only g.ss_ver g.kind && eqb (j % 2) 1) 0
    (luma_padded g.edges g.ss_hor g.ss_ver g.kind (g.w * step g l) (λ c. u c i) (λ c. d c i) (pos j -ℤ pos 4))))

-- below the unit, without rows to pad from, each row is the one before it
part-below : (g : Given) (l : Lent) (more : ℕ) (saved : ℕ → ℕ) (r : ℕ) (int bottom : Bool) →
    bottom_integrated g.edges ≡ int → has_bottom g.edges ≡ bottom → 1 ≤ g.h → r + 1 < g.h + 2 → g.h + (cond int 2 0 + cond int 0 (cond bottom 2 0)) ≤ r + 1 →
    (c : ℤ) → luma_part g l more saved (pos (r + 1)) c ≡ luma_part g l more saved (pos r) c
part-below g l more saved r true bottom ei eb h m k c = absurd (omega arith)
part-below g l more saved r false true ei eb h m k c = absurd (omega arith)
part-below g l more saved r false false ei eb h m k c =
    elim (dec_lt r g.h) [
      | yes lt ↦
          let d : g.h - 1 ≡ r = omega arith in
          rw (le-ltb (r + 1) g.h (omega arith), lt-ltb r g.h lt, ei, eb) (ap (λ (n : ℕ). luma_own g l more (pos n) c) d)
      | no ge ↦ rw (le-ltb (r + 1) g.h (omega arith), le-ltb r g.h (omega arith), ei, eb)
    ]

-- above it each row is the first
part-above : (g : Given) (l : Lent) (more : ℕ) (saved : ℕ → ℕ) (n : ℕ) (int top : Bool) →
    top_integrated g.edges ≡ int → has_top g.edges ≡ top → 1 ≤ g.h → cond int 2 (cond top 2 0) ≤ n → n < 2 →
    (c : ℤ) → luma_part g l more saved (pos (2 - cond int 2 (cond top 2 0)) -ℤ pos 2) c ≡ luma_part g l more saved (negsuc n) c
part-above g l more saved n true top ei eb h k m c = absurd (omega arith)
part-above g l more saved n false true ei eb h k m c = absurd (omega arith)
part-above g l more saved n false false ei eb h k m c = rw (ei, eb, lt-ltb 0 g.h h)

module _ (g : Given) (l : Lent) (tall : 1 ≤ g.h) where
  pub luma_again : (k : ℕ) → k < g.h → own Chroma g (k + 4) ≡ false → luma_pad_row g l (k + 4) ≡ luma_pad_row g l (k + 3)
  luma_again k h o =
      let n : g.h + 2 + (cond (bottom_integrated g.edges) 2 0 + cond (bottom_integrated g.edges) 0 (cond (has_bottom g.edges) 2 0)) ≤ k + 4 = ltb-false _ _ o in
      let d : pos (k + 4) -ℤ pos 2 ≡ pos (k + 1 + 1) = sub_pos (k + 4) 2 (omega arith) ∙ ap pos (omega arith) in
      let f : pos (k + 3) -ℤ pos 2 ≡ pos (k + 1) = sub_pos (k + 3) 2 (omega arith) ∙ ap pos (omega arith) in
      luma-alike g l (k + 4) (k + 3)
      (λ c. rw (d, f) (part-below g l 0 (upper_saved g l) (k + 1) (bottom_integrated g.edges) (has_bottom g.edges) refl refl tall (omega arith) (omega arith) c))
      (λ c. rw (d, f) (part-below g l 1 (lower_saved g l) (k + 1) (bottom_integrated g.edges) (has_bottom g.edges) refl refl tall (omega arith) (omega arith) c))

  -- a row above that is not padded anew is the first that is
  pub luma-first : (j : ℕ) → j < first_row Chroma g → luma_pad_row g l (first_row Chroma g) ≡ luma_pad_row g l j
  luma-first j h =
      let d : pos j -ℤ pos 2 ≡ negsuc (2 - suc j) = sub_neg j 2 (omega arith) in
      luma-alike g l (first_row Chroma g) j
      (λ c. rw d (part-above g l 0 (upper_saved g l) (2 - suc j) (top_integrated g.edges) (has_top g.edges) refl refl tall (omega arith) (omega arith) c))
      (λ c. rw d (part-above g l 1 (lower_saved g l) (2 - suc j) (top_integrated g.edges) (has_top g.edges) refl refl tall (omega arith) (omega arith) c))

  -- THE RULE OF THE RING: that of the unit's own rows, but for the rows themselves
  pub luma_rule : (p : List ℕ) (top : ℕ) (slot : ℕ → ℕ) → Rule row_bytes 4 top g.h slot (src Chroma g) (own Chroma g) (pad_row Chroma g l p) →
      Rule luma_row_bytes 4 top g.h slot (src Chroma g) (own Chroma g) (luma_pad_row g l)
  luma_rule p top slot r =
      record {
        some = r.some;
        tops = r.tops;
        low = r.low;
        apart = r.apart;
        wraps = r.wraps;
        within = r.within;
        owned = r.owned;
        again = λ k h o. ((r.again k h o).0, luma_again k h o);
        size = luma-size g l;
      }

-- A BYTE of a luma row is the padded sample that stands there, where its column is filled
module _ (g : Given) (l : Lent) (wide : g.w * step g l ≤ 2 * width_limit) where
  luma-byte : (R j : ℕ) → j < 4 + g.w * step g l + 4 → (even_only g.ss_ver g.kind && eqb (j % 2) 1) ≡ false →
      get_or (luma_pad_row g l R) (row_origin - 4 + j) 0 ≡ luma_at g l (pos R -ℤ pos 2) (pos j -ℤ pos 4)
  unfolding luma_pad_row
  luma-byte R j h e =
      let f : ℕ → ℕ = λ i. cond (even_only g.ss_ver g.kind && eqb (i % 2) 1) 0 (luma_at g l (pos R -ℤ pos 2) (pos i -ℤ pos 4)) in
      let n : ℕ = 4 + g.w * step g l + 4 in
      sets_in (tab n f) (replicate luma_row_bytes 0) (row_origin - 4) j (rw (length_tab n f) h) (rw (length-replicate {A = ℕ} luma_row_bytes 0) (omega arith)) ∙ (get_or-tab n f j h ∙ rw e)

-- a tap's column of luma is even where even columns alone are filled: the pair is then (1, 1)
even_twice : (x : ℕ) (d : ℤ) → (x * 2 + nat_abs (pos 4 +ℤ pos 2 *ℤ d)) % 2 ≡ 0
even_twice x (pos n) = omega arith
even_twice x (negsuc n) =
    let two : 2 * suc n ≡ suc (2 * n + 1) = omega arith in
    let d : pos 2 *ℤ negsuc n ≡ negsuc (2 * n + 1) = ap (λ (k : ℕ). neg_ℤ (pos k)) two in
    rw d (sub_cases 4 (suc (2 * n + 1)) (λ (z : ℤ). (x * 2 + nat_abs z) % 2 ≡ 0) (λ h. omega arith) (λ h. omega arith))

even_place : (ss_hor ss_ver kind : ℕ) → ltb 1 ss_hor ≡ false → ltb ss_hor ss_ver ≡ false → (x : ℕ) (d : ℤ) →
    (even_only ss_ver kind && eqb ((x * 2 ^ ss_hor + nat_abs (pos 4 +ℤ pos (2 ^ ss_hor) *ℤ d)) % 2) 1) ≡ false
even_place h zero kind a b x d = refl
even_place h (suc v) (suc kind) a b x d = refl
even_place h (suc v) zero a b x d =
    let lo : suc v ≤ h = ltb-false h (suc v) b in
    let hi : h ≤ 1 = ltb-false 1 h a in
    let one : h ≡ 1 = omega arith in
    rw (one, even_twice x d)

step-low : (ss_hor : ℕ) → ltb 1 ss_hor ≡ false → 2 ^ ss_hor ≤ 2
step-low zero a = omega arith
step-low (suc zero) a = omega arith
step-low (suc (suc h)) a = absurd (let k : suc (suc h) ≤ 1 = ltb-false 1 (suc (suc h)) a in omega arith)

step-some : (ss_hor : ℕ) → ltb 1 ss_hor ≡ false → 1 ≤ 2 ^ ss_hor
step-some zero a = omega arith
step-some (suc zero) a = omega arith
step-some (suc (suc h)) a = absurd (let k : suc (suc h) ≤ 1 = ltb-false 1 (suc (suc h)) a in omega arith)

-- THE DEFINITION'S VIEW of the luma around sample (y, x), at the columns that the filter reads
module _ (g : Given) (l : Lent) (wide : g.w ≤ width_limit) (fair : bad_sampling g.ss_hor g.ss_ver g.kind ≡ false) where
  pair-low : (ltb 1 g.ss_hor ≡ false) × (ltb g.ss_hor g.ss_ver ≡ false)
  pair-low = not_both (ltb 1 g.ss_hor) (ltb g.ss_hor g.ss_ver) (not_both (ltb 1 g.ss_hor || ltb g.ss_hor g.ss_ver) (ltb 2 g.kind) fair).0

  pub step-two : step g l ≤ 2
  step-two = step-low g.ss_hor pair-low.0

  luma-wide : g.w * step g l ≤ 2 * width_limit
  luma-wide = omega (arith, mul-le-mul wide step-two)

  pub luma_view : (y x : ℕ) → x < g.w → (dy dx : ℤ) → nat_abs dy ≤ 2 → nat_abs dx ≤ 2 →
      view_around 2 (tab 5 (λ j. luma_pad_row g l (y + j))) (row_origin + x * step g l) dy (pos (step g l) *ℤ dx) ≡ luma_around g l y x dy (pos (step g l) *ℤ dx)
  luma_view y x hx dy dx ny nx =
      let d : ℤ = pos (step g l) *ℤ dx in
      let nd : nat_abs d ≤ 4 = rw (abs_mul (pos (step g l)) dx) (omega (arith, mul-le-mul step-two nx)) in
      let j : ℕ = nat_abs (pos 2 +ℤ dy) in
      let i : ℕ = x * step g l + nat_abs (pos 4 +ℤ d) in
      let lj : j ≤ 4 = place_high 2 dy 2 ny in
      let li : nat_abs (pos 4 +ℤ d) ≤ 8 = place_high 4 d 4 nd in
      let hi : x * step g l + step g l ≤ g.w * step g l = rows_apart (step g l) x g.w hx in
      let some : 1 ≤ step g l = step-some g.ss_hor pair-low.0 in
      let c : nat_abs (pos (row_origin + x * step g l) +ℤ d) ≡ row_origin - 4 + i = place_split row_origin (x * step g l) 4 d (nonneg_add 4 d nd) (omega arith) in
      ap (λ (r : List ℕ). get_or r (nat_abs (pos (row_origin + x * step g l) +ℤ d)) 0) (tab-at [] 5 (λ k. luma_pad_row g l (y + k)) j (omega arith)) ∙
      (ap (λ (m : ℕ). get_or (luma_pad_row g l (y + j)) m 0) c ∙
      (luma-byte g l luma-wide (y + j) i (omega arith) (even_place g.ss_hor g.ss_ver g.kind pair-low.0 pair-low.1 x dx) ∙
      (λ t. luma_at g l (back y 2 dy (nonneg_add 2 dy ny) t) (back (x * step g l) 4 d (nonneg_add 4 d nd) t))))

  pub luma-centre : (y x : ℕ) → x < g.w → view_around 2 (tab 5 (λ j. luma_pad_row g l (y + j))) (row_origin + x * step g l) (pos 0) (pos 0) ≡ luma_around g l y x (pos 0) (pos 0)
  luma-centre y x hx =
      subst (λ (d : ℤ). view_around 2 (tab 5 (λ j. luma_pad_row g l (y + j))) (row_origin + x * step g l) (pos 0) d ≡ luma_around g l y x (pos 0) d) (*ℤ-zero (pos (step g l)))
      (luma_view y x hx (pos 0) (pos 0) (omega arith) (omega arith))
