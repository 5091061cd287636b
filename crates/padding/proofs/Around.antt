-- Columns before, in and behind a row, counted from the first padded one: a column j of e + w + e is the row's column j - e.
use mathlib.Core.Path.{◌≡◌, refl, sym, ap, ◌∙◌}
use mathlib.Core.Bool.{Bool, true, false, cond}
use mathlib.Core.List.{List}
use Prim.Native.Nat.{ℕ, zero, suc, ◌+◌, ◌-◌, ◌≤◌, ◌<◌}
use native.Mathlib.Omega.{arith}
use lib.IntN.{pos, negsuc, ◌-ℤ◌, +ℤ_assoc}
use lib.ListN.{get_or}
use lib.Seq.{sets}
use borrow.Author.Tests.{lt-ltb, le-ltb}
use Rattle.definition.specs.Rows.{tab}
use Rattle.definition.specs.Numbers.{byte_at}
use Rattle.definition.specs.Padding.{row_at, after, padded}
use Rattle.definition.specs.Refusals.{beside}
use Rattle.laws.proofs.Ints.{never, sub_pos, sub_neg, before_pos}
use Rattle.laws.proofs.Lists.{tab_cong, sets_run}

-- a byte of a list whose place is counted another way
pub same_byte : (l : List ℕ) (i j : ℕ) → i ≡ j → get_or l i 0 ≡ get_or l j 0
same_byte l i j e = ap (λ (k : ℕ). get_or l k 0) e

-- the byte of a row that starts at s, j - e columns from there
pub row-column : (bytes : List ℕ) (s j e : ℕ) → e ≤ s + j → row_at bytes (pos s) (pos j -ℤ pos e) ≡ get_or bytes (s + j - e) 0
row-column bytes s j zero h = same_byte bytes (s + (j + 0)) (s + j - 0) (omega arith)
row-column bytes s j (suc e) h = ap (byte_at bytes) (sym (+ℤ_assoc (pos s) (pos j) (negsuc e)) ∙ before_pos (s + j) e h)

pub beside_set : (b : Bool) (e : ℕ) → b ≡ true → beside b e ≡ e
beside_set true e h = refl
beside_set false e h = absurd (never h)

-- three stretches, one behind the other, are one
pub three_runs : (l : List ℕ) (a b c n m k : ℕ) (p q r f : ℕ → ℕ) → b ≡ a + n → c ≡ a + (n + m) →
    ((i : ℕ) → i < n → p i ≡ f i) → ((i : ℕ) → i < m → q i ≡ f (n + i)) → ((i : ℕ) → i < k → r i ≡ f (n + m + i)) →
    sets (sets (sets l a (tab n p)) b (tab m q)) c (tab k r) ≡ sets l a (tab (n + m + k) f)
three_runs l a b c n m k p q r f hb hc hp hq hr =
    rw (tab_cong n p f hp, tab_cong m q (λ i. f (n + i)) hq, tab_cong k r (λ i. f (n + m + i)) hr, hb, hc, sets_run m n l a f)
    (sets_run k (n + m) l a f)

-- a row and what follows it, copied at once
pub row_on : (dst src : List ℕ) (o src_o w e : ℕ) (right : Bool) → right ≡ true →
    sets dst o (tab (w + e) (λ j. get_or src (src_o + j) 0)) ≡
    sets (sets dst o (tab w (λ j. get_or src (src_o + j) 0))) (o + w) (tab e (λ j. cond right (get_or src (src_o + w + j) 0) (get_or src (src_o + w - 1) 0)))
row_on dst src o src_o w e right h =
    sym (rw (h, tab_cong e (λ j. get_or src (src_o + w + j) 0) (λ j. get_or src (src_o + (w + j)) 0) (λ j _. same_byte src (src_o + w + j) (src_o + (w + j)) (omega arith)))
    (sets_run e w dst o (λ j. get_or src (src_o + j) 0)))

module _ (src left : List ℕ) (o src_o left_o w e : ℕ) (some : 1 ≤ w) (front : e ≤ o) where
  abbrev column : Bool → Bool → ℕ → ℕ
  column L R j = padded L R w (w - 1) (after left left_o (row_at src (pos src_o))) (pos j -ℤ pos e)

  before_at : (L R : Bool) (j : ℕ) → j < e → (L ≡ true → e ≤ left_o) → cond L (get_or left (left_o - e + j) 0) (get_or src src_o 0) ≡ column L R j
  before_at true R j h b =
      let l : e ≤ left_o = b refl in
      let n : left_o - e + j ≡ left_o - suc (e - suc j) = omega arith in
      rw (sub_neg j e h) (same_byte left (left_o - e + j) (left_o - suc (e - suc j)) n ∙ sym (ap (byte_at left) (before_pos left_o (e - suc j) (omega arith))))
  before_at false R j h b = rw (sub_neg j e h) (same_byte src src_o (src_o + 0) (omega arith))

  from_first : (L R : Bool) (x : ℕ) → padded L R w (w - 1) (after left left_o (row_at src (pos src_o))) (pos x) ≡ column L R (e + x)
  from_first L R x =
      let d : e + x - e ≡ x = omega arith in
      rw (sub_pos (e + x) e (omega arith), d)

  in_at : (L R : Bool) (j : ℕ) → j < w → get_or src (src_o + j) 0 ≡ column L R (e + j)
  in_at L R j h = rw (← from_first L R j, lt-ltb j w h)

  behind-at : (L R : Bool) (j : ℕ) → cond R (get_or src (src_o + w + j) 0) (get_or src (src_o + w - 1) 0) ≡ column L R (e + w + j)
  behind-at L R j =
      let d : e + w + j ≡ e + (w + j) = omega arith in
      let p : src_o + (w + j) ≡ src_o + w + j = omega arith in
      let q : src_o + (w - 1) ≡ src_o + w - 1 = omega arith in
      rw (d, ← from_first L R (w + j), le-ltb (w + j) w (omega arith), p, q)

  pub row_written : (L R : Bool) (dst : List ℕ) → (L ≡ true → e ≤ left_o) →
      sets (sets (sets dst (o - e) (tab e (λ j. cond L (get_or left (left_o - e + j) 0) (get_or src src_o 0))))
      o (tab w (λ j. get_or src (src_o + j) 0))) (o + w) (tab e (λ j. cond R (get_or src (src_o + w + j) 0) (get_or src (src_o + w - 1) 0))) ≡
      sets dst (o - e) (tab (e + w + e) (column L R))
  row_written L R dst b =
      three_runs dst (o - e) o (o + w) e w e _ _ _ (column L R) (omega arith) (omega arith)
      (λ j h. before_at L R j h b) (λ j h. in_at L R j h) (λ j h. behind-at L R j)
