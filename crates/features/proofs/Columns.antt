-- A bend by the places of its three samples, in any direction; and a feature by the sums down its columns.
use mathlib.Core.Path.{◌≡◌, refl, sym, ap, ◌∙◌}
use mathlib.Core.List.{List}
use Prim.Native.Nat.{ℕ, suc, ◌+◌, ◌-◌, ◌*◌, ◌<◌}
use native.Mathlib.Omega.{arith}
use lib.IntN.{ℤ, pos, nat_abs, ◌+ℤ◌, ◌-ℤ◌, neg_ℤ, +ℤ_assoc}
use lib.ListN.{get_or}
use Rattle.definition.specs.Numbers.{sum_n}
use Rattle.definition.specs.Rows.{row_bytes, luma_flat}
use Rattle.definition.specs.ClassIndex.{bend, feature}
use Rattle.definition.specs.Leaves.{feature_at}
use Rattle.features.specs.Columns.{column_bend, column_sum}
use Rattle.laws.proofs.Ints.{sub_cases, sub_pos, before_pos}
use Rattle.laws.proofs.Sums.{sum_n_cong}
use Rattle.features.proofs.Sums.{exchanged}

-- a place that is a + z, and one that is d further
further : (a : ℕ) (z d : ℤ) (m n : ℕ) → pos a +ℤ z ≡ pos m → pos n ≡ pos m +ℤ d → pos a +ℤ (z +ℤ d) ≡ pos n
further a z d m n h e = sym (+ℤ_assoc (pos a) z d) ∙ ap (λ (x : ℤ). x +ℤ d) h ∙ sym e

one_less : (m n : ℕ) → m ≡ n + 1 → pos n ≡ pos m -ℤ pos 1
one_less m n e =
    let l : n ≡ m - 1 = omega arith in
    ap pos l ∙ sym (sub_pos m 1 (omega arith))

-- row i of six, counted from one before the fifth of ten indices, and column j of six of block bx
module _ (rows indices : List ℕ) (d : ℤ) (bx i j : ℕ) where
  row : pos 4 +ℤ (pos i -ℤ pos 1) ≡ pos (i + 3)
  row = further 4 (pos i) (neg_ℤ (pos 1)) (4 + i) (i + 3) refl (one_less (4 + i) (i + 3) (omega arith))

  above : pos 4 +ℤ (pos i -ℤ pos 1 -ℤ pos 1) ≡ pos (i + 2)
  above = further 4 (pos i -ℤ pos 1) (neg_ℤ (pos 1)) (i + 3) (i + 2) row (one_less (i + 3) (i + 2) (omega arith))

  below : pos 4 +ℤ (pos i -ℤ pos 1 +ℤ pos 1) ≡ pos (i + 4)
  below = further 4 (pos i -ℤ pos 1) (pos 1) (i + 3) (i + 4) row (ap pos (omega arith))

  column : pos (6 + 4 * bx) +ℤ (pos j -ℤ pos 1) ≡ pos (5 + 4 * bx + j)
  column = further (6 + 4 * bx) (pos j) (neg_ℤ (pos 1)) (6 + 4 * bx + j) (5 + 4 * bx + j) refl (one_less (6 + 4 * bx + j) (5 + 4 * bx + j) (omega arith))

  flat : (dy dx : ℤ) (r c : ℕ) → pos 4 +ℤ dy ≡ pos r → pos (6 + 4 * bx) +ℤ dx ≡ pos c →
      get_or rows (row_bytes * get_or indices r 0 + c) 0 ≡ luma_flat rows indices (6 + 4 * bx) dy dx
  flat dy dx r c er ec =
      ap (λ (m : ℕ). get_or rows m 0) (omega arith) ∙
      (λ k. get_or rows (0 + row_bytes * get_or indices (nat_abs (sym er k)) 0 + nat_abs (sym ec k)) 0)

  pub bend-is : (a z : ℕ) → pos a ≡ pos (5 + 4 * bx + j) +ℤ d → pos z ≡ pos (5 + 4 * bx + j) -ℤ d →
      column_bend rows indices a (5 + 4 * bx + j) z i ≡ bend (luma_flat rows indices (6 + 4 * bx)) d (pos i -ℤ pos 1) (pos j -ℤ pos 1)
  bend-is a z ea ez =
      let u = flat (pos i -ℤ pos 1 -ℤ pos 1) (pos j -ℤ pos 1 +ℤ d) (i + 2) a above (further (6 + 4 * bx) (pos j -ℤ pos 1) d (5 + 4 * bx + j) a column ea) in
      let m = flat (pos i -ℤ pos 1) (pos j -ℤ pos 1) (i + 3) (5 + 4 * bx + j) row column in
      let l = flat (pos i -ℤ pos 1 +ℤ pos 1) (pos j -ℤ pos 1 -ℤ d) (i + 4) z below (further (6 + 4 * bx) (pos j -ℤ pos 1) (neg_ℤ d) (5 + 4 * bx + j) z column ez) in
      (λ k. nat_abs (pos (u k) -ℤ pos (2 * m k) +ℤ pos (l k)))

-- the direction in which `up` is taken from byte a on and `down` from byte z on, where the middle is from byte 3 on
module _ (a z : ℕ) (mirrored : a + z ≡ 6) (k : ℕ) where
  pub up_is : pos (a + k) ≡ pos (3 + k) +ℤ (pos a -ℤ pos 3)
  up_is =
      sub_cases a 3 (λ (d : ℤ). pos (a + k) ≡ pos (3 + k) +ℤ d)
      (λ h. ap pos (omega arith) ∙ sym (before_pos (3 + k) (3 - suc a) (omega arith)))
      (λ h. ap pos (omega arith))

  pub down_is : pos (z + k) ≡ pos (3 + k) -ℤ (pos a -ℤ pos 3)
  down_is =
      sub_cases a 3 (λ (d : ℤ). pos (z + k) ≡ pos (3 + k) -ℤ d)
      (λ h. ap pos (omega arith))
      (λ h. ap pos (omega arith) ∙ sym (sub_pos (3 + k) (a - 3) (omega arith)))

-- a block's feature, from the sums of its six columns
pub feature-is : (rows indices columns : List ℕ) (a z bx : ℕ) → a + z ≡ 6 →
    ((j : ℕ) → j < 6 → get_or columns (2 + 4 * bx + j) 0 ≡ column_sum rows indices (a + (2 + 4 * bx + j)) (3 + (2 + 4 * bx + j)) (z + (2 + 4 * bx + j))) →
    sum_n 6 (λ j. get_or columns (2 + 4 * bx + j) 0) ≡ feature_at rows indices (pos a -ℤ pos 3) bx
unfolding feature
feature-is rows indices columns a z bx mirrored sums =
    let d : ℤ = pos a -ℤ pos 3 in
    let s : ℤ → ℤ → ℕ = luma_flat rows indices (6 + 4 * bx) in
    let b : ℕ → ℕ → ℕ = λ i j. bend s d (pos i -ℤ pos 1) (pos j -ℤ pos 1) in
    sum_n_cong 6 (λ j. get_or columns (2 + 4 * bx + j) 0) (λ j. sum_n 6 (λ i. b i j))
    (λ j h.
    let k : ℕ = 2 + 4 * bx + j in
    let m : 3 + k ≡ 5 + 4 * bx + j = omega arith in
    sums j h ∙
    sum_n_cong 6 (column_bend rows indices (a + k) (3 + k) (z + k)) (λ i. b i j)
    (λ i l.
    ap (λ (n : ℕ). column_bend rows indices (a + k) n (z + k) i) m ∙
    bend-is rows indices d bx i j (a + k) (z + k)
    (up_is a z mirrored k ∙ ap (λ (n : ℕ). pos n +ℤ d) m)
    (down_is a z mirrored k ∙ ap (λ (n : ℕ). pos n -ℤ d) m))) ∙
    sym (exchanged 6 6 b)
