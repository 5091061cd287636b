-- Sums: of two rules, and of rows and columns in either order.
use mathlib.Core.Path.{◌≡◌, refl, ◌∙◌}
use Prim.Native.Nat.{ℕ, zero, suc, ◌+◌}
use native.Mathlib.Omega.{arith}
use Rattle.definition.specs.Numbers.{sum_n}

sum_zero : (n : ℕ) → 0 ≡ sum_n n (λ j. 0)
unfolding sum_n
sum_zero zero = refl
sum_zero (suc n) = omega (arith, sum_zero n)

sum_both : (n : ℕ) (f g : ℕ → ℕ) → sum_n n f + sum_n n g ≡ sum_n n (λ j. f j + g j)
unfolding sum_n
sum_both zero f g = refl
sum_both (suc n) f g = omega (arith, sum_both n f g)

-- the sum of the rows is the sum of the columns
pub exchanged : (m n : ℕ) (f : ℕ → ℕ → ℕ) → sum_n m (λ i. sum_n n (λ j. f i j)) ≡ sum_n n (λ j. sum_n m (λ i. f i j))
unfolding sum_n
exchanged zero n f = sum_zero n
exchanged (suc m) n f =
    let a = exchanged m n f in
    (λ k. a k + sum_n n (λ j. f m j)) ∙ sum_both n (λ j. sum_n m (λ i. f i j)) (λ j. f m j)
