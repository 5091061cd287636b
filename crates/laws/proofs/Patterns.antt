-- Patterns of nine noskip bits: by rows of three, what each bit of one is, and its sum.
use mathlib.Core.Path.{◌≡◌, refl, ap}
use mathlib.Core.Bool.{Bool, true, false, cond}
use Prim.Native.Nat.{ℕ, zero, suc, ◌+◌, ◌*◌, ◌/◌, ◌%◌, ◌^◌, ◌≤◌, ◌<◌}
use native.Mathlib.Omega.{arith}
use lib.Dec.{eqb}
use Rattle.definition.specs.Numbers.{sum_n}
use Rattle.definition.specs.ClassIndex.{share}
use Rattle.definition.specs.SkipSums.{pattern_of, pattern_sum, pattern_count}
use Rattle.laws.proofs.Sums.{sum_n_cong}

-- a bit as a number
abbrev digit : Bool → ℕ
digit b = cond b 1 0

digit_small : (b : Bool) → digit b ≤ 1
digit_small true = omega arith
digit_small false = omega arith

by_weight : (w : ℕ) (b : Bool) → cond b w 0 ≡ w * digit b
by_weight w true = omega arith
by_weight w false = omega arith

is-one : (n : ℕ) (b : Bool) → n ≡ digit b → eqb n 1 ≡ b
is-one n true e = rw e refl
is-one n false e = rw e refl

module _ (bit : ℕ → ℕ → Bool) where
  d : ℕ → ℕ → ℕ
  d i j = digit (bit i j)

  digits : pattern_of bit ≡ d 0 0 + 2 * d 0 1 + 4 * d 0 2 + 8 * d 1 0 + 16 * d 1 1 + 32 * d 1 2 + 64 * d 2 0 + 128 * d 2 1 + 256 * d 2 2
  unfolding pattern_of sum_n d
  digits =
      omega (
        arith,
        by_weight 2 (bit 0 1),
        by_weight 4 (bit 0 2),
        by_weight 8 (bit 1 0),
        by_weight 16 (bit 1 1),
        by_weight 32 (bit 1 2),
        by_weight 64 (bit 2 0),
        by_weight 128 (bit 2 1),
        by_weight 256 (bit 2 2),
      )

  small :
      (d 0 0 ≤ 1) × (d 0 1 ≤ 1) × (d 0 2 ≤ 1) × (d 1 0 ≤ 1) × (d 1 1 ≤ 1) × (d 1 2 ≤ 1) × (d 2 0 ≤ 1) × (d 2 1 ≤ 1) × (d 2 2 ≤ 1)
  unfolding d
  small = (
    digit_small (bit 0 0),
    digit_small (bit 0 1),
    digit_small (bit 0 2),
    digit_small (bit 1 0),
    digit_small (bit 1 1),
    digit_small (bit 1 2),
    digit_small (bit 2 0),
    digit_small (bit 2 1),
    digit_small (bit 2 2),
  )

  -- the number of a row's three bits, and a pattern by its rows
  abbrev pub row : ℕ → ℕ
  row i = cond (bit i 0) 1 0 + cond (bit i 1) 2 0 + cond (bit i 2) 4 0

  pub by_rows : pattern_of bit ≡ row 0 + 8 * row 1 + 64 * row 2
  unfolding d
  by_rows =
      omega (
        arith,
        digits,
        by_weight 2 (bit 0 1),
        by_weight 4 (bit 0 2),
        by_weight 2 (bit 1 1),
        by_weight 4 (bit 1 2),
        by_weight 2 (bit 2 1),
        by_weight 4 (bit 2 2),
      )

  pub pattern_below : pattern_of bit < pattern_count
  pattern_below = omega (arith, digits, small)

  -- bit 3 i + j is that of neighbour (i, j)
  here : (i j : ℕ) → i < 3 → j < 3 → pattern_of bit / 2 ^ (3 * i + j) % 2 ≡ d i j
  here zero zero h k = omega (arith, digits, small)
  here zero (suc zero) h k = omega (arith, digits, small)
  here zero (suc (suc zero)) h k = omega (arith, digits, small)
  here (suc zero) zero h k = omega (arith, digits, small)
  here (suc zero) (suc zero) h k = omega (arith, digits, small)
  here (suc zero) (suc (suc zero)) h k = omega (arith, digits, small)
  here (suc (suc zero)) zero h k = omega (arith, digits, small)
  here (suc (suc zero)) (suc zero) h k = omega (arith, digits, small)
  here (suc (suc zero)) (suc (suc zero)) h k = omega (arith, digits, small)
  here i (suc (suc (suc j))) h k = absurd (omega arith)
  here (suc (suc (suc i))) j h k = absurd (omega arith)

  -- its sum is that of the neighbours' shares
  pub sum_of_pattern : pattern_sum (pattern_of bit) ≡ sum_n 3 (λ i. sum_n 3 (λ j. cond (bit i j) 0 (share i j)))
  unfolding pattern_sum d
  sum_of_pattern =
      sum_n_cong 3 _ _ (λ i h. sum_n_cong 3 _ _ (λ j k. ap (λ b. cond b 0 (share i j)) (is-one _ (bit i j) (here i j h k))))
