-- The pieces of rows, counted row by row.
use mathlib.Core.Path.{◌≡◌, refl, sym, ◌∙◌, ap}
use mathlib.Core.Bool.{Bool, true, false, cond}
use mathlib.Core.List.{List}
use Prim.Native.Nat.{ℕ, zero, suc, ◌+◌, ◌≤◌}
use native.Mathlib.Nat.{add-zero}
use native.Mathlib.Numerals.{add-one}
use native.Mathlib.Omega.{arith}
use Rattle.definition.specs.Blocks.{mask_at, masked, clear_below, pieces_of}

-- a row of blocks has at most a piece for each
one-low : (b : Bool) → cond b 0 1 ≤ 1
one-low true = omega arith
one-low false = omega arith

pub clear-low : (mask bw : ℕ) → clear_below mask bw ≤ bw
unfolding clear_below
clear-low mask zero = omega arith
clear-low mask (suc bw) = omega (arith, one-low (masked mask bw), clear-low mask bw)

module _ (skip : List ℕ) (bw : ℕ) where
  -- a row more at the end
  after : (n k : ℕ) → pieces_of skip bw k (suc n) ≡ pieces_of skip bw k n + clear_below (mask_at skip (k + n)) bw
  unfolding pieces_of
  after zero k = rw (add-zero k) (omega arith)
  after (suc n) k =
      let d : suc k + n ≡ k + suc n = omega arith in
      let e : pieces_of skip bw (suc k) (suc n) ≡ pieces_of skip bw (suc k) n + clear_below (mask_at skip (k + suc n)) bw =
      after n (suc k) ∙ ap (λ (y : ℕ). pieces_of skip bw (suc k) n + clear_below (mask_at skip y) bw) d in
      omega arith

  pub pieces_none : (k : ℕ) → pieces_of skip bw k 0 ≡ 0
  unfolding pieces_of
  pieces_none k = refl

  pub pieces_more : (k n : ℕ) → pieces_of skip bw k n + clear_below (mask_at skip (k + n)) bw ≡ pieces_of skip bw k (n + 1)
  pieces_more k n = rw (add-one n) (sym (after n k))
