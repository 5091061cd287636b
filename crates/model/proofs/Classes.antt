-- Class indices that agree: the features look at eight rows and columns, from two before the block's first sample on.
use mathlib.Core.Path.{◌≡◌, sym, ◌∙◌}
use mathlib.Core.List.{List, [], ◌∷◌}
use Prim.Native.Nat.{ℕ, zero, suc, ◌+◌, ◌*◌, ◌<◌}
use native.Mathlib.Omega.{arith}
use lib.IntN.{ℤ, pos, negsuc, nat_abs, ◌+ℤ◌, ◌-ℤ◌, +ℤ_assoc}
use Rattle.definition.specs.ClassIndex.{bend, feature, skip_sum, bins_of, index_of, class_index}
use Rattle.laws.proofs.Sums.{sum_n_cong}

-- windows that agree on the eight rows and columns from -2 on
abbrev pub Eight : (ℤ → ℤ → ℕ) → (ℤ → ℤ → ℕ) → Type 0
Eight s t = (a b : ℕ) → a < 8 → b < 8 → s (pos a -ℤ pos 2) (pos b -ℤ pos 2) ≡ t (pos a -ℤ pos 2) (pos b -ℤ pos 2)

-- a place of those six, one before it, itself and one behind it, as places of the eight: each is i moved by a literal
one-before : (i : ℕ) → pos i -ℤ pos 1 -ℤ pos 1 ≡ pos i -ℤ pos 2
one-before i = +ℤ_assoc (pos i) (negsuc 0) (negsuc 0)

itself : (i : ℕ) → pos i -ℤ pos 1 ≡ pos (i + 1) -ℤ pos 2
itself i = sym (+ℤ_assoc (pos i) (pos 1) (negsuc 1))

one-behind : (i : ℕ) → pos i -ℤ pos 1 +ℤ pos 1 ≡ pos (i + 2) -ℤ pos 2
one-behind i = +ℤ_assoc (pos i) (negsuc 0) (pos 1) ∙ sym (+ℤ_assoc (pos i) (pos 2) (negsuc 1))

-- a column moved by d, which is 0, 1 or -1, is a column of the eight
data Direction : ℤ → Type 0 where
  straight : Direction (pos 0)
  right : Direction (pos 1)
  left : Direction (negsuc 0)

record Column (z : ℤ) : Type 0 where
  at : ℕ
  low : at < 8
  is : z ≡ pos at -ℤ pos 2

add_column : (d : ℤ) → Direction d → (j : ℕ) → j < 6 → Column (pos j -ℤ pos 1 +ℤ d)
add_column (pos zero) straight j h =
    record { at = j + 1; low = omega arith; is = +ℤ_assoc (pos j) (negsuc 0) (pos 0) ∙ itself j }
add_column (pos (suc zero)) right j h = record { at = j + 2; low = omega arith; is = one-behind j }
add_column (negsuc zero) left j h = record { at = j; low = omega arith; is = one-before j }
add_column (pos (suc (suc _))) x8 j h = elim x8 [ ]
add_column (negsuc (suc _)) x6 j h = elim x6 [ ]

sub_column : (d : ℤ) → Direction d → (j : ℕ) → j < 6 → Column (pos j -ℤ pos 1 -ℤ d)
sub_column (pos zero) straight j h =
    record { at = j + 1; low = omega arith; is = +ℤ_assoc (pos j) (negsuc 0) (pos 0) ∙ itself j }
sub_column (pos (suc zero)) right j h = record { at = j; low = omega arith; is = one-before j }
sub_column (negsuc zero) left j h = record { at = j + 2; low = omega arith; is = one-behind j }
sub_column (pos (suc (suc _))) x8 j h = elim x8 [ ]
sub_column (negsuc (suc _)) x6 j h = elim x6 [ ]

module _ (s t : ℤ → ℤ → ℕ) (e : Eight s t) where
  at_place : (y z : ℤ) (a : ℕ) → a < 8 → y ≡ pos a -ℤ pos 2 → Column z → s y z ≡ t y z
  at_place y z a h m c = rw (m, c.is) (e a c.at h c.low)

  bend-same : (d : ℤ) → Direction d → (i j : ℕ) → i < 6 → j < 6 → bend s d (pos i -ℤ pos 1) (pos j -ℤ pos 1) ≡ bend t d (pos i -ℤ pos 1) (pos j -ℤ pos 1)
  bend-same d w i j hi hj =
      let up : s (pos i -ℤ pos 1 -ℤ pos 1) (pos j -ℤ pos 1 +ℤ d) ≡ t (pos i -ℤ pos 1 -ℤ pos 1) (pos j -ℤ pos 1 +ℤ d) =
      at_place (pos i -ℤ pos 1 -ℤ pos 1) (pos j -ℤ pos 1 +ℤ d) i (omega arith) (one-before i) (add_column d w j hj) in
      let mid : s (pos i -ℤ pos 1) (pos j -ℤ pos 1) ≡ t (pos i -ℤ pos 1) (pos j -ℤ pos 1) =
      at_place (pos i -ℤ pos 1) (pos j -ℤ pos 1) (i + 1) (omega arith) (itself i) (record { at = j + 1; low = omega arith; is = itself j }) in
      let down : s (pos i -ℤ pos 1 +ℤ pos 1) (pos j -ℤ pos 1 -ℤ d) ≡ t (pos i -ℤ pos 1 +ℤ pos 1) (pos j -ℤ pos 1 -ℤ d) =
      at_place (pos i -ℤ pos 1 +ℤ pos 1) (pos j -ℤ pos 1 -ℤ d) (i + 2) (omega arith) (one-behind i) (sub_column d w j hj) in
      λ k. nat_abs (pos (up k) -ℤ pos (2 * mid k) +ℤ pos (down k))

  feature-same : (d : ℤ) → Direction d → feature s d ≡ feature t d
  unfolding feature
  feature-same d w = sum_n_cong 6 _ _ (λ i hi. sum_n_cong 6 _ _ (λ j hj. bend-same d w i j hi hj))

  pub class_same : (noskip : List ℕ) (q : ℤ) (bx by bh : ℕ) → class_index s noskip q bx by bh ≡ class_index t noskip q bx by bh
  class_same noskip q bx by bh =
      λ k. index_of (bins_of (feature-same (pos 0) straight k ∷ feature-same (pos 1) right k ∷ feature-same (negsuc 0) left k ∷ []) q (skip_sum noskip bh bx by))
