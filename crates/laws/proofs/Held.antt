-- What a signed local of width w holds: `Held w n z B` says that the bits n are those of the integer z, which is at most B from 0.
-- A rule for each cast and each step of arithmetic: that the machine's check passes (`-fits`), and what the result holds. The bounds add and
-- multiply, so a side condition is a comparison of literals, or `omega`'s.
use mathlib.Core.Path.{◌≡◌, ◌∙◌}
use Prim.Native.Nat.{ℕ, ◌+◌, ◌*◌, ◌^◌, ◌<◌, ◌≤◌}
use native.Mathlib.Nat.{le_refl, le_trans, lt_of_le_of_lt, add-le-add}
use lib.IntN.{ℤ, pos, nat_abs, neg_ℤ, ◌+ℤ◌, ◌-ℤ◌, ◌*ℤ◌}
use lib.Signed.{nat_abs-le, shr_z}
use mir.Syntax.{Width}
use mir.Val.{SFits, to_z, of_z, hbits}
use mir.Facts.{to_z-of_z, to_z_pos}
use Rattle.laws.proofs.Ints.{sfits_abs, abs_add, abs_neg, abs_mul_le, abs_shr}

pub record Held (w : Width) (n : ℕ) (z : ℤ) (B : ℕ) : Type 0 where
  pub is : to_z w n ≡ z
  pub bound : nat_abs z ≤ B

-- the bits that the machine's arithmetic gives
abbrev pub add_b : Width → ℕ → ℕ → ℕ
add_b w m n = of_z w (to_z w m +ℤ to_z w n)

abbrev pub sub_b : Width → ℕ → ℕ → ℕ
sub_b w m n = of_z w (to_z w m -ℤ to_z w n)

abbrev pub mul_b : Width → ℕ → ℕ → ℕ
mul_b w m n = of_z w (to_z w m *ℤ to_z w n)

abbrev pub cast_b : Width → Width → ℕ → ℕ
cast_b w v n = of_z v (to_z w n)

-- a number of the source that is not negative, as a byte that was cast, or a literal
pub natural : {w : Width} {n B : ℕ} → n ≤ B → B < 2 ^ hbits w → Held w n (pos n) B
natural {w} {n} {B} h k = record { is = to_z_pos w (lt_of_le_of_lt h k); bound = h }

-- a parameter, a result of a call, an element that was read
pub kept : {w : Width} {z : ℤ} → SFits w z → Held w (of_z w z) z (nat_abs z)
kept {w} {z} f = record { is = to_z-of_z f; bound = le_refl (nat_abs z) }

-- the same, under the bound of its width
pub typed : {w : Width} {z : ℤ} → SFits w z → Held w (of_z w z) z (2 ^ hbits w)
typed {w} {z} f = record { is = to_z-of_z f; bound = nat_abs-le z f.sfits }

-- the same value, under a bound that is known
pub under : {w : Width} {n : ℕ} {z : ℤ} {A B : ℕ} → Held w n z A → nat_abs z ≤ B → Held w n z B
under h k = record { is = h.is; bound = k }

-- a cast to another width
module _ {w : Width} {n : ℕ} {z : ℤ} {B : ℕ} (v : Width) (h : Held w n z B) where
  pub cast_fits : B < 2 ^ hbits v → SFits v (to_z w n)
  cast_fits l = rw h.is (sfits_abs (lt_of_le_of_lt h.bound l))

  pub cast : B < 2 ^ hbits v → Held v (cast_b w v n) z B
  cast l = record { is = to_z-of_z (cast_fits l) ∙ h.is; bound = h.bound }

module _ {w : Width} {m n : ℕ} {x y : ℤ} {A B : ℕ} (h : Held w m x A) (k : Held w n y B) where
  plus_abs : nat_abs (x +ℤ y) ≤ A + B
  plus_abs = le_trans (abs_add x y) (add-le-add h.bound k.bound)

  minus_abs : nat_abs (x -ℤ y) ≤ A + B
  minus_abs = le_trans (abs_add x (neg_ℤ y)) (add-le-add h.bound (rw (abs_neg y) k.bound))

  times_abs : nat_abs (x *ℤ y) ≤ A * B
  times_abs = abs_mul_le x y h.bound k.bound

  pub plus_fits : A + B < 2 ^ hbits w → SFits w (to_z w m +ℤ to_z w n)
  plus_fits l = rw (h.is, k.is) (sfits_abs (lt_of_le_of_lt plus_abs l))

  pub plus : A + B < 2 ^ hbits w → Held w (add_b w m n) (x +ℤ y) (A + B)
  plus l = record { is = to_z-of_z (plus_fits l) ∙ (λ i. h.is i +ℤ k.is i); bound = plus_abs }

  pub minus_fits : A + B < 2 ^ hbits w → SFits w (to_z w m -ℤ to_z w n)
  minus_fits l = rw (h.is, k.is) (sfits_abs (lt_of_le_of_lt minus_abs l))

  pub minus : A + B < 2 ^ hbits w → Held w (sub_b w m n) (x -ℤ y) (A + B)
  minus l = record { is = to_z-of_z (minus_fits l) ∙ (λ i. h.is i -ℤ k.is i); bound = minus_abs }

  pub times_fits : A * B < 2 ^ hbits w → SFits w (to_z w m *ℤ to_z w n)
  times_fits l = rw (h.is, k.is) (sfits_abs (lt_of_le_of_lt times_abs l))

  pub times : A * B < 2 ^ hbits w → Held w (mul_b w m n) (x *ℤ y) (A * B)
  times l = record { is = to_z-of_z (times_fits l) ∙ (λ i. h.is i *ℤ k.is i); bound = times_abs }

-- a shift to the right
pub shifted : {w : Width} {n : ℕ} {z : ℤ} {B : ℕ} (m : ℕ) → Held w n z B → B < 2 ^ hbits w → Held w (of_z w (shr_z (to_z w n) m)) (shr_z z m) B
shifted {w} {n} {z} {B} m h l =
    let b : nat_abs (shr_z z m) ≤ B = le_trans (abs_shr z m) h.bound in
    let f : SFits w (shr_z z m) = sfits_abs (lt_of_le_of_lt b l) in
    record { is = rw h.is (to_z-of_z f); bound = b }
