-- A sum that is taken tap by tap: after k taps it is C + f 0 + .. + f (k - 1). Each tap adds at most D to a bound that starts at B.
-- One law for the taps of luma, of chroma, of chroma's luma and of the pretrained filters: they differ in C, f and the two bounds.
use mathlib.Core.Path.{◌≡◌, refl, sym, ap, subst, ◌∙◌}
use Prim.Native.Nat.{ℕ, zero, suc, ◌+◌, ◌*◌, ◌^◌, ◌<◌, ◌≤◌}
use native.Mathlib.Omega.{arith}
use native.Mathlib.Numerals.{add-one}
use lib.IntN.{ℤ, nat_abs, ◌+ℤ◌, +ℤ_assoc, +ℤ_idr}
use lib.Signed.{mag}
use mir.Syntax.{w32}
use mir.Val.{to_z, of_z}
use mir.Facts.{to_z-of_z}
use Rattle.definition.specs.Numbers.{sum_z, sum_n}

pub record Partial (C : ℤ) (f : ℕ → ℤ) (B D k : ℕ) (s : ℤ) : Type 0 where
  pub is : s ≡ C +ℤ sum_z k f
  pub bound : nat_abs s ≤ B + k * D

pub sum_z-suc : (C : ℤ) (f : ℕ → ℤ) (k : ℕ) → C +ℤ sum_z k f +ℤ f k ≡ C +ℤ sum_z (k + 1) f
unfolding sum_z
sum_z-suc C f k = rw (add-one k) (+ℤ_assoc C (sum_z k f) (f k))

-- sums whose terms agree
pub sum_n_cong : (n : ℕ) (f g : ℕ → ℕ) → ((k : ℕ) → k < n → f k ≡ g k) → sum_n n f ≡ sum_n n g
unfolding sum_n
sum_n_cong zero f g e = refl
sum_n_cong (suc n) f g e = λ i. sum_n_cong n f g (λ k h. e k (omega arith)) i + e n (omega arith) i

-- before the first tap
pub begun : {C : ℤ} {f : ℕ → ℤ} {B D : ℕ} {s : ℤ} → s ≡ C → nat_abs s ≤ B → Partial C f B D 0 s
unfolding sum_z
begun {C} e b = record { is = e ∙ sym (+ℤ_idr C); bound = omega arith }

-- one tap more
pub tapped : {C : ℤ} {f : ℕ → ℤ} {B D k : ℕ} {s r : ℤ} → Partial C f B D k s → r ≡ s +ℤ f k → nat_abs r ≤ nat_abs s + D → Partial C f B D (k + 1) r
tapped {C} {f} {B} {D} {k} {s} {r} h e b =
    record { is = e ∙ ap (λ (z : ℤ). z +ℤ f k) h.is ∙ sum_z-suc C f k; bound = omega (arith, h.bound) }

-- a sum that a call gave, as the machine passes it on
pub passed : {C : ℤ} {f : ℕ → ℤ} {B D k : ℕ} {s : ℤ} → mag s < 2 ^ 31 → Partial C f B D k s → Partial C f B D k (to_z w32 (of_z w32 s))
passed {C} {f} {B} {D} {k} ok h = subst (Partial C f B D k) (sym (to_z-of_z {w = w32} (record { sfits = ok }))) h
