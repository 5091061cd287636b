-- Sums of taps, tap by tap in a group, and group by group. The laws hold at any width.
use mathlib.Core.Path.{◌≡◌, refl, sym, ap, subst, ◌∙◌}
use Prim.Native.Nat.{ℕ, zero, suc, ◌+◌, ◌^◌, ◌≤◌, ◌<◌}
use native.Mathlib.Nat.{le_refl, mul-le-mul, add-mul}
use native.Mathlib.Omega.{arith}
use lib.IntN.{ℤ, pos, nat_abs, ◌+ℤ◌, +ℤ_assoc, +ℤ_idl, +ℤ_idr}
use lib.Signed.{mag}
use mir.Syntax.{w16}
use mir.Val.{to_z, of_z}
use mir.Facts.{to_z-of_z}
use Rattle.definition.specs.Numbers.{sum_z}
use Rattle.laws.proofs.Sums.{Partial, begun, tapped}

-- a sum of k + m numbers is the first k and then m more
pub sum_z_split : (f : ℕ → ℤ) (k m : ℕ) → sum_z (k + m) f ≡ sum_z k f +ℤ sum_z m (λ j. f (k + j))
unfolding sum_z
sum_z_split f k zero = let e : k + 0 ≡ k = omega arith in rw e (sym (+ℤ_idr (sum_z k f)))
sum_z_split f k (suc m) =
    let e : k + suc m ≡ suc (k + m) = omega arith in
    rw e (ap (λ (z : ℤ). z +ℤ f (k + m)) (sum_z_split f k m) ∙ +ℤ_assoc (sum_z k f) (sum_z m (λ j. f (k + j))) (f (k + m)))

-- the sum of a group, as the machine passes it on in 16 bits
pub passed_narrow : {C : ℤ} {f : ℕ → ℤ} {B D k : ℕ} {s : ℤ} → mag s < 2 ^ 15 → Partial C f B D k s → Partial C f B D k (to_z w16 (of_z w16 s))
passed_narrow {C} {f} {B} {D} {k} ok h = subst (Partial C f B D k) (sym (to_z-of_z {w = w16} (record { sfits = ok }))) h

-- a group's first tap
pub group_begun : (f : ℕ → ℤ) {D : ℕ} {t : ℤ} (k : ℕ) → t ≡ pos 0 +ℤ f k → nat_abs t ≤ D → mag t < 2 ^ 15 → Partial (pos 0) (λ j. f (k + j)) 0 D 1 (to_z w16 (of_z w16 t))
group_begun f {t = t} k e b ok =
    let first : k ≡ k + 0 = omega arith in
    passed_narrow ok (tapped {f = λ j. f (k + j)} (begun refl (omega arith)) (rw first at e) (omega (arith, b)))

-- a group of m taps after k taps: the sum of both is that of k + m
pub joined : {C : ℤ} {f : ℕ → ℤ} {B D E k m : ℕ} {s t r : ℤ} → Partial C f B D k s → Partial (pos 0) (λ j. f (k + j)) 0 E m t → E ≤ D → (r ≡ s +ℤ t) × (nat_abs r ≤ nat_abs s + nat_abs t) →
    Partial C f B D (k + m) r
joined {C} {f} {D = D} {k = k} {m = m} {s = s} {t = t} h g l given =
    let t-sum : t ≡ sum_z m (λ j. f (k + j)) = g.is ∙ +ℤ_idl (sum_z m (λ j. f (k + j))) in
    record {
      is = given.0 ∙ (λ i. h.is i +ℤ t-sum i) ∙ +ℤ_assoc C (sum_z k f) (sum_z m (λ j. f (k + j))) ∙ ap (λ (z : ℤ). C +ℤ z) (sym (sum_z_split f k m));
      bound = omega (arith, given.1, h.bound, g.bound, mul-le-mul (le_refl m) l, add-mul k m D);
    }
