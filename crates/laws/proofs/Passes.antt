-- What tests that hold or fail together say; and tests over the first n of a list (`first_pass`): what a passed test says of each.
use mathlib.Core.Path.{◌≡◌, refl, sym}
use mathlib.Core.Bool.{Bool, true, false, cond, ◌&&◌, ◌||◌}
use mathlib.Core.List.{List}
use Prim.Native.Nat.{ℕ, zero, suc, ◌<◌}
use native.Mathlib.Nat.{not-suc-le-zero}
use native.Mathlib.Decide.{ℕ_discrete}
use native.Mathlib.Omega.{arith}
use lib.ListN.{get_or}
use Rattle.definition.specs.Rows.{outside_unless, or_zero, unless_refused}
use Rattle.definition.specs.Refusals.{first_pass}
use Rattle.laws.proofs.Ints.{never}

-- both parts of a conjunction that holds; one that fails fails it
pub both : (a b : Bool) → (a && b) ≡ true → (a ≡ true) × (b ≡ true)
both true true e = (refl, refl)
both true false e = absurd (never e)
both false b e = absurd (never e)

-- neither part of a disjunction that fails; a call that is not outside
pub not_both : (a b : Bool) → (a || b) ≡ false → (a ≡ false) × (b ≡ false)
not_both true b e = absurd (never (sym e))
not_both false b e = (refl, e)

pub inside : (b : Bool) → outside_unless b ≡ 0 → b ≡ true
inside true e = refl
inside false e = absurd (omega arith)

-- a call that is refused leaves what it was lent
pub refused : (status : ℕ) (old written : List ℕ) → (status ≡ 0 → ⊥) → old ≡ unless_refused status old written
refused zero old written h = absurd (h refl)
refused (suc status) old written h = refl

-- .. and answers zero; one that is not refused answers what it worked out
pub none-answered : (status n : ℕ) → (status ≡ 0 → ⊥) → 0 ≡ or_zero status n
none-answered zero n h = absurd (h refl)
none-answered (suc status) n h = refl

pub answered : (status n r : ℕ) → status ≡ 0 → r ≡ n → r ≡ or_zero status n
answered status n r z e = rw z e

-- the first of several conditions does not apply
pub first-clear : (b : Bool) (n rest : ℕ) → 0 < n → cond b n rest ≡ 0 → (b ≡ false) × (rest ≡ 0)
first-clear true n rest h e = absurd (omega arith)
first-clear false n rest h e = (refl, e)

module _ (test : ℕ → Bool) (xs : List ℕ) where
  pub pass_at : (n k : ℕ) → k < n → first_pass test n xs ≡ true → test (get_or xs k 0) ≡ true
  unfolding first_pass
  pass_at zero k h e = absurd (not-suc-le-zero h)
  pass_at (suc n) k h e =
      let p = both (first_pass test n xs) (test (get_or xs n 0)) e in
      elim (ℕ_discrete k n) [
        | yes q ↦ rw q p.1
        | no ne ↦ pass_at n k (omega arith) p.0
      ]

  pub pass_all : (n : ℕ) → ((k : ℕ) → k < n → test (get_or xs k 0) ≡ true) → first_pass test n xs ≡ true
  unfolding first_pass
  pass_all zero h = refl
  pass_all (suc n) h = rw (pass_all n (λ k l. h k (omega arith)), h n (omega arith))
