-- A reading that found something: which way it went, and what its parts found.
use mathlib.Core.Path.{◌≡◌, refl, ap}
use mathlib.Core.Bool.{Bool, true, false, cond}
use Prim.Native.Nat.{ℕ}
use native.Mathlib.Omega.{arith}
use Rattle.definition.specs.Card.{Reading, value, wrong, reading}

pub never : {A : Type 0} {a : A} {q : ℕ} {C : Type 0} → wrong ≡ value a q → C
never {A} {a} {q} {C} e = let z : ◌≡◌ {A = ℕ} 0 1 = ap found e in absurd (no z)
  where
    found : Reading A → ℕ
    found (value x p) = 1
    found wrong = 0

    no : ◌≡◌ {A = ℕ} 0 1 → ⊥
    no z = omega arith

-- of a reading and what goes on behind it
pub found-then : {A B : Type 0} (r : Reading A) {more : A → ℕ → Reading B} {q : ℕ} {b : B} {C : Type 0} → reading r more ≡ value b q →
    ((a : A) (p : ℕ) → r ≡ value a p → more a p ≡ value b q → C) → C
found-then {A} {B} r {more} {q} {b} {C} e k = go r refl e
  where
    go : (x : Reading A) → r ≡ x → reading x more ≡ value b q → C
    go (value a p) w v = k a p w v
    go wrong w v = never v

-- of a test between two readings
pub found-either : {A : Type 0} (t : Bool) {r u : Reading A} {a : A} {q : ℕ} {C : Type 0} → cond t r u ≡ value a q → (t ≡ true → r ≡ value a q → C) → (t ≡ false → u ≡ value a q → C) → C
found-either true e k l = k refl e
found-either false e k l = l refl e

-- of a test that must hold, and of one that must fail
pub found-true : {A : Type 0} (t : Bool) {r : Reading A} {a : A} {q : ℕ} → cond t r wrong ≡ value a q → (t ≡ true) × (r ≡ value a q)
found-true true e = (refl, e)
found-true false e = never e

pub found-false : {A : Type 0} (t : Bool) {r : Reading A} {a : A} {q : ℕ} → cond t wrong r ≡ value a q → (t ≡ false) × (r ≡ value a q)
found-false true e = never e
found-false false e = (refl, e)

pub same-value : {A : Type 0} {a b : A} {p q : ℕ} → value a p ≡ value b q → (a ≡ b) × (p ≡ q)
same-value {A} {a} {b} {p} {q} e = (cc, cc)
