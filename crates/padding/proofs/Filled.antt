-- A loop that fills columns, every second one where only the even ones are filled: one step more.
use mathlib.Core.Path.{◌≡◌, refl, sym, ◌∙◌}
use mathlib.Core.Bool.{Bool, true, false, cond, ◌&&◌}
use mathlib.Core.List.{List}
use Prim.Native.Nat.{ℕ, ◌+◌, ◌%◌, ◌≤◌, ◌<◌}
use native.Mathlib.Omega.{arith}
use lib.Dec.{eqb}
use lib.ListN.{get_or, set}
use lib.Seq.{sets}
use borrow.Author.Tests.{eq-eqb, ne_eqb}
use Rattle.definition.specs.Rows.{tab}
use Rattle.definition.specs.Padding.{even_only}
use Rattle.laws.proofs.Lists.{sets_more, sets_kept}
use Rattle.laws.proofs.Ints.{never}
use Rattle.padding.specs.Steps.{columns}

-- j columns are filled, whole steps only
pub record WholeSteps (b : Bool) (j n : ℕ) : Type 0 where
  pub inside : j ≤ n
  pub even : b ≡ true → j % 2 ≡ 0

whole-step : (b : Bool) (j n : ℕ) → WholeSteps b j n → j < n → (b ≡ true → n % 2 ≡ 0) → WholeSteps b (j + cond b 2 1) n
whole-step true j n w h e =
    let p = w.even refl in
    let q = e refl in
    record { inside = omega arith; even = λ _. omega arith }
whole-step false j n w h e = record { inside = omega arith; even = λ f. absurd (never f) }

-- each column, or each even one
abbrev each : Bool → List ℕ → ℕ → (ℕ → ℕ) → ℕ → ℕ
each b dst at f j = cond (b && eqb (j % 2) 1) (get_or dst (at + j) 0) (f j)

pub unmasked : (b : Bool) (x X P : ℕ) → (b ≡ true → x % 2 ≡ 0) → cond (b && eqb (x % 2) 1) X P ≡ P
unmasked true x X P e = let p = e refl in rw (ne_eqb (x % 2) 1 (λ q. omega arith))
unmasked false x X P e = refl

each_odd : (dst : List ℕ) (at : ℕ) (f : ℕ → ℕ) (j : ℕ) → j % 2 ≡ 1 → each true dst at f j ≡ get_or dst (at + j) 0
each_odd dst at f j e = rw (eq-eqb (j % 2) 1 e)

one_more : (b : Bool) (dst : List ℕ) (at : ℕ) (f : ℕ → ℕ) (j : ℕ) → (b ≡ true → j % 2 ≡ 0) →
    set (sets dst at (tab j (each b dst at f))) (at + j) (f j) ≡ sets dst at (tab (j + 1) (each b dst at f))
one_more b dst at f j e = rw (← unmasked b j (get_or dst (at + j) 0) (f j) e) (sets_more j dst at (each b dst at f))

step_more : (b : Bool) (dst : List ℕ) (at : ℕ) (f : ℕ → ℕ) (j : ℕ) → (b ≡ true → j % 2 ≡ 0) →
    set (sets dst at (tab j (each b dst at f))) (at + j) (f j) ≡ sets dst at (tab (j + cond b 2 1) (each b dst at f))
step_more true dst at f j e =
    let d : j + 2 ≡ j + 1 + 1 = omega arith in
    let o : (j + 1) % 2 ≡ 1 = let p = e refl in omega arith in
    rw d (one_more true dst at f j e ∙ sym (sets_kept (j + 1) dst at (each true dst at f) (each_odd dst at f (j + 1) o)))
step_more false dst at f j e = one_more false dst at f j e

module _ (v k step j n : ℕ) (is : step ≡ cond (even_only v k) 2 1) (w : WholeSteps (even_only v k) j n) where
  pub whole_more : j < n → (even_only v k ≡ true → n % 2 ≡ 0) → WholeSteps (even_only v k) (j + step) n
  whole_more h e = rw is (whole-step (even_only v k) j n w h e)

  pub columns_more : (dst : List ℕ) (at : ℕ) (f : ℕ → ℕ) → set (columns dst at j v k f) (at + j) (f j) ≡ columns dst at (j + step) v k f
  columns_more dst at f = rw is (step_more (even_only v k) dst at f j w.even)
