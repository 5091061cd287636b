-- A test of each entry of a list is `first_pass` of all its entries, which the definition counts from the last one down.
use mathlib.Core.Path.{◌≡◌, refl, sym, ap, ◌∙◌}
use mathlib.Core.Bool.{Bool, ◌&&◌}
use mathlib.Core.List.{List, [], ◌∷◌}
use Prim.Native.Nat.{ℕ, zero, suc}
use lib.ListN.{length, get_or}
use Rattle.std.proofs.Math.Bool.{and-true, and_assoc}
use Rattle.std.specs.List.{list_all}
use Rattle.definition.specs.Refusals.{first_pass}

module _ (test : ℕ → Bool) where
  pub pass_first : (n x : ℕ) (xs : List ℕ) → (test x && first_pass test n xs) ≡ first_pass test (suc n) (x ∷ xs)
  unfolding first_pass
  pass_first zero x xs = and-true (test x)
  pass_first (suc n) x xs =
      sym (and_assoc (test x) (first_pass test n xs) (test (get_or xs n 0))) ∙
      ap (λ b. b && test (get_or xs n 0)) (pass_first n x xs)

  pub passes_list : (xs : List ℕ) → list_all test xs ≡ first_pass test (length xs) xs
  unfolding first_pass
  passes_list [] = refl
  passes_list (x ∷ xs) = ap (λ b. test x && b) (passes_list xs) ∙ pass_first (length xs) x xs
