-- Tests over a whole list (`every`): by its places, by its largest entry, and by the first of them.
use mathlib.Core.Path.{◌≡◌, refl, sym, ap, ◌∙◌}
use mathlib.Core.Bool.{Bool, true, ◌&&◌, and-true}
use mathlib.Core.List.{List, [], ◌∷◌}
use Prim.Native.Nat.{ℕ, zero, suc, ◌<◌, max}
use native.Mathlib.Nat.{not-suc-le-zero, le_of_suc-le-suc}
use native.Mathlib.Omega.{arith}
use native.Mathlib.Decide.{dec_lt}
use lib.Dec.{ltb}
use lib.ListN.{length, get_or}
use borrow.Author.Tests.{lt-ltb, le-ltb}
use Rattle.std.proofs.Math.Bool.{and_assoc}
use Rattle.std.specs.List.{fold}
use Rattle.definition.specs.Refusals.{every, first_pass}
use Rattle.laws.proofs.Passes.{both}
use Rattle.bounds.proofs.Passes.{pass_first}

pub every-at : (test : ℕ → Bool) (xs : List ℕ) (k : ℕ) → k < length xs → every test xs ≡ true → test (get_or xs k 0) ≡ true
every-at test [] k l e = absurd (not-suc-le-zero l)
every-at test (x ∷ xs) zero l e = (both (test x) (every test xs) e).0
every-at test (x ∷ xs) (suc k) l e = every-at test xs k (le_of_suc-le-suc l) (both (test x) (every test xs) e).1

-- THE LARGEST is below n where all are
larger-below : (a b n : ℕ) → ltb (max a b) n ≡ (ltb a n && ltb b n)
larger-below a b n =
    elim (dec_lt a n) [
      | no h ↦ rw (le-ltb a n (omega arith)) (le-ltb (max a b) n (omega arith))
      | yes h ↦
          rw (lt-ltb a n h)
          (elim (dec_lt b n) [
            | yes l ↦ lt-ltb (max a b) n (omega arith) ∙ sym (lt-ltb b n l)
            | no l ↦ le-ltb (max a b) n (omega arith) ∙ sym (le-ltb b n (omega arith))
          ])
    ]

below : (xs : List ℕ) (a n : ℕ) → ltb (fold max a xs) n ≡ (ltb a n && every (λ x. ltb x n) xs)
below [] a n = sym (and-true (ltb a n))
below (x ∷ xs) a n = below xs (max a x) n ∙ ap (λ b. b && every (λ y. ltb y n) xs) (larger-below a x n) ∙ and_assoc (ltb a n) (ltb x n) (every (λ y. ltb y n) xs)

pub below_largest : (xs : List ℕ) (n : ℕ) → 0 < length xs → ltb (fold max 0 xs) n ≡ every (λ x. ltb x n) xs
below_largest [] n h = absurd (omega arith)
below_largest (x ∷ xs) n h = below xs (max 0 x) n ∙ ap (λ m. ltb m n && every (λ y. ltb y n) xs) (omega arith)

-- A TEST OF ALL, as the first n of them
pub every_first : (test : ℕ → Bool) (xs : List ℕ) → every test xs ≡ first_pass test (length xs) xs
unfolding first_pass
every_first test [] = refl
every_first test (x ∷ xs) = ap (λ b. test x && b) (every_first test xs) ∙ pass_first test (length xs) x xs
