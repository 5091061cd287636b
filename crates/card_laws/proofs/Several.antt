-- Values that are read one behind the other (`several`), and a loop that stores them.
use mathlib.Core.Path.{◌≡◌, refl, sym, ap, ◌∙◌, subst}
use mathlib.Core.Logic.{◌≢◌}
use mathlib.Core.Bool.{Bool, true, false}
use mathlib.Core.List.{List, [], ◌∷◌, ◌++◌}
use Prim.Native.Nat.{ℕ, zero, suc, ◌+◌, ◌≤◌, ◌<◌}
use native.Mathlib.Nat.{not-suc-le-zero}
use native.Mathlib.Numerals.{add-one}
use native.Mathlib.Omega.{arith}
use borrow.Author.Tests.{eqb-true, eqb-false}
use lib.Dec.{eqb}
use lib.ListN.{length, set, take, length-set}
use lib.Seq.{take-suc-set}
use Rattle.definition.specs.Card.{Reading, value, wrong, reading, several}

module _ {A : Type 0} (f : ℕ → ℕ → Reading A) (at : ℕ) where
  pub several-none : several f 0 at ≡ value [] at
  unfolding several
  several-none = refl

  several-step : (k p : ℕ) (l : List A) → several f k at ≡ value l p → several f (suc k) at ≡ reading (f k p) (λ a q. value (l ++ (a ∷ [])) q)
  unfolding several
  several-step k p l e = rw e

  pub several-wrong : (n k p : ℕ) (l : List A) → k < n → several f k at ≡ value l p → f k p ≡ wrong → several f n at ≡ wrong
  unfolding several
  several-wrong zero k p l h e w = absurd (not-suc-le-zero h)
  several-wrong (suc n) k p l h e w = go (λ b. several-wrong n k p l b e w) (eqb k n) refl
    where
      go : (k < n → several f n at ≡ wrong) → (b : Bool) → eqb k n ≡ b → several f (suc n) at ≡ wrong
      go before true t = subst (λ m. several f (suc m) at ≡ wrong) (eqb-true k n t) (several-step k p l e ∙ ap (λ r. reading r (λ a q. value (l ++ (a ∷ [])) q)) w)
      go before false t = let d : k ≢ n = eqb-false k n t in rw (before (omega (arith, d)))

  pub several_more : (k p q : ℕ) (l : List A) (a : A) → several f k at ≡ value l p → f k p ≡ value a q → several f (k + 1) at ≡ value (l ++ (a ∷ [])) q
  several_more k p q l a e v = rw (add-one k) (several-step k p l e ∙ ap (λ r. reading r (λ b o. value (l ++ (b ∷ [])) o)) v)

  -- value k was stored at k
  several_stored : (k p q : ℕ) (l : List A) (a : A) → k < length l → several f k at ≡ value (take k l) p → f k p ≡ value a q →
      several f (k + 1) at ≡ value (take (k + 1) (set l k a)) q
  several_stored k p q l a h e v =
      let t : take (k + 1) (set l k a) ≡ take k l ++ (a ∷ []) = rw (add-one k) (take-suc-set l k a h) in
      rw t (several_more k p q (take k l) a e v)

-- A loop that stores as many values as a list is long: k were read, and the next is read at a place.
pub record Filling {A : Type 0} (f : ℕ → ℕ → Reading A) (at : ℕ) (l₀ l : List A) (next k : ℕ) : Type 0 where
  pub inside : k ≤ length l₀
  pub size : length l ≡ length l₀
  pub values : several f k at ≡ value (take k l) next

module _ {A : Type 0} (f : ℕ → ℕ → Reading A) (at : ℕ) (l₀ : List A) where
  pub filling_begins : Filling f at l₀ l₀ at 0
  filling_begins = record { inside = omega arith; size = refl; values = several-none f at }

  module _ (l : List A) (next k : ℕ) (i : Filling f at l₀ l next k) where
    pub filling_more : (v : A) (q : ℕ) → k < length l → f k next ≡ value v q → Filling f at l₀ (set l k v) q (k + 1)
    filling_more v q h e =
        record { inside = omega (arith, i.size); size = length-set l k v ∙ i.size; values = several_stored f at k next q l v h i.values e }

    pub filling_stops : k < length l → f k next ≡ wrong → wrong ≡ several f (length l₀) at
    filling_stops h e = sym (several-wrong f at (length l₀) k next (take k l) (omega (arith, i.size)) i.values e)
