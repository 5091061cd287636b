-- Numbers that are put one behind the other.
use mathlib.Core.Path.{◌≡◌, ap, ◌∙◌}
use mathlib.Core.List.{List, [], ◌∷◌, ◌++◌, append_assoc}
use Prim.Native.Nat.{ℕ, ◌+◌}
use native.Mathlib.Numerals.{add-one}
use lib.ListN.{take}
use Rattle.std.specs.Fmt.{decimal}
use Rattle.definition.specs.Card.{end_of}
use Rattle.definition.specs.StateText.{several_text}
use Rattle.text.proofs.Cuts.{cut_both}

-- the first k of n
abbrev pub first_numbers : (ℕ → ℕ) → ℕ → ℕ → List ℕ
first_numbers f n k = several_text (λ j. decimal (f j) ++ (end_of n j ∷ [])) k

-- one more, and what ends it
pub one_more : (f : ℕ → ℕ) (n m k number : ℕ) (o l t u : List ℕ) → number ≡ f k → l ≡ take m (o ++ first_numbers f n k) → t ≡ take m (l ++ decimal number) →
    u ≡ take m (t ++ (end_of n k ∷ [])) → u ≡ take m (o ++ first_numbers f n (k + 1))
unfolding several_text
one_more f n m k number o l t u e el et eu =
    rw (add-one k, eu, et, el, e)
    (ap (λ x. take m (x ++ (end_of n k ∷ []))) (cut_both m o (first_numbers f n k) (decimal (f k))) ∙
    cut_both m o (first_numbers f n k ++ decimal (f k)) (end_of n k ∷ []) ∙
    ap (λ x. take m (o ++ x)) (append_assoc (first_numbers f n k) (decimal (f k)) (end_of n k ∷ [])))
