-- One turn of the loop over digits, by what it found at its place.
use mathlib.Core.Path.{◌≡◌, refl, sym, ap, ◌∙◌}
use mathlib.Core.Logic.{◌≢◌}
use mathlib.Core.Bool.{Bool, true, false, cond}
use mathlib.Core.List.{List}
use Prim.Native.Nat.{ℕ, ◌+◌, ◌*◌, ◌≤◌, ◌<◌}
use native.Mathlib.Omega.{arith}
use borrow.Author.Tests.{eqb-true, eqb-false, ltb-false, ltb-true}
use lib.Dec.{eqb, ltb}
use lib.ListN.{length, get_or, drop}
use Rattle.std.proofs.lemmas.Grind.{get_or_default_zero}
use Rattle.definition.specs.Card.{value, wrong, ended, word, input_at, digit_of}
use Rattle.definition.specs.StateText.{digits_from}
use Rattle.text_laws.proofs.Found.{never, found-true, found-false, same-value}
use Rattle.text_laws.proofs.Digits.{digits-stop, digits-bad, digits-over, digits-go, digits-within}
use Rattle.std.specs.Prelude.{Option, Some, None, IfSome}
use Rattle.card_reader.specs.Answers.{reading_of}
use Rattle.card_reader.specs.Lines.{digit_at}

-- of a test that found nothing
missed-true : {A : Type 0} (t : Bool) (a : A) (q : ℕ) → wrong ≡ cond t (value a q) wrong → t ≡ false
missed-true true a q e = never e
missed-true false a q e = refl

missed-false : {A : Type 0} (t : Bool) (a : A) (q : ℕ) → wrong ≡ cond t wrong (value a q) → t ≡ true
missed-false true a q e = refl
missed-false false a q e = never e

module _ (limit end v p : ℕ) (s : List ℕ) (inside : p < length s) where
  byte : input_at s p ≡ get_or s p 0
  byte = get_or_default_zero s p 256 inside

  pub ends_here : (q : ℕ) → value word q ≡ ended s end word p → digits_from limit end v (drop p s) p ≡ value v q
  ends_here q e =
      let f = found-true (eqb (input_at s p) end) (sym e) in
      digits-stop limit end v p s (input_at s p) inside byte (eqb-true (input_at s p) end f.0) ∙ ap (value v) (same-value f.1).1

  -- .. whose byte ends no number
  module _ (none : wrong ≡ ended s end word p) where
    other : input_at s p ≢ end
    other = eqb-false (input_at s p) end (missed-true (eqb (input_at s p) end) _ _ none)

    pub no_digit : wrong ≡ digit_at s p → digits_from limit end v (drop p s) p ≡ wrong
    no_digit e =
        digits-bad limit end v p s (input_at s p) inside byte other (digit_of (input_at s p)) refl
        (ltb-true 9 (digit_of (input_at s p)) (missed-false (ltb 9 (digit_of (input_at s p))) _ _ e))

    module _ (d q : ℕ) (e : value d q ≡ digit_at s p) where
      found : (ltb 9 (digit_of (input_at s p)) ≡ false) × (digit_of (input_at s p) ≡ d)
      found = let f = found-false (ltb 9 (digit_of (input_at s p))) (sym e) in (f.0, (same-value f.1).0)

      low : d ≤ 9
      low = let l = ltb-false 9 (digit_of (input_at s p)) found.0 in omega (arith, l, found.1)

      pub too_large : limit < 10 * v + d → digits_from limit end v (drop p s) p ≡ wrong
      too_large h = digits-over limit end v p s (input_at s p) inside byte other d (sym found.1) low h

      pub one_more : 10 * v + d ≤ limit → digits_from limit end v (drop p s) p ≡ digits_from limit end (10 * v + d) (drop (p + 1) s) (p + 1)
      one_more h = digits-go limit end v p s (input_at s p) inside byte other d (sym found.1) low h

-- what all turns found is within the limit
pub within : (limit end at : ℕ) (bs : List ℕ) (r : Option (ℕ × ℕ)) → reading_of r ≡ digits_from limit end 0 bs at → IfSome r (λ x. x.0 ≤ limit)
within limit end at bs (Some x) e = digits-within limit end bs 0 at x.0 x.1 (omega arith) (sym e)
within limit end at bs None e = tt
