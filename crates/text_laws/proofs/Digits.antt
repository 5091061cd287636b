-- The steps of a loop over digits, the cases of `number_at`, and that a number which was read is within its limit.
use mathlib.Core.Path.{◌≡◌, sym, ap, ◌∙◌}
use mathlib.Core.Logic.{◌≢◌}
use mathlib.Core.List.{List, [], ◌∷◌}
use Prim.Native.Nat.{ℕ, suc, ◌+◌, ◌*◌, ◌≤◌, ◌<◌}
use native.Mathlib.Numerals.{add-one}
use native.Mathlib.Omega.{arith}
use borrow.Author.Tests.{lt-ltb, le-ltb, eq-eqb, ne_eqb, ltb-false}
use lib.Dec.{ltb, eqb}
use lib.ListN.{length, get_or, drop, drop_of_length-le}
use lib.Seq.{drop-cons}
use Rattle.definition.specs.Card.{value, wrong, input_at, digit_of}
use Rattle.definition.specs.StateText.{digits_from, number_at}
use Rattle.text_laws.proofs.Found.{never, found-either, found-true, found-false, same-value}

-- A LOOP OVER DIGITS, v the number so far and p the place
pub digits-past : (limit end v p : ℕ) (s : List ℕ) → length s ≤ p → digits_from limit end v (drop p s) p ≡ wrong
unfolding digits_from
digits-past limit end v p s h = rw (drop_of_length-le s h)

-- the place holds b
module _ (limit end v p : ℕ) (s : List ℕ) (b : ℕ) (inside : p < length s) (is : b ≡ get_or s p 0) where
  cut : drop p s ≡ b ∷ drop (p + 1) s
  cut = drop-cons s p 0 inside ∙ ap (λ x. x ∷ drop (suc p) s) (sym is) ∙ ap (λ k. b ∷ drop k s) (sym (add-one p))

  pub digits-stop : b ≡ end → digits_from limit end v (drop p s) p ≡ value v (p + 1)
  unfolding digits_from
  digits-stop e = rw (cut, eq-eqb b end e)

  -- .. whose digit is d
  module _ (other : b ≢ end) (d : ℕ) (digit : d ≡ digit_of b) where
    pub digits-bad : 9 < d → digits_from limit end v (drop p s) p ≡ wrong
    unfolding digits_from
    digits-bad h = rw (cut, ne_eqb b end other, ← digit, lt-ltb 9 d h)

    pub digits-over : d ≤ 9 → limit < 10 * v + d → digits_from limit end v (drop p s) p ≡ wrong
    unfolding digits_from
    digits-over h l = rw (cut, ne_eqb b end other, ← digit, le-ltb 9 d h, lt-ltb limit (10 * v + d) l)

    pub digits-go : d ≤ 9 → 10 * v + d ≤ limit → digits_from limit end v (drop p s) p ≡ digits_from limit end (10 * v + d) (drop (p + 1) s) (p + 1)
    unfolding digits_from
    digits-go h l = rw (cut, ne_eqb b end other, ← digit, le-ltb 9 d h, le-ltb limit (10 * v + d) l)

-- THE CASES OF A NUMBER, whose first byte has the digit d
module _ (limit : ℕ) (s : List ℕ) (end at d : ℕ) (is : d ≡ digit_of (input_at s at)) where
  pub zero-ends : d ≡ 0 → input_at s (at + 1) ≡ end → number_at limit s end at ≡ value 0 (at + 2)
  unfolding number_at
  zero-ends e h = let a : at + 1 + 1 ≡ at + 2 = omega arith in rw (← is, e, eq-eqb (input_at s (at + 1)) end h, a)

  pub number-goes : d ≤ 9 → d ≢ 0 → number_at limit s end at ≡ digits_from limit end 0 (drop at s) at
  unfolding number_at
  number-goes h n = rw (← is, le-ltb 9 d h, ne_eqb d 0 n)

-- A NUMBER THAT WAS READ IS WITHIN ITS LIMIT
pub digits-within : (limit end : ℕ) (bs : List ℕ) (v at n q : ℕ) → v ≤ limit → digits_from limit end v bs at ≡ value n q → n ≤ limit
unfolding digits_from
digits-within limit end [] v at n q h e = never e
digits-within limit end (b ∷ bs) v at n q h e =
    found-either (eqb b end) e (λ _ w. let s = same-value w in omega (arith, s.0)) (λ _ w.
    let x = found-false (ltb 9 (digit_of b)) w in
    let y = found-false (ltb limit (10 * v + digit_of b)) x.1 in
    digits-within limit end bs (10 * v + digit_of b) (at + 1) n q (ltb-false limit (10 * v + digit_of b) y.0) y.1)

pub number-within : (limit : ℕ) (s : List ℕ) (end at n q : ℕ) → number_at limit s end at ≡ value n q → n ≤ limit
unfolding number_at
number-within limit s end at n q e =
    let x = found-false (ltb 9 (digit_of (input_at s at))) e in
    found-either (eqb (digit_of (input_at s at)) 0) x.1
    (λ _ w. let y = found-true (eqb (input_at s (at + 1)) end) w in let z = same-value y.1 in omega (arith, z.0))
    (λ _ w. digits-within limit end (drop at s) 0 at n q (omega arith) w)
