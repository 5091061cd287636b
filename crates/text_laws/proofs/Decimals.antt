-- A number: its text is read back, and what is read is the text of its value.
use mathlib.Core.Path.{◌≡◌, refl, sym, ap, ◌∙◌, subst}
use mathlib.Core.Logic.{◌≢◌}
use mathlib.Core.Bool.{Bool, true, false}
use mathlib.Core.List.{List, [], ◌∷◌, ◌++◌, append_assoc}
use Prim.Native.Nat.{ℕ, ◌+◌, ◌-◌, ◌*◌, ◌/◌, ◌%◌, ◌^◌, ◌≤◌, ◌<◌}
use native.Mathlib.Nat.{div-add-mod}
use native.Mathlib.Decide.{dec_le}
use native.Mathlib.Omega.{arith}
use borrow.Author.Tests.{le-ltb, eq-eqb, ne_eqb, ltb-false, eqb-true, eqb-false, le-leb, leb-true}
use lib.Dec.{ltb, leb, eqb}
use lib.ListN.{length, get_or, drop, length-append}
use Rattle.std.specs.Fmt.{decimal}
use Rattle.std.proofs.lemmas.Fmt.{decimal_by_steps, decimal_digit, decimal_step, length-decimal-le}
use Rattle.definition.specs.Card.{value, input_at, ended, digit_of}
use Rattle.definition.specs.StateText.{digits_from, number_at}
use Rattle.text_laws.proofs.Found.{never, found-either, found-false, same-value}
use Rattle.text_laws.proofs.Digits.{zero-ends, number-goes, number-within}
use Rattle.text_laws.proofs.Standing.{Stands, Reads, Spells, stands-both}
use Rattle.text_laws.proofs.Bytes.{byte-cut, byte-stands, first-byte, second-byte, ended-spells}

-- A DIGIT AND ITS BYTE
digit-read : (d : ℕ) → d < 10 → digit_of (48 + d) ≡ d
digit-read d h = let a : 48 + d - 48 ≡ d = omega arith in rw (le-leb 48 (48 + d) (omega arith), le-leb (48 + d) 57 (omega arith)) a

digit-byte : (b : ℕ) → digit_of b ≤ 9 → b ≡ 48 + digit_of b
digit-byte b h = go (leb 48 b) (leb b 57) refl refl
  where
    none : digit_of b ≡ 10 → b ≡ 48 + digit_of b
    none e = omega (arith, e, h)

    go : (x y : Bool) → leb 48 b ≡ x → leb b 57 ≡ y → b ≡ 48 + digit_of b
    go true true e f = let l : 48 ≤ b = leb-true 48 b e in let d : digit_of b ≡ b - 48 = rw (e, f) in omega (arith, d)
    go true false e f = none (rw (e, f))
    go false y e f = none (rw e)

-- READING ITS TEXT BACK
module _ (limit end : ℕ) (ends : 9 < digit_of end) where
  not-end : (b : ℕ) → digit_of b ≤ 9 → b ≢ end
  not-end b h e = no (ap digit_of e)
    where
      no : digit_of b ≡ digit_of end → ⊥
      no f = omega (arith, f, h, ends)

  digit-step : (v d at : ℕ) (rest : List ℕ) → d < 10 → 10 * v + d ≤ limit → digits_from limit end v ((48 + d) ∷ rest) at ≡ digits_from limit end (10 * v + d) rest (at + 1)
  unfolding digits_from
  digit-step v d at rest h l =
      let r : digit_of (48 + d) ≡ d = digit-read d h in
      rw (ne_eqb (48 + d) end (not-end (48 + d) (omega (arith, r))), r, le-ltb 9 d (omega arith), le-ltb limit (10 * v + d) l)

  digits-end : (v at : ℕ) (rest : List ℕ) → digits_from limit end v (end ∷ rest) at ≡ value v (at + 1)
  unfolding digits_from
  digits-end v at rest = rw (eq-eqb end end refl)

  -- the digits of n are read, and it goes on behind them
  abbrev Digits : ℕ → List ℕ → Type 0
  Digits n ds = n ≤ limit → (at : ℕ) (rest : List ℕ) → digits_from limit end 0 (ds ++ rest) at ≡ digits_from limit end n rest (at + length ds)

  digits-read : (n : ℕ) → n < 2 ^ 64 → Digits n (decimal n)
  digits-read = decimal_by_steps Digits one more
    where
      one : (n : ℕ) → n < 10 → Digits n ((48 + n) ∷ [])
      one n h l at rest = digit-step 0 n at rest h (omega arith) ∙ ap (λ v. digits_from limit end v rest (at + 1)) (omega arith)

      more : (n : ℕ) (ds : List ℕ) → 10 ≤ n → Digits (n / 10) ds → Digits n (ds ++ ((48 + n % 10) ∷ []))
      more n ds h again l at rest =
          let b : List ℕ = (48 + n % 10) ∷ [] in
          let m : 10 * (n / 10) + n % 10 ≡ n = div-add-mod n 10 in
          let p : at + length ds + 1 ≡ at + length (ds ++ b) = omega (arith, length-append ds b) in
          ap (λ x. digits_from limit end 0 x at) (append_assoc ds b rest) ∙ again (omega arith) at (b ++ rest) ∙
          digit-step (n / 10) (n % 10) (at + length ds) rest (omega arith) (omega arith) ∙ ap (λ v. digits_from limit end v rest (at + length ds + 1)) m ∙
          ap (digits_from limit end n rest) p

-- the text of a number above 0 begins with a digit above 0
abbrev Leads : ℕ → List ℕ → Type 0
Leads n ds = 0 < n → (rest : List ℕ) → (0 < digit_of (get_or (ds ++ rest) 0 256)) × (digit_of (get_or (ds ++ rest) 0 256) ≤ 9)

leads : (n : ℕ) → n < 2 ^ 64 → Leads n (decimal n)
leads = decimal_by_steps Leads one more
  where
    one : (n : ℕ) → n < 10 → Leads n ((48 + n) ∷ [])
    one n h l rest = rw (digit-read n h) (l, omega arith)

    more : (n : ℕ) (ds : List ℕ) → 10 ≤ n → Leads (n / 10) ds → Leads n (ds ++ ((48 + n % 10) ∷ []))
    more n ds h again l rest = rw (append_assoc ds ((48 + n % 10) ∷ []) rest) (again (omega arith) (((48 + n % 10) ∷ []) ++ rest))

module _ (limit end : ℕ) (ends : 9 < digit_of end) (fine : limit < 2 ^ 64) where
  pub number-reads : (n : ℕ) → n ≤ limit → Reads (λ s. number_at limit s end) (decimal n ++ (end ∷ [])) n
  number-reads n h s at q w =
      elim (dec_le 1 n) [
        | yes k ↦
            let l = leads n (omega arith) k (end ∷ w.rest) in
            let b : input_at s at ≡ get_or (decimal n ++ (end ∷ w.rest)) 0 256 = first-byte s at (decimal n ++ (end ∷ w.rest)) from in
            number-goes limit s end at (digit_of (input_at s at)) refl (rw b l.1) (λ e. above (rw b at e) l.0) ∙ ap (λ x. digits_from limit end 0 x at) from ∙
            digits-read limit end ends n (omega arith) h at (end ∷ w.rest) ∙ digits-end limit end ends n (at + length (decimal n)) w.rest ∙ ap (value n) (sym behind)
        | no k ↦
            let z : n ≡ 0 = omega arith in
            let t : decimal n ≡ 48 ∷ [] = ap decimal z ∙ decimal_digit 0 (omega arith) in
            let f : drop at s ≡ 48 ∷ end ∷ w.rest = from ∙ ap (λ x. x ++ (end ∷ w.rest)) t in
            let p : at + 2 ≡ q = omega (arith, behind, ap length t) in
            zero-ends limit s end at 0 (sym (ap digit_of (first-byte s at (48 ∷ end ∷ w.rest) f))) refl (second-byte s at (48 ∷ end ∷ w.rest) f) ∙ ap (value 0) p ∙ ap (λ x. value x q) (sym z)
      ]
    where
      from : drop at s ≡ decimal n ++ (end ∷ w.rest)
      from = w.is ∙ append_assoc (decimal n) (end ∷ []) w.rest

      behind : q ≡ at + length (decimal n) + 1
      behind = omega (arith, w.place, length-append (decimal n) (end ∷ []))

      above : {d : ℕ} → d ≡ 0 → 0 < d → ⊥
      above e h = omega arith

-- WHAT WAS READ IS THE TEXT OF ITS VALUE: no number has two texts
module _ (limit end : ℕ) (ends : 9 < digit_of end) (byte : end < 256) (fine : limit < 2 ^ 64) (s : List ℕ) (at : ℕ) where
  next-text : (v d : ℕ) → 0 < v → d < 10 → 10 * v + d ≤ limit → decimal (10 * v + d) ≡ decimal v ++ ((48 + d) ∷ [])
  next-text v d h l k =
      let a : (10 * v + d) / 10 ≡ v = omega arith in
      let b : (10 * v + d) % 10 ≡ d = omega arith in
      decimal_step (10 * v + d) (omega arith) (omega arith) ∙ ap (λ x. decimal x ++ ((48 + (10 * v + d) % 10) ∷ [])) a ∙ ap (λ x. decimal v ++ ((48 + x) ∷ [])) b

  -- the text of v stands in front of the digits that are left
  digits-spell : (bs : List ℕ) (v p n q : ℕ) → 0 < v → v ≤ limit → drop at s ≡ decimal v ++ bs → p ≡ at + length (decimal v) → digits_from limit end v bs p ≡ value n q →
      Stands (decimal n ++ (end ∷ [])) s at q
  unfolding digits_from
  digits-spell [] v p n q h l f g e = never e
  digits-spell (b ∷ bs) v p n q h l f g e =
      found-either (eqb b end) e
      (λ t w.
      let i = same-value w in
      let x : drop at s ≡ decimal v ++ (end ∷ bs) = f ∙ ap (λ c. decimal v ++ (c ∷ bs)) (eqb-true b end t) in
      subst (λ n. Stands (decimal n ++ (end ∷ [])) s at q) i.0
      (record { place = omega (arith, g, i.1, length-append (decimal v) (end ∷ [])); rest = bs; is = x ∙ sym (append_assoc (decimal v) (end ∷ []) bs) }))
      (λ _ w.
      let x = found-false (ltb 9 (digit_of b)) w in
      let y = found-false (ltb limit (10 * v + digit_of b)) x.1 in
      let d : digit_of b ≤ 9 = ltb-false 9 (digit_of b) x.0 in
      let k : 10 * v + digit_of b ≤ limit = ltb-false limit (10 * v + digit_of b) y.0 in
      let t : decimal (10 * v + digit_of b) ≡ decimal v ++ (b ∷ []) = next-text v (digit_of b) h (omega arith) k ∙ ap (λ c. decimal v ++ (c ∷ [])) (sym (digit-byte b d)) in
      digits-spell bs (10 * v + digit_of b) (p + 1) n q (omega arith) k (f ∙ sym (append_assoc (decimal v) (b ∷ []) bs) ∙ ap (λ c. c ++ bs) (sym t))
      (omega (arith, g, ap length t, length-append (decimal v) (b ∷ []))) y.1)

  zero-spells : (n q : ℕ) → digit_of (input_at s at) ≡ 0 → ended s end 0 (at + 1) ≡ value n q → Stands (decimal n ++ (end ∷ [])) s at q
  zero-spells n q d e =
      let b : input_at s at ≡ 48 = digit-byte (input_at s at) (omega (arith, d)) ∙ ap (λ k. 48 + k) d in
      let i = ended-spells end 0 byte s (at + 1) q n e in
      subst (λ n. Stands (decimal n ++ (end ∷ [])) s at q) i.0
      (subst (λ t. Stands (t ++ (end ∷ [])) s at q) (sym (decimal_digit 0 (omega arith))) (stands-both (byte-stands s at 48 (omega arith) b) i.1))

  above-spells : (b : ℕ) (bs : List ℕ) (n q : ℕ) → digit_of b ≤ 9 → digit_of b ≢ 0 → drop at s ≡ b ∷ bs → digits_from limit end 0 (b ∷ bs) at ≡ value n q →
      Stands (decimal n ++ (end ∷ [])) s at q
  unfolding digits_from
  above-spells b bs n q d z f e =
      found-either (eqb b end) e (λ t _. absurd (not-end limit end ends b d (eqb-true b end t))) (λ _ w.
      let x = found-false (ltb 9 (digit_of b)) w in
      let y = found-false (ltb limit (10 * 0 + digit_of b)) x.1 in
      let k : 10 * 0 + digit_of b ≡ digit_of b = omega arith in
      let t : decimal (10 * 0 + digit_of b) ≡ b ∷ [] = ap decimal k ∙ decimal_digit (digit_of b) (omega arith) ∙ ap (λ c. c ∷ []) (sym (digit-byte b d)) in
      digits-spell bs (10 * 0 + digit_of b) (at + 1) n q (omega (arith, z)) (ltb-false limit (10 * 0 + digit_of b) y.0) (f ∙ ap (λ c. c ++ bs) (sym t)) (omega (arith, ap length t)) y.1)

  number-stands : (n q : ℕ) → number_at limit s end at ≡ value n q → Stands (decimal n ++ (end ∷ [])) s at q
  unfolding number_at
  number-stands n q e =
      let b : ℕ = input_at s at in
      let x = found-false (ltb 9 (digit_of b)) e in
      let d : digit_of b ≤ 9 = ltb-false 9 (digit_of b) x.0 in
      let f : drop at s ≡ b ∷ drop (at + 1) s = byte-cut s at b (omega (arith, digit-byte b d)) refl in
      found-either (eqb (digit_of b) 0) x.1 (λ t w. zero-spells n q (eqb-true (digit_of b) 0 t) w) (λ t w.
      above-spells b (drop (at + 1) s) n q d (eqb-false (digit_of b) 0 t) f (sym (ap (λ l. digits_from limit end 0 l at) f) ∙ w))

pub number-spells : (limit end : ℕ) → 9 < digit_of end → end < 256 → limit < 2 ^ 64 → Spells (λ n. n ≤ limit) (λ s. number_at limit s end) (λ n. decimal n ++ (end ∷ []))
number-spells limit end ends byte fine s at q n e = (number-within limit s end at n q e, number-stands limit end ends byte fine s at n q e)

-- HOW LONG IT IS, with its end
pub number-short : (k end n : ℕ) → 0 < k → n < 10 ^ k → n < 2 ^ 64 → length (decimal n ++ (end ∷ [])) ≤ k + 1
number-short k end n h l m = omega (arith, length-append (decimal n) (end ∷ []), length-decimal-le k n h l m)
