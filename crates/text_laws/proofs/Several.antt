-- Values one behind the other: the law of `several`, over the reader and the text of one; and numbers with commas between.
use mathlib.Core.Path.{◌≡◌, refl, sym, ap, ◌∙◌, subst}
use mathlib.Core.Bool.{Bool, true, false, cond}
use mathlib.Core.List.{List, [], ◌∷◌, ◌++◌}
use Prim.Native.Nat.{ℕ, zero, suc, ◌+◌, ◌*◌, ◌^◌, ◌≤◌, ◌<◌}
use native.Mathlib.Nat.{not-suc-le-zero}
use native.Mathlib.Decide.{ℕ_discrete}
use native.Mathlib.Omega.{arith}
use lib.Dec.{eqb}
use lib.ListN.{length, get_or, take, length-append, get_or-append}
use lib.Seq.{take-suc, take_all, get_or_at}
use Rattle.std.specs.Fmt.{decimal}
use Rattle.definition.specs.Card.{Reading, value, reading, several, end_of, newline, comma, digit_of}
use Rattle.definition.specs.StateText.{number_at, several_text, numbers_text, numbers_at, InField}
use Rattle.text_laws.proofs.Standing.{Stands, Reads, Spells, stands-none, stands-both, reads-end, reads-then, reads-last, spells-then, spells-end}
use Rattle.text_laws.proofs.Decimals.{number-reads, number-spells, number-short}

pub several-same : (n : ℕ) (t u : ℕ → List ℕ) → ((k : ℕ) → k < n → t k ≡ u k) → several_text t n ≡ several_text u n
unfolding several_text
several-same zero t u h = refl
several-same (suc n) t u h = ap (λ x. x ++ t n) (several-same n t u (λ k l. h k (omega arith))) ∙ ap (λ x. several_text u n ++ x) (h n (omega arith))

pub several-short : (n m : ℕ) (t : ℕ → List ℕ) → ((k : ℕ) → k < n → length (t k) ≤ m) → length (several_text t n) ≤ n * m
unfolding several_text
several-short zero m t h = omega arith
several-short (suc n) m t h =
    omega (arith, length-append (several_text t n) (t n), several-short n m t (λ k l. h k (omega arith)), h n (omega arith))

-- n values, each as it has to be; d is the list's default
pub record Each {A : Type 0} (P : ℕ → A → Type 0) (d : A) (n : ℕ) (l : List A) : Type 0 where
  pub size : length l ≡ n
  pub each : (k : ℕ) → k < n → P k (get_or l k d)

module _ {A : Type 0} (P : ℕ → A → Type 0) (d : A) where
  each-more : (n : ℕ) (l : List A) (a : A) → Each P d n l → P n a → Each P d (suc n) (l ++ (a ∷ []))
  each-more n l a i h =
      record {
        size = omega (arith, length-append l (a ∷ []), i.size);
        each = λ k b.
            elim (ℕ_discrete k n) [
              | yes e ↦ subst (P k) (sym (get_or_at l a [] d k (i.size ∙ sym e))) (subst (λ j. P j a) (sym e) h)
              | no e ↦ let m : k < n = omega (arith, e) in subst (P k) (sym (get_or-append l (a ∷ []) d k (omega (arith, i.size)))) (i.each k m)
            ];
      }

module _ {A : Type 0} (f : ℕ → List ℕ → ℕ → Reading A) (d : A) where
  -- n values are read back from their texts
  several-front : (n : ℕ) (t : ℕ → List ℕ) (l : List A) → n ≤ length l → ((k : ℕ) → k < n → Reads (f k) (t k) (get_or l k d)) →
      Reads (λ s. several (λ k. f k s) n) (several_text t n) (take n l)
  unfolding several several_text
  several-front zero t l h r = reads-end []
  several-front (suc n) t l h r =
      subst (λ x. Reads (λ s. several (λ k. f k s) (suc n)) (several_text t (suc n)) x) (sym (take-suc l n d h))
      (reads-then (λ x s p. reading (f n s p) (λ a q. value (x ++ (a ∷ [])) q)) (several-front n t l (omega arith) (λ k b. r k (omega arith)))
      (reads-last (λ a. take n l ++ (a ∷ [])) (r n (omega arith))))

  pub several-reads : (n : ℕ) (t : ℕ → List ℕ) (l : List A) → length l ≡ n → ((k : ℕ) → k < n → Reads (f k) (t k) (get_or l k d)) →
      Reads (λ s. several (λ k. f k s) n) (several_text t n) l
  several-reads n t l h r =
      subst (λ x. Reads (λ s. several (λ k. f k s) n) (several_text t n) x) (take_all n l (omega arith)) (several-front n t l (omega arith) r)

  -- what was read are n values that fit, and their texts
  module _ (P : ℕ → A → Type 0) (text : ℕ → A → List ℕ) where
    abbrev texts : ℕ → List A → List ℕ
    texts n l = several_text (λ k. text k (get_or l k d)) n

    one-more : (n : ℕ) (s : List ℕ) (at p q : ℕ) (l : List A) (a : A) → length l ≡ n → Stands (texts n l) s at p → Stands (text n a) s p q → Stands (texts (suc n) (l ++ (a ∷ []))) s at q
    unfolding several_text
    one-more n s at p q l a e i h =
        let z : get_or (l ++ (a ∷ [])) n d ≡ a = get_or_at l a [] d n e in
        let w = several-same n (λ k. text k (get_or l k d)) (λ k. text k (get_or (l ++ (a ∷ [])) k d))
        (λ k b. ap (text k) (sym (get_or-append l (a ∷ []) d k (omega (arith, b, e))))) in
        stands-both (subst (λ x. Stands x s at p) w i) (subst (λ x. Stands (text n x) s p q) (sym z) h)

    pub several-spells : (n : ℕ) → ((k : ℕ) → k < n → Spells (P k) (f k) (text k)) → Spells (Each P d n) (λ s. several (λ k. f k s) n) (texts n)
    unfolding several several_text
    several-spells zero h s at q l e = spells-end (Each P d zero) (texts zero) e (record { size = refl; each = λ k b. absurd (not-suc-le-zero b) }) (stands-none s at)
    several-spells (suc n) h s at q l e =
        spells-then {f = λ s. several (λ k. f k s) n} (several-spells n (λ k b. h k (omega arith))) e (λ x p i j v.
        spells-then {f = f n} (h n (omega arith)) v (λ a o u w z.
        spells-end (Each P d (suc n)) (texts (suc n)) z (each-more P d n x a i u) (one-more n s at p o x a i.size j w)))

-- NUMBERS WITH COMMAS BETWEEN
end-ends : (n k : ℕ) → 9 < digit_of (end_of n k)
end-ends n k = go (eqb (k + 1) n)
  where
    go : (b : Bool) → 9 < digit_of (cond b newline comma)
    go true = omega arith
    go false = omega arith

end-byte : (n k : ℕ) → end_of n k < 256
end-byte n k = go (eqb (k + 1) n)
  where
    go : (b : Bool) → cond b newline comma < 256
    go true = omega arith
    go false = omega arith

module _ (limit : ℕ) (fine : limit < 2 ^ 64) (n : ℕ) where
  pub numbers-reads : (l : List ℕ) → InField limit n l → Reads (numbers_at limit n) (numbers_text n l) l
  unfolding numbers_at numbers_text
  numbers-reads l i =
      several-reads (λ k s. number_at limit s (end_of n k)) 0 n (λ k. decimal (get_or l k 0) ++ (end_of n k ∷ [])) l i.size
      (λ k b. number-reads limit (end_of n k) (end-ends n k) fine (get_or l k 0) (i.each k b))

  pub numbers-spells : Spells (InField limit n) (numbers_at limit n) (numbers_text n)
  unfolding numbers_at numbers_text
  numbers-spells s at q l e =
      let r =
      several-spells (λ k s. number_at limit s (end_of n k)) 0 (λ _ v. v ≤ limit) (λ k v. decimal v ++ (end_of n k ∷ [])) n
      (λ k b. number-spells limit (end_of n k) (end-ends n k) (end-byte n k) fine) s at q l e in
      let i : Each (λ _ v. v ≤ limit) 0 n l = r.0 in
      (record { size = i.size; each = i.each }, r.1)

  pub numbers-short : (w : ℕ) (l : List ℕ) → 0 < w → limit < 10 ^ w → InField limit n l → length (numbers_text n l) ≤ n * (w + 1)
  unfolding numbers_text
  numbers-short w l h m i =
      several-short n (w + 1) (λ k. decimal (get_or l k 0) ++ (end_of n k ∷ []))
      (λ k b. let e = i.each k b in number-short w (end_of n k) (get_or l k 0) h (omega arith) (omega arith))
