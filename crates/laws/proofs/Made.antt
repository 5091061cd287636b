-- An array that a closure makes entry by entry.
use Rattle.std.proofs.Common.{◌≡◌, ℕ, zero, suc, ◌+◌, ◌<◌, List, get_or, sym, ◌∙◌, subst, not-suc-le-zero, arith}
use lib.Seq.{ext_get_or}
use Rattle.std.specs.Fn.{Called, Mut}
use Rattle.std.specs.Array.{IsFromFnResult, IsFromFnResultFrom}
use Rattle.definition.specs.Rows.{tab}
use Rattle.laws.proofs.Lists.{length_tab, get_or-tab}

-- a closure that gives v of each number, and stays as it is
module _ {F : Type 0} (g : Mut F (ℕ × Unit {0}) ℕ) (v : ℕ → ℕ) (f : F) (gives : (i r : ℕ) (q : F) → Called g f (i, tt) r q → (r ≡ v i) × (q ≡ f)) where
  each : (n i : ℕ) (ys : List ℕ) → IsFromFnResultFrom g f ys i n → (k : ℕ) → k < n → get_or ys (i + k) 0 ≡ v (i + k)
  each zero i ys h k l = absurd (not-suc-le-zero l)
  each (suc n) i ys h zero l =
      let e : i + 0 ≡ i = omega arith in
      rw e (h.2.1 0 ∙ (gives i h.1 h.0 h.3).0)
  each (suc n) i ys h (suc k) l =
      let e : i + 1 + k ≡ i + suc k = omega arith in
      subst (λ j. get_or ys j 0 ≡ v j) e (each n (i + 1) ys (subst (λ p. IsFromFnResultFrom g p ys (i + 1) n) (gives i h.1 h.0 h.3).1 h.4) k (omega arith))

  pub made : (n : ℕ) (ys : List ℕ) → IsFromFnResult g f ys n → ys ≡ tab n v
  made n ys r =
      ext_get_or 0 ys (tab n v) (r.long ∙ sym (length_tab n v)) (λ i l.
      let e : 0 + i ≡ i = omega arith in
      subst (λ j. get_or ys j 0 ≡ v j) e (each n 0 ys r.each i (omega (arith, l, r.long))) ∙ sym (get_or-tab n v i (omega (arith, l, r.long))))
