-- An advance is so many steps of one row: what one step shows, any number shows.
use mathlib.Core.Path.{◌≡◌, refl, sym, ◌∙◌}
use mathlib.Core.List.{List}
use Prim.Native.Nat.{ℕ, zero, suc, ◌+◌, ◌*◌, ◌≤◌, ◌<◌}
use native.Mathlib.Nat.{add-zero}
use native.Mathlib.Decide.{dec_lt}
use native.Mathlib.Omega.{arith}
use lib.ListN.{length}
use lib.Seq.{sets, length-sets}
use Rattle.history.proofs.Ring.{rows_apart}
use Rattle.definition.specs.Rows.{tab}
use Rattle.laws.proofs.Lists.{length_tab, get_or-tab, sets_in, sets_other}
use Rattle.history.specs.History.{Opened, World}
use Rattle.history.specs.Advance.{steps}
use Rattle.history.proofs.Lawful.{RowsFinal, Like}

-- samples of rows that lie stride apart, each no wider, lie apart
pub lie-apart : (off stride w y x y' x' : ℕ) → w ≤ stride → x < w → x' < w → off + y * stride + x ≡ off + y' * stride + x' → (y ≡ y') × (x ≡ x')
lie-apart off stride w y x y' x' hw hx hx' e =
    elim (dec_lt y y') [
      | yes lt ↦ absurd (omega (arith, rows_apart stride y y' lt))
      | no ge ↦
          elim (dec_lt y' y) [
            | yes lt ↦ absurd (omega (arith, rows_apart stride y' y lt))
            | no ge' ↦
                let d : y ≡ y' = omega arith in
                (d, let e' : off + y' * stride + x ≡ off + y' * stride + x' = rw d at e in omega arith)
          ]
    ]

-- row k of a unit whose rows lie stride apart is written whole
pub paint : {S C A : Type 0} (u : Opened S C A) (a : A) (off stride : ℕ) → ((y x : ℕ) → u.at y x ≡ off + y * stride + x) →
    (k : ℕ) (p : List ℕ) (f : ℕ → ℕ) → off + k * stride + u.w ≤ length p → ((x : ℕ) → x < u.w → f x ≡ u.final a k x) →
    RowsFinal u a k (k + 1) p (sets p (off + k * stride) (tab u.w f))
paint u a off stride at k p f room same =
    let vs : List ℕ = tab u.w f in
    let size : length vs ≡ u.w = length_tab u.w f in
    record {
      size = length-sets p (off + k * stride) vs;
      here = λ y x lo hi hx.
          let e : y ≡ k = omega arith in
          rw (e, at) (sets_in vs p (off + k * stride) x (omega arith) (omega arith) ∙ get_or-tab u.w f x hx ∙ same x hx);
      other = λ i o. sets_other p vs (off + k * stride) u.w i size (λ c hc e. o k c (omega arith) (omega arith) hc (e ∙ sym (at k c)));
    }

module _ {S C A : Type 0} (u : Opened S C A) (a : A) (Reached : ℕ → S → Type 0) (step : World S → World S) where
  pub record Stepped (k k' : ℕ) (p : List ℕ) (x : World S) : Type 0 where
    pub state : Reached k' x.state
    pub plane : RowsFinal u a k k' p x.plane

  -- the law of one step
  abbrev pub One : Type 0
  One = (k : ℕ) (x : World S) → k < u.h → Reached k x.state → Like u k x.plane → Stepped k (k + 1) x.plane (step x)

  -- of the plane with more rows done
  pub like_more : (k k' : ℕ) (p q : List ℕ) → k ≤ k' → Like u k p → RowsFinal u a k k' p q → Like u k' q
  like_more k k' p q le l r =
      record {
        size = r.size ∙ l.size;
        other = λ i f.
            r.other i (λ y c lo hi hc. f y c (omega arith) hi hc) ∙ l.other i (λ y c lo hi hc. f y c lo (omega arith) hc);
      }

  module _ (apart : (y x y' x' : ℕ) → x < u.w → x' < u.w → u.at y x ≡ u.at y' x' → (y ≡ y') × (x ≡ x')) (one : One) where
    rows_join : (k k' : ℕ) (p q r : List ℕ) → k ≤ k' → RowsFinal u a k k' p q → RowsFinal u a k' (k' + 1) q r → RowsFinal u a k (k' + 1) p r
    rows_join k k' p q r le d b =
        record {
          size = b.size ∙ d.size;
          here = λ y c lo hi hc.
              elim (dec_lt y k') [
                | yes lt ↦
                    b.other (u.at y c) (λ y' c' lo' hi' hc' e. let d : y ≡ y' = (apart y c y' c' hc hc' e).0 in omega arith) ∙
                    d.here y c lo lt hc
                | no ge ↦ b.here y c (omega arith) hi hc
              ];
          other = λ i f.
              b.other i (λ y c lo hi hc. f y c (omega arith) hi hc) ∙ d.other i (λ y c lo hi hc. f y c lo (omega arith) hc);
        }

    pub many : (n k : ℕ) (x : World S) → k + n ≤ u.h → Reached k x.state → Like u k x.plane → Stepped k (k + n) x.plane (steps step n x)
    many zero k x le r l =
        rw (add-zero k)
        (record {
          state = r;
          plane = record { size = refl; here = λ y c lo hi hc. absurd (omega arith); other = λ i f. refl };
        })
    many (suc n) k x le r l =
        let d : Stepped k (k + n) x.plane (steps step n x) = many n k x (omega arith) r l in
        let b : Stepped (k + n) (k + n + 1) (steps step n x).plane (step (steps step n x)) =
        one (k + n) (steps step n x) (omega arith) d.state (like_more k (k + n) _ _ (omega arith) l d.plane) in
        let e : k + suc n ≡ k + n + 1 = omega arith in
        rw e (record { state = b.state; plane = rows_join k (k + n) _ _ _ (omega arith) d.plane b.plane })
