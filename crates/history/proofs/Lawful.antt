-- THE THEOREM of any history, over what an operation has to show.
use mathlib.Core.Path.{◌≡◌, refl, ◌∙◌}
use mathlib.Core.Bool.{true, false, cond, ◌&&◌}
use mathlib.Core.List.{List, [], ◌∷◌}
use mathlib.Core.Logic.{◌≢◌}
use Prim.Native.Nat.{ℕ, ◌+◌, ◌≤◌, ◌<◌, min, zero-le}
use native.Mathlib.Nat.{lt_of_lt_of_le}
use native.Mathlib.Omega.{arith}
use native.Mathlib.Decide.{dec_lt, ℕ_discrete}
use lib.ListN.{length, get_or, set, length-set}
use lib.Seq.{get_or-set_same, get_or-set_other}
use lib.Dec.{eqb, leb}
use borrow.Author.Tests.{eq-eqb, ne_eqb, le-leb, lt-leb}
use Rattle.history.specs.History.{Out, Opened, Event, advance, refused, refused_on, write, put_away, History, opened, ◌▷◌, World, act, run, sum, finished, last, Valid, Off, After}

min0 : (h : ℕ) → min h 0 ≡ 0
min0 h = omega arith

min+ : (h s n : ℕ) → min h (s + n) ≡ min h (min h s + n)
min+ h s n = omega arith

module _ {S C A : Type 0} (u : Opened S C A) where
  -- the plane q is the plane p but for rows k up to k', which hold the definition's samples
  pub record RowsFinal (a : A) (k k' : ℕ) (p q : List ℕ) : Type 0 where
    pub size : length q ≡ length p
    pub here : (y x : ℕ) → k ≤ y → y < k' → x < u.w → get_or q (u.at y x) 0 ≡ u.final a y x
    pub other : (i : ℕ) → Off u k k' i → get_or q i 0 ≡ get_or p i 0

  -- the plane p is the opening's but for the rows below k
  pub record Like (k : ℕ) (p : List ℕ) : Type 0 where
    pub size : length p ≡ length u.plane
    pub other : (i : ℕ) → Off u 0 k i → get_or p i 0 ≡ get_or u.plane i 0

  -- what an advance of the unit's own hands back, with the plane p, where k rows are done and k' will be
  pub record Served (Reached : ℕ → S → Type 0) (a : A) (k k' : ℕ) (p : List ℕ) (o : Out S) : Type 0 where
    pub status : o.status ≡ 0
    pub pieces : o.pieces ≡ u.pieces a k k'
    pub state : Reached k' o.state
    pub plane : RowsFinal a k k' p o.plane

  pub record Refused (s : S) (p : List ℕ) (o : Out S) : Type 0 where
    pub pieces : o.pieces ≡ 0
    pub state : o.state ≡ s
    pub plane : o.plane ≡ p

  -- what an operation has to show
  pub record Lawful : Type 1 where
    pub Reached : ℕ → S → Type 0
    pub done : (k : ℕ) (s : S) → Reached k s → u.rows s ≡ k
    pub complete : (k : ℕ) (s : S) → Reached k s → u.complete s ≡ eqb k u.h
    pub apart : (y x y' x' : ℕ) → x < u.w → x' < u.w → u.at y x ≡ u.at y' x' → (y ≡ y') × (x ≡ x')
    pub inside : (y x : ℕ) → y < u.h → x < u.w → u.at y x < length u.plane
    pub opens : Reached 0 u.first
    pub only : (k : ℕ) (s t : S) → Reached k s → Reached k t → s ≡ t
    pub refuses : (c : C) (s : S) (p : List ℕ) → (u.answer c s p).status ≢ 0 → Refused s p (u.answer c s p)
    pub serves : (a : A) (n k : ℕ) (s : S) (p : List ℕ) → u.ok a ≡ true → Reached k s → k ≤ u.h → Like k p → Served Reached a k (min u.h (k + n)) p (u.answer (u.own a n) s p)
    pub backs : u.in_fields → (k : ℕ) (s : S) → Reached k s → k ≤ u.h → u.back s ≡ s

  module _ (law : Lawful) where
    -- the invariant: k rows are done, l is what finished samples hold
    record Inv (k : ℕ) (l : ℕ → ℕ → ℕ) (x : World S) : Type 0 where
      low : k ≤ u.h
      reached : law.Reached k x.state
      like : Like k x.plane
      here : (y c : ℕ) → y < k → c < u.w → get_or x.plane (u.at y c) 0 ≡ l y c

    -- a sample of row y is no sample of the rows from k on, where y is below k
    above : (k k' y x : ℕ) → y < k → x < u.w → Off u k k' (u.at y x)
    above k k' y x hy hx y' x' lo hi hx' e = let d : y ≡ y' = (law.apart y x y' x' hx hx' e).0 in omega arith

    advanced : (a : A) (n k : ℕ) (l : ℕ → ℕ → ℕ) (x : World S) → u.ok a ≡ true → Inv k l x →
        Inv (min u.h (k + n)) (λ y c. cond (leb k y) (u.final a y c) (l y c)) (act u (advance a n) x)
    advanced a n k l x ok i =
        let low : k ≤ u.h = i.low in
        let k' : ℕ = min u.h (k + n) in
        let o : Served law.Reached a k k' x.plane (u.answer (u.own a n) x.state x.plane) =
        law.serves a n k x.state x.plane ok i.reached i.low i.like in
        record {
          low = omega arith;
          reached = o.state;
          like =
              record {
                size = o.plane.size ∙ i.like.size;
                other = λ j f.
                    o.plane.other j (λ y c lo hi hc. f y c (omega arith) hi hc) ∙
                    i.like.other j (λ y c lo hi hc. f y c lo (omega arith) hc);
              };
          here = λ y c hy hc.
              elim (dec_lt y k) [
                | yes lt ↦ rw (lt-leb k y lt) (o.plane.other (u.at y c) (above k k' y c lt hc) ∙ i.here y c lt hc)
                | no ge ↦ let le : k ≤ y = omega arith in rw (le-leb k y le) (o.plane.here y c le hy hc)
              ];
        }

    written : (y c v k : ℕ) (l : ℕ → ℕ → ℕ) (x : World S) → Inv k l x → y < k → c < u.w
        → Inv k (λ y' c'. cond (eqb y' y && eqb c' c) v (l y' c')) (act u (write y c v) x)
    written y c v k l x i hy hc =
        record {
          low = i.low;
          reached = i.reached;
          like =
              record {
                size = rw length-set i.like.size;
                other = λ j f. get_or-set_other x.plane (u.at y c) j v 0 (f y c (omega arith) hy hc) ∙ i.like.other j f;
              };
          here = λ y' c' hy' hc'.
              let keep : (eqb y' y && eqb c' c ≡ false) → u.at y' c' ≢ u.at y c → get_or (set x.plane (u.at y c) v) (u.at y' c') 0 ≡ cond (eqb y' y && eqb c' c) v (l y' c') =
              λ e ne. rw e (get_or-set_other x.plane (u.at y c) (u.at y' c') v 0 ne ∙ i.here y' c' hy' hc') in
              elim (ℕ_discrete y' y) [
                | no ny ↦ keep (rw (ne_eqb y' y ny)) (λ e. ny (law.apart y' c' y c hc' hc e).0)
                | yes ey ↦
                    elim (ℕ_discrete c' c) [
                      | no nc ↦ keep (rw (eq-eqb y' y ey, ne_eqb c' c nc)) (λ e. nc (law.apart y' c' y c hc' hc e).1)
                      | yes ec ↦ rw (eq-eqb y' y ey, eq-eqb c' c ec) (rw (ey, ec) (get_or-set_same x.plane (u.at y c) v 0 (rw i.like.size (law.inside y c (lt_of_lt_of_le hy i.low) hc))))
                    ]
              ];
        }

    same : (k : ℕ) (l : ℕ → ℕ → ℕ) (x : World S) (s : S) (p : List ℕ) → Inv k l x → s ≡ x.state → p ≡ x.plane → Inv k l (record { state = s; plane = p })
    same k l x s p i es ep = rw (es, ep) i

    inv : (H : History C A) → Valid u H → Inv (finished u H) (last u H) (run u H)
    inv opened v = record { low = omega arith; reached = rw (min0 u.h) law.opens; like = record { size = refl; other = λ i f. refl }; here = λ y c hy hc. absurd (omega arith) }
    inv (H ▷ advance a n) v = rw (min+ u.h (sum u H) n) (advanced a n _ _ _ v.1 (inv H v.0))
    inv (H ▷ refused c) v = let r = law.refuses c (run u H).state (run u H).plane v.1 in same _ _ (run u H) _ _ (inv H v.0) r.state r.plane
    inv (H ▷ refused_on c q) v = let r = law.refuses c (run u H).state q v.1 in same _ _ (run u H) _ _ (inv H v.0) r.state refl
    inv (H ▷ write y x b) v = written y x b _ _ _ (inv H v.0) v.1 v.2
    inv (H ▷ put_away) v = let i = inv H v.0 in same _ _ (run u H) _ _ i (law.backs v.1 _ (run u H).state i.reached i.low) refl

    -- THE THEOREM: after every history, of any length
    pub holds : (H : History C A) → Valid u H → After u H
    holds H v =
        let i = inv H v in
        let next : (a : A) (n : ℕ) → u.ok a ≡ true → Served law.Reached a (finished u H) (finished u (H ▷ advance a n)) (run u H).plane (u.answer (u.own a n) (run u H).state (run u H).plane) =
        λ a n ok. rw (min+ u.h (sum u H) n) (law.serves a n (finished u H) (run u H).state (run u H).plane ok i.reached i.low i.like) in
        record {
          done = law.done _ _ i.reached;
          complete = law.complete _ _ i.reached;
          state = λ a ok.
              let e : min u.h (0 + finished u H) ≡ finished u H = omega arith in
              law.only (finished u H) _ _ i.reached
              (rw e at (law.serves a (finished u H) 0 u.first u.plane ok law.opens zero-le (record { size = refl; other = λ j f. refl })).state);
          size = i.like.size;
          here = i.here;
          other = i.like.other;
          status = λ a n ok. (next a n ok).status;
          pieces = λ a n ok. (next a n ok).pieces;
        }

-- A LIST IN THE ORDER OF TIME is run as the history that it makes, so the theorem is one of lists: `holds` at `then opened es`
abbrev pub then : {C A : Type 0} → History C A → List (Event C A) → History C A
then H [] = H
then H (e ∷ es) = then (H ▷ e) es

abbrev pub runs : {S C A : Type 0} → Opened S C A → List (Event C A) → World S → World S
runs u [] x = x
runs u (e ∷ es) x = runs u es (act u e x)

pub run-then : {S C A : Type 0} (u : Opened S C A) (H : History C A) (es : List (Event C A)) → run u (then H es) ≡ runs u es (run u H)
run-then u H [] = refl
run-then u H (e ∷ es) = run-then u (H ▷ e) es
