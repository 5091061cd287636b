-- The history of a unit that is broken off, written over and restored to its end, and what demand 3 says of it.
use mathlib.Core.Path.{◌≡◌, refl, sym, ◌∙◌, ap}
use mathlib.Core.Bool.{cond}
use mathlib.Core.List.{List}
use Prim.Native.Nat.{ℕ, zero, suc, ◌+◌, ◌*◌, ◌-◌, ◌/◌, ◌<◌, min}
use native.Mathlib.Omega.{arith}
use native.Mathlib.Decide.{dec_lt}
use lib.Dec.{eqb}
use lib.ListN.{length, set}
use borrow.Author.Tests.{le-leb, lt-leb, ne_eqb}
use Rattle.definition.specs.declared.Operation.TheVariants.{Luma}
use Rattle.definition.specs.declared.Given.{Given}
use Rattle.definition.specs.Blocks.{side, pieces_of}
use Rattle.definition.specs.Units.{Lent}
use Rattle.definition.specs.Refusals.{sizes_of, open_status}
use Rattle.history.specs.History.{History, opened, ◌▷◌, advance, write, run, sum, last, Valid, After}
use Rattle.model.proofs.Fine.{Fine, fine}
use Rattle.units.specs.declared.Opened.{Opened}
use Rattle.units.specs.declared.Advanced.{Advanced}
use Rattle.units.specs.Openings.{Begun, open_state}
use Rattle.units.specs.Histories.{unit}
use Rattle.units.proofs.LumaHistory.{luma-history}
use Rattle.std.specs.Prelude.{Ok}
use Rattle.paused.specs.Paused.{held_sample, PausedUnit}
use Rattle.definition.specs.Calls.{Call, call_of}
use Rattle.units.specs.Advances.{answer, Answered}

-- broken off after count rows, and written over where a row was finished
abbrev between : ℕ → ℕ → History Call (Unit {0})
between zero v = opened ▷ advance tt 0
between (suc c) v = opened ▷ advance tt (suc c) ▷ write 0 0 v

at_most : (h k : ℕ) → min h (k + h) ≡ h
at_most h k = omega arith

from-none : (h c : ℕ) → min h (0 + c) - min h 0 ≡ min h c
from-none h c = omega arith

module _ (n : Given) (l : Lent) (p : List ℕ) (f : open_status Luma n l p ≡ 0) where
  good : Fine Luma n (sizes_of Luma l p)
  good = fine Luma n (sizes_of Luma l p) f

  pub inside : n.off < length p
  inside = omega (arith, good.plane.high, good.wide.low)

  sum-between : (c v : ℕ) → sum (unit Luma n l p) (between c v) ≡ c
  sum-between zero v = omega arith
  sum-between (suc c) v = omega arith

  valid : (c v : ℕ) → Valid (unit Luma n l p) (between c v)
  valid zero v = (tt, refl)
  valid (suc c) v = ((tt, refl), omega (arith, good.tall.low), omega (arith, good.wide.low))

  holds : (H : History Call (Unit {0})) → Valid (unit Luma n l p) H → After (unit Luma n l p) H
  holds = luma-history n l p f

  abbrev early : ℕ → List ℕ
  early c = (answer (call_of Luma c l) (open_state Luma n l p) p).plane

  state-between : (c v : ℕ) → (run (unit Luma n l p) (between c v)).state ≡ (answer (call_of Luma c l) (open_state Luma n l p) p).state
  unfolding answer
  state-between zero v = refl
  state-between (suc c) v = refl

  plane-between : (c v : ℕ) → (run (unit Luma n l p) (between c v)).plane ≡ cond (eqb c 0) (early c) (set (early c) n.off v)
  unfolding answer
  plane-between zero v = refl
  plane-between (suc c) v = let e : n.off + 0 * n.stride + 0 ≡ n.off = omega arith in rw (ne_eqb (suc c) 0 (omega arith)) (ap (λ (i : ℕ). set (early (suc c)) i v) e)

  -- each sample after the last advance
  last-is : (c v y x : ℕ) → last (unit Luma n l p) (between c v ▷ advance tt n.h) y x ≡ held_sample n l p c v y x
  last-is zero v y x = rw (le-leb (min n.h (0 + 0)) y (omega arith))
  last-is (suc c) v y x =
      elim (dec_lt y (min n.h (0 + suc c))) [
        | yes lt ↦ rw (lt-leb (min n.h (0 + suc c)) y lt, le-leb (min n.h 0) y (omega arith), ne_eqb (suc c) 0 (omega arith))
        | no ge ↦ rw (le-leb (min n.h (0 + suc c)) y (omega arith), ne_eqb y 0 (omega (arith, good.tall.low)), ne_eqb (suc c) 0 (omega arith))
      ]

  -- what the code's calls say, one after another
  pub paused_whole : (c v : ℕ) (o : Opened) (a b : Advanced) (p₁ p₂ q : List ℕ) → Begun Luma o n l p →
      Answered a p₁ (answer (call_of Luma c l) o.state p) → p₂ ≡ cond (eqb c 0) p₁ (set p₁ n.off v) →
      Answered b q (answer (call_of Luma n.h l) a.state p₂) → PausedUnit (Ok (record { first = a.pieces; rest = b.pieces })) n l c v p q
  unfolding answer
  paused_whole c v o a b p₁ p₂ q begun first over rest =
      let s : o.state ≡ open_state Luma n l p = begun.state ∙ rw f in
      let early-is : Answered a p₁ (answer (call_of Luma c l) (open_state Luma n l p) p) = rw s at first in
      let state-is : a.state ≡ (run (unit Luma n l p) (between c v)).state = early-is.state ∙ sym (state-between c v) in
      let plane-is : p₂ ≡ (run (unit Luma n l p) (between c v)).plane =
      over ∙ (ap (λ (e : List ℕ). cond (eqb c 0) e (set e n.off v)) early-is.plane ∙ sym (plane-between c v)) in
      let late_is : Answered b q (answer (call_of Luma n.h l) (run (unit Luma n l p) (between c v)).state (run (unit Luma n l p) (between c v)).plane) =
      rw (state-is, plane-is) at rest in
      let before = holds (between c v) (valid c v) in
      let after = holds (between c v ▷ advance tt n.h) (valid c v, refl) in
      let start = holds opened tt in
      let total : sum (unit Luma n l p) (between c v) ≡ c = sum-between c v in
      let none_yet : min n.h 0 ≡ 0 = omega arith in
      let some : min n.h (0 + c) - min n.h 0 ≡ min n.h c = from-none n.h c in
      let done : min n.h (sum (unit Luma n l p) (between c v)) ≡ min n.h c = ap (min n.h) total in
      let all : min n.h (sum (unit Luma n l p) (between c v) + n.h) ≡ n.h = at_most n.h _ in
      let left : min n.h (sum (unit Luma n l p) (between c v) + n.h) - min n.h (sum (unit Luma n l p) (between c v)) ≡ n.h - min n.h c = (λ i. all i - done i) in
      record {
        status = sym f;
        first = λ z. (early-is.pieces ∙ (start.pieces tt c refl ∙ (λ i. pieces_of l.skip (n.w / side) (none_yet i) (some i))));
        rest = λ z. (late_is.pieces ∙ (before.pieces tt n.h refl ∙ (λ i. pieces_of l.skip (n.w / side) (done i) (left i))));
        plane = λ z.
            rw late_is.plane
            (record {
              size = after.size;
              here = λ y x hy hx. after.here y x (rw all hy) hx ∙ last-is c v y x;
              other = λ i h. after.other i (λ y x lo hi hx. h y x (rw all at hi) hx);
            });
        none = λ z. absurd (z f);
      }

  -- neither advance is refused
  pub first_served : (c : ℕ) (o : Opened) (a : Advanced) (p₁ : List ℕ) → Begun Luma o n l p → Answered a p₁ (answer (call_of Luma c l) o.state p) → a.status ≡ 0
  unfolding answer
  first_served c o a p₁ begun first =
      let s : o.state ≡ open_state Luma n l p = begun.state ∙ rw f in
      (rw s at first).status ∙ (holds opened tt).status tt c refl

  pub rest_served : (c v : ℕ) (o : Opened) (a b : Advanced) (p₁ p₂ q : List ℕ) → Begun Luma o n l p →
      Answered a p₁ (answer (call_of Luma c l) o.state p) → p₂ ≡ cond (eqb c 0) p₁ (set p₁ n.off v) →
      Answered b q (answer (call_of Luma n.h l) a.state p₂) → b.status ≡ 0
  unfolding answer
  rest_served c v o a b p₁ p₂ q begun first over rest =
      let s : o.state ≡ open_state Luma n l p = begun.state ∙ rw f in
      let early-is : Answered a p₁ (answer (call_of Luma c l) (open_state Luma n l p) p) = rw s at first in
      let state-is : a.state ≡ (run (unit Luma n l p) (between c v)).state = early-is.state ∙ sym (state-between c v) in
      let plane-is : p₂ ≡ (run (unit Luma n l p) (between c v)).plane =
      over ∙ (ap (λ (e : List ℕ). cond (eqb c 0) e (set e n.off v)) early-is.plane ∙ sym (plane-between c v)) in
      let late_is : Answered b q (answer (call_of Luma n.h l) (run (unit Luma n l p) (between c v)).state (run (unit Luma n l p) (between c v)).plane) =
      rw (state-is, plane-is) at rest in
      late_is.status ∙ (holds (between c v) (valid c v)).status tt n.h refl

  -- the plane that the first advance leaves has the room that it had
  pub early-size : (c : ℕ) (o : Opened) (a : Advanced) (p₁ : List ℕ) → Begun Luma o n l p → Answered a p₁ (answer (call_of Luma c l) o.state p) → n.off < length p₁
  unfolding answer
  early-size c o a p₁ begun first =
      let s : o.state ≡ open_state Luma n l p = begun.state ∙ rw f in
      let e : p₁ ≡ early c = (rw s at first).plane in
      let z : length (early c) ≡ length p = (holds (opened ▷ advance tt c) (tt, refl)).size in
      rw e (rw z inside)
