-- Demand 2 from demand 3, at the history of one advance.
use mathlib.Core.Path.{◌≡◌, refl, sym, ◌∙◌}
use mathlib.Core.List.{List}
use Prim.Native.Nat.{ℕ, ◌+◌, ◌-◌, min}
use native.Mathlib.Omega.{arith}
use borrow.Author.Tests.{le-leb}
use Rattle.definition.specs.declared.Operation.{Operation}
use Rattle.definition.specs.declared.Given.{Given}
use Rattle.definition.specs.Units.{Lent, final_sample}
use Rattle.history.specs.History.{opened, ◌▷◌, advance, last}
use Rattle.units.specs.declared.Opened.{Opened as Handed}
use Rattle.units.specs.declared.Advanced.{Advanced}
use Rattle.units.specs.Openings.{open_state, Begun}
use Rattle.definition.specs.Refusals.{open_status}
use Rattle.definition.specs.Calls.{call_of}
use Rattle.units.specs.Advances.{answer, Answered}
use Rattle.units.specs.Histories.{unit, Histories}
use Rattle.whole.specs.declared.Restored.{Restored}
use Rattle.whole.specs.Whole.{Whole}

module _ (op : Operation) (n : Given) (l : Lent) (p : List ℕ) (f : open_status op n l p ≡ 0) (holds : Histories op n l p) where
  all-rows : min n.h (0 + n.h) ≡ n.h
  all-rows = omega arith

  none_yet : min n.h 0 ≡ 0
  none_yet = omega arith

  fresh : (y x : ℕ) → last (unit op n l p) (opened ▷ advance tt n.h) y x ≡ final_sample n l p op y x
  fresh y x = rw (le-leb (min n.h 0) y (omega arith))

  pub whole_of : (r : Restored) (q : List ℕ) → r.status ≡ (answer (call_of op n.h l) (open_state op n l p) p).status →
      r.pieces ≡ (answer (call_of op n.h l) (open_state op n l p) p).pieces → q ≡ (answer (call_of op n.h l) (open_state op n l p) p).plane → Whole op r n l p q
  unfolding answer
  whole_of r q es ep eq =
      let before = holds opened tt in
      let after = holds (opened ▷ advance tt n.h) (tt, refl) in
      let rows_before : n.h - 0 ≡ n.h = omega arith in
      record {
        status = es ∙ (before.status tt n.h refl ∙ sym f);
        pieces = λ z. ep ∙ (before.pieces tt n.h refl ∙ rw (none_yet, all-rows, rows_before));
        plane = λ z.
            rw eq
            (record {
              size = after.size;
              here = λ y x hy hx. after.here y x (rw all-rows hy) hx ∙ fresh y x;
              other = λ i h. after.other i (λ y x lo hi hx. h y x (rw all-rows at hi) hx);
            });
        none = λ z. absurd (z f);
      }

-- a unit that was opened and then advanced by all its rows, as the whole-unit operations do
pub whole-at : (op : Operation) (n : Given) (l : Lent) (p : List ℕ) → (open_status op n l p ≡ 0 → Histories op n l p) →
    (o : Handed) → Begun op o n l p → o.status ≡ 0 → (a : Advanced) (q : List ℕ) → Answered a q (answer (call_of op n.h l) o.state p) →
    (r : Restored) → r.status ≡ a.status → r.pieces ≡ a.pieces → Whole op r n l p q
whole-at op n l p holds o begun z a q is r rs rp =
    let f : open_status op n l p ≡ 0 = sym begun.status ∙ z in
    let s : o.state ≡ open_state op n l p = begun.state ∙ rw f in
    whole_of op n l p f (holds f) r q (rs ∙ rw s at is.status) (rp ∙ rw s at is.pieces) (rw s at is.plane)
