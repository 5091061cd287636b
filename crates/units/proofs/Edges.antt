-- The rows above and below a unit by the bits of its edges.
use mathlib.Core.Path.{◌≡◌, refl, sym, ◌∙◌}
use mathlib.Core.Bool.{Bool, true, false, cond, ◌||◌}
use Prim.Native.Nat.{ℕ, suc, ◌+◌, ◌-◌, ◌≤◌, ◌<◌, min}
use native.Mathlib.Omega.{arith}
use Rattle.definition.specs.declared.Operation.{Operation}
use Rattle.definition.specs.Padding.{has_top, has_bottom, top_integrated, bottom_integrated}
use Rattle.definition.specs.Units.{border, saved_above}
use Rattle.definition.specs.Refusals.{top_rows, bottom_rows, plane_rows}
use Rattle.operations.proofs.Borders.{border-low}

some-above : (int top : Bool) (e : ℕ) → 0 < cond int e (cond top 2 0) → (int || top) ≡ true
some-above true top e h = refl
some-above false true e h = refl
some-above false false e h = absurd (omega arith)

-- a row above the unit that is padded anew is a saved one
pub above_saved : (op : Operation) (edges : ℕ) → 0 < top_rows op edges → (top_integrated edges || has_top edges) ≡ true
above_saved op edges h = some-above (top_integrated edges) (has_top edges) (border op) h

-- .. and the saved rows follow one another from the first of them
follow : (int top : Bool) (e r : ℕ) → 2 ≤ e → e - cond int e (cond top 2 0) ≤ r → r < e → cond int (e - 1 - (e - suc r)) (1 - (e - suc r)) ≡ r - (e - cond int e (cond top 2 0))
follow true top e r l h k = omega arith
follow false true e r l h k = omega arith
follow false false e r l h k = absurd (omega arith)

pub saved_above_lem : (op : Operation) (edges r : ℕ) → border op - top_rows op edges ≤ r → r < border op →
    saved_above op edges (border op - suc r) ≡ r - (border op - top_rows op edges)
saved_above_lem op edges r h k = follow (top_integrated edges) (has_top edges) (border op) r (border-low op) h k

-- a test of a bit, and what it found
pub bit_is : {a b c : Bool} → a ≡ b → a ≡ c → b ≡ c
bit_is e h = sym e ∙ h

-- a row of the plane below the unit, and a saved row below it
pub plane-row : (op : Operation) (edges h : ℕ) {y : ℕ} → y < h + border op → bottom_integrated edges ≡ true → y < h + plane_rows op edges
plane-row op edges h k b = rw b k

pub bottom-row : (edges m : ℕ) {n : ℕ} → n ≡ min m 1 → bottom_integrated edges ≡ false → has_bottom edges ≡ true → n < bottom_rows edges
bottom-row edges m e a b = rw (a, b) (omega arith)
