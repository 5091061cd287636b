-- The status of an advance, whatever the operation: what decides it, and what a status of 0 says of the state and of what is lent.
use mathlib.Core.Path.{◌≡◌}
use mathlib.Core.Bool.{Bool, true, false, not, ◌||◌}
use mathlib.Core.List.{List}
use Prim.Native.Nat.{ℕ, ◌≤◌, ◌<◌}
use native.Mathlib.Decide.{dec_lt}
use native.Mathlib.Omega.{arith}
use lib.Dec.{ltb, leb, eqb}
use lib.ListN.{length, get_or, get_or-eq_default}
use borrow.Author.Tests.{eq-eqb, le-ltb, le-leb, eqb-true, ltb-false, leb-true, not-false}
use Rattle.definition.specs.declared.Operation.{Operation}
use Rattle.definition.specs.declared.Given.{Given}
use Rattle.definition.specs.declared.Sizes.{Sizes}
use Rattle.definition.specs.Rows.{index_count}
use Rattle.definition.specs.Units.{number_of, classed, set_size, Lent}
use Rattle.definition.specs.Refusals.{sizes_of, unit_status, bad_shape, bad_kept, index_limit, next_limit, indices_up_to}
use Rattle.laws.proofs.Passes.{pass_at, pass_all, not_both, first-clear}
use Rattle.model.proofs.Fine.{Fine, fine}
use Rattle.units.specs.declared.State.{State}
use Rattle.units.specs.Windows.{RowsLie}
use Rattle.definition.specs.Calls.{call_of}
use Rattle.units.specs.Advances.{bad_state, status_by, status_of}

-- WHAT DECIDES: the shape, the kept classes, or the table
module _ (op : Operation) (s : State) (z : Sizes) where
  abbrev shape : Bool
  shape = bad_shape op (not (eqb s.op (number_of op))) s.done s.given.h s.indices s.next

  abbrev kept : Bool
  kept = bad_kept op s.classes z.filters

  pub misshapen : shape ≡ true → 13 ≡ status_by op s z
  unfolding status_by bad_state
  misshapen e = rw e

  pub kept_past : shape ≡ false → kept ≡ true → 13 ≡ status_by op s z
  unfolding status_by bad_state
  kept_past e f = rw (e, f)

  pub well_shaped : shape ≡ false → kept ≡ false → unit_status op s.given z ≡ status_by op s z
  unfolding status_by bad_state
  well_shaped e f = rw (e, f)

-- WHAT A STATUS OF 0 SAYS of a state and of what is lent
pub record Admitted (op : Operation) (count : ℕ) (s : State) (l : Lent) (p : List ℕ) : Type 0 where
  pub status : status_of (call_of op count l) s p ≡ 0
  pub done : s.done ≤ s.given.h
  pub low : (j : ℕ) → j < index_count → get_or s.indices j 0 ≤ index_limit op
  pub next : s.next ≤ next_limit op
  pub kept : bad_kept op s.classes (length l.filters) ≡ false
  pub fine : Fine op s.given (sizes_of op l p)

-- .. and what lets a state pass
pub passed : (op : Operation) (count : ℕ) (s : State) (l : Lent) (p : List ℕ) → s.op ≡ number_of op → s.done ≤ s.given.h → ((j : ℕ) → get_or s.indices j 0 ≤ index_limit op) →
    s.next ≤ next_limit op → bad_kept op s.classes (length l.filters) ≡ false → unit_status op s.given (sizes_of op l p) ≡ 0 → status_of (call_of op count l) s p ≡ 0
unfolding status_by bad_state
passed op count s l p o d low n k u =
    let i : indices_up_to (index_limit op) s.indices ≡ true =
    pass_all (λ j. leb j (index_limit op)) s.indices index_count (λ j _. le-leb (get_or s.indices j 0) (index_limit op) (low j)) in
    rw (eq-eqb s.op (number_of op) o, le-ltb s.given.h s.done d, i, le-ltb (next_limit op) s.next n, k) u

pub admitted : (op : Operation) (count : ℕ) (s : State) (l : Lent) (p : List ℕ) → status_of (call_of op count l) s p ≡ 0 → Admitted op count s l p
unfolding status_by bad_state
admitted op count s l p e =
    let o : Bool = not (eqb s.op (number_of op)) in
    let d : Bool = ltb s.given.h s.done in
    let i : Bool = not (indices_up_to (index_limit op) s.indices) in
    let n : Bool = ltb (next_limit op) s.next in
    let k : Bool = bad_kept op s.classes (length l.filters) in
    let t = first-clear (o || d || i || n || k) 13 (unit_status op s.given (sizes_of op l p)) (omega arith) e in
    let u = not_both (o || d || i || n) k t.0 in
    let a = not_both (o || d || i) n u.0 in
    let b = not_both (o || d) i a.0 in
    let c = not_both o d b.0 in
    record {
      status = e;
      done = ltb-false s.given.h s.done c.1;
      low =
          λ j h.
          leb-true (get_or s.indices j 0) (index_limit op) (pass_at (λ x. leb x (index_limit op)) s.indices index_count j h (not-false (indices_up_to (index_limit op) s.indices) b.1));
      next = ltb-false (next_limit op) s.next a.1;
      kept = u.1;
      fine = fine op s.given (sizes_of op l p) t.1;
    }

-- all rows that are padded lie inside
pub rows_lie : (op : Operation) (g : Given) (l : Lent) (p : List ℕ) → Fine op g (sizes_of op l p) → RowsLie op g (length p) (length l.left) (length l.top) (length l.bottom)
rows_lie op g l p f =
    record {
      own = record { wide = f.wide; tall = f.tall; apart = f.apart; near = f.near; plane_in = f.plane; left_in = f.left };
      above = f.top;
      below = f.bottom;
    }

-- a unit without classes has one set
pub one_set : (op : Operation) (g : Given) (z : Sizes) → classed op ≡ false → Fine op g z → z.filters ≡ set_size op
one_set op g z k f =
    eqb-true z.filters (set_size op) (not-false (eqb z.filters (set_size op)) (rw k at f.filters))

-- ten indices that are low are low at any place
pub low-all : (l : List ℕ) (b : ℕ) → length l ≡ index_count → ((j : ℕ) → j < index_count → get_or l j 0 ≤ b) → (j : ℕ) → get_or l j 0 ≤ b
low-all l b n h j =
    elim (dec_lt j index_count) [
      | yes lt ↦ h j lt
      | no ge ↦ let e : length l ≤ j = omega arith in rw (get_or-eq_default l 0 e) (omega arith)
    ]
