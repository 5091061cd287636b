-- The step of one row over a state and a plane: a model of the code. Of a unit that was opened the theorem of the histories says what it restores.
use Rattle.std.specs.Prelude.{◌≡◌, List, ℕ, ◌+◌, ◌*◌, length, get_or}
use Rattle.std.proofs.lemmas.List.Edits.{sets}
use Rattle.definition.specs.declared.Operation.{Operation}
use Rattle.definition.specs.declared.Given.{Given}
use Rattle.definition.specs.Rows.{tab}
use Rattle.definition.specs.Blocks.{mask_at}
use Rattle.definition.specs.Sample.{limit8}
use Rattle.definition.specs.Units.{Lent, step}
use Rattle.history.specs.History.{World}
use Rattle.history.specs.Advance.{steps}
use Rattle.history.proofs.Ring.{Ring}
use Rattle.model.proofs.Cells.{cell_of}
use Rattle.model.proofs.Step.{ring, taken, classes_by, slid_by}
use Rattle.units.specs.declared.State.{State}

-- a state by its parts
abbrev pub state_at : ℕ → Given → ℕ → List ℕ → Ring → State
state_at op g done classes r =
    record {
      op = op;
      given = g;
      done = done;
      next = r.next;
      classes = classes;
      indices = r.idx;
      rows = r.slots;
    }

module _ (op : Operation) (l : Lent) (s : State) (p : List ℕ) where
  abbrev pub rows_now : Ring
  rows_now = taken op s.given l p s.done (ring s.rows s.indices s.next)

  abbrev pub classes_now : List ℕ
  classes_now = classes_by op s.given l s.done s.classes rows_now

  -- where the row starts in the plane
  abbrev pub start_of : ℕ
  start_of = s.given.off + s.done * s.given.stride

  unfoldable pub state_of : State
  state_of = state_at s.op s.given (s.done + 1) classes_now (ring rows_now.slots (slid_by op rows_now.idx) rows_now.next)

  -- sample x of the row
  abbrev pub sample_of : ℕ → ℕ
  sample_of x =
      cell_of limit8 op rows_now.slots rows_now.idx (step s.given l) l.filters classes_now (mask_at l.skip s.done) (get_or p (start_of + x) 0) x

  unfoldable pub plane_of : List ℕ
  plane_of = sets p start_of (tab s.given.w sample_of)

abbrev pub step_of : Operation → Lent → World State → World State
step_of op l x = record { state = state_of op l x.state x.plane; plane = plane_of op l x.state x.plane }

-- WHAT THE PRIVATE FUNCTIONS LEAVE
-- the padded rows, their indices and the next slot of a state
abbrev pub ring_of : State → Ring
ring_of s = ring s.rows s.indices s.next

-- what only opening and going on may change
pub record Stays (s s' : State) : Type 0 where
  pub op : s'.op ≡ s.op
  pub given : s'.given ≡ s.given
  pub done : s'.done ≡ s.done

-- the step
pub record OneRow (op : Operation) (l : Lent) (s : State) (p : List ℕ) (s' : State) (q : List ℕ) : Type 0 where
  pub is : record { state = s'; plane = q } ≡ step_of op l (record { state = s; plane = p })
  pub size : length q ≡ length p

-- rows, one after another: i steps lead from a state and a plane to these
pub record Gone (op : Operation) (l : Lent) (s₀ : State) (p₀ : List ℕ) (i : ℕ) (s : State) (p : List ℕ) : Type 0 where
  pub state : s ≡ (steps (step_of op l) i (record { state = s₀; plane = p₀ })).state
  pub plane : p ≡ (steps (step_of op l) i (record { state = s₀; plane = p₀ })).plane
  pub size : length p ≡ length p₀
