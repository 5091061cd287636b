-- Opening a unit of any operation: the state that it hands out.
use Rattle.std.specs.Prelude.{◌≡◌, List, ℕ, zero, suc, replicate, Result, Ok, Err}
use Rattle.definition.specs.declared.Operation.{Operation}
use Rattle.definition.specs.declared.Refusal.{Refusal}
use Rattle.definition.specs.Answers.{number}
use Rattle.definition.specs.declared.Given.{Given}
use Rattle.definition.specs.Rows.{index_count, state_bytes}
use Rattle.definition.specs.Limits.{block_column_limit}
use Rattle.definition.specs.Units.{number_of, Lent}
use Rattle.definition.specs.Calls.{given_y}
use Rattle.definition.specs.Refusals.{open_status}
use Rattle.model.proofs.Opening.{open_rings}
use Rattle.units.specs.declared.State.{State}
use Rattle.units.specs.declared.Opened.{Opened}

-- before its first row: no rows are done, no classes are worked out, and the rows above and the first of its own are padded (`open_rings`, of the model)
unfoldable pub open_state : Operation → Given → Lent → List ℕ → State
open_state op n l p =
    record {
      op = number_of op;
      given = n;
      done = 0;
      next = (open_rings op n l p).next;
      classes = replicate block_column_limit 0;
      indices = (open_rings op n l p).idx;
      rows = (open_rings op n l p).slots;
    }

-- the state of zeros, of no unit
abbrev pub none_given : Given
none_given = given_y 0 0 0 0 0 0 0

unfoldable pub no_state : State
no_state =
    record {
      op = 0;
      given = none_given;
      done = 0;
      next = 0;
      classes = replicate block_column_limit 0;
      indices = replicate index_count 0;
      rows = replicate state_bytes 0;
    }

abbrev pub state_unless : ℕ → State → State
state_unless zero s = s
state_unless (suc status) s = no_state

-- as C has it: a state beside its status, in refused calls that of zeros
abbrev pub opened_of : Result State Refusal → Opened
opened_of (Ok s) = record { state = s; status = 0 }
opened_of (Err r) = record { state = no_state; status = number r }

-- what open hands back
pub record Begun (op : Operation) (r : Opened) (n : Given) (l : Lent) (p : List ℕ) : Type 0 where
  pub status : r.status ≡ open_status op n l p
  pub state : r.state ≡ state_unless (open_status op n l p) (open_state op n l p)
