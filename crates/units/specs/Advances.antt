-- An advance over any state: its status, and rows one after another, each by the step of the model. That these steps restore the definition's samples is the theorem
-- of the histories, over a unit that was opened.
use Rattle.std.specs.Prelude.{◌≡◌, Bool, cond, not, ◌&&◌, ◌||◌, List, ℕ, ◌/◌, eqb, Result}
use Rattle.definition.specs.declared.Operation.{Operation}
use Rattle.definition.specs.declared.Refusal.{Refusal}
use Rattle.definition.specs.Answers.{status_from, value_from}
use Rattle.definition.specs.declared.Sizes.{Sizes}
use Rattle.definition.specs.Blocks.{side, pieces_of}
use Rattle.definition.specs.Units.{number_of}
use Rattle.definition.specs.Calls.{Call}
use Rattle.definition.specs.Refusals.{sizes_of, unit_status, bad_shape, bad_kept}
use Rattle.history.specs.History.{Out}
use Rattle.history.specs.Advance.{Advancing, advanced}
use Rattle.units.specs.declared.State.{State}
use Rattle.units.specs.declared.Advanced.{Advanced}
use Rattle.units.specs.Step.{step_of}

-- 13: the state's shape, a number of no or another operation included, and the kept classes
unfoldable pub bad_state : Operation → State → ℕ → Bool
bad_state op s filters =
    bad_shape op (not (eqb s.op (number_of op))) s.done s.given.h s.indices s.next || bad_kept op s.classes filters

-- 13 precedes all; the whole unit is checked again
unfoldable pub status_by : Operation → State → Sizes → ℕ
status_by op s z = cond (bad_state op s z.filters) 13 (unit_status op s.given z)

abbrev pub status_of : Call → State → List ℕ → ℕ
status_of c s p = status_by c.op s (sizes_of c.op c.lent p)

-- finished: of an operation, and all its rows done
abbrev pub is_finished : State → Bool
is_finished s = not (eqb s.op 0) && eqb s.done s.given.h

-- THE ADVANCE over any state
abbrev pub units : Advancing State Call
units =
    record {
      status = status_of;
      count = λ c. c.count;
      rows = λ s. s.done;
      height = λ s. s.given.h;
      complete = is_finished;
      step = λ c. step_of c.op c.lent;
      pieces = λ c s n. pieces_of c.lent.skip (s.given.w / side) s.done n;
    }

unfoldable pub answer : Call → State → List ℕ → Out State
answer c s p = advanced units c s p

-- a state after an advance, and its pieces or why it is refused, as C has them
abbrev pub advanced_of : State → Result ℕ Refusal → Advanced
advanced_of s r = record { status = status_from r; pieces = value_from r; state = s }

-- the code's answer and the plane that it left are that
pub record Answered (r : Advanced) (q : List ℕ) (o : Out State) : Type 0 where
  pub status : r.status ≡ o.status
  pub pieces : r.pieces ≡ o.pieces
  pub state : r.state ≡ o.state
  pub plane : q ≡ o.plane
