-- A unit of any operation that was opened, as histories speak of it, and demand 3 of it.
use Rattle.std.specs.Prelude.{true, List, ℕ, ◌+◌, ◌-◌, ◌*◌, ◌/◌}
use Rattle.definition.specs.declared.Operation.{Operation}
use Rattle.definition.specs.declared.Given.{Given}
use Rattle.definition.specs.Blocks.{side, pieces_of}
use Rattle.definition.specs.Units.{Lent, final_sample}
use Rattle.definition.specs.Calls.{Call, call_of}
use Rattle.history.specs.History.{Opened, History, Valid, After}
use Rattle.units.specs.declared.State.{State}
use Rattle.definition.specs.StateText.{OpenedInFields}
use Rattle.units.specs.Openings.{open_state}
use Rattle.units.specs.Advances.{is_finished, answer}
use Rattle.units.specs.Texts.{back}

-- the unit that was opened over the plane p; from one advance to the next nothing changes of what is lent
abbrev pub unit : Operation → Given → Lent → List ℕ → Opened State Call (Unit {0})
unit op n l p =
    record {
      answer = answer;
      own = λ a count. call_of op count l;
      ok = λ a. true;
      back = back;
      in_fields = OpenedInFields n l p;
      rows = λ s. s.done;
      complete = is_finished;
      w = n.w;
      h = n.h;
      at = λ y x. n.off + y * n.stride + x;
      first = open_state op n l p;
      plane = p;
      final = λ a y x. final_sample n l p op y x;
      pieces = λ a k k'. pieces_of l.skip (n.w / side) k (k' - k);
    }

-- DEMAND 3 of a unit: what holds after every history of it
abbrev pub Histories : Operation → Given → Lent → List ℕ → Type 0
Histories op n l p = (H : History Call (Unit {0})) → Valid (unit op n l p) H → After (unit op n l p) H
