-- A unit that was opened, as the shared theorem takes it.
use mathlib.Core.Bool.{true}
use mathlib.Core.List.{List}
use Prim.Native.Nat.{ℕ, ◌/◌}
use Rattle.definition.specs.declared.Operation.{Operation}
use Rattle.definition.specs.declared.Given.{Given}
use Rattle.definition.specs.Blocks.{side, pieces_of}
use Rattle.definition.specs.Units.{Lent, final_sample}
use Rattle.definition.specs.Calls.{Call, call_of}
use Rattle.history.proofs.Fits.{Frame}
use Rattle.units.specs.declared.State.{State}
use Rattle.definition.specs.StateText.{OpenedInFields}
use Rattle.units.specs.Openings.{open_state}
use Rattle.units.specs.Texts.{back}

abbrev pub frame_of : Operation → Given → Lent → List ℕ → Frame State Call (Unit {0})
frame_of op n l p =
    record {
      own = λ a c. call_of op c l;
      ok = λ a. true;
      back = back;
      in_fields = OpenedInFields n l p;
      w = n.w;
      h = n.h;
      off = n.off;
      stride = n.stride;
      first = open_state op n l p;
      plane = p;
      final = λ a y x. final_sample n l p op y x;
      pieces = λ a k m. pieces_of l.skip (n.w / side) k m;
    }
