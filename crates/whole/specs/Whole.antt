-- What the whole-unit operations promise.
use Rattle.std.specs.Prelude.{◌≡◌, ◌≢◌, List, ℕ, ◌+◌, ◌*◌, ◌/◌, ◌<◌, length, get_or, Result}
use Rattle.definition.specs.declared.Operation.{Operation}
use Rattle.definition.specs.declared.Given.{Given}
use Rattle.definition.specs.declared.Refusal.{Refusal}
use Rattle.definition.specs.Answers.{status_from, value_from}
use Rattle.definition.specs.Blocks.{side, pieces_of}
use Rattle.definition.specs.Units.{Lent, final_sample}
use Rattle.definition.specs.Refusals.{open_status}
use Rattle.whole.specs.declared.Restored.{Restored}

-- THE WHOLE UNIT: where it is not declined each sample of the rectangle is the final one, and every other byte is as it was
pub record Final (op : Operation) (n : Given) (l : Lent) (p q : List ℕ) : Type 0 where
  pub size : length q ≡ length p
  pub here : (y x : ℕ) → y < n.h → x < n.w → get_or q (n.off + y * n.stride + x) 0 ≡ final_sample n l p op y x
  pub other : (i : ℕ) → ((y x : ℕ) → y < n.h → x < n.w → i ≢ n.off + y * n.stride + x) → get_or q i 0 ≡ get_or p i 0

-- pieces, or why a call is refused, as C has them
abbrev pub restored_of : Result ℕ Refusal → Restored
restored_of r = record { status = status_from r; pieces = value_from r }

pub record Whole (op : Operation) (r : Restored) (n : Given) (l : Lent) (p q : List ℕ) : Type 0 where
  pub status : r.status ≡ open_status op n l p
  pub pieces : open_status op n l p ≡ 0 → r.pieces ≡ pieces_of l.skip (n.w / side) 0 n.h
  pub plane : open_status op n l p ≡ 0 → Final op n l p q
  pub none : open_status op n l p ≢ 0 → (r.pieces ≡ 0) × (q ≡ p)
