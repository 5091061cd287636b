-- A unit that is put away and taken back: the text of its state, and the state that a text means.
use Rattle.std.specs.Prelude.{◌≡◌, Bool, false, cond, List, [], ◌∷◌, ◌++◌, ℕ, zero, suc, ◌+◌, ◌-◌, ltb, eqb, length, get_or, take, drop, replicate, Option, Some, None, Result, Ok, Err}
use Rattle.definition.specs.declared.Operation.{Operation}
use Rattle.definition.specs.declared.Operation.TheVariants.{Chroma}
use Rattle.definition.specs.declared.Refusal.{Refusal}
use Rattle.definition.specs.declared.Refusal.TheVariants.{Outside, State as BadState, Text}
use Rattle.definition.specs.Answers.{status_from, value_from}
use Rattle.definition.specs.Rows.{tab, state_bytes, index_count}
use Rattle.definition.specs.Units.{number_of, operation_of}
use Rattle.definition.specs.Calls.{given_c}
use Rattle.definition.specs.Refusals.{bad_shape, rows_size}
use Rattle.definition.specs.Card.{Reading, value, wrong, joined}
use Rattle.definition.specs.StateText.{StateLines, LinesInFields, row_width, state_text, lines_in}
use Rattle.units.specs.declared.State.{State}
use Rattle.units.specs.declared.Written.{Written}
use Rattle.units.specs.Openings.{no_state, opened_of}

-- THE LINES OF A STATE. Its padded rows stand one behind the other: the bytes before row k, and row k
unfoldable pub bytes_before : Operation → ℕ → ℕ
bytes_before op zero = 0
bytes_before op (suc k) = bytes_before op k + row_width op k

abbrev pub kept_row : Operation → List ℕ → ℕ → List ℕ
kept_row op rows k = take (row_width op k) (drop (bytes_before op k) rows)

abbrev pub lines_of : Operation → State → StateLines
lines_of op s =
    record {
      op = op;
      w = s.given.w;
      h = s.given.h;
      edges = s.given.edges;
      done = s.done;
      classes = s.classes;
      indices = s.indices;
      next = s.next;
      rows = tab index_count (kept_row op s.rows);
      strides = s.given.stride ∷ s.given.luma_stride ∷ [];
      offsets = s.given.off ∷ s.given.top_off ∷ s.given.bottom_off ∷ s.given.luma_off ∷ s.given.luma_top_off ∷ s.given.luma_bottom_off ∷ [];
      pair = s.given.ss_hor ∷ s.given.ss_ver ∷ [];
      kind = s.given.kind;
    }

-- .. and the state of lines: bytes that they have no place for are zeros
abbrev pub state_from : StateLines → State
state_from u =
    record {
      op = number_of u.op;
      given =
          given_c u.w u.h u.edges (get_or u.strides 0 0) (get_or u.strides 1 0) (get_or u.offsets 0 0) (get_or u.offsets 1 0) (get_or u.offsets 2 0) (get_or u.offsets 3 0)
          (get_or u.offsets 4 0) (get_or u.offsets 5 0) (get_or u.pair 0 0) (get_or u.pair 1 0) u.kind;
      done = u.done;
      next = u.next;
      classes = u.classes;
      indices = u.indices;
      rows = joined u.rows ++ replicate (state_bytes - length (joined u.rows)) 0;
    }

-- A state without what its text has no place for: of a luma or classed unit the bytes behind its ten rows.
abbrev pub carried_bytes : State → ℕ
carried_bytes s = cond (eqb s.op (number_of Chroma)) state_bytes rows_size

abbrev pub cleared : State → State
cleared s =
    record {
      op = s.op;
      given = s.given;
      done = s.done;
      next = s.next;
      classes = s.classes;
      indices = s.indices;
      rows = take (carried_bytes s) s.rows ++ replicate (state_bytes - carried_bytes s) 0;
    }

-- each number in its field, as the types of the code say
pub record StateInFields (s : State) : Type 0 where
  pub long : length s.rows ≡ state_bytes
  pub lines : (op : Operation) → s.op ≡ number_of op → LinesInFields (lines_of op s)

-- 13: the shape alone, of whatever operation the state is
abbrev pub misshapen : Operation → State → Bool
misshapen op s = bad_shape op false s.done s.given.h s.indices s.next

abbrev pub shaped_as : Option Operation → State → Result Operation Refusal
shaped_as None s = Err BadState
shaped_as (Some op) s = cond (misshapen op s) (Err BadState) (Ok op)

abbrev pub shaped : State → Result Operation Refusal
shaped s = shaped_as (operation_of s.op) s

-- PUT AWAY: the text of a state, or 13
abbrev pub text_by : Result Operation Refusal → State → Result (List ℕ) Refusal
text_by (Ok op) s = Ok (state_text (lines_of op s))
text_by (Err r) s = Err r

unfoldable pub text_of : State → Result (List ℕ) Refusal
text_of s = text_by (shaped s) s

-- .. written at the front of a lent list: 13 precedes 5, which is of this text's length
abbrev pub fitting : ℕ → Result (List ℕ) Refusal → Result (List ℕ) Refusal
fitting room (Ok t) = cond (ltb room (length t)) (Err Outside) (Ok t)
fitting room (Err r) = Err r

abbrev pub length_from : Result (List ℕ) Refusal → ℕ
length_from (Ok t) = length t
length_from (Err r) = 0

abbrev pub put_from : Result (List ℕ) Refusal → List ℕ → List ℕ
put_from (Ok t) out = t ++ drop (length t) out
put_from (Err r) out = out

pub record WrittenState (r : Written) (s : State) (old new : List ℕ) : Type 0 where
  pub status : r.status ≡ status_from (fitting (length old) (text_of s))
  pub len : r.len ≡ length_from (fitting (length old) (text_of s))
  pub out : new ≡ put_from (fitting (length old) (text_of s)) old
  -- so a state that was written is one of which read after write speaks
  pub in_fields : r.status ≡ 0 → StateInFields s

-- as C has it
abbrev pub written_of : Result ℕ Refusal → Written
written_of r = record { status = status_from r; len = value_from r }

-- TAKEN BACK: the state of a text, or 17, then 13
abbrev pub state_found : Reading StateLines → Option State
state_found (value u at) = Some (state_from u)
state_found wrong = None

abbrev pub state_if : Result Operation Refusal → State → Result State Refusal
state_if (Ok op) s = Ok s
state_if (Err r) s = Err r

abbrev pub state_by : Option State → Result State Refusal
state_by (Some s) = state_if (shaped s) s
state_by None = Err Text

unfoldable pub state_in : List ℕ → Result State Refusal
state_in t = state_by (state_found (lines_in t))

-- .. of what was put away; where it is refused, the state of zeros
abbrev pub back_by : Result (List ℕ) Refusal → State
back_by (Ok t) = (opened_of (state_in t)).state
back_by (Err r) = no_state

unfoldable pub back : State → State
back s = back_by (text_of s)
