-- THE THREE DEMANDS, each one statement over every operation, by the records that the contracts cite:
--   open, of each operation                promises `Begun`
--   advance and advance_by, likewise       promise `Answered` by `answer`
--   restore, which restores a whole unit   promises `Whole`
--   restore_plane                          promises `PlaneRestored`
--   write, of a state                      promises `WrittenState`
--   read, of a state's text                promises `state_in`
-- The functions of gihvendu promise what the functions promise that they call. That they take all lengths, offsets, flags and contents: none has a `requires`. That they
-- end: the checker refuses a loop or a recursion without a measure. The terms are demand_1, demand_2, demand_3 and texts in proofs/Claims.antt.
use Rattle.std.specs.Prelude.{◌≡◌, true, cond, ◌||◌, List, ◌≢◌, ℕ, ◌+◌, ◌-◌, ◌*◌, ◌/◌, ◌≤◌, ◌<◌, min, ltb, eqb, ℤ, length, get_or, take, drop, Ok}
use Rattle.definition.specs.declared.Operation.{Operation}
use Rattle.definition.specs.declared.Given.{Given}
use Rattle.definition.specs.Blocks.{side, mask_at, masked, pieces_of}
use Rattle.definition.specs.Units.{Lent, final_sample}
use Rattle.definition.specs.Planes.{sample_in, final_in, unit_count, unit_number, plane_restored}
use Rattle.definition.specs.Answers.{status_from}
use Rattle.definition.specs.StateText.{OpenedInFields, text_limit}
use Rattle.definition.specs.Calls.{Call}
use Rattle.history.specs.History.{History, Valid, run}
use Rattle.definition.specs.Refusals.{open_status, plane_status}
use Rattle.units.specs.declared.State.{State}
use Rattle.units.specs.declared.Opened.{Opened}
use Rattle.units.specs.declared.Advanced.{Advanced}
use Rattle.units.specs.declared.Written.{Written}
use Rattle.units.specs.Openings.{no_state, opened_of, Begun}
use Rattle.units.specs.Advances.{status_of, answer, Answered}
use Rattle.units.specs.Histories.{unit, Histories}
use Rattle.units.specs.Texts.{StateInFields, text_of, fitting, cleared, state_in, WrittenState}
use Rattle.whole.specs.declared.Restored.{Restored}
use Rattle.whole.specs.Whole.{Final, Whole}
use Rattle.plane.specs.Plane.{PlaneRestored}

-- an advance of any state, forged ones too, that does n rows: only samples of these rows may change, and of the state neither operation nor sizes
pub record Works (n : ℕ) (c : Call) (s : State) (p q : List ℕ) (r : Advanced) : Type 0 where
  pub status : r.status ≡ 0
  pub pieces : r.pieces ≡ pieces_of c.lent.skip (s.given.w / side) s.done n
  pub done : r.state.done ≡ s.done + n
  pub same : (r.state.op ≡ s.op) × (r.state.given ≡ s.given)
  pub size : length q ≡ length p
  pub other : (i : ℕ) → ((y x : ℕ) → s.done ≤ y → y < s.done + n → x < s.given.w → i ≢ s.given.off + y * s.given.stride + x) → get_or q i 0 ≡ get_or p i 0

-- a whole plane: the samples of its first units are the definition's over the plane as it was, and no other byte changes
pub record WholePlane (r : Restored) (w h u count : ℕ) (filter : List ℤ) (skip p q : List ℕ) : Type 0 where
  pub here : r.status ≡ 0 → (y x : ℕ) → y < h → x < w →
      sample_in w q y x ≡ cond (ltb (unit_number w u y x) count) (final_in w h p skip filter y x) (sample_in w p y x)
  pub behind : (i : ℕ) → h * w ≤ i → get_or q i 0 ≡ get_or p i 0
  -- with all units done the bytes do not depend on the unit size: no unit is spoken of
  pub every_size : r.status ≡ 0 → unit_count w h u ≤ count → q ≡ plane_restored w h p skip filter

-- a state comes back: its text is written, and when it is read it gives the same state
pub record ComesBack (s : State) : Type 0 where
  pub text : List ℕ
  pub written : text_of s ≡ Ok text
  pub read : state_in text ≡ Ok s

-- DEMAND 1: every call works or gives the number of the table; a refusal writes no byte and hands a state back as it came
pub record Demand1 : Type 0 where
  -- open: the state of zeros where refused
  pub opens : (op : Operation) (r : Opened) (n : Given) (l : Lent) (p : List ℕ) → Begun op r n l p →
      (r.status ≡ open_status op n l p) × (open_status op n l p ≢ 0 → r.state ≡ no_state)
  -- advance, of any state: so many rows or all that remain
  pub refuses : (c : Call) (s : State) (p q : List ℕ) (r : Advanced) → Answered r q (answer c s p) → status_of c s p ≢ 0 →
      (r.status ≡ status_of c s p) × (r.pieces ≡ 0) × (r.state ≡ s) × (q ≡ p)
  pub works : (c : Call) (s : State) (p q : List ℕ) (r : Advanced) → Answered r q (answer c s p) → status_of c s p ≡ 0 →
      Works (min c.count (s.given.h - s.done)) c s p q r
  -- zero rows, or a finished unit, is no refusal and changes nothing
  pub idles : (c : Call) (s : State) (p q : List ℕ) (r : Advanced) → Answered r q (answer c s p) → status_of c s p ≡ 0 →
      (eqb c.count 0 || eqb s.done s.given.h) ≡ true → (r.status ≡ 0) × (r.pieces ≡ 0) × (r.state ≡ s) × (q ≡ p)
  -- the whole unit
  pub whole : (op : Operation) (r : Restored) (n : Given) (l : Lent) (p q : List ℕ) → Whole op r n l p q →
      (r.status ≡ open_status op n l p) × (open_status op n l p ≢ 0 → (r.pieces ≡ 0) × (q ≡ p))
  -- a whole plane: scratch stays too
  pub planes : (r : Restored) (w h u count : ℕ) (filter : List ℤ) (skip s s' p q : List ℕ) → PlaneRestored r w h u count filter skip s s' p q →
      (r.status ≡ plane_status w h u (length p) (length skip) (length filter) (length s)) × (r.status ≢ 0 → (r.pieces ≡ 0) × (q ≡ p) × (s' ≡ s))
  -- a state put away: 13, then 5; the text of a state that is written stands at the front of the list, and what is behind it stays
  pub writes : (r : Written) (s : State) (p q : List ℕ) → WrittenState r s p q →
      (r.status ≡ status_from (fitting (length p) (text_of s))) × (r.status ≢ 0 → (r.len ≡ 0) × (q ≡ p)) ×
      (r.status ≡ 0 → (text_of s ≡ Ok (take r.len q)) × (r.len ≤ length p) × (drop r.len q ≡ drop r.len p) × StateInFields s)
  -- .. and taken back: 17, then 13; the state of zeros where refused
  pub reads : (r : Opened) (t : List ℕ) → r ≡ opened_of (state_in t) →
      (r.status ≡ status_from (state_in t)) × (r.status ≢ 0 → r.state ≡ no_state) × (r.status ≡ 0 → state_in t ≡ Ok r.state)
  -- no number but the table's: 1 to 11, and in an advance 13
  pub numbers : (op : Operation) (n : Given) (l : Lent) (p : List ℕ) → open_status op n l p ≤ 11
  pub state_numbers : (c : Call) (s : State) (p : List ℕ) → status_of c s p ≢ 13 → status_of c s p ≤ 11
  pub write_numbers : (s : State) (room : ℕ) → (status_from (fitting room (text_of s)) ≢ 0) → (status_from (fitting room (text_of s)) ≢ 5) → status_from (fitting room (text_of s)) ≡ 13
  pub read_numbers : (t : List ℕ) → (status_from (state_in t) ≢ 0) → (status_from (state_in t) ≢ 17) → status_from (state_in t) ≡ 13

-- DEMAND 2: each sample of the rectangle is the definition's over the plane as it was, every byte outside it stays, and so do masked blocks
pub record Demand2 : Type 0 where
  pub restores : (op : Operation) (r : Restored) (n : Given) (l : Lent) (p q : List ℕ) → Whole op r n l p q → open_status op n l p ≡ 0 →
      (r.status ≡ 0) × (r.pieces ≡ pieces_of l.skip (n.w / side) 0 n.h) × Final op n l p q
  pub masks : (op : Operation) (n : Given) (l : Lent) (p : List ℕ) (y x : ℕ) → masked (mask_at l.skip y) (x / side) ≡ true →
      final_sample n l p op y x ≡ get_or p (n.off + y * n.stride + x) 0
  pub planes : (r : Restored) (w h u count : ℕ) (filter : List ℤ) (skip s s' p q : List ℕ) → PlaneRestored r w h u count filter skip s s' p q →
      WholePlane r w h u count filter skip p q

-- THE TEXT OF A STATE
pub record Texts : Type 0 where
  -- read after write, of every state that is written: the state, but for what its text has no place for
  pub read_after_write : (s : State) (t : List ℕ) → StateInFields s → text_of s ≡ Ok t → state_in t ≡ Ok (cleared s)
  -- write after read, of every text that is read
  pub write_after_read : (t : List ℕ) (s : State) → state_in t ≡ Ok s → text_of s ≡ Ok t
  -- no text is longer than the limit
  pub short : (s : State) (t : List ℕ) → StateInFields s → text_of s ≡ Ok t → length t ≤ text_limit
  -- and a unit that was opened: after any history its state comes back as it is
  pub handed_out : (op : Operation) (n : Given) (l : Lent) (p : List ℕ) → open_status op n l p ≡ 0 → OpenedInFields n l p →
      (H : History Call (Unit {0})) → Valid (unit op n l p) H → ComesBack (run (unit op n l p) H).state

-- DEMAND 3: a unit that was opened, and any history of it: advances, refused calls, finished samples written over, the unit put away and taken back.
-- After the history finished rows hold their final samples or what was written over them, and all else is as at the opening.
abbrev pub Demand3 : Type 0
Demand3 = (op : Operation) (n : Given) (l : Lent) (p : List ℕ) → open_status op n l p ≡ 0 → Histories op n l p
