-- A unit that is restored in many advances, whatever its operation: its events, its histories, and what holds after one. That it holds is `holds` in
-- proofs/Lawful.antt, and of every operation `demand_3` in the crate claims.
use Rattle.std.specs.Prelude.{◌≡◌, Bool, true, cond, ◌&&◌, List, ◌≢◌, ℕ, ◌+◌, ◌≤◌, ◌<◌, min, length, get_or, set, eqb, leb}

-- what an operation hands back
pub record Out (S : Type 0) : Type 0 where
  pub status : ℕ
  pub pieces : ℕ
  pub state : S
  pub plane : List ℕ

-- A unit that was opened: the operations over it, where its samples lie, and the definition's samples.
-- S are the states. C are the calls: an operation, a row count and all that is lent besides the plane.
-- A is what may change from one advance to the next, as a list of classes that is lent: `own a n` is the unit's own advance by n rows, lent a and all else
-- as at the opening, and is never declined where `ok a`. Where nothing may change A is `Unit`.
-- `back s` is what is taken back where the state s was put away, and `in_fields` that the numbers and bytes that the unit was opened with are those of the code's types.
pub record Opened (S C A : Type 0) : Type 1 where
  pub answer : C → S → List ℕ → Out S
  pub own : A → ℕ → C
  pub ok : A → Bool
  pub back : S → S
  pub in_fields : Type 0
  pub rows : S → ℕ
  pub complete : S → Bool
  pub w : ℕ
  pub h : ℕ
  pub at : ℕ → ℕ → ℕ
  pub first : S
  pub plane : List ℕ
  pub final : A → ℕ → ℕ → ℕ
  pub pieces : A → ℕ → ℕ → ℕ

pub data Event (C A : Type 0) : Type 0 where
  advance : A → ℕ → Event C A
  refused : C → Event C A
  refused_on : C → List ℕ → Event C A
  write : ℕ → ℕ → ℕ → Event C A
  put_away : Event C A

infixl 20 ◌▷◌
pub data History (C A : Type 0) : Type 0 where
  opened : History C A
  ◌▷◌ : History C A → Event C A → History C A

pub record World (S : Type 0) : Type 0 where
  pub state : S
  pub plane : List ℕ

module _ {S C A : Type 0} (u : Opened S C A) where
  abbrev pub after : Out S → World S
  after o = record { state = o.state; plane = o.plane }

  abbrev pub act : Event C A → World S → World S
  act (advance a n) x = after (u.answer (u.own a n) x.state x.plane)
  act (refused c) x = after (u.answer c x.state x.plane)
  act (refused_on c q) x = record { state = (u.answer c x.state q).state; plane = x.plane }
  act (write y c v) x = record { state = x.state; plane = set x.plane (u.at y c) v }
  act put_away x = record { state = u.back x.state; plane = x.plane }

  abbrev pub run : History C A → World S
  run opened = record { state = u.first; plane = u.plane }
  run (H ▷ e) = act e (run H)

  -- the exact sum of the row counts of the advances that were not refused
  abbrev pub sum : History C A → ℕ
  sum opened = 0
  sum (H ▷ advance a n) = sum H + n
  sum (H ▷ refused c) = sum H
  sum (H ▷ refused_on c q) = sum H
  sum (H ▷ write y c v) = sum H
  sum (H ▷ put_away) = sum H

  abbrev pub finished : History C A → ℕ
  finished H = min u.h (sum H)

  -- what was last written over a sample of a finished row, else the definition's, at the advance that finished the row
  abbrev pub last : History C A → ℕ → ℕ → ℕ
  last opened y x = 0
  last (H ▷ advance a n) y x = cond (leb (finished H) y) (u.final a y x) (last H y x)
  last (H ▷ refused c) y x = last H y x
  last (H ▷ refused_on c q) y x = last H y x
  last (H ▷ write y' x' v) y x = cond (eqb y y' && eqb x x') v (last H y x)
  last (H ▷ put_away) y x = last H y x

  abbrev pub Valid : History C A → Type 0
  Valid opened = Unit {0}
  Valid (H ▷ advance a n) = Valid H × (u.ok a ≡ true)
  Valid (H ▷ refused c) = Valid H × ((u.answer c (run H).state (run H).plane).status ≢ 0)
  Valid (H ▷ refused_on c q) = Valid H × ((u.answer c (run H).state q).status ≢ 0)
  Valid (H ▷ write y x v) = Valid H × (y < finished H) × (x < u.w)
  Valid (H ▷ put_away) = Valid H × u.in_fields

  -- i is no sample of rows k up to k'
  abbrev pub Off : ℕ → ℕ → ℕ → Type 0
  Off k k' i = (y x : ℕ) → k ≤ y → y < k' → x < u.w → i ≢ u.at y x

  -- what holds after a history; its state is the one that a single advance by as many rows would have handed back
  pub record After (H : History C A) : Type 0 where
    pub done : u.rows (run H).state ≡ finished H
    pub complete : u.complete (run H).state ≡ eqb (finished H) u.h
    pub state : (a : A) → u.ok a ≡ true → (run H).state ≡ (u.answer (u.own a (finished H)) u.first u.plane).state
    pub size : length (run H).plane ≡ length u.plane
    pub here : (y x : ℕ) → y < finished H → x < u.w → get_or (run H).plane (u.at y x) 0 ≡ last H y x
    pub other : (i : ℕ) → Off 0 (finished H) i → get_or (run H).plane i 0 ≡ get_or u.plane i 0
    pub status : (a : A) (n : ℕ) → u.ok a ≡ true → (u.answer (u.own a n) (run H).state (run H).plane).status ≡ 0
    pub pieces : (a : A) (n : ℕ) → u.ok a ≡ true → (u.answer (u.own a n) (run H).state (run H).plane).pieces ≡ u.pieces a (finished H) (finished (H ▷ advance a n))
