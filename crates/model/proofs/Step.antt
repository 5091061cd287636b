-- ONE ROW of a unit of any operation: what it is restored from, the row, and what is kept for the next one: the classes, and padded rows and indices as the
-- ring that they are.
use mathlib.Core.Path.{◌≡◌}
use mathlib.Core.Bool.{Bool, true, false, cond}
use mathlib.Core.List.{List, ◌++◌}
use Prim.Native.Nat.{ℕ, ◌+◌, ◌*◌, ◌/◌, ◌%◌}
use lib.Dec.{eqb}
use lib.ListN.{get_or, set, take, drop}
use lib.Seq.{sets}
use Rattle.definition.specs.declared.Operation.{Operation}
use Rattle.definition.specs.declared.Operation.TheVariants.{Luma, User, Pretrained, Chroma}
use Rattle.definition.specs.declared.Given.{Given}
use Rattle.definition.specs.Rows.{tab, row_bytes, row_origin, luma_row_bytes, luma_rows_at, luma_flat}
use Rattle.definition.specs.Blocks.{side}
use Rattle.definition.specs.ClassIndex.{class_index}
use Rattle.definition.specs.Units.{border, Lent}
use Rattle.history.proofs.Ring.{Ring, fetch, slid}
use Rattle.model.proofs.Rows.{pad_row, own}
use Rattle.model.proofs.LumaRows.{luma_pad_row}

abbrev pub ring : List ℕ → List ℕ → ℕ → Ring
ring rows indices next = record { slots = rows; idx = indices; next = next }

-- WHAT A ROW IS RESTORED FROM
-- the newest row of the window, row done + e of the unit
abbrev pub newest : Operation → Given → Lent → List ℕ → ℕ → Ring → Ring
newest op g l p done old =
    fetch row_bytes (border op + border op) (own op g (done + (border op + border op))) (pad_row op g l p (done + (border op + border op))) old

-- Classed, at the start of a block row: the row five below too, into the tenth slot.
abbrev pub begins : ℕ → Bool
begins k = eqb (k % side) 0

abbrev pub with_tenth : List ℕ → Ring → Ring
with_tenth row r = ring (sets r.slots (9 * row_bytes) row) (set r.idx 9 9) r.next

abbrev pub tenth_too : Operation → Given → Lent → List ℕ → ℕ → Ring → Ring
tenth_too op g l p done r = cond (begins done) (with_tenth (pad_row op g l p (done + 9)) r) r

-- Chroma: the newest luma row too, behind the chroma rows and their five indices, into the slot of the same number; where it is not padded anew, the one before again.
abbrev pub fetch_behind : Bool → List ℕ → Ring → Ring
fetch_behind true row r = ring (sets r.slots (luma_rows_at + r.next * luma_row_bytes) row) (set r.idx 9 r.next) r.next
fetch_behind false row r = ring r.slots (set r.idx 9 (get_or r.idx 8 0)) r.next

abbrev pub luma_too : Given → Lent → ℕ → ℕ → Ring → Ring
luma_too g l done slot r =
    let f = fetch_behind (own Chroma g (done + 4)) (luma_pad_row g l (done + 4)) (ring r.slots r.idx slot) in ring f.slots f.idx r.next

abbrev pub taken : Operation → Given → Lent → List ℕ → ℕ → Ring → Ring
taken Luma g l p done old = newest Luma g l p done old
taken User g l p done old = tenth_too User g l p done (newest User g l p done old)
taken Pretrained g l p done old = tenth_too Pretrained g l p done (newest Pretrained g l p done old)
taken Chroma g l p done old = luma_too g l done old.next (newest Chroma g l p done old)

-- the class of block bx of the block row that row y is in, from the rows that a ring holds
unfoldable pub class_at : Given → Lent → Ring → ℕ → ℕ → ℕ
class_at g l r y bx =
    get_or l.subclass
    (get_or l.map (class_index (luma_flat r.slots r.idx (row_origin + side * bx)) l.noskip l.q bx (y / side) (g.h / side)) 0)
    0

-- the classes of row `done`: where a block row begins those of its blocks are worked out, and the others stay
abbrev pub classes_at : Given → Lent → ℕ → List ℕ → Ring → List ℕ
classes_at g l done classes r = cond (begins done) (sets classes 0 (tab (g.w / side) (class_at g l r done))) classes

abbrev pub classes_by : Operation → Given → Lent → ℕ → List ℕ → Ring → List ℕ
classes_by Luma g l done classes r = classes
classes_by User g l done classes r = classes_at g l done classes r
classes_by Pretrained g l done classes r = classes_at g l done classes r
classes_by Chroma g l done classes r = classes

-- THE WINDOWS MOVED ON: each index takes the value of the one behind it
abbrev pub slid_by : Operation → List ℕ → List ℕ
slid_by Luma idx = slid 8 idx
slid_by User idx = slid 8 idx
slid_by Pretrained idx = slid 8 idx
slid_by Chroma idx = slid 4 (take 5 idx) ++ slid 4 (drop 5 idx)

-- WHAT THE PRIVATE FUNCTIONS OVER A ROW LEAVE
-- a ring with the newest row, and with the newest luma row
pub record Fetched (op : Operation) (g : Given) (l : Lent) (plane : List ℕ) (done : ℕ) (old new : Ring) : Type 0 where
  pub is : new ≡ newest op g l plane done old

pub record LumaFetched (g : Given) (l : Lent) (done : ℕ) (old new : Ring) : Type 0 where
  pub is : new ≡ fetch_behind (own Chroma g (done + 4)) (luma_pad_row g l (done + 4)) old

-- the ring and the classes that a row is restored from
pub record Taken (op : Operation) (g : Given) (l : Lent) (p : List ℕ) (done : ℕ) (classes : List ℕ) (old : Ring) (classes' : List ℕ) (new : Ring) : Type 0 where
  pub rows : new ≡ taken op g l p done old
  pub chosen : classes' ≡ classes_by op g l done classes new
