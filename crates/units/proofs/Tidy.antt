-- What the state of an opened unit keeps from row to row, of every operation: it is so when a unit is opened, and each step leaves it so.
use mathlib.Core.Path.{◌≡◌, refl, sym, ◌∙◌}
use mathlib.Core.Bool.{Bool, true, false, cond}
use mathlib.Core.List.{List, ◌++◌}
use Prim.Native.Nat.{ℕ, zero, suc, ◌+◌, ◌*◌, ◌/◌, ◌≤◌, max, zero-le}
use native.Mathlib.Nat.{suc-mul}
use native.Mathlib.Omega.{arith}
use lib.Dec.{leb}
use lib.ListN.{length, get_or, replicate, length-replicate, length-append}
use lib.Seq.{sets, length-sets}
use Rattle.definition.specs.declared.Operation.{Operation}
use Rattle.definition.specs.declared.Operation.TheVariants.{Luma, User, Pretrained, Chroma}
use Rattle.definition.specs.declared.Given.{Given}
use Rattle.definition.specs.Blocks.{side}
use Rattle.definition.specs.Limits.{block_column_limit}
use Rattle.definition.specs.Rows.{tab, row_bytes, luma_row_bytes, luma_rows_at, index_count, state_bytes}
use Rattle.definition.specs.Sample.{limit8}
use Rattle.definition.specs.Units.{border, chromatic, Lent}
use Rattle.definition.specs.Refusals.{index_limit, next_limit, rows_size}
use Rattle.definition.specs.StateText.{Bytes, OpenedInFields}
use Rattle.laws.proofs.Ints.{never}
use Rattle.laws.proofs.Lists.{length_tab, tab-low, sets_behind}
use Rattle.history.proofs.Ring.{Ring, fetch, append_low}
use Rattle.model.proofs.Rows.{pad_row, own, first_row, first-low, pad_size}
use Rattle.model.proofs.LumaRows.{luma_pad_row, luma-size}
use Rattle.model.proofs.Bytes.{blank-zero, blank-bytes, sets-bytes, pad-bytes, luma-bytes}
use Rattle.model.proofs.Step.{ring, newest, begins, with_tenth, fetch_behind, taken, class_at, classes_by}
use Rattle.model.proofs.Opening.{filled, filled_rows, filled-size, open_ring, open_rings, open_ten, open_own, open_luma}
use Rattle.units.specs.declared.State.{State}
use Rattle.units.specs.Windows.{Ringed}
use Rattle.units.specs.Openings.{open_state}
use Rattle.units.specs.Step.{ring_of, state_of, rows_now}
use Rattle.units.proofs.OneRow.{limits, taken-ringed, slid-ringed}

-- sizes, limits, bytes, and zeros where a text has no place
pub record Tidy (op : Operation) (s : State) : Type 0 where
  pub low : (j : ℕ) → get_or s.indices j 0 ≤ index_limit op
  pub next : s.next ≤ next_limit op
  pub long : length s.rows ≡ state_bytes
  pub count : length s.indices ≡ index_count
  pub columns : length s.classes ≡ block_column_limit
  pub rows : Bytes s.rows
  pub classes : Bytes s.classes
  pub rest : chromatic op ≡ false → (i : ℕ) → rows_size ≤ i → get_or s.rows i 0 ≡ 0

-- THE THREE PARTS of it: the ring (`Ringed`), its slots, and the classes
abbrev Clean : Operation → List ℕ → Type 0
Clean op slots = Bytes slots × (chromatic op ≡ false → (i : ℕ) → rows_size ≤ i → get_or slots i 0 ≡ 0)

abbrev Columns : List ℕ → Type 0
Columns classes = Bytes classes × (length classes ≡ block_column_limit)

-- they make a tidy state
tidy : (op : Operation) (s : State) → Ringed op (ring_of s) → Clean op s.rows → Columns s.classes → Tidy op s
tidy op s r c k = record { low = r.low; next = r.next; long = r.long; count = r.count; columns = k.1; rows = c.0; classes = k.0; rest = c.1 }

-- what holds of two lists holds of the one that is chosen
chosen : (P : List ℕ → Type 0) (b : Bool) (x y : List ℕ) → P x → P y → P (cond b x y)
chosen P true x y h k = h
chosen P false x y h k = k

-- SLOTS
-- zeros are clean
blank-clean : (op : Operation) (n : ℕ) → Clean op (replicate n 0)
blank-clean op n = (blank-bytes n, λ e i h. blank-zero n i)

-- bytes that are put in leave the slots clean, where they end before the rest
put-clean : (op : Operation) (row slots : List ℕ) (a : ℕ) → Bytes row → (chromatic op ≡ false → a + length row ≤ rows_size) → Clean op slots → Clean op (sets slots a row)
put-clean op row slots a b fits c = (sets-bytes row slots a b c.0, λ e i h. sets_behind row slots a i (omega (arith, fits e)) ∙ c.1 e i h)

-- a chroma unit's slots are clean once they are bytes
chroma-clean : (slots : List ℕ) → Bytes slots → Clean Chroma slots
chroma-clean slots b = (b, λ e. absurd (never (sym e)))

-- rows that are filled before the rest leave it clean
filled-clean : (op : Operation) (len first : ℕ) (pad : ℕ → List ℕ) (blank : List ℕ) → ((R : ℕ) → Bytes (pad R)) → ((R : ℕ) → length (pad R) ≡ len) → Clean op blank →
    (n : ℕ) → (chromatic op ≡ false → n * len ≤ rows_size) → Clean op (filled_rows len first pad blank n)
unfolding filled_rows
filled-clean op len first pad blank b sized c zero fits = c
filled-clean op len first pad blank b sized c (suc n) fits =
    let old : List ℕ = filled_rows len first pad blank n in
    let before : Clean op old = filled-clean op len first pad blank b sized c n (λ e. omega (arith, fits e, suc-mul n len)) in
    chosen (Clean op) (leb first n) (sets old (n * len) (pad n)) old
    (put-clean op (pad n) old (n * len) (b n) (λ e. omega (arith, fits e, suc-mul n len, sized n)) before)
    before

-- .. and as long as the zeros that they are put into
filled-long : (len first : ℕ) (pad : ℕ → List ℕ) (size : ℕ) → ((R : ℕ) → length (pad R) ≡ len) → (n : ℕ) → length (filled_rows len first pad (replicate size 0) n) ≡ size
filled-long len first pad size sized n = filled-size len first pad (replicate size 0) sized n ∙ length-replicate {A = ℕ} size 0

-- INDICES of an opening: none is higher than the number of rows that are padded, and those behind them are 0
open-low : (m first top z : ℕ) → m ≤ top → first ≤ m → (j : ℕ) → get_or (tab m (λ i. max i first) ++ replicate z 0) j 0 ≤ top
open-low m first top z h k =
    append_low (tab m (λ i. max i first)) (replicate z 0) top (tab-low m (λ i. max i first) top (λ i lt. omega arith)) (λ j. rw (blank-zero z j) zero-le)

-- .. and there are as many as rows, and z more
open-count : (m first z : ℕ) → length (tab m (λ i. max i first) ++ replicate z 0) ≡ m + z
open-count m first z = length-append (tab m (λ i. max i first)) (replicate z 0) ∙ rw (length_tab m (λ i. max i first), length-replicate {A = ℕ} z 0)

module _ (n : Given) (l : Lent) (p : List ℕ) where
  -- The ring of a luma or classed unit that is opened keeps the limits and sizes,
  ten-ringed : (op : Operation) → border op ≡ 4 → Ringed op (open_ten op n l p)
  unfolding open_ring filled
  ten-ringed op e =
      let m : ℕ = border op + border op in
      let first : ℕ = first_row op n in
      record {
        low = open-low m first (index_limit op) 2 (omega (arith, limits op)) (omega (arith, first-low op n));
        next = omega (arith, limits op);
        long = filled-long row_bytes first (pad_row op n l p) state_bytes (pad_size op n l p) m;
        count = rw (open-count m first 2) (omega (arith, e));
      }

  -- .. and so does that of any unit; a chroma unit's is made of two
  open-ringed : (op : Operation) → Ringed op (open_rings op n l p)
  unfolding open_ring filled
  open-ringed Luma = ten-ringed Luma refl
  open-ringed User = ten-ringed User refl
  open-ringed Pretrained = ten-ringed Pretrained refl
  open-ringed Chroma =
      let first : ℕ = first_row Chroma n in
      let k : first ≤ 4 = omega (arith, first-low Chroma n) in
      record {
        low = append_low (open_own n l p).idx (open_luma n l).idx 4 (open-low 4 first 4 1 (omega arith) k) (open-low 4 first 4 1 (omega arith) k);
        next = omega arith;
        long = length-append (open_own n l p).slots (open_luma n l).slots ∙
            (λ i.
            filled-long row_bytes first (pad_row Chroma n l p) luma_rows_at (pad_size Chroma n l p) 4 i +
            filled-long luma_row_bytes first (luma_pad_row n l) (5 * luma_row_bytes) (luma-size n l) 4 i);
        count = length-append (open_own n l p).idx (open_luma n l).idx ∙ (λ i. open-count 4 first 1 i + open-count 4 first 1 i);
      }

module _ (n g : Given) (l : Lent) (p : List ℕ) (t : OpenedInFields n l p) where
  -- a unit's padded rows are bytes,
  pads : (op : Operation) (R : ℕ) → Bytes (pad_row op g l p R)
  pads op = pad-bytes op g l p t.plane t.left t.top t.bottom

  -- .. and so are the luma rows beside them
  lumas : (R : ℕ) → Bytes (luma_pad_row g l R)
  lumas = luma-bytes g l t.luma_plane t.luma_top t.luma_bottom

  -- THE SLOTS of a luma or classed unit that is opened are clean,
  ten-clean : (op : Operation) → border op ≡ 4 → Clean op (open_ten op g l p).slots
  unfolding open_ring filled
  ten-clean op e =
      filled-clean op row_bytes (first_row op g) (pad_row op g l p) (replicate state_bytes 0) (pads op) (pad_size op g l p) (blank-clean op state_bytes)
      (border op + border op) (λ _. omega (arith, e))

  -- .. and so are those of any unit
  open-clean : (op : Operation) → Clean op (open_rings op g l p).slots
  unfolding open_ring filled
  open-clean Luma = ten-clean Luma refl
  open-clean User = ten-clean User refl
  open-clean Pretrained = ten-clean Pretrained refl
  open-clean Chroma =
      let first : ℕ = first_row Chroma g in
      chroma-clean ((open_own g l p).slots ++ (open_luma g l).slots)
      (append_low (open_own g l p).slots (open_luma g l).slots limit8
      (filled-clean Chroma row_bytes first (pad_row Chroma g l p) (replicate luma_rows_at 0) (pads Chroma) (pad_size Chroma g l p) (blank-clean Chroma luma_rows_at) 4 (λ _. omega arith)).0
      (filled-clean Chroma luma_row_bytes first (luma_pad_row g l) (replicate (5 * luma_row_bytes) 0) lumas (luma-size g l) (blank-clean Chroma (5 * luma_row_bytes)) 4 (λ _. omega arith)).0)

  -- A ROW's slots stay clean: a padded row has its place in one of ten,
  own-clean : (op : Operation) (R s : ℕ) (slots : List ℕ) → (chromatic op ≡ false → s ≤ 9) → Clean op slots → Clean op (sets slots (s * row_bytes) (pad_row op g l p R))
  own-clean op R s slots h = put-clean op (pad_row op g l p R) slots (s * row_bytes) (pads op R) (λ e. omega (arith, h e, pad_size op g l p R))

  -- .. whether the newest row is put in or not,
  fetch-clean : (op : Operation) (len m : ℕ) (b : Bool) (row : List ℕ) (old : Ring) → Clean op (sets old.slots (old.next * len) row) → Clean op old.slots → Clean op (fetch len m b row old).slots
  fetch-clean op len m true row old c k = c
  fetch-clean op len m false row old c k = k

  -- .. its slot being one of the first nine;
  newest-clean : (op : Operation) (done : ℕ) (old : Ring) → old.next ≤ next_limit op → Clean op old.slots → Clean op (newest op g l p done old).slots
  newest-clean op done old h c =
      let m : ℕ = border op + border op in
      fetch-clean op row_bytes m (own op g (done + m)) (pad_row op g l p (done + m)) old
      (own-clean op (done + m) old.next old.slots (λ e. let le : old.next ≤ 8 = rw e at h in omega arith) c) c

  -- .. the tenth row has the last,
  tenth-clean : (op : Operation) (R : ℕ) (b : Bool) (r : Ring) → Clean op r.slots → Clean op (cond b (with_tenth (pad_row op g l p R) r) r).slots
  tenth-clean op R true r c = own-clean op R 9 r.slots (λ _. omega arith) c
  tenth-clean op R false r c = c

  -- .. and a luma row leaves a chroma unit's slots bytes.
  behind-clean : (R : ℕ) (b : Bool) (r : Ring) → Bytes r.slots → Clean Chroma (fetch_behind b (luma_pad_row g l R) r).slots
  behind-clean R true r c =
      chroma-clean (sets r.slots (luma_rows_at + r.next * luma_row_bytes) (luma_pad_row g l R)) (sets-bytes (luma_pad_row g l R) r.slots (luma_rows_at + r.next * luma_row_bytes) (lumas R) c)
  behind-clean R false r c = chroma-clean r.slots c

  -- So all that a row is restored from is put into clean slots
  taken-clean : (op : Operation) (done : ℕ) (old : Ring) → old.next ≤ next_limit op → Clean op old.slots → Clean op (taken op g l p done old).slots
  taken-clean Luma done old h c = newest-clean Luma done old h c
  taken-clean User done old h c = tenth-clean User (done + 9) (begins done) (newest User g l p done old) (newest-clean User done old h c)
  taken-clean Pretrained done old h c = tenth-clean Pretrained (done + 9) (begins done) (newest Pretrained g l p done old) (newest-clean Pretrained done old h c)
  taken-clean Chroma done old h c =
      let r : Ring = newest Chroma g l p done old in
      behind-clean (done + 4) (own Chroma g (done + 4)) (ring r.slots r.idx old.next) (newest-clean Chroma done old h c).0

  -- CLASSES that are worked out come from the subclass list, so they are bytes,
  class-byte : (r : Ring) (y bx : ℕ) → class_at g l r y bx ≤ limit8
  unfolding class_at
  class-byte r y bx = t.subclass _

  -- .. and leave bytes, as many as before, where a block row begins, as elsewhere,
  worked-columns : (done : ℕ) (classes : List ℕ) (r : Ring) → Columns classes → Columns (cond (begins done) (sets classes 0 (tab (g.w / side) (class_at g l r done))) classes)
  worked-columns done classes r k =
      let new : List ℕ = tab (g.w / side) (class_at g l r done) in
      chosen Columns (begins done) (sets classes 0 new) classes
      (sets-bytes new classes 0 (tab-low (g.w / side) (class_at g l r done) limit8 (λ bx _. class-byte r done bx)) k.0, length-sets classes 0 new ∙ k.1)
      k

  -- .. in a unit of any operation
  classes-columns : (op : Operation) (done : ℕ) (classes : List ℕ) (r : Ring) → Columns classes → Columns (classes_by op g l done classes r)
  classes-columns Luma done classes r k = k
  classes-columns User done classes r k = worked-columns done classes r k
  classes-columns Pretrained done classes r k = worked-columns done classes r k
  classes-columns Chroma done classes r k = k

-- A UNIT IS TIDY when it is opened,
pub tidy_open : (op : Operation) (n : Given) (l : Lent) (p : List ℕ) → OpenedInFields n l p → Tidy op (open_state op n l p)
unfolding open_state
tidy_open op n l p t =
    tidy op (open_state op n l p) (open-ringed n l p op) (open-clean n n l p t op) (blank-bytes block_column_limit, length-replicate {A = ℕ} block_column_limit 0)

-- .. and each step leaves it so
pub tidy_step : (op : Operation) (l : Lent) (n : Given) (s : State) (p : List ℕ) → OpenedInFields n l p → Tidy op s → Tidy op (state_of op l s p)
unfolding state_of
tidy_step op l n s p t y =
    let r : Ring = rows_now op l s p in
    let old : Ringed op (ring_of s) = record { low = y.low; next = y.next; long = y.long; count = y.count } in
    tidy op (state_of op l s p)
    (slid-ringed op (taken-ringed s.given l p s.done op old))
    (taken-clean n s.given l p t op s.done (ring_of s) y.next (y.rows, y.rest))
    (classes-columns n s.given l p t op s.done s.classes r (y.classes, y.columns))
