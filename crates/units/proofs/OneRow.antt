-- One row of a unit of any operation: what it is restored from, what is kept for the next one, and the step that it makes.
use mathlib.Core.Path.{◌≡◌, refl, ◌∙◌, ap}
use mathlib.Core.Bool.{Bool, true, false, cond}
use mathlib.Core.List.{List}
use Prim.Native.Nat.{ℕ, ◌+◌, ◌*◌, ◌/◌, ◌^◌, ◌≤◌, ◌<◌}
use native.Mathlib.Omega.{arith}
use lib.IntN.{ℤ}
use lib.ListN.{length, get_or, length-set}
use lib.Seq.{sets, length-sets}
use Rattle.definition.specs.declared.Operation.{Operation}
use Rattle.definition.specs.declared.Operation.TheVariants.{Luma, User, Pretrained, Chroma}
use Rattle.definition.specs.declared.Given.{Given}
use Rattle.definition.specs.Rows.{tab, row_bytes}
use Rattle.definition.specs.Blocks.{side, mask_at}
use Rattle.definition.specs.Limits.{block_column_limit}
use Rattle.definition.specs.Sample.{limit8}
use Rattle.definition.specs.Units.{border, classed, chromatic, set_size, Lent, step}
use Rattle.definition.specs.Refusals.{index_limit, next_limit}
use Rattle.laws.proofs.Lists.{tab_cong}
use Rattle.history.proofs.Ring.{Ring, fetch_sizes, fetch-low, fetch-next-low, slid_length, slid-low, set_low}
use Rattle.model.proofs.Rows.{pad_row, own}
use Rattle.model.proofs.LumaRows.{luma_pad_row}
use Rattle.model.proofs.Cells.{HasSet, cell_of}
use Rattle.units.specs.Windows.{Fit, Ringed, Sound}
use Rattle.model.proofs.Step.{ring, newest, begins, with_tenth, luma_too, taken, class_at, classes_by, slid_by, Taken}
use Rattle.units.specs.Restored.{columns_of, Restorable}
use Rattle.units.proofs.Sources.{plane-inside}
use Rattle.units.specs.Step.{state_at, state_of, plane_of, ring_of, Stays, OneRow}
use Rattle.units.specs.declared.State.{State}
use Rattle.units.proofs.Classes.{class_low, classes_are}
use Rattle.units.proofs.Fits.{has_set}
use Rattle.units.proofs.TwoRings.{behind-long, behind-count, behind-low, slid-both-low, slid-count}

-- WHAT IS KEPT
pub limits : (op : Operation) → (next_limit op ≡ border op + border op) × (next_limit op ≤ index_limit op)
limits Luma = (refl, omega arith)
limits User = (refl, omega arith)
limits Pretrained = (refl, omega arith)
limits Chroma = (refl, omega arith)

-- .. by the ring
module _ (g : Given) (l : Lent) (p : List ℕ) (done : ℕ) where
  newest-ringed : (op : Operation) {old : Ring} → Ringed op old → Ringed op (newest op g l p done old)
  newest-ringed op {old} s =
      let m : ℕ = border op + border op in
      let o : Bool = own op g (done + m) in
      let row : List ℕ = pad_row op g l p (done + m) in
      record {
        low = fetch-low row_bytes m o row old (index_limit op) (omega (arith, s.next, (limits op).1)) s.low;
        next = rw (limits op).0 (fetch-next-low row_bytes m o row old (rw (limits op).0 at s.next));
        long = (fetch_sizes row_bytes m o row old).0 ∙ s.long;
        count = (fetch_sizes row_bytes m o row old).1 ∙ s.count;
      }

  -- the tenth row
  tenth-ringed : (op : Operation) → 9 ≤ index_limit op → (b : Bool) (row : List ℕ) (r : Ring) → Ringed op r → Ringed op (cond b (with_tenth row r) r)
  tenth-ringed op h false row r s = s
  tenth-ringed op h true row r s =
      record {
        low = set_low r.idx 9 9 (index_limit op) h s.low;
        next = s.next;
        long = length-sets r.slots (9 * row_bytes) row ∙ s.long;
        count = length-set r.idx 9 9 ∙ s.count;
      }

  -- the luma row of a chroma unit
  luma-ringed : (slot : ℕ) (r : Ring) → slot ≤ 4 → Ringed Chroma r → Ringed Chroma (luma_too g l done slot r)
  luma-ringed slot r h s =
      let o : Bool = own Chroma g (done + 4) in
      let row : List ℕ = luma_pad_row g l (done + 4) in
      record {
        low = behind-low o row (ring r.slots r.idx slot) h s.low;
        next = s.next;
        long = behind-long o row (ring r.slots r.idx slot) ∙ s.long;
        count = behind-count o row (ring r.slots r.idx slot) ∙ s.count;
      }

  pub taken-ringed : (op : Operation) {old : Ring} → Ringed op old → Ringed op (taken op g l p done old)
  taken-ringed Luma s = newest-ringed Luma s
  taken-ringed User {old} s = tenth-ringed User (omega arith) (begins done) (pad_row User g l p (done + 9)) (newest User g l p done old) (newest-ringed User s)
  taken-ringed Pretrained {old} s =
      tenth-ringed Pretrained (omega arith) (begins done) (pad_row Pretrained g l p (done + 9)) (newest Pretrained g l p done old) (newest-ringed Pretrained s)
  taken-ringed Chroma {old} s = luma-ringed old.next (newest Chroma g l p done old) s.next (newest-ringed Chroma s)

-- .. and by the classes of its block row
module _ (g : Given) (l : Lent) (done plane : ℕ) where
  abbrev sets_of : ℕ
  sets_of = length l.filters

  -- each has a set, and there are as many as before
  abbrev Kept : Operation → List ℕ → Type 0
  Kept op classes = ((j : ℕ) → j < block_column_limit → HasSet op sets_of (get_or classes j 0)) × (length classes ≡ block_column_limit)

  worked_out : (op : Operation) → classed op ≡ true → Fit op g l plane → (b : Bool) (classes : List ℕ) (r : Ring) → Kept op classes →
      Kept op (cond b (sets classes 0 (tab (g.w / side) (class_at g l r done))) classes)
  worked_out op e f false classes r k = k
  worked_out op e f true classes r k =
      let m = f.sources.mapped e in (
        classes_are (HasSet op sets_of) classes (g.w / side) block_column_limit (class_at g l r done) (omega (arith, k.1))
            (λ bx h. has_set op e sets_of (class_at g l r done bx) (class_low g l r done bx (sets_of / set_size op) m.size m.maps (f.subs e))) k.0,
        length-sets classes 0 (tab (g.w / side) (class_at g l r done)) ∙ k.1,
      )

  chosen-kept : (op : Operation) → Fit op g l plane → (classes : List ℕ) (r : Ring) → Kept op classes → Kept op (classes_by op g l done classes r)
  chosen-kept Luma f classes r k = k
  chosen-kept User f classes r k = worked_out User refl f (begins done) classes r k
  chosen-kept Pretrained f classes r k = worked_out Pretrained refl f (begins done) classes r k
  chosen-kept Chroma f classes r k = k

pub taken-sound : (op : Operation) (g : Given) (l : Lent) (p : List ℕ) (done plane : ℕ) {classes cs : List ℕ} {old new : Ring} → Fit op g l plane → Sound op (length l.filters) classes old →
    Taken op g l p done classes old cs new → Sound op (length l.filters) cs new
taken-sound op g l p done plane {classes} {cs} {old} {new} f s t =
    let k = chosen-kept g l done plane op f classes new (s.kept, s.sixteen) in
    record { ringed = rw t.rows (taken-ringed g l p done op s.ringed); kept = rw t.chosen k.0; sixteen = rw t.chosen k.1 }

-- windows that are moved on keep the limits and sizes, and so all that is kept
pub slid-ringed : (op : Operation) {rows idx : List ℕ} {next : ℕ} → Ringed op (ring rows idx next) → Ringed op (ring rows (slid_by op idx) next)
slid-ringed op {idx = idx} r = record { low = lows op r.low; next = r.next; long = r.long; count = counts op ∙ r.count }
  where
    lows : (o : Operation) → ((j : ℕ) → get_or idx j 0 ≤ index_limit o) → (j : ℕ) → get_or (slid_by o idx) j 0 ≤ index_limit o
    lows Luma h = slid-low 8 9 idx h
    lows User h = slid-low 8 9 idx h
    lows Pretrained h = slid-low 8 9 idx h
    lows Chroma h = slid-both-low idx h

    counts : (o : Operation) → length (slid_by o idx) ≡ length idx
    counts Luma = slid_length 8 idx
    counts User = slid_length 8 idx
    counts Pretrained = slid_length 8 idx
    counts Chroma = slid-count idx

pub slid-sound : (op : Operation) (n : ℕ) {classes rows idx : List ℕ} {next : ℕ} → Sound op n classes (ring rows idx next) → Sound op n classes (ring rows (slid_by op idx) next)
slid-sound op n s = record { ringed = slid-ringed op s.ringed; kept = s.kept; sixteen = s.sixteen }

-- .. so a row can be restored from it
pub restorable : (op : Operation) (l : Lent) (s m : State) (plane : ℕ) → Stays s m → s.done < s.given.h → Fit op s.given l plane → Sound op (length l.filters) m.classes (ring_of m) → Restorable op m l plane
restorable op l s m plane y h f o =
    let lie = f.sources.lie.own in
    record {
      whole = rw y.given lie.wide.fours;
      wide = rw y.given lie.wide.high;
      room = rw (y.given, y.done) (omega (arith, plane-inside lie s.done (omega arith)));
      masks = rw y.done (omega (arith, f.masks));
      low = λ j _. o.ringed.low j;
      kept = o.kept;
    }

-- THE STEP
-- luma columns matter to a chroma unit alone
cell-step : (op : Operation) (a b : ℕ) → (chromatic op ≡ true → a ≡ b) → (rows idx : List ℕ) (filters : List ℤ) (classes : List ℕ) (mask old x : ℕ) →
    cell_of limit8 op rows idx a filters classes mask old x ≡ cell_of limit8 op rows idx b filters classes mask old x
unfolding cell_of
cell-step Luma a b e rows idx filters classes mask old x = refl
cell-step User a b e rows idx filters classes mask old x = refl
cell-step Pretrained a b e rows idx filters classes mask old x = refl
cell-step Chroma a b e rows idx filters classes mask old x = λ i. cell_of limit8 Chroma rows idx (e refl i) filters classes mask old x

-- the state that the step starts from, and what it is once the row's window is at hand
module _ (op : Operation) (l : Lent) (s m : State) (p : List ℕ) (stays : Stays s m) where
  abbrev start : State → ℕ
  start t = t.given.off + t.done * t.given.stride

  abbrev written : State → (ℕ → ℕ) → List ℕ
  written t f = sets p (start t) (tab t.given.w f)

  pub stepped : {q idx : List ℕ} → Taken op s.given l p s.done s.classes (ring_of s) m.classes (ring_of m) → (chromatic op ≡ true → s.given.ss_hor ≤ 1) →
      q ≡ written m (λ x. cell_of limit8 op m.rows m.indices (columns_of m) l.filters m.classes (mask_at l.skip m.done) (get_or p (start m + x) 0) x) → idx ≡ slid_by op m.indices →
      OneRow op l s p (state_at m.op m.given (m.done + 1) m.classes (ring m.rows idx m.next)) q
  unfolding state_of plane_of
  stepped {q} {idx} t h e d =
      let g : Given = s.given in
      let rows_is = t.rows in
      let classes-now = t.chosen ∙ (λ i. classes_by op g l s.done s.classes (rows_is i)) in
      let cells : q ≡ written s (λ x. cell_of limit8 op m.rows m.indices (columns_of s) l.filters m.classes (mask_at l.skip s.done) (get_or p (start s + x) 0) x) =
      e ∙
      (λ i.
      let t : State = state_at s.op (stays.given i) (stays.done i) s.classes (ring_of s) in
      written t (λ x. cell_of limit8 op m.rows m.indices (columns_of t) l.filters m.classes (mask_at l.skip t.done) (get_or p (start t + x) 0) x)) in
      let c : chromatic op ≡ true → columns_of s ≡ 2 ^ g.ss_hor = λ b. ap (λ (n : ℕ). 2 ^ n) (omega (arith, h b)) in
      let plane-is =
      cells ∙
      ((λ i. sets p (start s) (tab_cong g.w _ _ (λ x b. cell-step op (columns_of s) (step g l) c m.rows m.indices l.filters m.classes (mask_at l.skip s.done) (get_or p (start s + x) 0) x) i)) ∙
      (λ i. sets p (start s) (tab g.w (λ x. cell_of limit8 op (rows_is i).slots (rows_is i).idx (step g l) l.filters (classes-now i) (mask_at l.skip s.done) (get_or p (start s + x) 0) x)))) in
      record {
        is =
            (λ i. record { state = state_at (stays.op i) (stays.given i) (stays.done i + 1) m.classes (ring m.rows (d i) m.next); plane = q }) ∙
            (λ i. record { state = state_at s.op g (s.done + 1) (classes-now i) (ring (rows_is i).slots (slid_by op (rows_is i).idx) (rows_is i).next); plane = plane-is i });
        size = ap length e ∙ length-sets p (start m) (tab m.given.w (λ x. cell_of limit8 op m.rows m.indices (columns_of m) l.filters m.classes (mask_at l.skip m.done) (get_or p (start m + x) 0) x));
      }
