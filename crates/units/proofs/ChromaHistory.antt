-- DEMAND 3 FOR CHROMA UNITS: two rings side by side, the unit's own rows and the luma rows, which the state holds one behind the other.
use mathlib.Core.Path.{◌≡◌, refl, sym, ◌∙◌, ap}
use mathlib.Core.Bool.{cond}
use mathlib.Core.List.{List, [], ◌∷◌, ◌++◌}
use Prim.Native.Nat.{ℕ, zero, suc, ◌+◌, ◌*◌, ◌/◌, ◌%◌, ◌≤◌, ◌<◌, zero-le}
use native.Mathlib.Nat.{mul-le-mul}
use native.Mathlib.Omega.{arith}
use lib.IntN.{ℤ, pos, nat_abs, ◌+ℤ◌, ◌*ℤ◌}
use lib.ListN.{length, get_or, replicate, length-replicate, get_or-append}
use lib.Seq.{sets}
use Rattle.definition.specs.declared.Operation.TheVariants.{Chroma}
use Rattle.definition.specs.declared.Given.{Given}
use Rattle.definition.specs.Rows.{tab, row_bytes, luma_row_bytes, luma_rows_at, row_origin, flat_around, chroma_flat, chroma_luma_flat}
use Rattle.definition.specs.Limits.{width_limit, block_column_limit}
use Rattle.definition.specs.Blocks.{side, mask_at, masked}
use Rattle.definition.specs.Sample.{limit8, chroma_sample}
use Rattle.definition.specs.Units.{number_of, Lent, around, luma_around, step, set_of, final_sample}
use Rattle.definition.specs.Refusals.{sizes_of, open_status}
use Rattle.definition.specs.Leaves.{coefficients}
use Rattle.laws.proofs.Ints.{abs_mul, nonneg_add}
use Rattle.laws.proofs.Lists.{tab_cong}
use Rattle.history.proofs.Ring.{Ring, fetch_sizes, fetch-low, window, slots_wrap, Rule, RingAt, append_low, slid_length}
use Rattle.history.proofs.Memory.{Memory, ring, both}
use Rattle.history.proofs.Theorem.{Shown, theorem}
use Rattle.model.proofs.Rows.{pad_row, own, src, first_row, pad_same, pad_size, ring_rule}
use Rattle.model.proofs.LumaRows.{luma_pad_row, luma-size, luma-first, luma_rule, luma_view, luma-centre, step-two}
use Rattle.model.proofs.Opening.{open_ring, filled, filled-size, opens, opened-ring, src_starts, open_own, open_luma}
use Rattle.model.proofs.Fine.{Fine, fine, row_room}
use Rattle.laws.proofs.Agree.{chroma_agree}
use Rattle.model.proofs.Views.{view_around, flat_view, pad_view, place_high, place_split}
use Rattle.units.specs.declared.State.{State}
use Rattle.units.specs.Openings.{open_state}
use Rattle.units.proofs.Tidy.{Tidy, tidy_open, tidy_step}
use Rattle.units.proofs.RoundTrip.{comes-back}
use Rattle.units.proofs.Frames.{frame_of}
use Rattle.units.specs.Histories.{Histories}
use Rattle.model.proofs.Cells.{cell_of, chroma_unmasked}
use Rattle.model.proofs.Step.{slid_by}
use Rattle.units.specs.Step.{state_at, rows_now, state_of, plane_of}
use Rattle.units.specs.Advances.{answer, units, status_of}
use Rattle.definition.specs.Calls.{call_of}
use Rattle.units.proofs.Admissions.{passed}
use Rattle.units.proofs.TwoRings.{get_or_second, joined, both-took, both_moved}

-- the slot of row R of five
abbrev pub slot : ℕ → ℕ
slot R = R % 5

-- WHAT THE FILTER SEES, of two rings one behind the other
module _ (c m : Ring) (rows : length c.slots ≡ luma_rows_at) (indices : length c.idx ≡ 5) where
  -- the first ring's rows stand first
  flat-front : (col : ℕ) (dy dx : ℤ) → ((j : ℕ) → get_or c.idx j 0 ≤ 4) → nat_abs (pos 2 +ℤ dy) < 5 → nat_abs (pos col +ℤ dx) < row_bytes →
      flat_around 0 row_bytes 2 (c.slots ++ m.slots) (c.idx ++ m.idx) col dy dx ≡ flat_around 0 row_bytes 2 c.slots c.idx col dy dx
  flat-front col dy dx low h k =
      let j : ℕ = nat_abs (pos 2 +ℤ dy) in
      let b : ℕ = nat_abs (pos col +ℤ dx) in
      let s : ℕ = get_or c.idx j 0 in
      let lo : s ≤ 4 = low j in
      ap (λ (i : ℕ). get_or (c.slots ++ m.slots) (0 + row_bytes * i + b) 0) (get_or-append c.idx m.idx 0 j (rw indices h)) ∙
      get_or-append c.slots m.slots 0 (0 + row_bytes * s + b) (rw rows (omega arith))

  -- the second's behind them
  flat-behind : (col : ℕ) (dy dx : ℤ) → nat_abs dy ≤ 2 →
      flat_around luma_rows_at luma_row_bytes 7 (c.slots ++ m.slots) (c.idx ++ m.idx) col dy dx ≡ flat_around 0 luma_row_bytes 2 m.slots m.idx col dy dx
  flat-behind col dy dx h =
      let j : ℕ = nat_abs (pos 2 +ℤ dy) in
      let b : ℕ = nat_abs (pos col +ℤ dx) in
      let s : ℕ = get_or m.idx j 0 in
      let e : nat_abs (pos 7 +ℤ dy) ≡ 5 + j = place_split 7 0 2 dy (nonneg_add 2 dy h) (omega arith) ∙ omega arith in
      let d : luma_rows_at + luma_row_bytes * s + b ≡ luma_rows_at + (0 + luma_row_bytes * s + b) = omega arith in
      ap (λ (i : ℕ). get_or (c.slots ++ m.slots) (luma_rows_at + luma_row_bytes * i + b) 0) (ap (λ (i : ℕ). get_or (c.idx ++ m.idx) i 0) e ∙ get_or_second c.idx m.idx 5 j indices) ∙
      (ap (λ (i : ℕ). get_or (c.slots ++ m.slots) i 0) d ∙ get_or_second c.slots m.slots luma_rows_at (0 + luma_row_bytes * s + b) rows)

-- sample x of row y, from the rows of both rings, `step` luma columns to a column
abbrev pub chroma_seen : ℕ → Lent → ℕ → ℕ → List (List ℕ) × List (List ℕ) → ℕ → ℕ → ℕ
chroma_seen limit l step y v old x =
    cond (masked (mask_at l.skip y) (x / side)) old
    (chroma_sample limit (view_around 2 v.0 (row_origin + x)) (view_around 2 v.1 (row_origin + x * step)) step (coefficients l.filters))

-- over the rings' flat rows it is the cell that the code writes
cell-seen : (limit : ℕ) (l : Lent) (step y : ℕ) (c m : Ring) (classes : List ℕ) (old x : ℕ) → length c.slots ≡ luma_rows_at → length c.idx ≡ 5 → ((j : ℕ) → get_or c.idx j 0 ≤ 4) → x < width_limit → step ≤ 2 →
    cell_of limit Chroma (c.slots ++ m.slots) (c.idx ++ m.idx) step l.filters classes (mask_at l.skip y) old x ≡
    chroma_seen limit l step y (tab 5 (window row_bytes c), tab 5 (window luma_row_bytes m)) old x
unfolding cell_of chroma_unmasked
cell-seen limit l step y c m classes old x rows indices low hx hs =
    ap (cond (masked (mask_at l.skip y) (x / side)) old)
    (chroma_agree limit step (chroma_flat (c.slots ++ m.slots) (c.idx ++ m.idx) (row_origin + x)) (view_around 2 (tab 5 (window row_bytes c)) (row_origin + x))
    (chroma_luma_flat (c.slots ++ m.slots) (c.idx ++ m.idx) (row_origin + x * step)) (view_around 2 (tab 5 (window luma_row_bytes m)) (row_origin + x * step))
    (coefficients l.filters) (coefficients l.filters)
    (λ dy dx ny nx.
    let r = place_high 2 dy 2 ny in
    let k = place_high (row_origin + x) dx 2 nx in
    flat-front c m rows indices (row_origin + x) dy dx low (omega arith) (omega arith) ∙
    flat_view 0 row_bytes 2 5 (row_origin + x) c.slots c.idx dy dx (omega arith) (omega arith))
    (λ dy dx ny nx. of_luma dy (pos step *ℤ dx) ny (rw (abs_mul (pos step) dx) (omega (arith, mul-le-mul hs nx))))
    (of_luma (pos 0) (pos 0) (omega arith) (omega arith))
    (λ k h. refl))
  where
    of_luma : (dy d : ℤ) → nat_abs dy ≤ 2 → nat_abs d ≤ 4 →
        chroma_luma_flat (c.slots ++ m.slots) (c.idx ++ m.idx) (row_origin + x * step) dy d ≡ view_around 2 (tab 5 (window luma_row_bytes m)) (row_origin + x * step) dy d
    of_luma dy d ny nd =
        let r = place_high 2 dy 2 ny in
        let k = place_high (row_origin + x * step) d 4 nd in
        let w : x * step ≤ width_limit * 2 = mul-le-mul (before x hx) hs in
        flat-behind c m rows indices (row_origin + x * step) dy d ny ∙
        flat_view 0 luma_row_bytes 2 5 (row_origin + x * step) m.slots m.idx dy d (omega arith) (omega arith)
      where
        before : (x : ℕ) → x < width_limit → x ≤ width_limit
        before x h = omega arith

zero_low : (j : ℕ) → get_or (0 ∷ []) j 0 ≤ 4
zero_low zero = zero-le
zero_low (suc j) = zero-le

-- A CHROMA UNIT THAT WAS OPENED
module _ (n : Given) (l : Lent) (p₀ : List ℕ) (f : open_status Chroma n l p₀ ≡ 0) where
  abbrev pub G : Given
  G = n

  pub good : Fine Chroma G (sizes_of Chroma l p₀)
  good = fine Chroma G (sizes_of Chroma l p₀) f

  pub tall : 1 ≤ G.h
  tall = omega (arith, good.tall.low)

  two-tall : 2 ≤ G.h
  two-tall = omega (arith, good.tall.low)

  pub own_rule : Rule row_bytes 4 4 G.h slot (src Chroma G) (own Chroma G) (pad_row Chroma G l p₀)
  own_rule = ring_rule Chroma G l p₀ tall 4 slot (omega arith) (λ a. omega arith) (λ a b h k. omega arith) (λ a. slots_wrap 5 a (omega arith))

  pub apart₂ : 2 ≤ G.stride
  apart₂ = omega (arith, good.apart, good.wide.low)

  -- the two rings
  abbrev pub rings : Memory (Ring × Ring) (List (List ℕ) × List (List ℕ)) G.h (λ k. G.off + k * G.stride) p₀
  rings =
      both
      (ring row_bytes 4 4 slot (src Chroma G) (own Chroma G) (pad_row Chroma G l) own_rule
      (λ k p hk e o. pad_same Chroma G l p p₀ k apart₂ e (k + 4) (omega arith) hk))
      (ring luma_row_bytes 4 4 slot (src Chroma G) (own Chroma G) (λ p. luma_pad_row G l) (luma_rule G l tall p₀ 4 slot own_rule) (λ k p hk e o. refl))

  -- .. of which the first fills its part of the state's arrays
  pub record At (k : ℕ) (m : Ring × Ring) : Type 0 where
    pub first : RingAt row_bytes 4 4 G.h slot (src Chroma G) (own Chroma G) (pad_row Chroma G l p₀) k m.0
    pub second : RingAt luma_row_bytes 4 4 G.h slot (src Chroma G) (own Chroma G) (luma_pad_row G l) k m.1
    pub rows : length m.0.slots ≡ luma_rows_at
    pub indices : length m.0.idx ≡ 5

  pub sizes : (k : ℕ) (p : List ℕ) (m : Ring × Ring) → At k m → (length (rings.take k p m).0.slots ≡ luma_rows_at) × (length (rings.take k p m).0.idx ≡ 5)
  sizes k p m a =
      let z = fetch_sizes row_bytes 4 (own Chroma G (k + 4)) (pad_row Chroma G l p (k + 4)) m.0 in
      (z.0 ∙ a.rows, z.1 ∙ a.indices)

  next_low : (k : ℕ) (m : Ring × Ring) → At k m → m.0.next ≤ 4
  next_low k m a = rw a.first.next (omega arith)

  indices_low : (k : ℕ) (p : List ℕ) (m : Ring × Ring) → At k m → (j : ℕ) → get_or (rings.take k p m).0.idx j 0 ≤ 4
  indices_low k p m a = fetch-low row_bytes 4 (own Chroma G (k + 4)) (pad_row Chroma G l p (k + 4)) m.0 4 (next_low k m a) a.first.holds.bounded

  abbrev pub mem : Memory (Ring × Ring) (List (List ℕ) × List (List ℕ)) G.h (λ k. G.off + k * G.stride) p₀
  mem =
      record {
        take = rings.take;
        seen = rings.seen;
        slide = rings.slide;
        At = At;
        view = rings.view;
        sees = λ k p m hk e a. rings.sees k p m hk e (a.first, a.second);
        goes = λ k p m hk e a.
            let g = rings.goes k p m hk e (a.first, a.second) in
            record {
              first = g.0;
              second = g.1;
              rows = (sizes k p m a).0;
              indices = slid_length 4 (rings.take k p m).0.idx ∙ (sizes k p m a).1;
            };
        steady = λ k p m hk e a. rings.steady k p m hk e (a.first, a.second);
      }

  abbrev pub there : ℕ → Ring × Ring → State
  there k m =
      record {
        op = number_of Chroma;
        given = n;
        done = k;
        next = m.0.next;
        classes = replicate block_column_limit 0;
        indices = m.0.idx ++ m.1.idx;
        rows = m.0.slots ++ m.1.slots;
      }

  -- the code's rings are the memory's
  took-is : (k : ℕ) (m : Ring × Ring) (p : List ℕ) → At k m → rows_now Chroma l (there k m) p ≡ joined (mem.take k p m).0 (mem.take k p m).1
  took-is k m p a = both-took G l p k m.0 m.1 a.rows a.indices (next_low k m a) (a.first.next ∙ sym a.second.next)

  moved_is : (k : ℕ) (m : Ring × Ring) (p : List ℕ) → At k m →
      slid_by Chroma (joined (mem.take k p m).0 (mem.take k p m).1).idx ≡ (mem.slide (mem.take k p m)).0.idx ++ (mem.slide (mem.take k p m)).1.idx
  moved_is k m p a = both_moved (mem.take k p m).0 (mem.take k p m).1 (sizes k p m a).1

  -- the checks let a state pass that was reached
  admits : (c k : ℕ) (m : Ring × Ring) (p : List ℕ) → At k m → k ≤ n.h → length p ≡ length p₀ → status_of (call_of Chroma c l) (there k m) p ≡ 0
  admits c k m p a h e =
      passed Chroma c (there k m) l p refl h (append_low m.0.idx m.1.idx 4 a.first.holds.bounded a.second.holds.bounded) (next_low k m a) refl (rw e f)

  -- the definition's sample is the one over the padded rows at the opening
  final-seen : (y x : ℕ) → x < n.w →
      final_sample G l p₀ Chroma y x ≡
      chroma_seen limit8 l (step G l) y (tab 5 (λ j. pad_row Chroma G l p₀ (y + j)), tab 5 (λ j. luma_pad_row G l (y + j))) (get_or p₀ (n.off + y * n.stride + x) 0) x
  unfolding final_sample
  final-seen y x h =
      ap (cond (masked (mask_at l.skip y) (x / side)) (get_or p₀ (n.off + y * n.stride + x) 0))
      (sym
      (chroma_agree limit8 (step G l) (view_around 2 (tab 5 (λ j. pad_row Chroma G l p₀ (y + j))) (row_origin + x)) (around Chroma G l p₀ y x)
      (view_around 2 (tab 5 (λ j. luma_pad_row G l (y + j))) (row_origin + x * step G l)) (luma_around G l y x)
      (coefficients l.filters) (set_of Chroma l.filters 0)
      (pad_view Chroma G l p₀ good.wide.high (omega arith) y x h)
      (luma_view G l good.wide.high good.pair y x h) (luma-centre G l good.wide.high good.pair y x h)
      (λ k m. let z : k ≡ 18 * 0 + k = omega arith in ap (λ (i : ℕ). get_or l.filters i (pos 0)) z)))

  opens-own : RingAt row_bytes 4 4 G.h slot (src Chroma G) (own Chroma G) (pad_row Chroma G l p₀) 0 (open_own n l p₀)
  opens-own =
      opens Chroma G l p₀ (replicate luma_rows_at 0) (0 ∷ []) two-tall tall 4 slot (omega arith) (λ j h. omega arith)
      (rw (length-replicate {A = ℕ} luma_rows_at 0) (omega arith)) (omega arith) zero_low

  opens-luma : RingAt luma_row_bytes 4 4 G.h slot (src Chroma G) (own Chroma G) (luma_pad_row G l) 0 (open_luma n l)
  opens-luma =
      opened-ring luma_row_bytes (first_row Chroma G) (luma_pad_row G l) (replicate (5 * luma_row_bytes) 0) (luma-size G l) 4 4 G.h slot (src Chroma G) (own Chroma G) (0 ∷ [])
      (omega arith) (λ j h. omega arith) (rw (length-replicate {A = ℕ} (5 * luma_row_bytes) 0) (omega arith)) (omega arith) zero_low (omega arith)
      (src_starts Chroma G l p₀ (replicate (5 * luma_row_bytes) 0) (0 ∷ []) two-tall tall) (luma-first G l tall)

  open_sizes : (length (open_own n l p₀).slots ≡ luma_rows_at) × (length (open_own n l p₀).idx ≡ 5)
  unfolding open_ring filled
  open_sizes =
      (filled-size row_bytes (first_row Chroma G) (pad_row Chroma G l p₀) (replicate luma_rows_at 0) (pad_size Chroma G l p₀) 4 ∙ length-replicate {A = ℕ} luma_rows_at 0, refl)

  pub shown : Shown units (frame_of Chroma n l p₀) mem (λ a. chroma_seen limit8 l (step G l)) there (Tidy Chroma)
  unfolding open_state state_of plane_of
  shown =
      record {
        apart = omega (arith, good.apart);
        room = row_room Chroma G (sizes_of Chroma l p₀) good;
        first = (open_own n l p₀, open_luma n l);
        opens = refl;
        holds = record { first = opens-own; second = opens-luma; rows = open_sizes.0; indices = open_sizes.1 };
        rows = λ k m. refl;
        height = λ k m. refl;
        complete = λ k m. refl;
        count = λ a c. refl;
        any = tt;
        tidy_first = tidy_open Chroma n l p₀;
        tidy_step = λ t a c s y. tidy_step Chroma l n s p₀ t y;
        backs = λ t k m at h y. comes-back Chroma (there k m) l p₀ refl h t y;
        admits = λ a c k m p ok at h like. admits c k m p at h like.size;
        pieces = λ a c k j m. refl;
        final = λ a y x hy hx. final-seen y x hx;
        steps = λ a c k m p hk at.
            (λ i.
            record {
              state =
                  state_at (number_of Chroma) n (k + 1) (replicate block_column_limit 0)
                  (record { slots = (took-is k m p at i).slots; idx = slid_by Chroma (took-is k m p at i).idx; next = (took-is k m p at i).next });
              plane =
                  sets p (n.off + k * n.stride)
                  (tab n.w
                  (λ x.
                  cell_of limit8 Chroma (took-is k m p at i).slots (took-is k m p at i).idx (step G l) l.filters (replicate block_column_limit 0) (mask_at l.skip k)
                  (get_or p (n.off + k * n.stride + x) 0) x));
            }) ∙
            (λ i.
            record {
              state =
                  state_at (number_of Chroma) n (k + 1) (replicate block_column_limit 0)
                  (record { slots = (mem.take k p m).0.slots ++ (mem.take k p m).1.slots; idx = moved_is k m p at i; next = (mem.take k p m).0.next });
              plane =
                  sets p (n.off + k * n.stride)
                  (tab_cong n.w _ _
                  (λ x hx.
                  cell-seen limit8 l (step G l) k (mem.take k p m).0 (mem.take k p m).1 (replicate block_column_limit 0) (get_or p (n.off + k * n.stride + x) 0) x
                  (sizes k p m at).0 (sizes k p m at).1 (indices_low k p m at) (omega (arith, good.wide.high)) (step-two G l good.wide.high good.pair))
                  i);
            });
      }

  -- DEMAND 3
  pub chroma_history : Histories Chroma n l p₀
  unfolding answer
  chroma_history = theorem units (frame_of Chroma n l p₀) mem (λ a. chroma_seen limit8 l (step G l)) there (Tidy Chroma) shown
