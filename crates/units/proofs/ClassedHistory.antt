-- DEMAND 3 FOR CLASSED UNITS, with user sets and with pretrained ones: a ring of rows beside the classes of the block row in progress, which are worked out at
-- its first row from rows of the plane at the opening, and kept for the others.
use mathlib.Core.Path.{◌≡◌, refl, sym, ◌∙◌, ap, subst}
use mathlib.Core.Bool.{Bool, true, false, cond, not, ◌||◌}
use mathlib.Core.List.{List, [], ◌∷◌}
use Prim.Native.Nat.{ℕ, zero, suc, ◌+◌, ◌*◌, ◌-◌, ◌/◌, ◌%◌, ◌≤◌, ◌<◌}
use native.Mathlib.Nat.{zero-add}
use native.Mathlib.Decide.{dec_lt}
use native.Mathlib.Omega.{arith}
use lib.Dec.{eqb, ltb}
use lib.IntN.{ℤ, pos, negsuc, nat_abs, ◌+ℤ◌, ◌-ℤ◌, +ℤ_assoc}
use lib.ListN.{length, get_or, set, replicate, length-replicate, get_or-replicate, length-set, length-append, get_or-eq_default}
use lib.Seq.{sets, length-sets, ext_get_or, get_or-set_same, get_or-set_other}
use borrow.Author.Tests.{lt-ltb, eqb-true, eqb-false, ltb-true, not-false}
use Rattle.definition.specs.declared.Operation.{Operation}
use Rattle.definition.specs.declared.Operation.TheVariants.{User, Pretrained}
use Rattle.definition.specs.declared.Given.{Given}
use Rattle.definition.specs.declared.Sizes.{Sizes}
use Rattle.definition.specs.Limits.{width_limit, block_column_limit, map_size}
use Rattle.definition.specs.Rows.{tab, row_bytes, row_origin, luma_flat, index_count, state_bytes}
use Rattle.definition.specs.Blocks.{side, masked, mask_at}
use Rattle.definition.specs.Units.{border, Lent, around, class_of, set_of, set_size, final_sample, number_of, classed}
use Rattle.laws.proofs.Lists.{tab_cong, length_tab, get_or-tab, sets_in, sets_behind}
use Rattle.history.proofs.Ring.{Ring, fetch, fetch-same, fetch_sizes, fetch-next, shift, window, wrap, slots_wrap, row_of, row_same, row_other, set_low, Rule, Holds, RingAt, fetched, shifted, window-held, slid_length}
use Rattle.history.proofs.Memory.{Memory, From}
use lib.Dec.{T}
use lib.Signed.{non_neg}
use Rattle.laws.proofs.Ints.{sub_pos, never}
use Rattle.model.proofs.Rows.{pad_row, own, src, pad_same, pad_size, ring_rule, first_row}
use Rattle.laws.proofs.Agree.{Agree, luma-agree, pretrained_agree}
use Rattle.model.proofs.Views.{view_around, flat_view, row_view, pad_view, place_high}
use Rattle.model.proofs.Classes.{Eight, class_same}
use Rattle.definition.specs.Refusals.{rows_size, sizes_of, every, bad_kept, index_limit, next_limit, open_status}
use Rattle.laws.proofs.Passes.{both, pass_all, not_both}
use Rattle.model.proofs.Fine.{Fine, fine, row_room}
use Rattle.model.proofs.Opening.{open_ring, opens, filled, filled-size, open_index, open_rings, open_ten}
use Rattle.units.proofs.Tidy.{Tidy, tidy_open, tidy_step}
use Rattle.units.proofs.RoundTrip.{comes-back}
use Rattle.units.proofs.Frames.{frame_of}
use Rattle.units.specs.Histories.{Histories}
use Rattle.definition.specs.Sample.{limit8, luma_sample, pretrained_sample}
use Rattle.history.proofs.Theorem.{Shown, theorem}
use Rattle.units.specs.declared.State.{State}
use Rattle.units.specs.Openings.{open_state}
use Rattle.units.proofs.LumaHistory.{slot, zeros-low}
use Rattle.model.proofs.Cells.{cell_of, luma_unmasked, pretrained_unmasked}
use Rattle.model.proofs.Step.{newest as nearest, begins, with_tenth, tenth_too, class_at, classes_at}
use Rattle.units.specs.Step.{state_at, step_of, state_of, plane_of}
use Rattle.units.specs.Advances.{answer, units, status_of}
use Rattle.definition.specs.Calls.{call_of}
use Rattle.units.proofs.Admissions.{passed}

-- the tenth row disturbs no row of the window
module _ (len top h : ℕ) (slot src : ℕ → ℕ) (own : ℕ → Bool) (pad : ℕ → List ℕ) (low : (a : ℕ) → slot a ≤ 8) (tops : 9 ≤ top) where
  tenth-holds : (k n : ℕ) (g : Ring) (row : List ℕ) → n ≤ 9 → length row ≡ len → Holds len 8 top h slot src own pad k n g →
      Holds len 8 top h slot src own pad k n (record { slots = sets g.slots (9 * len) row; idx = set g.idx 9 9; next = g.next })
  tenth-holds k n g row hn sz a =
      record {
        count = rw length-set a.count;
        room = rw length-sets a.room;
        bounded = set_low g.idx 9 9 top tops a.bounded;
        index = λ j hj. get_or-set_other g.idx 9 j 9 0 (omega arith) ∙ a.index j hj;
        held = λ j hj. row_other len 9 (slot (src (k + j))) g.slots row sz (λ e. let l = low (src (k + j)) in omega arith) ∙ a.held j hj;
      }

cond_ring : (P : Ring → Type 0) (b : Bool) (x y : Ring) → (b ≡ true → P x) → (b ≡ false → P y) → P (cond b x y)
cond_ring P true x y f g = f refl
cond_ring P false x y f g = g refl

cond_list : (P : List ℕ → Type 0) (b : Bool) (x y : List ℕ) → (b ≡ true → P x) → (b ≡ false → P y) → P (cond b x y)
cond_list P true x y f g = f refl
cond_list P false x y f g = g refl

-- what is stored at a place
stored_at : (c : List ℕ) (bw : ℕ) (f : ℕ → ℕ) (j : ℕ) → j < bw → j < length c → get_or (sets c 0 (tab bw f)) j 0 ≡ f j
stored_at c bw f j h k =
    ap (λ (i : ℕ). get_or (sets c 0 (tab bw f)) i 0) (sym (zero-add j)) ∙
    (sets_in (tab bw f) c 0 j (rw (length_tab bw f) h) (rw (zero-add j) k) ∙ get_or-tab bw f j h)

-- a list of classes that is 0 from bw on, with its first bw stored over, is the zeros with them stored
stored : (c : List ℕ) (bw : ℕ) (f : ℕ → ℕ) → length c ≡ block_column_limit → ((j : ℕ) → bw ≤ j → get_or c j 0 ≡ 0) → sets c 0 (tab bw f) ≡ sets (replicate block_column_limit 0) 0 (tab bw f)
stored c bw f e z =
    let zeros : List ℕ = replicate block_column_limit 0 in
    let lz : length zeros ≡ block_column_limit = length-replicate {A = ℕ} block_column_limit 0 in
    ext_get_or 0 (sets c 0 (tab bw f)) (sets zeros 0 (tab bw f))
    (rw (length-sets c 0 (tab bw f), length-sets zeros 0 (tab bw f), e, lz))
    (λ i h.
    let hi : i < block_column_limit = rw (length-sets c 0 (tab bw f), e) at h in
    elim (dec_lt i bw) [
      | yes lt ↦ stored_at c bw f i lt (rw e hi) ∙ sym (stored_at zeros bw f i lt (rw lz hi))
      | no ge ↦
          stored_past c i (omega arith) ∙ (z i (omega arith) ∙ sym (stored_past zeros i (omega arith) ∙ get_or-replicate block_column_limit i 0 0 hi))
    ])
  where
    stored_past : (d : List ℕ) (i : ℕ) → bw ≤ i → get_or (sets d 0 (tab bw f)) i 0 ≡ get_or d i 0
    stored_past d i h = sets_behind (tab bw f) d 0 i (rw (length_tab bw f, zero-add bw) h)

-- WHAT A CLASSED UNIT REMEMBERS
module _ (op : Operation) (four : border op ≡ 4) (G : Given) (l : Lent) (p₀ : List ℕ) (bw n : ℕ) where
  -- the classes of row y's block row, over the plane at the opening
  abbrev pub classes_then : ℕ → List ℕ
  classes_then y = sets (replicate block_column_limit 0) 0 (tab bw (λ bx. class_of op G l p₀ bx (y / side)))

  -- kept classes: one for each block column, those past the unit's width 0, each below the number of sets n
  pub record Kept (c : List ℕ) : Type 0 where
    pub size : length c ≡ block_column_limit
    pub rest : (j : ℕ) → bw ≤ j → get_or c j 0 ≡ 0
    pub low : (j : ℕ) → get_or c j 0 < n

-- stored over by numbers below n it stays below n
stored_low : (c : List ℕ) (bw : ℕ) (f : ℕ → ℕ) (n : ℕ) → ((j : ℕ) → get_or c j 0 < n) → ((j : ℕ) → f j < n) → (j : ℕ) → get_or (sets c 0 (tab bw f)) j 0 < n
stored_low c bw f n h k j =
    elim (dec_lt j bw) [
      | no ge ↦ rw (sets_behind (tab bw f) c 0 j (rw (length_tab bw f, zero-add bw) (omega arith))) (h j)
      | yes lt ↦
          elim (dec_lt j (length c)) [
            | yes l ↦ rw (stored_at c bw f j lt l) (k j)
            | no g ↦
                let e : get_or (sets c 0 (tab bw f)) j 0 ≡ 0 = get_or-eq_default (sets c 0 (tab bw f)) 0 (rw (length-sets c 0 (tab bw f)) (omega arith)) in
                rw e (omega (arith, h j))
          ]
    ]

-- eight rows and columns from two before a block's first sample on, by the place that a tap of -2 .. 5 leads to
eight-place : (e a : ℕ) → 2 ≤ e → (T (non_neg (pos e +ℤ (pos a -ℤ pos 2)))) × (nat_abs (pos e +ℤ (pos a -ℤ pos 2)) ≡ e + a - 2)
eight-place e a h =
    let d : pos e +ℤ (pos a -ℤ pos 2) ≡ pos (e + a - 2) = sym (+ℤ_assoc (pos e) (pos a) (negsuc 1)) ∙ sub_pos (e + a) 2 (omega arith) in
    rw d (tt, refl)

-- WHAT A CLASSED UNIT REMEMBERS, of h rows that start `start k` into the plane
module _ (op : Operation) (four : border op ≡ 4) (G : Given) (l : Lent) (p₀ : List ℕ) (bw n : ℕ) (slot : ℕ → ℕ) (low : (a : ℕ) → slot a ≤ 8)
    (rule : Rule row_bytes 8 9 G.h slot (src op G) (own op G) (pad_row op G l p₀)) (wide : G.w ≤ width_limit) (blocks : bw * 4 ≤ G.w) (apart : border op ≤ G.stride)
    (few : (r : Ring) (y bx : ℕ) → class_at G l r y bx < n) (some : 0 < n) where
  abbrev pub start : ℕ → ℕ
  start k = G.off + k * G.stride

  abbrev pub newest : ℕ → List ℕ → Ring → Ring
  newest k p g = fetch row_bytes 8 (own op G (k + 8)) (pad_row op G l p (k + 8)) g

  abbrev pub ten : ℕ → List ℕ → Ring → Ring
  ten k p g = cond (begins k) (with_tenth (pad_row op G l p (k + 9)) (newest k p g)) (newest k p g)

  abbrev pub chosen : ℕ → Ring → List ℕ → List ℕ
  chosen k g c = cond (begins k) (sets c 0 (tab bw (class_at G l g k))) c

  pub record At (k : ℕ) (x : Ring × List ℕ) : Type 0 where
    pub ring : RingAt row_bytes 8 9 G.h slot (src op G) (own op G) (pad_row op G l p₀) k x.0
    pub classes : begins k ≡ false → x.1 ≡ classes_then op four G l p₀ bw n k
    pub kept : Kept op four G l p₀ bw n x.1
    pub slots : rows_size ≤ length x.0.slots
    pub indices : index_count ≤ length x.0.idx

  module _ (k : ℕ) (p : List ℕ) (x : Ring × List ℕ) (hk : k < G.h) (e : From (start k) p₀ p) (a : At k x) where
    pub same_row : (R : ℕ) → k + 4 ≤ R → pad_row op G l p R ≡ pad_row op G l p₀ R
    same_row R h = pad_same op G l p p₀ k apart e R (rw four h) hk

    nine : Holds row_bytes 8 9 G.h slot (src op G) (own op G) (pad_row op G l p₀) k 9 (newest k p x.0)
    nine =
        fetched row_bytes 8 9 G.h slot (src op G) (own op G) (pad_row op G l p₀) rule k x.0 (own op G (k + 8)) (pad_row op G l p (k + 8)) hk a.ring refl
        (λ o. same_row (k + 8) (omega arith))

    pub nine_still : Holds row_bytes 8 9 G.h slot (src op G) (own op G) (pad_row op G l p₀) k 9 (ten k p x.0)
    nine_still =
        cond_ring (Holds row_bytes 8 9 G.h slot (src op G) (own op G) (pad_row op G l p₀) k 9) (begins k) _ _
        (λ b. tenth-holds row_bytes 9 G.h slot (src op G) (own op G) (pad_row op G l p₀) low (omega arith) k 9 (newest k p x.0) (pad_row op G l p (k + 9)) (omega arith) (pad_size op G l p (k + 9)) nine)
        (λ b. nine)

    pub rows_seen : tab 9 (window row_bytes (ten k p x.0)) ≡ tab 9 (λ j. pad_row op G l p₀ (k + j))
    rows_seen = tab_cong 9 _ _ (window-held row_bytes 8 9 G.h slot (src op G) (own op G) (pad_row op G l p₀) rule k 9 (ten k p x.0) nine_still)

    pub sizes : (length (ten k p x.0).slots ≡ length x.0.slots) × (length (ten k p x.0).idx ≡ length x.0.idx)
    sizes =
        let z = fetch_sizes row_bytes 8 (own op G (k + 8)) (pad_row op G l p (k + 8)) x.0 in
        cond_ring (λ (r : Ring). (length r.slots ≡ length x.0.slots) × (length r.idx ≡ length x.0.idx)) (begins k) _ _
        (λ b. (length-sets (newest k p x.0).slots (9 * row_bytes) (pad_row op G l p (k + 9)) ∙ z.0, length-set (newest k p x.0).idx 9 9 ∙ z.1))
        (λ b. z)

    pub next-is : (ten k p x.0).next ≡ wrap 9 x.0.next
    next-is =
        cond_ring (λ (r : Ring). r.next ≡ wrap 9 x.0.next) (begins k) _ _
        (λ b. fetch-next row_bytes 8 (own op G (k + 8)) (pad_row op G l p (k + 8)) x.0) (λ b. fetch-next row_bytes 8 (own op G (k + 8)) (pad_row op G l p (k + 8)) x.0)

    -- AT THE START OF A BLOCK ROW the ten rows around it are there, and give the definition's classes
    module _ (b : begins k ≡ true) where
      tenth : window row_bytes (with_tenth (pad_row op G l p (k + 9)) (newest k p x.0)) 9 ≡ pad_row op G l p₀ (k + 9)
      tenth =
          let g : Ring = newest k p x.0 in
          let z = fetch_sizes row_bytes 8 (own op G (k + 8)) (pad_row op G l p (k + 8)) x.0 in
          let s9 : 9 * row_bytes + row_bytes ≤ length g.slots = rw z.0 (omega (arith, a.slots)) in
          let i9 : 9 < length g.idx = rw z.1 (omega (arith, a.indices)) in
          ap (row_of row_bytes (sets g.slots (9 * row_bytes) (pad_row op G l p (k + 9)))) (get_or-set_same g.idx 9 9 0 i9) ∙
          (row_same row_bytes 9 g.slots (pad_row op G l p (k + 9)) s9 (pad_size op G l p (k + 9)) ∙ same_row (k + 9) (omega arith))

      ten-rows : tab 10 (window row_bytes (ten k p x.0)) ≡ tab 10 (λ j. pad_row op G l p₀ (k + j))
      ten-rows =
          tab_cong 10 (window row_bytes (ten k p x.0)) (λ j. pad_row op G l p₀ (k + j))
          (λ j hj.
          elim (dec_lt j 9) [
            | yes lt ↦ window-held row_bytes 8 9 G.h slot (src op G) (own op G) (pad_row op G l p₀) rule k 9 (ten k p x.0) nine_still j lt
            | no ge ↦ let d : j ≡ 9 = omega arith in rw (d, b) tenth
          ])

      block_row : side * (k / side) ≡ k
      block_row = let d : k % side ≡ 0 = eqb-true (k % side) 0 b in omega arith

      eight : (bx : ℕ) → bx < bw → Eight (luma_flat (ten k p x.0).slots (ten k p x.0).idx (row_origin + side * bx)) (around op G l p₀ (side * (k / side)) (side * bx))
      eight bx hb i j hi hj =
          let dy = pos i -ℤ pos 2 in
          let dx = pos j -ℤ pos 2 in
          let y4 = eight-place 4 i (omega arith) in
          let yb = eight-place (border op) i (omega (arith, four)) in
          let xb = eight-place (border op) j (omega (arith, four)) in
          let xc = eight-place (row_origin + side * bx) j (omega arith) in
          flat_view 0 row_bytes 4 10 (row_origin + side * bx) (ten k p x.0).slots (ten k p x.0).idx dy dx (rw y4.1 (omega arith)) (rw xc.1 (omega arith)) ∙
          (ap (λ (v : List (List ℕ)). view_around 4 v (row_origin + side * bx) dy dx) ten-rows ∙
          (ap (λ (m : ℕ). view_around m (tab 10 (λ r. pad_row op G l p₀ (k + r))) (row_origin + side * bx) dy dx) (sym four) ∙
          (row_view op G l p₀ wide (omega (arith, four)) 10 k (side * bx) dy dx yb.0 (rw yb.1 (omega (arith, four))) xb.0 (rw xb.1 (omega (arith, four))) ∙
          ap (λ (m : ℕ). around op G l p₀ m (side * bx) dy dx) (sym block_row))))

      class_is : (bx : ℕ) → bx < bw → class_at G l (ten k p x.0) k bx ≡ class_of op G l p₀ bx (k / side)
      unfolding class_at class_of
      class_is bx hb =
          ap (λ (i : ℕ). get_or l.subclass (get_or l.map i 0) 0)
          (class_same (luma_flat (ten k p x.0).slots (ten k p x.0).idx (row_origin + side * bx)) (around op G l p₀ (side * (k / side)) (side * bx)) (eight bx hb) l.noskip l.q bx (k / side) (G.h / side))

      classes_new : sets x.1 0 (tab bw (class_at G l (ten k p x.0) k)) ≡ classes_then op four G l p₀ bw n k
      classes_new = stored x.1 bw (class_at G l (ten k p x.0) k) a.kept.size a.kept.rest ∙ ap (sets (replicate block_column_limit 0) 0) (tab_cong bw _ _ class_is)

    pub classes_seen : chosen k (ten k p x.0) x.1 ≡ classes_then op four G l p₀ bw n k
    classes_seen = cond_list (λ (c : List ℕ). c ≡ classes_then op four G l p₀ bw n k) (begins k) _ _ classes_new a.classes

    -- kept classes stay kept
    pub kept_still : Kept op four G l p₀ bw n (chosen k (ten k p x.0) x.1)
    kept_still =
        cond_list (Kept op four G l p₀ bw n) (begins k) _ _
        (λ b.
        record {
          size = length-sets x.1 0 (tab bw (class_at G l (ten k p x.0) k)) ∙ a.kept.size;
          rest = λ j h. sets_behind (tab bw (class_at G l (ten k p x.0) k)) x.1 0 j (rw (length_tab bw (class_at G l (ten k p x.0) k), zero-add bw) h) ∙ a.kept.rest j h;
          low = λ j. stored_low x.1 bw (class_at G l (ten k p x.0) k) n a.kept.low (λ i. few (ten k p x.0) k i) j;
        })
        (λ b. a.kept)

  -- the memory: the ring and the classes
  abbrev pub memory : Memory (Ring × List ℕ) (List (List ℕ) × List ℕ) G.h start p₀
  memory =
      record {
        take = λ k p x. (ten k p x.0, chosen k (ten k p x.0) x.1);
        seen = λ k x. (tab 9 (window row_bytes x.0), x.1);
        slide = λ x. (shift 8 x.0, x.1);
        At = At;
        view = λ k. (tab 9 (λ j. pad_row op G l p₀ (k + j)), classes_then op four G l p₀ bw n k);
        sees = λ k p x hk e a i. (rows_seen k p x hk e a i, classes_seen k p x hk e a i);
        goes = goes;
        steady = λ k p x hk e a i. (ten_steady k p x hk e a i, chosen k (ten_steady k p x hk e a i) x.1);
      }
    where
      goes : (k : ℕ) (p : List ℕ) (x : Ring × List ℕ) → k < G.h → From (start k) p₀ p → At k x → At (k + 1) (shift 8 (ten k p x.0), chosen k (ten k p x.0) x.1)
      goes k p x hk e a =
          record {
            ring =
                shifted row_bytes 8 9 G.h slot (src op G) (own op G) (pad_row op G l p₀) rule k (ten k p x.0) (nine_still k p x hk e a)
                (next-is k p x hk e a ∙ next-slot k x.0.next a.ring.next);
            classes = λ z. classes_seen k p x hk e a ∙ ap (λ (y : ℕ). sets (replicate block_column_limit 0) 0 (tab bw (λ bx. class_of op G l p₀ bx y))) (still k z);
            kept = kept_still k p x hk e a;
            slots = rw (sizes k p x hk e a).0 a.slots;
            indices = rw (slid_length 8 (ten k p x.0).idx, (sizes k p x hk e a).1) a.indices;
          }
        where
          next-slot : (k m : ℕ) → m ≡ slot (k + 8) → wrap 9 m ≡ slot (k + 1 + 8)
          next-slot k m h = let d : k + 1 + 8 ≡ k + 8 + 1 = omega arith in rw (h, d) (sym (rule.wraps (k + 8)))

          still : (k : ℕ) → begins (k + 1) ≡ false → k / side ≡ (k + 1) / side
          still k z = let d : (k + 1) % side ≡ 0 → ⊥ = eqb-false ((k + 1) % side) 0 z in omega arith

      ten_steady : (k : ℕ) (p : List ℕ) (x : Ring × List ℕ) → k < G.h → From (start k) p₀ p → At k x → ten k p x.0 ≡ ten k p₀ x.0
      ten_steady k p x hk e a =
          let f : newest k p x.0 ≡ newest k p₀ x.0 =
          fetch-same row_bytes 8 (own op G (k + 8)) (pad_row op G l p (k + 8)) (pad_row op G l p₀ (k + 8)) x.0 (λ o. same_row k p x hk e a (k + 8) (omega arith)) in
          λ i. cond (begins k) (with_tenth (same_row k p x hk e a (k + 9) (omega arith) i) (f i)) (f i)

-- entries that all pass a test: each is below n, also past the end where n is above 0
every-low : (n : ℕ) (xs : List ℕ) → 0 < n → every (λ c. ltb c n) xs ≡ true → (j : ℕ) → get_or xs j 0 < n
every-low n [] s e j = s
every-low n (x ∷ xs) s e zero = ltb-true x n (both (ltb x n) (every (λ c. ltb c n) xs) e).0
every-low n (x ∷ xs) s e (suc j) = every-low n xs s (both (ltb x n) (every (λ c. ltb c n) xs) e).1 j

-- a list that is not empty and whose entries are below n: n is above 0
some_below : (n : ℕ) (xs : List ℕ) → 0 < length xs → every (λ c. ltb c n) xs ≡ true → 0 < n
some_below n [] h e = absurd (omega arith)
some_below n (x ∷ xs) h e = let l : x < n = ltb-true x n (both (ltb x n) (every (λ c. ltb c n) xs) e).0 in omega arith

-- the rows and the classes that a row of a classed unit is restored from
abbrev took_classed : Operation → Lent → State → List ℕ → Ring
took_classed op l s p = tenth_too op s.given l p s.done (nearest op s.given l p s.done (record { slots = s.rows; idx = s.indices; next = s.next }))

abbrev chosen_by : Operation → Lent → State → List ℕ → List ℕ
chosen_by op l s p = classes_at s.given l s.done s.classes (took_classed op l s p)

-- A CLASSED UNIT THAT WAS OPENED, of either operation: `sample` is its filter of one sample, `cell` what the code writes
module _ (op : Operation) (four : border op ≡ 4) (ten₀ : (n : Given) (l : Lent) (p : List ℕ) → open_rings op n l p ≡ open_ten op n l p)
    (sample : (ℤ → ℤ → ℕ) → (ℕ → ℤ) → ℕ) (agree : (s t : ℤ → ℤ → ℕ) (c : ℕ → ℤ) → Agree 4 s t → sample s c ≡ sample t c)
    (cell : List ℕ → List ℕ → List ℤ → List ℕ → ℕ → ℕ → ℕ → ℕ)
    (cells : (slots idx : List ℕ) (filters : List ℤ) (classes : List ℕ) (mask old x : ℕ) → cell slots idx filters classes mask old x ≡
    cond (masked mask (x / side)) old (sample (luma_flat slots idx (row_origin + x)) (set_of op filters (get_or classes (x / side) 0))))
    (finals : (g : Given) (l : Lent) (p : List ℕ) (y x : ℕ) → final_sample g l p op y x ≡
    cond (masked (mask_at l.skip y) (x / side)) (get_or p (g.off + y * g.stride + x) 0)
    (sample (around op g l p y x) (set_of op l.filters (class_of op g l p (x / side) (y / side)))))
    (stepped : (l : Lent) (s : State) (p : List ℕ) → step_of op l (record { state = s; plane = p }) ≡
    record {
      state = state_at s.op s.given (s.done + 1) (chosen_by op l s p) (shift 8 (took_classed op l s p));
      plane = sets p (s.given.off + s.done * s.given.stride)
          (tab s.given.w
          (λ x. cell (took_classed op l s p).slots (took_classed op l s p).idx l.filters (chosen_by op l s p) (mask_at l.skip s.done) (get_or p (s.given.off + s.done * s.given.stride + x) 0) x));
    })
    (size+ : 0 < set_size op)
    (has : classed op ≡ true)
    (limits : (index_limit op ≡ 9) × (next_limit op ≡ 8)) (numbered : eqb (number_of op) 0 ≡ false) where
  -- sample x of row y, from the rows that the filter sees and the classes
  abbrev pub classed_seen : Lent → ℕ → List (List ℕ) × List ℕ → ℕ → ℕ → ℕ
  classed_seen l y v old x =
      cond (masked (mask_at l.skip y) (x / side)) old (sample (view_around 4 v.0 (row_origin + x)) (set_of op l.filters (get_or v.1 (x / side) 0)))

  cell-seen : (l : Lent) (y : ℕ) (g : Ring) (c : List ℕ) (old x : ℕ) → x < width_limit →
      cell g.slots g.idx l.filters c (mask_at l.skip y) old x ≡ classed_seen l y (tab 9 (window row_bytes g), c) old x
  cell-seen l y g c old x h =
      cells g.slots g.idx l.filters c (mask_at l.skip y) old x ∙
      ap (cond (masked (mask_at l.skip y) (x / side)) old)
      (agree (luma_flat g.slots g.idx (row_origin + x)) (view_around 4 (tab 9 (window row_bytes g)) (row_origin + x)) (set_of op l.filters (get_or c (x / side) 0))
      (λ dy dx ny nx.
      let r = place_high 4 dy 4 ny in
      let k = place_high (row_origin + x) dx 4 nx in
      flat_view 0 row_bytes 4 9 (row_origin + x) g.slots g.idx dy dx (omega arith) (omega arith)))

  module _ (n : Given) (l : Lent) (p₀ : List ℕ) (f : open_status op n l p₀ ≡ 0) where
    abbrev pub G : Given
    G = n

    pub good : Fine op G (sizes_of op l p₀)
    good = fine op G (sizes_of op l p₀) f

    abbrev pub sets' : ℕ
    sets' = length l.filters / set_size op

    -- the map leads to subclasses, and these to sets
    pub map_good : (length l.map ≡ map_size) × (every (λ m. ltb m (length l.subclass)) l.map ≡ true) × (every (λ c. ltb c sets') l.subclass ≡ true)
    map_good =
        let z : Sizes = sizes_of op l p₀ in
        let m = (not_both (not (eqb (z.filters % set_size op) 0)) z.bad_map (rw has at good.filters)).1 in
        let u = not_both (not (eqb (length l.map) map_size) || not (every (λ k. ltb k (length l.subclass)) l.map)) (not (every (λ c. ltb c sets') l.subclass)) m in
        let v = not_both (not (eqb (length l.map) map_size)) (not (every (λ k. ltb k (length l.subclass)) l.map)) u.0 in
        (eqb-true (length l.map) map_size (not-false (eqb (length l.map) map_size) v.0), not-false (every (λ k. ltb k (length l.subclass)) l.map) v.1, not-false (every (λ c. ltb c sets') l.subclass) u.1)

    pub some_set : 0 < sets'
    some_set = some_below sets' l.subclass (some_below (length l.subclass) l.map (rw map_good.0 (omega arith)) map_good.1) map_good.2

    pub few_classes : (r : Ring) (y bx : ℕ) → class_at G l r y bx < sets'
    unfolding class_at
    few_classes r y bx = every-low sets' l.subclass some_set map_good.2 _

    eights : border op + border op ≡ 8
    eights = omega (arith, four)

    tall : 1 ≤ G.h
    tall = omega (arith, good.tall.low)

    pub rule₈ : Rule row_bytes 8 9 G.h slot (src op G) (own op G) (pad_row op G l p₀)
    rule₈ =
        subst (λ (m : ℕ). Rule row_bytes m 9 G.h slot (src op G) (own op G) (pad_row op G l p₀)) eights
        (ring_rule op G l p₀ tall 9 slot (omega (arith, four)) (λ a. omega (arith, four)) (λ a b h k. omega (arith, four)) (λ a. rw eights (slots_wrap 9 a (omega arith))))

    pub low₈ : (a : ℕ) → slot a ≤ 8
    low₈ a = omega arith

    pub blocks₈ : G.w / side * 4 ≤ G.w
    blocks₈ = omega arith

    pub apart₈ : border op ≤ G.stride
    apart₈ = omega (arith, four, good.apart, good.wide.low)

    abbrev pub mem : Memory (Ring × List ℕ) (List (List ℕ) × List ℕ) G.h (λ k. G.off + k * G.stride) p₀
    mem = memory op four G l p₀ (G.w / side) sets' slot low₈ rule₈ good.wide.high blocks₈ apart₈ few_classes some_set

    abbrev pub there : ℕ → Ring × List ℕ → State
    there k m = record { op = number_of op; given = n; done = k; next = m.0.next; classes = m.1; indices = m.0.idx; rows = m.0.slots }

    -- the code's ring and classes are the memory's
    took-is : (k : ℕ) (m : Ring × List ℕ) (p : List ℕ) → nearest op G l p k m.0 ≡ fetch row_bytes 8 (own op G (k + 8)) (pad_row op G l p (k + 8)) m.0
    took-is k m p = λ i. fetch row_bytes (eights i) (own op G (k + eights i)) (pad_row op G l p (k + eights i)) m.0

    ten-is : (k : ℕ) (m : Ring × List ℕ) (p : List ℕ) → took_classed op l (there k m) p ≡ (mem.take k p m).0
    ten-is k m p = λ i. cond (begins k) (with_tenth (pad_row op G l p (k + 9)) (took-is k m p i)) (took-is k m p i)

    classes_are : (k : ℕ) (m : Ring × List ℕ) (p : List ℕ) → chosen_by op l (there k m) p ≡ (mem.take k p m).1
    classes_are k m p = λ i. cond (begins k) (sets m.1 0 (tab (G.w / side) (class_at G l (ten-is k m p i) k))) m.1

    admits : (c k : ℕ) (m : Ring × List ℕ) (p : List ℕ) → mem.At k m → k ≤ n.h → length p ≡ length p₀ → status_of (call_of op c l) (there k m) p ≡ 0
    admits c k m p a h e =
        let b : bad_kept op m.1 (length l.filters) ≡ false =
        rw has (ap not (pass_all (λ j. ltb j sets') m.1 block_column_limit (λ j hj. lt-ltb (get_or m.1 j 0) sets' (a.kept.low j)))) in
        passed op c (there k m) l p refl h (rw limits.0 a.ring.holds.bounded) (rw (limits.1, a.ring.next) (omega arith)) b (rw e f)

    final-seen : (y x : ℕ) → x < n.w →
        final_sample G l p₀ op y x ≡ classed_seen l y (tab 9 (λ j. pad_row op G l p₀ (y + j)), classes_then op four G l p₀ (G.w / side) sets' y) (get_or p₀ (n.off + y * n.stride + x) 0) x
    final-seen y x h =
        let cls : List ℕ = classes_then op four G l p₀ (G.w / side) sets' y in
        let hx : x / side < G.w / side = omega (arith, good.wide.fours) in
        let hw : x / side < block_column_limit = omega (arith, good.wide.high) in
        let zeros : List ℕ = replicate block_column_limit 0 in
        let size : length zeros ≡ block_column_limit = length-replicate {A = ℕ} block_column_limit 0 in
        let e : get_or cls (x / side) 0 ≡ class_of op G l p₀ (x / side) (y / side) = stored_at zeros (G.w / side) (λ bx. class_of op G l p₀ bx (y / side)) (x / side) hx (rw size hw) in
        finals G l p₀ y x ∙
        ap (cond (masked (mask_at l.skip y) (x / side)) (get_or p₀ (n.off + y * n.stride + x) 0))
        (sym
        (agree (view_around 4 (tab 9 (λ j. pad_row op G l p₀ (y + j))) (row_origin + x)) (around op G l p₀ y x) (set_of op l.filters (get_or cls (x / side) 0)) (nine_view y x h) ∙
        ap (λ (c : ℕ). sample (around op G l p₀ y x) (set_of op l.filters c)) e))
      where
        nine_view : (y x : ℕ) → x < n.w → Agree 4 (view_around 4 (tab 9 (λ j. pad_row op G l p₀ (y + j))) (row_origin + x)) (around op G l p₀ y x)
        nine_view y x h =
            subst (λ (m : ℕ). Agree m (view_around m (tab (m + m + 1) (λ j. pad_row op G l p₀ (y + j))) (row_origin + x)) (around op G l p₀ y x)) four
            (pad_view op G l p₀ good.wide.high (omega (arith, four)) y x h)

    opens₈ : RingAt row_bytes 8 9 G.h slot (src op G) (own op G) (pad_row op G l p₀) 0 (open_ten op n l p₀)
    opens₈ =
        subst (λ (m : ℕ). RingAt row_bytes m 9 G.h slot (src op G) (own op G) (pad_row op G l p₀) 0 (open_ten op n l p₀)) eights
        (opens op G l p₀ (replicate state_bytes 0) (0 ∷ 0 ∷ []) (omega (arith, four, good.tall.low)) tall 9 slot (omega (arith, four)) (λ j h. omega (arith, four))
        (rw (length-replicate {A = ℕ} state_bytes 0) (omega (arith, four))) (omega arith) zeros-low)

    open_sizes : (rows_size ≤ length (open_ten op n l p₀).slots) × (index_count ≤ length (open_ten op n l p₀).idx)
    unfolding open_ring filled
    open_sizes = (
      rw (filled-size row_bytes (first_row op G) (pad_row op G l p₀) (replicate state_bytes 0) (pad_size op G l p₀) (border op + border op), length-replicate {A = ℕ} state_bytes 0) (omega arith),
      rw (length-append (tab (border op + border op) (open_index op G)) (0 ∷ 0 ∷ []), length_tab (border op + border op) (open_index op G)) (omega (arith, four)),
    )

    zero_kept : Kept op four G l p₀ (G.w / side) sets' (replicate block_column_limit 0)
    zero_kept =
        record {
          size = length-replicate {A = ℕ} block_column_limit 0;
          rest = λ j h. all_zero j;
          low = λ j. rw (all_zero j) some_set;
        }
      where
        all_zero : (j : ℕ) → ◌≡◌ {A = ℕ} (get_or (replicate block_column_limit 0) j 0) 0
        all_zero j =
            let zs : List ℕ = replicate block_column_limit 0 in
            let size : length zs ≡ block_column_limit = length-replicate {A = ℕ} block_column_limit 0 in
            elim (dec_lt j block_column_limit) [
              | yes lt ↦ get_or-replicate block_column_limit j 0 0 lt
              | no ge ↦ let le : length zs ≤ j = rw size (omega arith) in get_or-eq_default zs 0 le
            ]

    pub shown : Shown units (frame_of op n l p₀) mem (λ a. classed_seen l) there (Tidy op)
    unfolding open_state
    shown =
        record {
          apart = omega (arith, good.apart);
          room = row_room op G (sizes_of op l p₀) good;
          first = (open_ten op n l p₀, replicate block_column_limit 0);
          opens = λ i. record { op = number_of op; given = n; done = 0; next = (ten₀ n l p₀ i).next; classes = replicate block_column_limit 0; indices = (ten₀ n l p₀ i).idx; rows = (ten₀ n l p₀ i).slots };
          holds =
              record {
                ring = opens₈;
                classes = λ z. absurd (never (sym z));
                kept = zero_kept;
                slots = open_sizes.0;
                indices = open_sizes.1;
              };
          rows = λ k m. refl;
          height = λ k m. refl;
          complete = λ k m. rw numbered;
          count = λ a c. refl;
          any = tt;
          tidy_first = tidy_open op n l p₀;
          tidy_step = λ t a c s y. tidy_step op l n s p₀ t y;
          backs = λ t k m at h y. comes-back op (there k m) l p₀ refl h t y;
          admits = λ a c k m p ok at h like. admits c k m p at h like.size;
          pieces = λ a c k j m. refl;
          final = λ a y x hy hx. final-seen y x hx;
          steps = λ a c k m p hk at.
              stepped l (there k m) p ∙
              (λ i.
              record {
                state = there (k + 1) (shift 8 (ten-is k m p i), classes_are k m p i);
                plane =
                    sets p (n.off + k * n.stride)
                    (tab n.w (λ x. cell (ten-is k m p i).slots (ten-is k m p i).idx l.filters (classes_are k m p i) (mask_at l.skip k) (get_or p (n.off + k * n.stride + x) 0) x));
              }) ∙
              (λ i.
              record {
                state = there (k + 1) (mem.slide (mem.take k p m));
                plane =
                    sets p (n.off + k * n.stride)
                    (tab_cong n.w _ _
                    (λ x hx. cell-seen l k (mem.take k p m).0 (mem.take k p m).1 (get_or p (n.off + k * n.stride + x) 0) x (omega (arith, good.wide.high)))
                    i);
              });
        }

    -- DEMAND 3
    pub classed-history : Histories op n l p₀
    unfolding answer
    classed-history = theorem units (frame_of op n l p₀) mem (λ a. classed_seen l) there (Tidy op) shown

-- THE TWO OPERATIONS
pub user_history : (n : Given) (l : Lent) (p₀ : List ℕ) → open_status User n l p₀ ≡ 0 → Histories User n l p₀
unfolding final_sample cell_of luma_unmasked state_of plane_of
user_history n l p₀ f =
    classed-history User refl (λ n l p. refl) (luma_sample limit8) (λ s t c a. luma-agree limit8 s t c c a (λ k h. refl)) (λ slots idx. cell_of limit8 User slots idx 0)
    (λ slots idx filters classes mask old x. refl) (λ g l p y x. refl) (λ l s p. refl) (omega arith) refl (refl, refl) refl n l p₀ f

pub pretrained_history : (n : Given) (l : Lent) (p₀ : List ℕ) → open_status Pretrained n l p₀ ≡ 0 → Histories Pretrained n l p₀
unfolding final_sample cell_of pretrained_unmasked state_of plane_of
pretrained_history n l p₀ f =
    classed-history Pretrained refl (λ n l p. refl) (pretrained_sample limit8) (λ s t c a. pretrained_agree limit8 s t c c a (λ k h. refl)) (λ slots idx. cell_of limit8 Pretrained slots idx 0)
    (λ slots idx filters classes mask old x. refl) (λ g l p y x. refl) (λ l s p. refl) (omega arith) refl (refl, refl) refl n l p₀ f
