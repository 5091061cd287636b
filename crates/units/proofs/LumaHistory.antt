-- DEMAND 3 FOR LUMA UNITS: what the shared theorem asks of them, and so what holds after any list of advances and overwritings.
use mathlib.Core.Path.{◌≡◌, refl, sym, ap}
use mathlib.Core.Bool.{cond}
use mathlib.Core.List.{List, [], ◌∷◌}
use Prim.Native.Nat.{ℕ, zero, suc, ◌+◌, ◌*◌, ◌/◌, ◌%◌, ◌≤◌, ◌<◌, zero-le}
use native.Mathlib.Omega.{arith}
use lib.IntN.{pos}
use lib.ListN.{length, get_or, replicate, length-replicate}
use lib.Seq.{sets}
use Rattle.definition.specs.declared.Operation.TheVariants.{Luma}
use Rattle.definition.specs.declared.Given.{Given}
use Rattle.definition.specs.Limits.{width_limit, block_column_limit}
use Rattle.definition.specs.Rows.{tab, state_bytes, row_bytes, row_origin, luma_flat}
use Rattle.definition.specs.Blocks.{side, mask_at, masked}
use Rattle.definition.specs.Sample.{limit8, luma_sample}
use Rattle.definition.specs.Units.{number_of, Lent, step, final_sample, around, set_of}
use Rattle.definition.specs.Refusals.{sizes_of, open_status}
use Rattle.definition.specs.Leaves.{coefficients}
use Rattle.laws.proofs.Lists.{tab_cong}
use Rattle.history.proofs.Ring.{Ring, shift, window, slots_wrap}
use Rattle.history.proofs.Memory.{Memory, ring}
use Rattle.history.proofs.Theorem.{Shown, theorem}
use Rattle.model.proofs.Rows.{pad_row, own, src, pad_same, ring_rule}
use Rattle.model.proofs.Opening.{open_ring, opens}
use Rattle.model.proofs.Fine.{Fine, fine, row_room}
use Rattle.laws.proofs.Agree.{luma-agree}
use Rattle.model.proofs.Views.{view_around, flat_view, pad_view, place_high}
use Rattle.units.specs.declared.State.{State}
use Rattle.units.specs.Openings.{open_state}
use Rattle.units.proofs.Tidy.{Tidy, tidy_open, tidy_step}
use Rattle.units.proofs.RoundTrip.{comes-back}
use Rattle.units.proofs.Frames.{frame_of}
use Rattle.units.specs.Histories.{Histories}
use Rattle.model.proofs.Cells.{cell_of, luma_unmasked}
use Rattle.units.specs.Step.{state_of, plane_of}
use Rattle.units.specs.Advances.{answer, units, status_of}
use Rattle.definition.specs.Calls.{call_of}
use Rattle.units.proofs.Admissions.{passed}

-- the slot of row R of nine
abbrev pub slot : ℕ → ℕ
slot R = R % 9

-- sample x of row y, from the list of the rows that the filter sees
unfoldable pub luma_seen : ℕ → Lent → ℕ → List (List ℕ) → ℕ → ℕ → ℕ
luma_seen limit l y rows old x =
    cond (masked (mask_at l.skip y) (x / side)) old (luma_sample limit (view_around 4 rows (row_origin + x)) (coefficients l.filters))

-- over a ring's flat rows it is the cell that the code writes
cell-seen : (limit : ℕ) (l : Lent) (step y : ℕ) (g : Ring) (classes : List ℕ) (old x : ℕ) → x < width_limit →
    cell_of limit Luma g.slots g.idx step l.filters classes (mask_at l.skip y) old x ≡ luma_seen limit l y (tab 9 (window row_bytes g)) old x
unfolding cell_of luma_unmasked luma_seen
cell-seen limit l step y g classes old x h =
    ap (cond (masked (mask_at l.skip y) (x / side)) old)
    (luma-agree limit (luma_flat g.slots g.idx (row_origin + x)) (view_around 4 (tab 9 (window row_bytes g)) (row_origin + x)) (coefficients l.filters) (coefficients l.filters)
    (λ dy dx ny nx.
    let r = place_high 4 dy 4 ny in
    let c = place_high (row_origin + x) dx 4 nx in
    flat_view 0 row_bytes 4 9 (row_origin + x) g.slots g.idx dy dx (omega arith) (omega arith))
    (λ k m. refl))

pub zeros-low : (j : ℕ) → get_or (0 ∷ 0 ∷ []) j 0 ≤ 9
zeros-low zero = zero-le
zeros-low (suc zero) = zero-le
zeros-low (suc (suc j)) = zero-le

module _ (n : Given) (l : Lent) (p₀ : List ℕ) (f : open_status Luma n l p₀ ≡ 0) where
  pub good : Fine Luma n (sizes_of Luma l p₀)
  good = fine Luma n (sizes_of Luma l p₀) f

  abbrev pub rows : Memory Ring (List (List ℕ)) n.h (λ k. n.off + k * n.stride) p₀
  rows =
      ring row_bytes 8 9 slot (src Luma n) (own Luma n) (pad_row Luma n l)
      (ring_rule Luma n l p₀ (omega (arith, good.tall.low)) 9 slot (omega arith) (λ a. omega arith) (λ a b h k. omega arith) (λ a. slots_wrap 9 a (omega arith)))
      (λ k p hk e o. pad_same Luma n l p p₀ k (omega (arith, good.apart, good.wide.low)) e (k + 8) (omega arith) hk)

  abbrev pub there : ℕ → Ring → State
  there k m = record { op = number_of Luma; given = n; done = k; next = m.next; classes = replicate block_column_limit 0; indices = m.idx; rows = m.slots }

  -- the checks let a state pass that was reached
  admits : (c k : ℕ) (m : Ring) (p : List ℕ) → rows.At k m → k ≤ n.h → length p ≡ length p₀ → status_of (call_of Luma c l) (there k m) p ≡ 0
  admits c k m p a h e = passed Luma c (there k m) l p refl h a.holds.bounded (rw a.next (omega arith)) refl (rw e f)

  -- the definition's sample is the one over the padded rows at the opening
  final-seen : (y x : ℕ) → x < n.w →
      final_sample n l p₀ Luma y x ≡ luma_seen limit8 l y (tab 9 (λ j. pad_row Luma n l p₀ (y + j))) (get_or p₀ (n.off + y * n.stride + x) 0) x
  unfolding final_sample luma_seen
  final-seen y x h =
      ap (cond (masked (mask_at l.skip y) (x / side)) (get_or p₀ (n.off + y * n.stride + x) 0))
      (sym
      (luma-agree limit8 (view_around 4 (tab 9 (λ j. pad_row Luma n l p₀ (y + j))) (row_origin + x)) (around Luma n l p₀ y x) (coefficients l.filters) (set_of Luma l.filters 0)
      (pad_view Luma n l p₀ good.wide.high (omega arith) y x h)
      (λ k m. let z : k ≡ 16 * 0 + k = omega arith in ap (λ (i : ℕ). get_or l.filters i (pos 0)) z)))

  pub luma_shown : Shown units (frame_of Luma n l p₀) rows (λ a. luma_seen limit8 l) there (Tidy Luma)
  unfolding open_state open_ring state_of plane_of
  luma_shown =
      record {
        apart = omega (arith, good.apart);
        room = row_room Luma n (sizes_of Luma l p₀) good;
        first = open_ring Luma n l p₀ (replicate state_bytes 0) (0 ∷ 0 ∷ []);
        opens = refl;
        holds =
            opens Luma n l p₀ (replicate state_bytes 0) (0 ∷ 0 ∷ []) good.tall.low (omega (arith, good.tall.low)) 9 slot (omega arith)
            (λ j h. omega arith) (rw (length-replicate {A = ℕ} state_bytes 0) (omega arith)) (omega arith) zeros-low;
        rows = λ k m. refl;
        height = λ k m. refl;
        complete = λ k m. refl;
        count = λ a c. refl;
        any = tt;
        tidy_first = tidy_open Luma n l p₀;
        tidy_step = λ t a c s y. tidy_step Luma l n s p₀ t y;
        backs = λ t k m at h y. comes-back Luma (there k m) l p₀ refl h t y;
        admits = λ a c k m p ok at h like. admits c k m p at h like.size;
        pieces = λ a c k j m. refl;
        final = λ a y x hy hx. final-seen y x hx;
        steps = λ a c k m p hk at.
            λ i.
            record {
              state = there (k + 1) (shift 8 (rows.take k p m));
              plane =
                  sets p (n.off + k * n.stride)
                  (tab_cong n.w _ _
                  (λ x hx. cell-seen limit8 l (step n l) k (rows.take k p m) (replicate block_column_limit 0) (get_or p (n.off + k * n.stride + x) 0) x (omega (arith, good.wide.high)))
                  i);
            };
      }

  -- DEMAND 3
  pub luma-history : Histories Luma n l p₀
  unfolding answer
  luma-history = theorem units (frame_of Luma n l p₀) rows (λ a. luma_seen limit8 l) there (Tidy Luma) luma_shown
