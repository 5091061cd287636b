-- ONE THEOREM FOR EVERY OPERATION. It gives an advance over any state, a memory, and a filter of one sample.
use mathlib.Core.Path.{◌≡◌, refl, sym, ◌∙◌}
use mathlib.Core.Bool.{true}
use mathlib.Core.List.{List}
use Prim.Native.Nat.{ℕ, zero, suc, ◌+◌, ◌*◌, ◌≤◌, ◌<◌}
use native.Mathlib.Numerals.{add-one}
use native.Mathlib.Omega.{arith}
use lib.ListN.{length, get_or}
use lib.Dec.{eqb}
use lib.Seq.{sets}
use Rattle.definition.specs.Rows.{tab}
use Rattle.history.proofs.Lawful.{Like}
use Rattle.history.specs.History.{History, Valid, After}
use Rattle.history.proofs.Memory.{Memory, RowWise, Reached, kept_at, one}
use Rattle.history.specs.Advance.{Advancing}
use Rattle.history.proofs.Fits.{Frame, unit_of, Fits, any_history}

-- `Tidy` is what a state has to be for its text to say all of it.
module _ {S C A M U : Type 0} (o : Advancing S C) (f : Frame S C A) (mem : Memory M U f.h (λ k. f.off + k * f.stride) f.plane)
    (cell : A → ℕ → U → ℕ → ℕ → ℕ) (there : ℕ → M → S) (Tidy : S → Type 0) where
  pub record Shown : Type 0 where
    -- the rectangle lies in the plane, and its rows apart
    pub apart : f.w ≤ f.stride
    pub room : (k : ℕ) → k < f.h → f.off + k * f.stride + f.w ≤ length f.plane
    -- the state that the opening hands out
    pub first : M
    pub opens : f.first ≡ there 0 first
    pub holds : mem.At 0 first
    -- what an operation reads off a state that was reached
    pub rows : (k : ℕ) (m : M) → o.rows (there k m) ≡ k
    pub height : (k : ℕ) (m : M) → o.height (there k m) ≡ f.h
    pub complete : (k : ℕ) (m : M) → o.complete (there k m) ≡ eqb k f.h
    pub count : (a : A) (n : ℕ) → o.count (f.own a n) ≡ n
    pub admits : (a : A) (n k : ℕ) (m : M) (p : List ℕ) → f.ok a ≡ true → mem.At k m → k ≤ f.h → Like (unit_of o f) k p → o.status (f.own a n) (there k m) p ≡ 0
    pub pieces : (a : A) (n k j : ℕ) (m : M) → o.pieces (f.own a n) (there k m) j ≡ f.pieces a k j
    -- the definition of a sample, and the step of a row
    pub final : (a : A) (y x : ℕ) → y < f.h → x < f.w → f.final a y x ≡ cell a y (mem.view y) (get_or f.plane (f.off + y * f.stride + x) 0) x
    pub steps : (a : A) (n k : ℕ) (m : M) (p : List ℕ) → k < f.h → mem.At k m →
        o.step (f.own a n) (record { state = there k m; plane = p }) ≡
        record {
          state = there (k + 1) (mem.slide (mem.take k p m));
          plane = sets p (f.off + k * f.stride) (tab f.w (λ x. cell a k (mem.seen k (mem.take k p m)) (get_or p (f.off + k * f.stride + x) 0) x));
        }
    -- the state at the opening is tidy and stays so, and a tidy state is taken back as it was put away
    pub any : A
    pub tidy_first : f.in_fields → Tidy f.first
    pub tidy_step : f.in_fields → (a : A) (n : ℕ) (s : S) → Tidy s → Tidy (o.step (f.own a n) (record { state = s; plane = f.plane })).state
    pub backs : f.in_fields → (k : ℕ) (m : M) → mem.At k m → k ≤ f.h → Tidy (there k m) → f.back (there k m) ≡ there k m

  module _ (d : Shown) where
    row_wise : (a : A) (n : ℕ) → RowWise (unit_of o f) a f.off f.stride mem (cell a) there d.first (o.step (f.own a n))
    row_wise a n = record { at = λ y x. refl; apart = d.apart; room = d.room; final = d.final a; steps = d.steps a n }

    -- what is kept with k rows done
    abbrev kept : ℕ → M
    kept = kept_at mem d.first

    kept-holds : (k : ℕ) → k ≤ f.h → mem.At k (kept k)
    kept-holds zero h = d.holds
    kept-holds (suc k) h = rw (add-one k) at (mem.goes k f.plane (kept k) h (λ i _. refl) (kept-holds k (omega arith)))

    kept_tidy : f.in_fields → (k : ℕ) → k ≤ f.h → Tidy (there k (kept k))
    kept_tidy t zero h = rw d.opens at (d.tidy_first t)
    kept_tidy t (suc k) h =
        rw (d.steps d.any 0 k (kept k) f.plane h (kept-holds k (omega arith)), add-one k) at (d.tidy_step t d.any 0 (there k (kept k)) (kept_tidy t k (omega arith)))

    fits : Fits o f (Reached mem there d.first)
    fits =
        record {
          apart = d.apart;
          room = d.room;
          opens = record { exact = d.opens; holds = d.holds };
          only = λ k s t r r'. r.exact ∙ sym r'.exact;
          rows = λ k s r. rw r.exact (d.rows k (kept_at mem d.first k));
          height = λ k s r. rw r.exact (d.height k (kept_at mem d.first k));
          complete = λ k s r. rw r.exact (d.complete k (kept_at mem d.first k));
          count = d.count;
          admits = λ a n k s p ok r hk l. rw r.exact (d.admits a n k (kept_at mem d.first k) p ok r.holds hk l);
          pieces = λ a n k j s r. rw r.exact (d.pieces a n k j (kept_at mem d.first k));
          one = λ a n. one (unit_of o f) a f.off f.stride mem (cell a) there d.first (o.step (f.own a n)) (row_wise a n);
          backs = λ t k s r h. rw r.exact (d.backs t k (kept k) r.holds h (kept_tidy t k h));
        }

    -- DEMAND 3
    pub theorem : (H : History C A) → Valid (unit_of o f) H → After (unit_of o f) H
    theorem = any_history o f (Reached mem there d.first) fits
