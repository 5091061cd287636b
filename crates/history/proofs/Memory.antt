-- What a unit remembers between rows: the laws that one row's step needs of it, and the ways to build such a memory.
--     Memory       a memory: what is taken in for row k, what the filter then sees, and what is kept for the row after
--     ring         a ring of padded rows
--     both         two memories side by side: chroma's two rings
--     one          with any memory and any filter of one sample, the step of one row is lawful: what `Steps` asks of an operation
--
use mathlib.Core.Path.{◌≡◌, refl, sym, ◌∙◌, ap, subst}
use mathlib.Core.Bool.{Bool, true}
use mathlib.Core.List.{List}
use Prim.Native.Nat.{ℕ, zero, suc, ◌+◌, ◌*◌, ◌≤◌, ◌<◌}
use native.Mathlib.Numerals.{add-one}
use native.Mathlib.Omega.{arith}
use lib.ListN.{length, get_or}
use lib.Seq.{sets}
use Rattle.definition.specs.Rows.{tab}
use Rattle.laws.proofs.Lists.{tab_cong}
use Rattle.history.proofs.Ring.{Ring, fetch, fetch-same, shift, window, Rule, RingAt, fetched, onward, window-held, rows_apart}
use Rattle.history.specs.History.{Opened, World}
use Rattle.history.proofs.Lawful.{Like}
use Rattle.history.proofs.Steps.{One, paint}

-- The plane p is p₀ from position a on.
abbrev pub From : ℕ → List ℕ → List ℕ → Type 0
From a p₀ p = (i : ℕ) → a ≤ i → get_or p i 0 ≡ get_or p₀ i 0

-- M is what is kept, U what the filter sees of it. `start k` is where row k starts: rows below k may hold anything.
pub record Memory (M U : Type 0) (h : ℕ) (start : ℕ → ℕ) (p₀ : List ℕ) : Type 1 where
  pub take : ℕ → List ℕ → M → M
  pub seen : ℕ → M → U
  pub slide : M → M
  pub At : ℕ → M → Type 0
  pub view : ℕ → U
  pub sees : (k : ℕ) (p : List ℕ) (m : M) → k < h → From (start k) p₀ p → At k m → seen k (take k p m) ≡ view k
  pub goes : (k : ℕ) (p : List ℕ) (m : M) → k < h → From (start k) p₀ p → At k m → At (k + 1) (slide (take k p m))
  pub steady : (k : ℕ) (p : List ℕ) (m : M) → k < h → From (start k) p₀ p → At k m → take k p m ≡ take k p₀ m

module _ {h : ℕ} {start : ℕ → ℕ} {p₀ : List ℕ} where
  -- a ring, whose newest row pad p (k + m) is read from row k's start on
  abbrev pub ring : (len m top : ℕ) (slot src : ℕ → ℕ) (own : ℕ → Bool) (pad : List ℕ → ℕ → List ℕ) → Rule len m top h slot src own (pad p₀) →
      ((k : ℕ) (p : List ℕ) → k < h → From (start k) p₀ p → own (k + m) ≡ true → pad p (k + m) ≡ pad p₀ (k + m)) → Memory Ring (List (List ℕ)) h start p₀
  ring len m top slot src own pad r same =
      record {
        take = λ k p g. fetch len m (own (k + m)) (pad p (k + m)) g;
        seen = λ k g. tab (m + 1) (window len g);
        slide = shift m;
        At = RingAt len m top h slot src own (pad p₀);
        view = λ k. tab (m + 1) (λ j. pad p₀ (k + j));
        sees = λ k p g hk e a.
            tab_cong (m + 1) _ _
            (window-held len m top h slot src own (pad p₀) r k (m + 1) _
            (fetched len m top h slot src own (pad p₀) r k g (own (k + m)) (pad p (k + m)) hk a refl (same k p hk e)));
        goes = λ k p g hk e a. onward len m top h slot src own (pad p₀) r k g (own (k + m)) (pad p (k + m)) hk a refl (same k p hk e);
        steady = λ k p g hk e a. fetch-same len m (own (k + m)) (pad p (k + m)) (pad p₀ (k + m)) g (same k p hk e);
      }

  -- two side by side
  abbrev pub both : {M N U W : Type 0} → Memory M U h start p₀ → Memory N W h start p₀ → Memory (M × N) (U × W) h start p₀
  both a b =
      record {
        take = λ k p m. (a.take k p m.0, b.take k p m.1);
        seen = λ k m. (a.seen k m.0, b.seen k m.1);
        slide = λ m. (a.slide m.0, b.slide m.1);
        At = λ k m. a.At k m.0 × b.At k m.1;
        view = λ k. (a.view k, b.view k);
        sees = λ k p m hk e s i. (a.sees k p m.0 hk e s.0 i, b.sees k p m.1 hk e s.1 i);
        goes = λ k p m hk e s. (a.goes k p m.0 hk e s.0, b.goes k p m.1 hk e s.1);
        steady = λ k p m hk e s i. (a.steady k p m.0 hk e s.0 i, b.steady k p m.1 hk e s.1 i);
      }

-- what is kept with k rows done, by the plane at the opening alone
abbrev pub kept_at : {M U : Type 0} {h : ℕ} {start : ℕ → ℕ} {p₀ : List ℕ} → Memory M U h start p₀ → M → ℕ → M
kept_at mem m zero = m
kept_at {p₀ = p₀} mem m (suc k) = mem.slide (mem.take k p₀ (kept_at mem m k))

-- the state s is the one in which k rows are done
pub record Reached {M U S : Type 0} {h : ℕ} {start : ℕ → ℕ} {p₀ : List ℕ} (mem : Memory M U h start p₀) (there : ℕ → M → S) (first : M) (k : ℕ) (s : S) : Type 0 where
  pub exact : s ≡ there k (kept_at mem first k)
  pub holds : mem.At k (kept_at mem first k)

-- AN OPERATION ON ROWS: a memory, a filter of one sample, and the state `there k m` in which k rows are done and m is kept.
module _ {S C A M U : Type 0} (u : Opened S C A) (a : A) (off stride : ℕ) (mem : Memory M U u.h (λ k. off + k * stride) u.plane)
    (cell : ℕ → U → ℕ → ℕ → ℕ) (there : ℕ → M → S) (first : M) (step : World S → World S) where
  pub record RowWise : Type 0 where
    pub at : (y x : ℕ) → u.at y x ≡ off + y * stride + x
    pub apart : u.w ≤ stride
    pub room : (k : ℕ) → k < u.h → off + k * stride + u.w ≤ length u.plane
    pub final : (y x : ℕ) → y < u.h → x < u.w → u.final a y x ≡ cell y (mem.view y) (get_or u.plane (off + y * stride + x) 0) x
    pub steps : (k : ℕ) (m : M) (p : List ℕ) → k < u.h → mem.At k m →
        step (record { state = there k m; plane = p }) ≡
        record {
          state = there (k + 1) (mem.slide (mem.take k p m));
          plane = sets p (off + k * stride) (tab u.w (λ x. cell k (mem.seen k (mem.take k p m)) (get_or p (off + k * stride + x) 0) x));
        }

  module _ (d : RowWise) where
    fresh : (k : ℕ) (p : List ℕ) → Like u k p → From (off + k * stride) u.plane p
    fresh k p l i h =
        l.other i
        (λ y x lo hi hx e.
        let e' : i ≡ off + y * stride + x = e ∙ d.at y x in
        omega (arith, rows_apart stride y k hi, d.apart))

    pub one : One u a (Reached mem there first) step
    one k x hk r l =
        let m : M = kept_at mem first k in
        let p : List ℕ = x.plane in
        let fr = fresh k p l in
        let q : kept_at mem first (k + 1) ≡ mem.slide (mem.take k p m) = rw (add-one k) (ap mem.slide (sym (mem.steady k p m hk fr r.holds))) in
        let e : step x ≡ _ = ap step (λ i. record { state = r.exact i; plane = p }) ∙ d.steps k m p hk r.holds in
        rw e
        (record {
          state =
              record {
                exact = ap (there (k + 1)) (sym q);
                holds = subst (λ (t : M). mem.At (k + 1) t) (sym q) (mem.goes k p m hk fr r.holds);
              };
          plane =
              paint u a off stride d.at k p (λ x. cell k (mem.seen k (mem.take k p m)) (get_or p (off + k * stride + x) 0) x)
              (rw l.size (d.room k hk))
              (λ x hx. rw (mem.sees k p m hk fr r.holds, fr (off + k * stride + x) (omega arith), d.final k x hk hx));
        })
