-- The ring that an opening fills: rows 0 .. m - 1 of it, those that are padded anew each in the slot of its number, and indices that lead to them.
use mathlib.Core.Path.{◌≡◌, refl, sym, ◌∙◌}
use mathlib.Core.Bool.{Bool, true, false, cond}
use mathlib.Core.List.{List, [], ◌∷◌, ◌++◌}
use Prim.Native.Nat.{ℕ, zero, suc, ◌+◌, ◌*◌, ◌≤◌, ◌<◌, min, max}
use native.Mathlib.Nat.{zero-add, mul-le-mul_right, suc-mul}
use native.Mathlib.Decide.{dec_lt}
use native.Mathlib.Numerals.{add-one}
use native.Mathlib.Omega.{arith}
use lib.Dec.{leb}
use lib.ListN.{length, get_or, replicate, length-append, get_or-append}
use lib.Seq.{sets, length-sets}
use borrow.Author.Tests.{le-leb, lt-leb}
use Rattle.definition.specs.declared.Operation.{Operation}
use Rattle.definition.specs.declared.Operation.TheVariants.{Luma, User, Pretrained, Chroma}
use Rattle.definition.specs.declared.Given.{Given}
use Rattle.definition.specs.Rows.{tab, row_bytes, luma_row_bytes, luma_rows_at, state_bytes}
use Rattle.definition.specs.Units.{border, Lent}
use Rattle.laws.proofs.Lists.{length_tab, get_or-tab, tab-low}
use Rattle.history.proofs.Ring.{Ring, RingAt, row_of, row_same, row_other, append_low}
use Rattle.model.proofs.LumaRows.{luma_pad_row}
use Rattle.model.proofs.Step.{ring}
use Rattle.model.proofs.Rows.{pad_row, first_row, last_row, src, own, pad_size, first-low, border-some, first_again}

-- the first n rows of `len` bytes, those before the first that is padded anew left as they are
unfoldable pub filled_rows : ℕ → ℕ → (ℕ → List ℕ) → List ℕ → ℕ → List ℕ
filled_rows len first pad blank zero = blank
filled_rows len first pad blank (suc n) =
    cond (leb first n) (sets (filled_rows len first pad blank n) (n * len) (pad n)) (filled_rows len first pad blank n)

module _ (len first : ℕ) (pad : ℕ → List ℕ) (blank : List ℕ) where
  pub filled_none : (n : ℕ) → n ≤ first → filled_rows len first pad blank n ≡ blank
  unfolding filled_rows
  filled_none zero h = refl
  filled_none (suc n) h = rw (lt-leb first n (omega arith)) (filled_none n (omega arith))

  pub filled_more : (n : ℕ) → first ≤ n → filled_rows len first pad blank (n + 1) ≡ sets (filled_rows len first pad blank n) (n * len) (pad n)
  unfolding filled_rows
  filled_more n h = rw (add-one n, le-leb first n h)

-- m rows of them, and indices that lead to each row's own slot, or to that of the first row that is padded anew
abbrev pub opened_ring : ℕ → ℕ → ℕ → (ℕ → List ℕ) → List ℕ → List ℕ → Ring
opened_ring len m first pad blank rest =
    record { slots = filled_rows len first pad blank m; idx = tab m (λ j. max j first) ++ rest; next = m }

cond_size : (b : Bool) (x y : List ℕ) (n : ℕ) → length x ≡ n → length y ≡ n → length (cond b x y) ≡ n
cond_size true x y n h k = h
cond_size false x y n h k = k

module _ (len first : ℕ) (pad : ℕ → List ℕ) (blank : List ℕ) (sized : (R : ℕ) → length (pad R) ≡ len) where
  pub filled-size : (n : ℕ) → length (filled_rows len first pad blank n) ≡ length blank
  unfolding filled_rows
  filled-size zero = refl
  filled-size (suc n) =
      cond_size (leb first n) (sets (filled_rows len first pad blank n) (n * len) (pad n)) (filled_rows len first pad blank n) (length blank)
      (rw length-sets (filled-size n)) (filled-size n)

  filled_row : (n s : ℕ) → n * len ≤ length blank → first ≤ s → s < n → row_of len (filled_rows len first pad blank n) s ≡ pad s
  unfolding filled_rows
  filled_row zero s hn lo hi = absurd (omega arith)
  filled_row (suc n) s hn lo hi =
      rw (le-leb first n (omega arith))
      (elim (dec_lt s n) [
        | yes lt ↦ row_other len n s (filled_rows len first pad blank n) (pad n) (sized n) (omega arith) ∙ filled_row n s (omega (arith, suc-mul n len)) lo lt
        | no ge ↦
            let e : s ≡ n = omega arith in
            rw e (row_same len n (filled_rows len first pad blank n) (pad n) (omega (arith, filled-size n, suc-mul n len)) (sized n))
      ])

  -- such a ring holds the rows of row 0's window
  pub opened-ring : (m top h : ℕ) (slot src : ℕ → ℕ) (own : ℕ → Bool) (rest : List ℕ) → m ≤ top → ((j : ℕ) → j ≤ m → slot j ≡ j) → (m + 1) * len ≤ length blank →
      1 ≤ length rest → ((j : ℕ) → get_or rest j 0 ≤ top) → first < m → ((j : ℕ) → j < m → src (0 + j) ≡ max j first) → ((j : ℕ) → j < first → pad first ≡ pad j) →
      RingAt len m top h slot src own pad 0 (opened_ring len m first pad blank rest)
  opened-ring m top h slot src own rest tops low room more small some starts again =
      let at : (j : ℕ) → j < m → slot (src (0 + j)) ≡ max j first = λ j hj. rw (starts j hj) (low (max j first) (omega arith)) in
      let fits : m * len ≤ length blank = omega (arith, mul-le-mul_right len (before m)) in
      record {
        next = sym (low (0 + m) (omega arith) ∙ zero-add m);
        holds =
            record {
              count = rw (length-append (tab m (λ j. max j first)) rest, length_tab m (λ j. max j first)) (omega arith);
              room = rw (filled-size m) room;
              bounded = append_low (tab m (λ j. max j first)) rest top (tab-low m (λ j. max j first) top (λ i hi. omega arith)) small;
              index = λ j hj.
                  get_or-append (tab m (λ j. max j first)) rest 0 j (rw (length_tab m (λ j. max j first)) hj) ∙ (get_or-tab m (λ j. max j first) j hj ∙ sym (at j hj));
              held = λ j hj.
                  rw (at j hj)
                  (filled_row m (max j first) fits (omega arith) (omega arith) ∙
                  elim (dec_lt j first) [
                    | yes lt ↦ let e : max j first ≡ first = omega arith in rw (e, zero-add) (again j lt)
                    | no ge ↦ let e : max j first ≡ 0 + j = omega arith in rw e
                  ]);
            };
      }
    where
      before : (m : ℕ) → m ≤ m + 1
      before m = omega arith

-- A UNIT'S OWN ROWS
unfoldable pub filled : Operation → Given → Lent → List ℕ → List ℕ → ℕ → List ℕ
filled op g l p blank n = filled_rows row_bytes (first_row op g) (pad_row op g l p) blank n

abbrev pub open_index : Operation → Given → ℕ → ℕ
open_index op g j = max j (first_row op g)

unfoldable pub open_ring : Operation → Given → Lent → List ℕ → List ℕ → List ℕ → Ring
open_ring op g l p blank rest =
    record {
      slots = filled op g l p blank (border op + border op);
      idx = tab (border op + border op) (open_index op g) ++ rest;
      next = border op + border op;
    }

-- the first rows' sources, over bare numbers
pub src-first : (j f last : ℕ) → j ≤ last → f ≤ last → min (max (0 + j) f) last ≡ max j f
src-first j f last h k = omega arith

module _ (op : Operation) (g : Given) (l : Lent) (p blank rest : List ℕ) (tall : border op ≤ g.h) (some : 1 ≤ g.h) where
  pub src_starts : (j : ℕ) → j < border op + border op → src op g (0 + j) ≡ max j (first_row op g)
  src_starts j h = src-first j (first_row op g) (last_row op g) (omega (arith, border-some op)) (omega (arith, first-low op g, border-some op))

  pub opens : (top : ℕ) (slot : ℕ → ℕ) → border op + border op ≤ top → ((j : ℕ) → j ≤ border op + border op → slot j ≡ j) → (border op + border op + 1) * row_bytes ≤ length blank →
      1 ≤ length rest → ((j : ℕ) → get_or rest j 0 ≤ top) →
      RingAt row_bytes (border op + border op) top g.h slot (src op g) (own op g) (pad_row op g l p) 0 (open_ring op g l p blank rest)
  unfolding open_ring filled
  opens top slot tops low room more small =
      opened-ring row_bytes (first_row op g) (pad_row op g l p) blank (pad_size op g l p) (border op + border op) top g.h slot (src op g) (own op g) rest
      tops low room more small (omega (arith, first-low op g, border-some op)) src_starts (first_again op g l p some)

-- ALL ROWS AND INDICES of a state that was opened
-- the ring of a luma or classed unit: ten slots and ten indices; of a chroma unit five and five of each ring
abbrev pub open_ten : Operation → Given → Lent → List ℕ → Ring
open_ten op n l p = open_ring op n l p (replicate state_bytes 0) (0 ∷ 0 ∷ [])

abbrev pub open_own : Given → Lent → List ℕ → Ring
open_own n l p = open_ring Chroma n l p (replicate luma_rows_at 0) (0 ∷ [])

abbrev pub open_luma : Given → Lent → Ring
open_luma n l = opened_ring luma_row_bytes 4 (first_row Chroma n) (luma_pad_row n l) (replicate (5 * luma_row_bytes) 0) (0 ∷ [])

abbrev pub open_rings : Operation → Given → Lent → List ℕ → Ring
open_rings Luma n l p = open_ten Luma n l p
open_rings User n l p = open_ten User n l p
open_rings Pretrained n l p = open_ten Pretrained n l p
open_rings Chroma n l p = ring ((open_own n l p).slots ++ (open_luma n l).slots) ((open_own n l p).idx ++ (open_luma n l).idx) (open_own n l p).next
