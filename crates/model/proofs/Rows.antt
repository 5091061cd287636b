-- Padded rows as a ring holds them, for luma, classed and chroma units alike: row R stands for the unit's row R - e, e the border.
-- A row is padded anew (`own`) from `first` to before `last`; the rows above and below repeat the first and the last of these.
-- The laws: what a repeated row is, and that a row is padded from nothing before the row that is restored next.
use mathlib.Core.Path.{◌≡◌, refl, sym, ◌∙◌, ap}
use mathlib.Core.Bool.{Bool, true, false, cond}
use mathlib.Core.List.{List}
use Prim.Native.Nat.{ℕ, suc, ◌+◌, ◌*◌, ◌-◌, ◌≤◌, ◌<◌, min, max}
use native.Mathlib.Nat.{mul-le-mul_right, suc-mul}
use native.Mathlib.Decide.{dec_lt}
use native.Mathlib.Omega.{arith}
use lib.Dec.{ltb}
use mathlib.Core.Logic.{◌≢◌}
use Rattle.definition.specs.declared.Operation.{Operation}
use Rattle.definition.specs.declared.Operation.TheVariants.{Luma, User, Pretrained, Chroma}
use Rattle.definition.specs.declared.Given.{Given}
use Rattle.history.proofs.Ring.{Rule, wrap}
use lib.IntN.{ℤ, pos, negsuc, ◌-ℤ◌}
use lib.ListN.{length, get_or, replicate, length-replicate}
use lib.Seq.{sets, length-sets}
use borrow.Author.Tests.{lt-ltb, le-ltb, ltb-true, ltb-false}
use Rattle.definition.specs.Rows.{tab, row_bytes, row_origin}
use Rattle.definition.specs.Padding.{has_left, has_right, has_top, has_bottom, top_integrated, bottom_integrated, padded}
use Rattle.definition.specs.Units.{border, Lent, unit_row, sample_at, own_row, plane_row, top_row, bottom_row, saved_above}
use Rattle.definition.specs.Refusals.{top_rows, bottom_rows, plane_rows}
use Rattle.laws.proofs.Ints.{never, sub_pos, sub_neg, before_pos}
use Rattle.laws.proofs.Lists.{tab_cong}

-- the bytes of a padded row: e before the samples, the samples, e behind them, and 0 elsewhere
unfoldable pub pad_row : Operation → Given → Lent → List ℕ → ℕ → List ℕ
pad_row op g l p R =
    sets (replicate row_bytes 0) (row_origin - border op)
    (tab (border op + g.w + border op) (λ j. sample_at op g l p (pos R -ℤ pos (border op)) (pos j -ℤ pos (border op))))

-- rows below the unit that are padded anew
abbrev pub below_rows : Operation → ℕ → ℕ
below_rows op edges = plane_rows op edges + bottom_rows edges

abbrev pub first_row : Operation → Given → ℕ
first_row op g = border op - top_rows op g.edges

abbrev pub last_row : Operation → Given → ℕ
last_row op g = g.h + border op + below_rows op g.edges - 1

abbrev pub own : Operation → Given → ℕ → Bool
own op g R = ltb R (g.h + border op + below_rows op g.edges)

-- the row that row R repeats
abbrev pub src : Operation → Given → ℕ → ℕ
src op g R = min (max R (first_row op g)) (last_row op g)

pub pad_size : (op : Operation) (g : Given) (l : Lent) (p : List ℕ) (R : ℕ) → length (pad_row op g l p R) ≡ row_bytes
unfolding pad_row
pad_size op g l p R = rw length-sets (length-replicate {A = ℕ} row_bytes 0)

-- ROWS THAT ARE ALIKE give the same padded row
abbrev pub Alike : ℕ → (ℤ → ℕ) → (ℤ → ℕ) → Type 0
Alike e row row' = ((x : ℕ) → row (pos x) ≡ row' (pos x)) × ((n : ℕ) → n < e → row (negsuc n) ≡ row' (negsuc n))

padded-alike : (e w last : ℕ) (left right : Bool) (row row' : ℤ → ℕ) → Alike e row row' → (j : ℕ) →
    padded left right w last row (pos j -ℤ pos e) ≡ padded left right w last row' (pos j -ℤ pos e)
padded-alike e w last left right row row' a j =
    elim (dec_lt j e) [
      | yes lt ↦ rw (sub_neg j e lt) (λ i. cond left (a.1 (e - suc j) (omega arith) i) (a.0 0 i))
      | no ge ↦
          rw (sub_pos j e (omega arith)) (λ i. cond (ltb (j - e) w) (a.0 (j - e) i) (cond right (a.0 (j - e) i) (a.0 last i)))
    ]

pub pad_alike : (op : Operation) (g : Given) (l : Lent) (p q : List ℕ) (R S : ℕ) →
    Alike (border op) (unit_row op g l p (pos R -ℤ pos (border op))) (unit_row op g l q (pos S -ℤ pos (border op))) → pad_row op g l p R ≡ pad_row op g l q S
unfolding pad_row sample_at
pad_alike op g l p q R S a =
    ap (sets (replicate row_bytes 0) (row_origin - border op))
    (tab_cong (border op + g.w + border op) _ _ (λ j h. padded-alike (border op) g.w (g.w - 1) (has_left g.edges) (has_right g.edges)
    (unit_row op g l p (pos R -ℤ pos (border op))) (unit_row op g l q (pos S -ℤ pos (border op))) a j))

-- the same row under two numbers
same_row : (op : Operation) (g : Given) (l : Lent) (p : List ℕ) (R S : ℕ) →
    ((c : ℤ) → unit_row op g l p (pos R -ℤ pos (border op)) c ≡ unit_row op g l p (pos S -ℤ pos (border op)) c) → pad_row op g l p R ≡ pad_row op g l p S
same_row op g l p R S e = pad_alike op g l p p R S ((λ x. e (pos x)), (λ n h. e (negsuc n)))

-- THE ROWS BELOW. Past the last row that is padded anew each row is the one before it.
same-below : (op : Operation) (g : Given) (l : Lent) (p : List ℕ) (r : ℕ) (int bottom : Bool) →
    bottom_integrated g.edges ≡ int → has_bottom g.edges ≡ bottom → int ≡ false → 1 ≤ g.h → g.h + cond bottom 2 0 ≤ r + 1 →
    (c : ℤ) → unit_row op g l p (pos (r + 1)) c ≡ unit_row op g l p (pos r) c
same-below op g l p r true bottom ei eb n h k c = absurd (never (sym n))
same-below op g l p r false true ei eb n h k c =
    let d : min (r + 1 - g.h) 1 ≡ min (r - g.h) 1 = omega arith in
    rw (le-ltb (r + 1) g.h (omega arith), le-ltb r g.h (omega arith), ei, eb) (ap (λ (n : ℕ). bottom_row op g l p n c) d)
same-below op g l p r false false ei eb n h k c =
    elim (dec_lt r g.h) [
      | yes lt ↦
          let d : g.h - 1 ≡ r = omega arith in
          rw (le-ltb (r + 1) g.h (omega arith), lt-ltb r g.h lt, ei, eb) (ap (λ (n : ℕ). own_row op g l p n c) d)
      | no ge ↦ rw (le-ltb (r + 1) g.h (omega arith), le-ltb r g.h (omega arith), ei, eb)
    ]

-- THE ROWS ABOVE. A row before the first that is padded anew is that one.
above-luma : (g : Given) (l : Lent) (p : List ℕ) (n : ℕ) (int top : Bool) →
    top_integrated g.edges ≡ int → has_top g.edges ≡ top → 1 ≤ g.h → top_rows Luma g.edges ≤ n → n < 4 →
    (c : ℤ) → unit_row Luma g l p (pos (first_row Luma g) -ℤ pos 4) c ≡ unit_row Luma g l p (negsuc n) c
above-luma g l p n true top ei eb h k m c = let q : 4 ≤ n = rw ei at k in absurd (omega arith)
above-luma g l p n false true ei eb h k m c =
    let q : 2 ≤ n = rw (ei, eb) at k in
    let d : saved_above Luma g.edges 1 ≡ saved_above Luma g.edges n = rw ei (omega arith) in
    rw (ei, eb) (rw (ei, eb) (ap (λ (r : ℕ). top_row Luma g l p r c) d))
above-luma g l p n false false ei eb h k m c = rw (ei, eb, lt-ltb 0 g.h h)

same_above : (op : Operation) (g : Given) (l : Lent) (p : List ℕ) (n : ℕ) (int top : Bool) →
    top_integrated g.edges ≡ int → has_top g.edges ≡ top → 1 ≤ g.h → top_rows op g.edges ≤ n → n < border op →
    (c : ℤ) → unit_row op g l p (pos (first_row op g) -ℤ pos (border op)) c ≡ unit_row op g l p (negsuc n) c
same_above Luma g l p n int top ei eb h k m c = above-luma g l p n int top ei eb h k m c
same_above User g l p n int top ei eb h k m c = above-luma g l p n int top ei eb h k m c
same_above Pretrained g l p n int top ei eb h k m c = above-luma g l p n int top ei eb h k m c
same_above Chroma g l p n true top ei eb h k m c = let q : 2 ≤ n = rw ei at k in absurd (omega arith)
same_above Chroma g l p n false true ei eb h k m c = let q : 2 ≤ n = rw (ei, eb) at k in absurd (omega arith)
same_above Chroma g l p n false false ei eb h k m c = rw (ei, eb, lt-ltb 0 g.h h)

-- THE FRAME. A row from k on is padded from the plane at or past the start of row k: with left a row of the unit takes the left list, and before a row below the
-- unit stand at most e samples, which is no more than a stride.
module _ (op : Operation) (g : Given) (l : Lent) (p q : List ℕ) (k : ℕ) (s : border op ≤ g.stride)
    (e : (i : ℕ) → g.off + k * g.stride ≤ i → get_or p i 0 ≡ get_or q i 0) where
  past : (r x : ℕ) → k ≤ r → get_or p (g.off + r * g.stride + x) 0 ≡ get_or q (g.off + r * g.stride + x) 0
  past r x h = e (g.off + r * g.stride + x) (omega (arith, mul-le-mul_right g.stride h))

  before : (r n : ℕ) → k < r → n < border op → plane_row op g l p r (negsuc n) ≡ plane_row op g l q r (negsuc n)
  before r n h m =
      let d : k * g.stride + g.stride ≤ r * g.stride = omega (arith, mul-le-mul_right g.stride h, suc-mul k g.stride) in
      rw (before_pos (g.off + r * g.stride) n (omega arith)) (e (g.off + r * g.stride - suc n) (omega arith))

  own-alike : (r : ℕ) → k ≤ r → Alike (border op) (own_row op g l p r) (own_row op g l q r)
  own-alike r h = ((λ x. past r x h), (λ n m. refl))

  plane-alike : (r : ℕ) → k < r → Alike (border op) (plane_row op g l p r) (plane_row op g l q r)
  plane-alike r h = ((λ x. past r x (omega arith)), (λ n m. before r n h m))

  -- row r of the unit, or below it
  pub row-alike : (r : ℕ) → k ≤ r → k < g.h → Alike (border op) (unit_row op g l p (pos r)) (unit_row op g l q (pos r))
  row-alike r h m =
      elim (dec_lt r g.h) [
        | yes lt ↦ rw (lt-ltb r g.h lt) (own-alike r h)
        | no ge ↦ rw (le-ltb r g.h (omega arith)) (below (bottom_integrated g.edges) (has_bottom g.edges) (omega arith))
      ]
    where
      below : (int bottom : Bool) → k < r →
          Alike (border op)
          (λ c. cond int (plane_row op g l p r c) (cond bottom (bottom_row op g l p (min (r - g.h) 1) c) (own_row op g l p (g.h - 1) c)))
          (λ c. cond int (plane_row op g l q r c) (cond bottom (bottom_row op g l q (min (r - g.h) 1) c) (own_row op g l q (g.h - 1) c)))
      below true bottom lt = plane-alike r lt
      below false true lt = ((λ x. refl), (λ n m. refl))
      below false false lt = own-alike (g.h - 1) (omega arith)

  -- a padded row of the unit, or below it, is the same over both planes
  pub pad_same : (R : ℕ) → k + border op ≤ R → k < g.h → pad_row op g l p R ≡ pad_row op g l q R
  pad_same R h m =
      pad_alike op g l p q R R (rw (sub_pos R (border op) (omega arith)) (row-alike (R - border op) (omega arith) m))

-- THE RULE OF THE RING, over bare numbers first
src-within : (k R m f last : ℕ) → k ≤ R → R < k + m → f < m → k ≤ last → (k ≤ min (max R f) last) × (min (max R f) last < k + m)
src-within k R m f last a b c d = (omega arith, omega arith)

src-own : (a f last : ℕ) → f ≤ a → a ≤ last → min (max a f) last ≡ a
src-own a f last h k = omega arith

src_again : (a b f last : ℕ) → last < a → a ≡ b + 1 → min (max a f) last ≡ min (max b f) last
src_again a b f last h e = omega arith

pub first-low : (op : Operation) (g : Given) → first_row op g ≤ border op
first-low op g = omega arith

pub border-some : (op : Operation) → 1 ≤ border op
border-some Luma = omega arith
border-some User = omega arith
border-some Pretrained = omega arith
border-some Chroma = omega arith

-- a row that is not padded anew is the one before it
again_row : (op : Operation) (g : Given) (l : Lent) (p : List ℕ) (r : ℕ) (int bottom : Bool) →
    bottom_integrated g.edges ≡ int → has_bottom g.edges ≡ bottom → 1 ≤ g.h → r + 1 < g.h + border op → g.h + (cond int (border op) 0 + cond int 0 (cond bottom 2 0)) ≤ r + 1 →
    (c : ℤ) → unit_row op g l p (pos (r + 1)) c ≡ unit_row op g l p (pos r) c
again_row op g l p r true bottom ei eb h m k c = absurd (omega arith)
again_row op g l p r false bottom ei eb h m k c = same-below op g l p r false bottom ei eb refl h (omega arith) c

module _ (op : Operation) (g : Given) (l : Lent) (p : List ℕ) (tall : 1 ≤ g.h) where
  again_pad : (k : ℕ) → k < g.h → own op g (k + (border op + border op)) ≡ false →
      pad_row op g l p (k + (border op + border op)) ≡ pad_row op g l p (k + (border op + border op - 1))
  again_pad k h o =
      let b : 1 ≤ border op = border-some op in
      let r : ℕ = k + (border op + border op - 1) - border op in
      let n : g.h + border op + below_rows op g.edges ≤ k + (border op + border op) = ltb-false _ _ o in
      let d : pos (k + (border op + border op)) -ℤ pos (border op) ≡ pos (r + 1) = sub_pos (k + (border op + border op)) (border op) (omega arith) ∙ ap pos (omega arith) in
      let f : pos (k + (border op + border op - 1)) -ℤ pos (border op) ≡ pos r = sub_pos (k + (border op + border op - 1)) (border op) (omega arith) in
      same_row op g l p (k + (border op + border op)) (k + (border op + border op - 1))
      (λ c. rw (d, f) (again_row op g l p r (bottom_integrated g.edges) (has_bottom g.edges) refl refl tall (omega arith) (omega arith) c))

  pub ring_rule : (top : ℕ) (slot : ℕ → ℕ) → border op + border op ≤ top → ((a : ℕ) → slot a ≤ border op + border op) →
      ((a b : ℕ) → a < b → b < a + (border op + border op) + 1 → slot a ≢ slot b) → ((a : ℕ) → slot (a + 1) ≡ wrap (border op + border op + 1) (slot a)) →
      Rule row_bytes (border op + border op) top g.h slot (src op g) (own op g) (pad_row op g l p)
  ring_rule top slot tops low apart wraps =
      record {
        some = omega (arith, border-some op);
        tops = tops;
        low = low;
        apart = apart;
        wraps = wraps;
        within = λ k R a b c. src-within k R (border op + border op) (first_row op g) (last_row op g) b c (omega (arith, first-low op g, border-some op)) (omega (arith, border-some op));
        owned = λ k h o.
            let n : k + (border op + border op) < g.h + border op + below_rows op g.edges = ltb-true _ _ o in
            src-own (k + (border op + border op)) (first_row op g) (last_row op g) (omega (arith, first-low op g)) (omega arith);
        again = λ k h o.
            let n : g.h + border op + below_rows op g.edges ≤ k + (border op + border op) = ltb-false _ _ o in (
              src_again (k + (border op + border op)) (k + (border op + border op - 1)) (first_row op g) (last_row op g) (omega (arith, border-some op)) (omega (arith, border-some op)),
              again_pad k h o,
            );
        size = pad_size op g l p;
      }

  -- a row above that is not padded anew is the first that is
  pub first_again : (j : ℕ) → j < first_row op g → pad_row op g l p (first_row op g) ≡ pad_row op g l p j
  first_again j h =
      let d : pos j -ℤ pos (border op) ≡ negsuc (border op - suc j) = sub_neg j (border op) (omega arith) in
      same_row op g l p (first_row op g) j
      (λ c. rw d (same_above op g l p (border op - suc j) (top_integrated g.edges) (has_top g.edges) refl refl tall (omega arith) (omega arith) c))
