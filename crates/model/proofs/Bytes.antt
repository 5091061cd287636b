-- Padded rows hold bytes where all that they are padded from does.
use mathlib.Core.Path.{◌≡◌, refl}
use mathlib.Core.Bool.{Bool, true, false, cond, ◌&&◌, ◌||◌}
use mathlib.Core.List.{List, [], ◌∷◌}
use Prim.Native.Nat.{ℕ, zero, suc, ◌+◌, ◌*◌, ◌-◌, ◌%◌, ◌≤◌, min, zero-le}
use native.Mathlib.Omega.{arith}
use lib.Dec.{eqb, ltb}
use lib.IntN.{ℤ, pos, negsuc, ◌+ℤ◌, ◌-ℤ◌, ◌*ℤ◌}
use lib.ListN.{get_or, set, replicate}
use lib.Seq.{sets}
use Rattle.definition.specs.declared.Operation.{Operation}
use Rattle.definition.specs.declared.Given.{Given}
use Rattle.definition.specs.Numbers.{byte_at}
use Rattle.definition.specs.Rows.{tab, row_bytes, luma_row_bytes, row_origin}
use Rattle.definition.specs.Sample.{limit8}
use Rattle.definition.specs.Padding.{has_left, has_right, has_top, has_bottom, top_integrated, bottom_integrated, row_start, padded, mixed, even_only, last_sampled}
use Rattle.definition.specs.Units.{border, Lent, saved_above, own_row, plane_row, top_row, bottom_row, unit_row, sample_at, luma_own, luma_top_row, luma_bottom_row, luma_part, luma_at, upper_saved, lower_saved, vertical, step}
use Rattle.definition.specs.StateText.{Bytes}
use Rattle.laws.proofs.Lists.{tab-low}
use Rattle.history.proofs.Ring.{set_low}
use Rattle.model.proofs.Rows.{pad_row}
use Rattle.model.proofs.LumaRows.{luma_pad_row}

-- LISTS of bytes
-- what stands anywhere around a list of bytes is a byte
byte : (l : List ℕ) → Bytes l → (z : ℤ) → byte_at l z ≤ limit8
byte l b (pos n) = b n
byte l b (negsuc n) = zero-le

-- a list of zeros has 0 at each place,
pub blank-zero : (n i : ℕ) → get_or (replicate {A = ℕ} n 0) i 0 ≡ 0
blank-zero zero i = refl
blank-zero (suc n) zero = refl
blank-zero (suc n) (suc i) = blank-zero n i

-- .. so bytes
pub blank-bytes : (n : ℕ) → Bytes (replicate n 0)
blank-bytes n i = rw (blank-zero n i) zero-le

-- bytes that are put over bytes leave bytes
pub sets-bytes : (vs l : List ℕ) (a : ℕ) → Bytes vs → Bytes l → Bytes (sets l a vs)
sets-bytes [] l a v b = b
sets-bytes (x ∷ vs) l a v b = sets-bytes vs (set l a x) (suc a) (λ j. v (suc j)) (set_low l a x limit8 (v 0) b)

-- one of two bytes is a byte
either : (b : Bool) (x y : ℕ) → x ≤ limit8 → y ≤ limit8 → cond b x y ≤ limit8
either true x y h k = h
either false x y h k = k

-- A ROW of bytes is one of bytes with its columns padded
padded-byte : (left right : Bool) (w last : ℕ) (row : ℤ → ℕ) → ((c : ℤ) → row c ≤ limit8) → (c : ℤ) → padded left right w last row c ≤ limit8
padded-byte left right w last row h (negsuc n) = either left (row (negsuc n)) (row (pos 0)) (h (negsuc n)) (h (pos 0))
padded-byte left right w last row h (pos x) =
    either (ltb x w) (row (pos x)) (cond right (row (pos x)) (row (pos last))) (h (pos x)) (either right (row (pos x)) (row (pos last)) (h (pos x)) (h (pos last)))

-- A UNIT'S OWN ROWS
module _ (op : Operation) (g : Given) (l : Lent) (p : List ℕ) (plane : Bytes p) (left : Bytes l.left) (top : Bytes l.top) (bottom : Bytes l.bottom) where
  -- a row of the unit holds bytes, before its first sample those of the left list
  own-byte : (r : ℕ) (c : ℤ) → own_row op g l p r c ≤ limit8
  own-byte r (pos x) = byte p plane (row_start g.off g.stride (pos r) +ℤ pos x)
  own-byte r (negsuc n) = byte l.left left (pos (6 * r + 6) +ℤ negsuc n)

  -- so does the row that stands at any row, above, in or below the unit
  unit-byte : (r c : ℤ) → unit_row op g l p r c ≤ limit8
  unit-byte (negsuc n) c = either (top_integrated g.edges || has_top g.edges) (top_row op g l p (saved_above op g.edges n) c) (own_row op g l p 0 c)
      (byte l.top top (row_start g.top_off g.stride (pos (saved_above op g.edges n)) +ℤ c)) (own-byte 0 c)
  unit-byte (pos r) c =
      let below : ℕ = min (r - g.h) 1 in
      let saved : ℕ = cond (has_bottom g.edges) (bottom_row op g l p below c) (own_row op g l p (g.h - 1) c) in
      either (ltb r g.h) (own_row op g l p r c) (cond (bottom_integrated g.edges) (plane_row op g l p r c) saved) (own-byte r c)
      (either (bottom_integrated g.edges) (plane_row op g l p r c) saved (byte p plane (row_start g.off g.stride (pos r) +ℤ c))
      (either (has_bottom g.edges) (bottom_row op g l p below c) (own_row op g l p (g.h - 1) c)
      (byte l.bottom bottom (row_start g.bottom_off g.stride (pos below) +ℤ c)) (own-byte (g.h - 1) c)))

  -- so does a padded row
  pub pad-bytes : (R : ℕ) → Bytes (pad_row op g l p R)
  unfolding pad_row sample_at
  pad-bytes R =
      let r : ℤ = pos R -ℤ pos (border op) in
      let n : ℕ = border op + g.w + border op in
      let f : ℕ → ℕ = λ j. sample_at op g l p r (pos j -ℤ pos (border op)) in
      sets-bytes (tab n f) (replicate row_bytes 0) (row_origin - border op)
      (tab-low n f limit8 (λ j h. padded-byte (has_left g.edges) (has_right g.edges) g.w (g.w - 1) (unit_row op g l p r) (unit-byte r) (pos j -ℤ pos (border op))))
      (blank-bytes row_bytes)

-- LUMA ROWS
-- a mean of bytes is a byte
mixed-byte : (ss_ver kind : ℕ) (upper lower : ℤ → ℕ) → ((c : ℤ) → upper c ≤ limit8) → ((c : ℤ) → lower c ≤ limit8) → (c : ℤ) → mixed ss_ver kind upper lower c ≤ limit8
mixed-byte zero kind upper lower u d c = u c
mixed-byte (suc v) zero upper lower u d c = omega (arith, u c, d c, u (c +ℤ pos 1), d (c +ℤ pos 1))
mixed-byte (suc v) (suc zero) upper lower u d c = omega (arith, u c, d c)
mixed-byte (suc v) (suc (suc k)) upper lower u d c = u c

module _ (g : Given) (l : Lent) (plane : Bytes l.luma_plane) (top : Bytes l.luma_top) (bottom : Bytes l.luma_bottom) where
  -- a row of the luma plane holds bytes
  plane-byte : (more : ℕ) (r c : ℤ) → luma_own g l more r c ≤ limit8
  plane-byte more r c = byte l.luma_plane plane (row_start g.luma_off g.luma_stride (r *ℤ pos (vertical g l) +ℤ pos more) +ℤ c)

  -- so do the upper and the lower of two luma rows for any row
  part-byte : (more : ℕ) (saved : ℕ → ℕ) (r c : ℤ) → luma_part g l more saved r c ≤ limit8
  part-byte more saved (negsuc n) c =
      either (top_integrated g.edges) (luma_own g l more (negsuc n) c) (cond (has_top g.edges) (luma_top_row g l (saved n) c) (luma_own g l more (pos 0) c))
      (plane-byte more (negsuc n) c)
      (either (has_top g.edges) (luma_top_row g l (saved n) c) (luma_own g l more (pos 0) c)
      (byte l.luma_top top (row_start g.luma_top_off g.luma_stride (pos (saved n)) +ℤ c)) (plane-byte more (pos 0) c))
  part-byte more saved (pos r) c =
      let below : ℕ = min (r - g.h + more) 1 in
      either (ltb r g.h || bottom_integrated g.edges) (luma_own g l more (pos r) c)
      (cond (has_bottom g.edges) (luma_bottom_row g l below c) (luma_own g l more (pos (g.h - 1)) c))
      (plane-byte more (pos r) c)
      (either (has_bottom g.edges) (luma_bottom_row g l below c) (luma_own g l more (pos (g.h - 1)) c)
      (byte l.luma_bottom bottom (row_start g.luma_bottom_off g.luma_stride (pos below) +ℤ c)) (plane-byte more (pos (g.h - 1)) c))

  -- so does a padded luma row
  pub luma-bytes : (R : ℕ) → Bytes (luma_pad_row g l R)
  unfolding luma_pad_row luma_at
  luma-bytes R =
      let r : ℤ = pos R -ℤ pos 2 in
      let lw : ℕ = g.w * step g l in
      let upper : ℤ → ℕ = luma_part g l 0 (upper_saved g l) r in
      let lower : ℤ → ℕ = luma_part g l 1 (lower_saved g l) r in
      let odd : ℕ → Bool = λ j. even_only g.ss_ver g.kind && eqb (j % 2) 1 in
      let at : ℕ → ℕ = λ j. luma_at g l r (pos j -ℤ pos 4) in
      let f : ℕ → ℕ = λ j. cond (odd j) 0 (at j) in
      sets-bytes (tab (4 + lw + 4) f) (replicate luma_row_bytes 0) (row_origin - 4)
      (tab-low (4 + lw + 4) f limit8
      (λ j h. either (odd j) 0 (at j) zero-le
      (padded-byte (has_left g.edges) (has_right g.edges) lw (last_sampled g.ss_hor lw) (mixed g.ss_ver g.kind upper lower)
      (mixed-byte g.ss_ver g.kind upper lower (part-byte 0 (upper_saved g l) r) (part-byte 1 (lower_saved g l) r)) (pos j -ℤ pos 4))))
      (blank-bytes luma_row_bytes)
