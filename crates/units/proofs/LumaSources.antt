-- Where a padded luma row is taken from: that the padding is not refused, and that the row is the definition's.
use mathlib.Core.Path.{◌≡◌, refl, sym, ◌∙◌, ap}
use mathlib.Core.Bool.{Bool, true, false, cond, ◌&&◌}
use mathlib.Core.List.{List}
use Prim.Native.Nat.{ℕ, zero, suc, ◌+◌, ◌*◌, ◌-◌, ◌%◌, ◌^◌, ◌≤◌, ◌<◌, min}
use native.Mathlib.Nat.{mul-le-mul_right, one-mul, add-mul, add-zero}
use native.Mathlib.Omega.{arith}
use lib.Dec.{eqb}
use lib.IntN.{ℤ, pos, negsuc, ◌+ℤ◌, ◌-ℤ◌, ◌*ℤ◌}
use lib.ListN.{length, get_or, replicate}
use lib.Seq.{sets}
use borrow.Author.Tests.{le-leb, lt-ltb, le-ltb, eq-eqb}
use Rattle.definition.specs.declared.Operation.TheVariants.{Chroma}
use Rattle.definition.specs.declared.Given.{Given}
use Rattle.definition.specs.Rows.{tab, row_origin, luma_row_bytes}
use Rattle.definition.specs.Limits.{width_limit}
use Rattle.definition.specs.Padding.{has_left, has_right, has_top, has_bottom, top_integrated, bottom_integrated, row_at, padded, luma_padded, mixed, even_only, last_sampled}
use Rattle.definition.specs.Units.{Lent, luma_at, luma_part, luma_own, luma_top_row, luma_bottom_row, upper_saved, lower_saved}
use Rattle.definition.specs.Refusals.{beside, bottom_rows, luma_rows, luma_top_rows}
use Rattle.laws.proofs.Ints.{sub_pos}
use Rattle.laws.proofs.Lists.{tab_cong}
use Rattle.definition.specs.Leaves.{luma_status, backup_luma_row, lower_at}
use Rattle.model.proofs.Rows.{first_row}
use Rattle.model.proofs.LumaRows.{luma_pad_row}
use Rattle.laws.proofs.Inside.{Inside}
use Rattle.units.specs.LumaFrom.{luma_width, LumaFits, luma_from}
use Rattle.units.proofs.Edges.{above_saved}
use Rattle.units.proofs.Sources.{served}
use Rattle.units.specs.Windows.{LumaPlaneLies, LumaTopLies, LumaBottomLies}

-- NOT REFUSED, over bare numbers
fits : (dst o src src_o stride w edges ss_hor ss_ver kind : ℕ) → ss_hor ≤ 1 → ss_ver ≤ ss_hor → kind ≤ 2 → 1 ≤ w → 4 ≤ o → o + w + 4 ≤ dst → w % (ss_hor + 1) ≡ 0 →
    src_o + lower_at ss_ver kind stride + (w + beside (has_right edges) 4) ≤ src → beside (has_left edges) 4 ≤ src_o →
    luma_status dst o src src_o stride w edges ss_hor ss_ver kind ≡ 0
unfolding luma_status
fits dst o src src_o stride w edges ss_hor ss_ver kind hor ver kinds some front room whole row before =
    rw (
      le-ltb 1 ss_hor hor,
      le-ltb ss_hor ss_ver ver,
      le-ltb 2 kind kinds,
      le-leb 1 w some,
      le-leb 4 o front,
      le-leb (o + w + 4) dst room,
      eq-eqb (w % (ss_hor + 1)) 0 whole,
      le-leb (src_o + lower_at ss_ver kind stride + (w + beside (has_right edges) 4)) src row,
      le-leb (beside (has_left edges) 4) src_o before,
    )

record Wide (ss w : ℕ) : Type 0 where
  some : 1 ≤ w
  most : w ≤ 2 * width_limit
  whole : w % (ss + 1) ≡ 0

wide : (w ss : ℕ) → ss ≤ 1 → 4 ≤ w → w ≤ width_limit → Wide ss (w * 2 ^ ss)
wide w zero h a b = record { some = omega arith; most = omega arith; whole = omega arith }
wide w (suc zero) h a b = record { some = omega arith; most = omega arith; whole = omega arith }
wide w (suc (suc ss)) h a b = absurd (omega arith)

-- the lower row is the upper one or stands a stride below it
low-none : (v k : ℕ) → lower_at v k 0 ≡ 0
low-none zero k = refl
low-none (suc v) zero = refl
low-none (suc v) (suc zero) = refl
low-none (suc v) (suc (suc k)) = refl

low_most : (v k s : ℕ) → lower_at v k s ≤ s
low_most zero k s = omega arith
low_most (suc v) zero s = omega arith
low_most (suc v) (suc zero) s = omega arith
low_most (suc v) (suc (suc k)) s = omega arith

-- of the rows that are counted, those of row y of n
counted : (v k s y n : ℕ) → v ≤ 1 → k ≤ 2 → y < n → y * 2 ^ v * s + lower_at v k s ≤ (cond (eqb v 1 && eqb k 2) (2 ^ v * n - 1) (2 ^ v * n) - 1) * s
counted zero k s y n hv hk h =
    omega (arith, mul-le-mul_right {m = y * 1} {n = 1 * n - 1} s (omega arith))
counted (suc zero) zero s y n hv hk h =
    omega (arith, mul-le-mul_right {m = y * 2 + 1} {n = 2 * n - 1} s (omega arith), add-mul (y * 2) 1 s, one-mul s)
counted (suc zero) (suc zero) s y n hv hk h =
    omega (arith, mul-le-mul_right {m = y * 2 + 1} {n = 2 * n - 1} s (omega arith), add-mul (y * 2) 1 s, one-mul s)
counted (suc zero) (suc (suc zero)) s y n hv hk h =
    omega (arith, mul-le-mul_right {m = y * 2} {n = 2 * n - 1 - 1} s (omega arith))
counted (suc zero) (suc (suc (suc k))) s y n hv hk h = absurd (omega arith)
counted (suc (suc v)) k s y n hv hk h = absurd (omega arith)

-- .. and of two saved rows, the second where it is read
saved_count : (v k s : ℕ) → v ≤ 1 → k ≤ 2 → lower_at v k s ≤ (cond (eqb v 1 && eqb k 2) (2 - 1) 2 - 1) * s
saved_count zero k s hv hk = omega arith
saved_count (suc zero) zero s hv hk = omega arith
saved_count (suc zero) (suc zero) s hv hk = omega arith
saved_count (suc zero) (suc (suc zero)) s hv hk = omega arith
saved_count (suc zero) (suc (suc (suc k))) s hv hk = absurd (omega arith)
saved_count (suc (suc v)) k s hv hk = absurd (omega arith)

some_saved : (a b : Bool) → 0 < cond (a && b) (2 - 1) 2
some_saved true true = omega arith
some_saved true false = omega arith
some_saved false b = omega arith

-- rows above the first: no more than twice 2 ^ v, and no less than one
back-rows : (v k s : ℕ) → v ≤ 1 → 1 ≤ k → k ≤ 2 → (s ≤ k * 2 ^ v * s) × (k * 2 ^ v * s ≤ 2 * 2 ^ v * s)
back-rows zero k s hv h m =
    (omega (arith, mul-le-mul_right {m = 1} {n = k * 1} s (omega arith), one-mul s), mul-le-mul_right s (omega arith))
back-rows (suc zero) k s hv h m =
    (omega (arith, mul-le-mul_right {m = 1} {n = k * 2} s (omega arith), one-mul s), mul-le-mul_right s (omega arith))
back-rows (suc (suc v)) k s hv h m = absurd (omega arith)

-- THE BYTES. A row of zeros keeps them where it is not filled.
zeros : (n i : ℕ) → get_or {A = ℕ} (replicate n 0) i 0 ≡ 0
zeros zero i = refl
zeros (suc n) zero = refl
zeros (suc n) (suc i) = zeros n i

pub from-served : (g : Given) (src : List ℕ) (at stride : ℕ) {w : ℕ} → w ≡ luma_width g → LumaFits g (length src) at stride →
    backup_luma_row (replicate luma_row_bytes 0) 6 src at stride w g.edges g.ss_hor g.ss_ver g.kind ≡ luma_from g src at stride
from-served g src at stride e f =
    rw e
    (served _ (replicate luma_row_bytes 0) _ f ∙
    ap (sets (replicate luma_row_bytes 0) 2)
    (tab_cong (4 + luma_width g + 4) _ _
    (λ j h. ap (λ (z : ℕ). cond (even_only g.ss_ver g.kind && eqb (j % 2) 1) z
    (luma_padded g.edges g.ss_hor g.ss_ver g.kind (luma_width g) (row_at src (pos at)) (row_at src (pos (at + stride))) (pos j -ℤ pos 4)))
    (zeros luma_row_bytes (2 + j)))))

module _ {g : Given} {plane : ℕ} (lie : LumaPlaneLies g plane) where
  abbrev before : ℕ
  before = beside (has_left g.edges) 4

  abbrev behind : ℕ
  behind = beside (has_right g.edges) 4

  abbrev low : ℕ → ℕ
  low stride = lower_at g.ss_ver g.kind stride

  pub ver-low : g.ss_ver ≤ 1
  ver-low = omega (arith, lie.ver, lie.hor)

  row_fits : (len at stride : ℕ) → at + low stride + (luma_width g + behind) ≤ len → before ≤ at → LumaFits g len at stride
  row_fits len at stride row front =
      let q = wide g.w g.ss_hor lie.hor lie.wide.low lie.wide.high in
      fits luma_row_bytes row_origin len at stride (luma_width g) g.edges g.ss_hor g.ss_ver g.kind lie.hor lie.ver lie.kinds
      q.some (omega arith) (omega (arith, q.most)) q.whole row front

  -- rows of the plane beside the unit, or below it
  pub plane_fits : (y : ℕ) → y < g.h + beside (bottom_integrated g.edges) 2 → LumaFits g plane (g.luma_off + y * 2 ^ g.ss_ver * g.luma_stride) g.luma_stride
  plane_fits y h =
      row_fits plane (g.luma_off + y * 2 ^ g.ss_ver * g.luma_stride) g.luma_stride
      (omega (arith, lie.plane_in.high, counted g.ss_ver g.kind g.luma_stride y (g.h + beside (bottom_integrated g.edges) 2) ver-low lie.kinds h))
      (omega (arith, lie.plane_in.low))

  -- .. and above it
  abbrev back : ℕ → ℕ
  back k = k * 2 ^ g.ss_ver * g.luma_stride

  pub back_low : top_integrated g.edges ≡ true → (k : ℕ) → 1 ≤ k → k ≤ 2 → (g.luma_stride ≤ back k) × (back k + before ≤ g.luma_off)
  back_low b k h m =
      let n = back-rows g.ss_ver k g.luma_stride ver-low h m in
      let i : 2 * 2 ^ g.ss_ver * g.luma_stride + before ≤ g.luma_off = rw b at lie.plane_in.low in
      (n.0, omega (arith, n.1))

  pub back_fits : top_integrated g.edges ≡ true → (k : ℕ) → 1 ≤ k → k ≤ 2 → LumaFits g plane (g.luma_off - back k) g.luma_stride
  back_fits b k h m =
      let n = back_low b k h m in
      row_fits plane (g.luma_off - back k) g.luma_stride
      (omega (arith, n.0, n.1, lie.plane_in.high, low_most g.ss_ver g.kind g.luma_stride))
      (omega (arith, n.1))

  -- saved rows above
  top_in : {top : ℕ} → LumaTopLies g top → top_integrated g.edges ≡ false → has_top g.edges ≡ true →
      Inside top g.luma_top_off g.luma_stride (luma_rows g 2) (luma_width g) (0 * g.luma_stride + before) behind
  top_in t a b =
      let e : luma_top_rows g ≡ luma_rows g 2 = rw (a, b) in
      rw e at (t (rw e (some_saved (eqb g.ss_ver 1) (eqb g.kind 2))))

  pub top-two_fits : {top : ℕ} → LumaTopLies g top → top_integrated g.edges ≡ false → has_top g.edges ≡ true → LumaFits g top g.luma_top_off g.luma_stride
  top-two_fits {top} t a b =
      let i = top_in t a b in
      row_fits top g.luma_top_off g.luma_stride
      (omega (arith, i.high, saved_count g.ss_ver g.kind g.luma_stride ver-low lie.kinds))
      (omega (arith, i.low))

  pub top-first_fits : {top : ℕ} → LumaTopLies g top → top_integrated g.edges ≡ false → has_top g.edges ≡ true → LumaFits g top g.luma_top_off 0
  top-first_fits {top} t a b =
      let i = top_in t a b in
      row_fits top g.luma_top_off 0 (omega (arith, i.high, low-none g.ss_ver g.kind)) (omega (arith, i.low))

  pub top_second_fits : {top : ℕ} → LumaTopLies g top → top_integrated g.edges ≡ false → has_top g.edges ≡ true → g.ss_ver ≡ 0 → LumaFits g top (g.luma_top_off + g.luma_stride) 0
  top_second_fits {top} t a b v =
      let i = top_in t a b in
      let j : g.luma_top_off + (2 - 1) * g.luma_stride + luma_width g + behind ≤ top = rw v at i.high in
      row_fits top (g.luma_top_off + g.luma_stride) 0 (omega (arith, j, low-none g.ss_ver g.kind)) (omega (arith, i.low))

  -- saved rows below
  bottom_in : {bottom : ℕ} → LumaBottomLies g bottom → bottom_integrated g.edges ≡ false → has_bottom g.edges ≡ true →
      Inside bottom g.luma_bottom_off g.luma_stride 2 (luma_width g) (0 * g.luma_stride + before) behind
  bottom_in d a b =
      let e : bottom_rows g.edges ≡ 2 = rw (a, b) in
      rw e at (d (rw e (omega arith)))

  pub bottom-two_fits : {bottom : ℕ} → LumaBottomLies g bottom → bottom_integrated g.edges ≡ false → has_bottom g.edges ≡ true → LumaFits g bottom g.luma_bottom_off g.luma_stride
  bottom-two_fits {bottom} d a b =
      let i = bottom_in d a b in
      row_fits bottom g.luma_bottom_off g.luma_stride
      (omega (arith, i.high, low_most g.ss_ver g.kind g.luma_stride))
      (omega (arith, i.low))

  pub bottom_second_fits : {bottom : ℕ} → LumaBottomLies g bottom → bottom_integrated g.edges ≡ false → has_bottom g.edges ≡ true → LumaFits g bottom (g.luma_bottom_off + g.luma_stride) 0
  bottom_second_fits {bottom} d a b =
      let i = bottom_in d a b in
      row_fits bottom (g.luma_bottom_off + g.luma_stride) 0 (omega (arith, i.high, low-none g.ss_ver g.kind)) (omega (arith, i.low))

-- THE ROW. The lower one of two matters only where it is read.
mixed-same : (v k : ℕ) (u l u' l' : ℤ → ℕ) → ((c : ℤ) → u c ≡ u' c) → (lower_at v k 1 ≡ 1 → (c : ℤ) → l c ≡ l' c) → (c : ℤ) → mixed v k u l c ≡ mixed v k u' l' c
mixed-same zero k u l u' l' p q c = p c
mixed-same (suc v) zero u l u' l' p q c = rw (p c, q refl c, p (c +ℤ pos 1), q refl (c +ℤ pos 1))
mixed-same (suc v) (suc zero) u l u' l' p q c = rw (p c, q refl c)
mixed-same (suc v) (suc (suc k)) u l u' l' p q c = p c

-- rows before a place
back_start : (off m s : ℕ) → suc m * s ≤ off → pos off +ℤ negsuc m *ℤ pos s ≡ pos (off - suc m * s)
back_start off m s h = sub_pos off (suc m * s) h

back-upper : (v n off s : ℕ) → v ≤ 1 → n ≤ 1 → suc n * 2 ^ v * s ≤ off → pos (off - suc n * 2 ^ v * s) ≡ pos off +ℤ (negsuc n *ℤ pos (2 ^ v) +ℤ pos 0) *ℤ pos s
back-upper zero zero off s hv hn h = sym (back_start off 0 s h)
back-upper zero (suc zero) off s hv hn h = sym (back_start off 1 s h)
back-upper zero (suc (suc n)) off s hv hn h = absurd (omega arith)
back-upper (suc zero) zero off s hv hn h = sym (back_start off 1 s h)
back-upper (suc zero) (suc zero) off s hv hn h = sym (back_start off 3 s h)
back-upper (suc zero) (suc (suc n)) off s hv hn h = absurd (omega arith)
back-upper (suc (suc v)) n off s hv hn h = absurd (omega arith)

back-lower : (v k n off s : ℕ) → v ≤ 1 → n ≤ 1 → suc n * 2 ^ v * s ≤ off → lower_at v k 1 ≡ 1 →
    pos (off - suc n * 2 ^ v * s + s) ≡ pos off +ℤ (negsuc n *ℤ pos (2 ^ v) +ℤ pos 1) *ℤ pos s
back-lower zero k n off s hv hn h e = absurd (omega arith)
back-lower (suc zero) k zero off s hv hn h e =
    let q : off - 2 * s + s ≡ off - 1 * s = omega arith in
    ap pos q ∙ sym (back_start off 0 s (omega arith))
back-lower (suc zero) k (suc zero) off s hv hn h e =
    let q : off - 4 * s + s ≡ off - 3 * s = omega arith in
    ap pos q ∙ sym (back_start off 2 s (omega arith))
back-lower (suc zero) k (suc (suc n)) off s hv hn h e = absurd (omega arith)
back-lower (suc (suc v)) k n off s hv hn h e = absurd (omega arith)

-- the same row by another count of its first byte
same_start : (bytes : List ℕ) {a b : ℕ} (c : ℤ) → a ≡ b → row_at bytes (pos a) c ≡ row_at bytes (pos b) c
same_start bytes c e = ap (λ (n : ℕ). row_at bytes (pos n) c) e

one_more : (a s : ℕ) → (a + 1) * s ≡ a * s + s
one_more a s = add-mul a 1 s ∙ ap (λ (n : ℕ). a * s + n) (one-mul s)

module _ (g : Given) (l : Lent) where
  abbrev upper : ℤ → ℤ → ℕ
  upper r = luma_part g l 0 (upper_saved g l) r

  abbrev lower : ℤ → ℤ → ℕ
  lower r = luma_part g l 1 (lower_saved g l) r

  abbrev Read : Type 0
  Read = lower_at g.ss_ver g.kind 1 ≡ 1

  abbrev own_at : ℕ → ℕ
  own_at y = g.luma_off + y * 2 ^ g.ss_ver * g.luma_stride

  luma-from : (r : ℕ) (src : List ℕ) (at stride : ℕ) → ((c : ℤ) → row_at src (pos at) c ≡ upper (pos r -ℤ pos 2) c) →
      (Read → (c : ℤ) → row_at src (pos (at + stride)) c ≡ lower (pos r -ℤ pos 2) c) → luma_from g src at stride ≡ luma_pad_row g l r
  unfolding luma_pad_row luma_at
  luma-from r src at stride u d = λ i.
      sets (replicate luma_row_bytes 0) 2
      (tab (4 + luma_width g + 4)
      (λ j. cond (even_only g.ss_ver g.kind && eqb (j % 2) 1) 0
      (padded (has_left g.edges) (has_right g.edges) (luma_width g) (last_sampled g.ss_hor (luma_width g))
      (λ c. mixed-same g.ss_ver g.kind (row_at src (pos at)) (row_at src (pos (at + stride))) (upper (pos r -ℤ pos 2)) (lower (pos r -ℤ pos 2)) u d c i) (pos j -ℤ pos 4))))

  -- beside the unit, and below it
  from-lower : (y : ℕ) (src : List ℕ) (at stride : ℕ) → ((c : ℤ) → row_at src (pos at) c ≡ upper (pos y) c) →
      (Read → (c : ℤ) → row_at src (pos (at + stride)) c ≡ lower (pos y) c) → luma_from g src at stride ≡ luma_pad_row g l (y + 2)
  from-lower y src at stride u d =
      let e : pos (y + 2) -ℤ pos 2 ≡ pos y = sub_pos (y + 2) 2 (omega arith) ∙ ap pos (omega arith) in
      luma-from (y + 2) src at stride (λ c. rw e (u c)) (λ h c. rw e (d h c))

  own-upper : (y : ℕ) (c : ℤ) → row_at l.luma_plane (pos (own_at y)) c ≡ luma_own g l 0 (pos y) c
  own-upper y c = same_start l.luma_plane c (ap (λ (n : ℕ). g.luma_off + n * g.luma_stride) (sym (add-zero (y * 2 ^ g.ss_ver))))

  own-lower : (y : ℕ) (c : ℤ) → row_at l.luma_plane (pos (own_at y + g.luma_stride)) c ≡ luma_own g l 1 (pos y) c
  own-lower y c = same_start l.luma_plane c (omega (arith, one_more (y * 2 ^ g.ss_ver) g.luma_stride))

  pub own_is : (y : ℕ) → y < g.h → luma_from g l.luma_plane (own_at y) g.luma_stride ≡ luma_pad_row g l (y + 2)
  own_is y h =
      from-lower y l.luma_plane (own_at y) g.luma_stride (λ c. rw (lt-ltb y g.h h) (own-upper y c)) (λ _ c. rw (lt-ltb y g.h h) (own-lower y c))

  pub plane-is : (y : ℕ) → g.h ≤ y → bottom_integrated g.edges ≡ true → luma_from g l.luma_plane (own_at y) g.luma_stride ≡ luma_pad_row g l (y + 2)
  plane-is y h b =
      from-lower y l.luma_plane (own_at y) g.luma_stride (λ c. rw (le-ltb y g.h h, b) (own-upper y c)) (λ _ c. rw (le-ltb y g.h h, b) (own-lower y c))

  pub last-is : (y : ℕ) → g.h ≤ y → bottom_integrated g.edges ≡ false → has_bottom g.edges ≡ false →
      luma_from g l.luma_plane (own_at (g.h - 1)) g.luma_stride ≡ luma_pad_row g l (y + 2)
  last-is y h a b =
      from-lower y l.luma_plane (own_at (g.h - 1)) g.luma_stride (λ c. rw (le-ltb y g.h h, a, b) (own-upper (g.h - 1) c)) (λ _ c. rw (le-ltb y g.h h, a, b) (own-lower (g.h - 1) c))

  bottom-at : (m : ℕ) {n a : ℕ} (c : ℤ) → n ≡ m → a ≡ g.luma_bottom_off + n * g.luma_stride → row_at l.luma_bottom (pos a) c ≡ luma_bottom_row g l m c
  bottom-at m c e q = same_start l.luma_bottom c (q ∙ ap (λ (n : ℕ). g.luma_bottom_off + n * g.luma_stride) e)

  pub bottom-two-is : (y : ℕ) → y ≡ g.h → bottom_integrated g.edges ≡ false → has_bottom g.edges ≡ true →
      luma_from g l.luma_bottom g.luma_bottom_off g.luma_stride ≡ luma_pad_row g l (y + 2)
  bottom-two-is y h a b =
      let t = le-ltb y g.h (omega arith) in
      from-lower y l.luma_bottom g.luma_bottom_off g.luma_stride
      (λ c. rw (t, a, b) (bottom-at (min (y - g.h + 0) 1) {n = 0} c (omega arith) (omega arith)))
      (λ _ c. rw (t, a, b) (bottom-at (min (y - g.h + 1) 1) {n = 1} c (omega arith) (omega arith)))

  pub bottom_second_is : (y : ℕ) → g.h < y → bottom_integrated g.edges ≡ false → has_bottom g.edges ≡ true →
      luma_from g l.luma_bottom (g.luma_bottom_off + g.luma_stride) 0 ≡ luma_pad_row g l (y + 2)
  bottom_second_is y h a b =
      let t = le-ltb y g.h (omega arith) in
      from-lower y l.luma_bottom (g.luma_bottom_off + g.luma_stride) 0
      (λ c. rw (t, a, b) (bottom-at (min (y - g.h + 0) 1) {n = 1} c (omega arith) (omega arith)))
      (λ _ c. rw (t, a, b) (bottom-at (min (y - g.h + 1) 1) {n = 1} c (omega arith) (omega arith)))

  -- above the unit
  pub back_is : (r : ℕ) → r < 2 → top_integrated g.edges ≡ true → g.ss_ver ≤ 1 → (2 - r) * 2 ^ g.ss_ver * g.luma_stride ≤ g.luma_off →
      luma_from g l.luma_plane (g.luma_off - (2 - r) * 2 ^ g.ss_ver * g.luma_stride) g.luma_stride ≡ luma_pad_row g l r
  back_is zero h b v m =
      luma-from 0 l.luma_plane (g.luma_off - 2 * 2 ^ g.ss_ver * g.luma_stride) g.luma_stride
      (λ c. rw b (ap (λ (z : ℤ). row_at l.luma_plane z c) (back-upper g.ss_ver 1 g.luma_off g.luma_stride v (omega arith) m)))
      (λ e c. rw b (ap (λ (z : ℤ). row_at l.luma_plane z c) (back-lower g.ss_ver g.kind 1 g.luma_off g.luma_stride v (omega arith) m e)))
  back_is (suc zero) h b v m =
      luma-from 1 l.luma_plane (g.luma_off - 1 * 2 ^ g.ss_ver * g.luma_stride) g.luma_stride
      (λ c. rw b (ap (λ (z : ℤ). row_at l.luma_plane z c) (back-upper g.ss_ver 0 g.luma_off g.luma_stride v (omega arith) m)))
      (λ e c. rw b (ap (λ (z : ℤ). row_at l.luma_plane z c) (back-lower g.ss_ver g.kind 0 g.luma_off g.luma_stride v (omega arith) m e)))
  back_is (suc (suc r)) h b v m = absurd (omega arith)

  top-at : (m : ℕ) {n a : ℕ} (c : ℤ) → n ≡ m → a ≡ g.luma_top_off + n * g.luma_stride → row_at l.luma_top (pos a) c ≡ luma_top_row g l m c
  top-at m c e q = same_start l.luma_top c (q ∙ ap (λ (n : ℕ). g.luma_top_off + n * g.luma_stride) e)

  pub top-first-is : (r : ℕ) → r ≡ 0 → top_integrated g.edges ≡ false → has_top g.edges ≡ true →
      luma_from g l.luma_top g.luma_top_off 0 ≡ luma_pad_row g l r
  top-first-is r e a b =
      rw e
      (luma-from 0 l.luma_top g.luma_top_off 0 (λ c. rw (a, b) (top-at 0 {n = 0} c refl (omega arith))) (λ _ c. rw (a, b) (top-at 0 {n = 0} c refl (omega arith))))

  pub top_second_is : (r : ℕ) → r ≡ 1 → top_integrated g.edges ≡ false → has_top g.edges ≡ true → g.ss_ver ≡ 0 →
      luma_from g l.luma_top (g.luma_top_off + g.luma_stride) 0 ≡ luma_pad_row g l r
  top_second_is r e a b v =
      rw e
      (luma-from 1 l.luma_top (g.luma_top_off + g.luma_stride) 0
      (λ c. rw (a, b) (top-at (1 - g.ss_ver) {n = 1} c (omega arith) (omega arith)))
      (λ _ c. rw (a, b) (top-at 1 {n = 1} c refl (omega arith))))

  pub top-two-is : (r : ℕ) → r ≡ 1 → top_integrated g.edges ≡ false → has_top g.edges ≡ true → g.ss_ver ≡ 1 →
      luma_from g l.luma_top g.luma_top_off g.luma_stride ≡ luma_pad_row g l r
  top-two-is r e a b v =
      rw e
      (luma-from 1 l.luma_top g.luma_top_off g.luma_stride
      (λ c. rw (a, b) (top-at (1 - g.ss_ver) {n = 0} c (omega arith) (omega arith)))
      (λ _ c. rw (a, b) (top-at 1 {n = 1} c refl (omega arith))))

-- the first row that is padded anew is above the unit only under a bit
pub saved_top : (g : Given) {r : ℕ} → first_row Chroma g ≤ r → r < 2 → top_integrated g.edges ≡ false → has_top g.edges ≡ true
saved_top g h k a = rw a at (above_saved Chroma g.edges (omega arith))
