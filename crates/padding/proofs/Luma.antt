-- The luma row of a chroma unit: the columns that are lent, then the borders that repeat, are one row of padded columns.
use mathlib.Core.Path.{◌≡◌, refl, sym, ap, ◌∙◌}
use mathlib.Core.Bool.{Bool, true, false, cond, ◌&&◌}
use mathlib.Core.List.{List, [], ◌∷◌}
use Prim.Native.Nat.{ℕ, zero, suc, ◌+◌, ◌-◌, ◌%◌, ◌≤◌, ◌<◌}
use native.Mathlib.Decide.{dec_lt, ℕ_discrete}
use native.Mathlib.Omega.{arith}
use lib.Dec.{eqb}
use lib.IntN.{ℤ, pos, negsuc, ◌+ℤ◌, ◌-ℤ◌, +ℤ_assoc, +ℤ_comm}
use lib.ListN.{length, get_or, set, take, drop}
use lib.Seq.{sets, set_comm, get_or-take, get_or-drop}
use borrow.Author.Tests.{lt-ltb, le-ltb, eq-eqb, ne_eqb}
use Rattle.definition.specs.Rows.{tab}
use Rattle.definition.specs.Padding.{row_at, padded, mixed, even_only}
use Rattle.definition.specs.Refusals.{beside}
use Rattle.laws.proofs.Ints.{never, sub_pos, sub_neg}
use Rattle.laws.proofs.Lists.{tab_cong, length_tab, get_or-tab, sets_run, sets_before, sets_behind, sets_in}
use Rattle.definition.specs.Leaves.{lower_at}
use Rattle.padding.specs.Steps.{columns, repeated}
use Rattle.padding.proofs.Around.{same_byte, row-column}
use Rattle.padding.proofs.Filled.{unmasked}
use Rattle.padding.proofs.Columns.{lower_even}

-- two stretches that do not meet may be written in either order
set_past : (xs l : List ℕ) (a b y : ℕ) → a + length xs ≤ b → sets (set l b y) a xs ≡ set (sets l a xs) b y
set_past [] l a b y h = refl
set_past (x ∷ xs) l a b y h = rw (set_comm l b a y x (λ q. omega arith)) (set_past xs (set l a x) (suc a) b y (omega arith))

sets_swap : (ys xs l : List ℕ) (a b : ℕ) → a + length xs ≤ b → sets (sets l b ys) a xs ≡ sets (sets l a xs) b ys
sets_swap [] xs l a b h = refl
sets_swap (y ∷ ys) xs l a b h = sets_swap ys xs (set l b y) a (suc b) (omega arith) ∙ rw (set_past xs l a b y h)

-- a column that is filled, and one that is counted another way
pub same-filled : (b : Bool) (x y X Y P Q : ℕ) → (b ≡ true → x % 2 ≡ y % 2) → X ≡ Y → ((b ≡ true → x % 2 ≡ 0) → P ≡ Q) →
    cond (b && eqb (x % 2) 1) X P ≡ cond (b && eqb (y % 2) 1) Y Q
same-filled true x y X Y P Q m p f =
    let e = m refl in
    elim (ℕ_discrete (x % 2) 1) [
      | yes q ↦ rw (eq-eqb (x % 2) 1 q, eq-eqb (y % 2) 1 (omega arith)) p
      | no n ↦ rw (ne_eqb (x % 2) 1 n, ne_eqb (y % 2) 1 (λ q. n (omega arith))) (f (λ _. omega arith))
    ]
same-filled false x y X Y P Q m p f = f (λ e. absurd (never e))

-- what stands at a column is the same for rows that agree where they are looked at
mixed-same : (v k s : ℕ) (u l u' l' : ℤ → ℕ) (c c' : ℤ) → u c ≡ u' c' → (lower_at v k s ≡ s → l c ≡ l' c') →
    (even_only v k ≡ true → (u (c +ℤ pos 1) ≡ u' (c' +ℤ pos 1)) × (l (c +ℤ pos 1) ≡ l' (c' +ℤ pos 1))) → mixed v k u l c ≡ mixed v k u' l' c'
mixed-same zero k s u l u' l' c c' p q r = p
mixed-same (suc v) zero s u l u' l' c c' p q r = rw (p, q refl, (r refl).0, (r refl).1)
mixed-same (suc v) (suc zero) s u l u' l' c c' p q r = rw (p, q refl)
mixed-same (suc v) (suc (suc k)) s u l u' l' c c' p q r = p

next : (a b : ℤ) → a +ℤ b +ℤ pos 1 ≡ a +ℤ pos 1 +ℤ b
next a b = +ℤ_assoc a b (pos 1) ∙ ap (λ (z : ℤ). a +ℤ z) (+ℤ_comm b (pos 1)) ∙ sym (+ℤ_assoc a (pos 1) b)

-- a column whose sample is lent is not repeated
padded-lent : (L R : Bool) (w last : ℕ) (f : ℤ → ℕ) (p : ℕ) → (p < 4 → L ≡ true) → (4 + w ≤ p → R ≡ true) → padded L R w last f (pos p -ℤ pos 4) ≡ f (pos p -ℤ pos 4)
padded-lent L R w last f p l r =
    elim (dec_lt p 4) [
      | yes h ↦ rw (sub_neg p 4 h, l h)
      | no h ↦
          elim (dec_lt (p - 4) w) [
            | yes g ↦ rw (sub_pos p 4 (omega arith), lt-ltb (p - 4) w g)
            | no g ↦ rw (sub_pos p 4 (omega arith), le-ltb (p - 4) w (omega arith), r (omega arith))
          ]
    ]

-- a side of the row: four columns that are lent, or none
pub record Side (b : Bool) (n : ℕ) : Type 0 where
  pub is : n ≡ beside b 4
  pub small : n ≤ 4
  pub even : n % 2 ≡ 0
  pub lent : 0 < n → b ≡ true
  pub full : 0 < n → n ≡ 4
  pub none : n ≡ 0 → b ≡ false

side : (b : Bool) → Side b (beside b 4)
side true = record { is = refl; small = omega arith; even = refl; lent = λ _. refl; full = λ _. refl; none = λ e. absurd (omega arith) }
side false = record { is = refl; small = omega arith; even = refl; lent = λ h. absurd (omega arith); full = λ h. omega arith; none = λ _. refl }

-- as the code finds it
pub side_of : (b c : Bool) (n : ℕ) → c ≡ b → n ≡ beside c 4 → Side b n
side_of b c n p q = rw (q, p) (side b)

two_runs : (l : List ℕ) (a b n m : ℕ) (f : ℕ → ℕ) → b ≡ a + n → sets (sets l a (tab n f)) b (tab m (λ i. f (n + i))) ≡ sets l a (tab (n + m) f)
two_runs l a b n m f e = rw e (sets_run m n l a f)

module _ (dst src : List ℕ) (o src_o stride w last v k left right : ℕ) (L R : Bool) (sl : Side L left) (sr : Side R right)
    (front : 4 ≤ o) (room : o + w + 4 ≤ length dst) (in_last : last < w) (before : left ≤ src_o)
    (evens : even_only v k ≡ true → (w % 2 ≡ 0) × (last % 2 ≡ 0)) where
  -- the columns that are lent, in the part of the list that holds them, and in the list
  abbrev count : ℕ
  count = left + w + right

  abbrev lower : ℕ
  lower = lower_at v k stride

  abbrev part : List ℕ
  part = take (count + lower) (drop (src_o - left) src)

  abbrev part_at : ℕ → ℕ
  part_at i = mixed v k (row_at part (pos 0)) (row_at part (pos lower)) (pos i)

  abbrev sample : ℤ → ℕ
  sample = mixed v k (row_at src (pos src_o)) (row_at src (pos (src_o + stride)))

  abbrev byte : ℕ → ℕ
  byte j = cond (even_only v k && eqb (j % 2) 1) (get_or dst (o - 4 + j) 0) (padded L R w last sample (pos j -ℤ pos 4))

  look : (t x p : ℕ) → x < count + lower → 4 ≤ t + p → src_o - left + x ≡ t + p - 4 → get_or part x 0 ≡ row_at src (pos t) (pos p -ℤ pos 4)
  look t x p h g e =
      get_or-take (count + lower) (drop (src_o - left) src) x 0 h ∙ get_or-drop (src_o - left) src x 0 ∙ same_byte src (src_o - left + x) (t + p - 4) e ∙
      sym (row-column src t p 4 g)

  lent_at : (i : ℕ) → i < count → (even_only v k ≡ true → i % 2 ≡ 0) → part_at i ≡ sample (pos (4 - left + i) -ℤ pos 4)
  lent_at i h ev =
      let p : ℕ = 4 - left + i in
      mixed-same v k stride (row_at part (pos 0)) (row_at part (pos lower)) (row_at src (pos src_o)) (row_at src (pos (src_o + stride))) (pos i) (pos p -ℤ pos 4)
      (look src_o (0 + i) p (omega arith) (omega arith) (omega arith))
      (λ e. look (src_o + stride) (lower + i) p (omega arith) (omega arith) (omega arith))
      (λ e.
      let l = lower_even v k stride e in
      let a = evens e in
      let b = ev e in (
        look src_o (0 + (i + 1)) (p + 1) (omega arith) (omega arith) (omega arith) ∙ sym (ap (row_at src (pos src_o)) (next (pos p) (negsuc 3))),
        look (src_o + stride) (lower + (i + 1)) (p + 1) (omega arith) (omega arith) (omega arith) ∙ sym (ap (row_at src (pos (src_o + stride))) (next (pos p) (negsuc 3))),
      ))

  lent-columns : columns dst (o - left) count v k part_at ≡ sets dst (o - left) (tab count (λ i. byte (4 - left + i)))
  lent-columns =
      ap (sets dst (o - left))
      (tab_cong count _ (λ i. byte (4 - left + i))
      (λ i h.
      let p : ℕ = 4 - left + i in
      same-filled (even_only v k) i p (get_or dst (o - left + i) 0) (get_or dst (o - 4 + p) 0) (part_at i) (padded L R w last sample (pos p -ℤ pos 4))
      (λ _. omega arith)
      (same_byte dst (o - left + i) (o - 4 + p) (omega arith))
      (λ ev. lent_at i h ev ∙ sym (padded-lent L R w last sample p (λ g. sl.lent (omega arith)) (λ g. sr.lent (omega arith))))))

  -- the first sample, where none are lent before it
  first_byte : byte 4 ≡ sample (pos 0)
  first_byte = unmasked (even_only v k) 4 (get_or dst (o - 4 + 4) 0) (padded L R w last sample (pos 0)) (λ _. refl) ∙ rw (lt-ltb 0 w (omega arith))

  abbrev from_first : ℕ → List ℕ
  from_first m = sets dst o (tab m (λ i. byte (4 + i)))

  repeat_first : (m : ℕ) → 0 < m → L ≡ false → repeated (from_first m) (o - 4) (get_or (from_first m) o 0) v k ≡ sets dst (o - 4) (tab (4 + m) byte)
  repeat_first m some off =
      let ys : List ℕ = tab m (λ i. byte (4 + i)) in
      let z : get_or (from_first m) o 0 ≡ sample (pos 0) =
      same_byte (from_first m) o (o + 0) (omega arith) ∙ sets_in ys dst o 0 (rw (length_tab m (λ i. byte (4 + i))) some) (omega arith) ∙ get_or-tab m (λ i. byte (4 + i)) 0 some ∙ first_byte in
      ap (sets (from_first m) (o - 4))
      (tab_cong 4 _ byte
      (λ i h.
      same-filled (even_only v k) i i (get_or (from_first m) (o - 4 + i) 0) (get_or dst (o - 4 + i) 0) (get_or (from_first m) o 0) (padded L R w last sample (pos i -ℤ pos 4))
      (λ _. refl)
      (sets_before ys dst o (o - 4 + i) (omega arith))
      (λ _. z ∙ rw (sub_neg i 4 h, off)))) ∙
      sets_swap ys (tab 4 byte) dst (o - 4) o (omega arith) ∙
      two_runs dst (o - 4) o 4 m byte (omega arith)

  -- the last column that is sampled, where none are lent behind it
  last_byte : byte (4 + last) ≡ sample (pos last)
  last_byte =
      let d : 4 + last - 4 ≡ last = omega arith in
      unmasked (even_only v k) (4 + last) (get_or dst (o - 4 + (4 + last)) 0) (padded L R w last sample (pos (4 + last) -ℤ pos 4)) (λ e. let q = evens e in omega arith) ∙
      rw (sub_pos (4 + last) 4 (omega arith), d, lt-ltb last w in_last)

  abbrev up_to : ℕ → List ℕ
  up_to n = sets dst (o - 4) (tab n byte)

  repeat_last : R ≡ false → repeated (up_to (4 + w)) (o + w) (get_or (up_to (4 + w)) (o + last) 0) v k ≡ up_to (4 + w + 4)
  repeat_last off =
      let d : List ℕ = up_to (4 + w) in
      let n : length (tab (4 + w) byte) ≡ 4 + w = length_tab (4 + w) byte in
      let z : get_or (up_to (4 + w)) (o + last) 0 ≡ sample (pos last) =
      same_byte (up_to (4 + w)) (o + last) (o - 4 + (4 + last)) (omega arith) ∙ sets_in (tab (4 + w) byte) dst (o - 4) (4 + last) (omega arith) (omega arith) ∙
      get_or-tab (4 + w) byte (4 + last) (omega arith) ∙ last_byte in
      ap (sets (up_to (4 + w)) (o + w))
      (tab_cong 4 _ (λ i. byte (4 + w + i))
      (λ i h.
      let e : 4 + w + i - 4 ≡ w + i = omega arith in
      same-filled (even_only v k) i (4 + w + i) (get_or (up_to (4 + w)) (o + w + i) 0) (get_or dst (o - 4 + (4 + w + i)) 0) (get_or (up_to (4 + w)) (o + last) 0) (padded L R w last sample (pos (4 + w + i) -ℤ pos 4))
      (λ ev. let q = evens ev in omega arith)
      (sets_behind (tab (4 + w) byte) dst (o - 4) (o + w + i) (omega arith) ∙ same_byte dst (o + w + i) (o - 4 + (4 + w + i)) (omega arith))
      (λ _. z ∙ rw (sub_pos (4 + w + i) 4 (omega arith), e, le-ltb (w + i) w (omega arith), off)))) ∙
      two_runs dst (o - 4) (o + w) (4 + w) 4 byte (omega arith)

  -- both borders, repeated or lent
  abbrev before_row : List ℕ → List ℕ
  before_row d = cond (eqb left 0) (repeated d (o - 4) (get_or d o 0) v k) d

  abbrev behind_row : List ℕ → List ℕ
  behind_row d = cond (eqb right 0) (repeated d (o + w) (get_or d (o + last) 0) v k) d

  before-row : before_row (sets dst (o - left) (tab count (λ i. byte (4 - left + i)))) ≡ up_to (4 + w + right)
  before-row =
      elim (ℕ_discrete left 0) [
        | yes q ↦
            let a : o - 0 ≡ o = omega arith in
            let b : 0 + w + right ≡ w + right = omega arith in
            let d : 4 + w + right ≡ 4 + (w + right) = omega arith in
            rw (q, a, b, d) (repeat_first (w + right) (omega arith) (sl.none q))
        | no n ↦
            let q : left ≡ 4 = sl.full (omega arith) in
            rw (ne_eqb left 0 n, q) (ap (sets dst (o - 4)) (tab_cong (4 + w + right) (λ i. byte (0 + i)) byte (λ i h. let e : 0 + i ≡ i = omega arith in ap byte e)))
      ]

  behind-row : behind_row (up_to (4 + w + right)) ≡ up_to (4 + w + 4)
  behind-row =
      elim (ℕ_discrete right 0) [
        | yes q ↦
            let a : 4 + w + 0 ≡ 4 + w = omega arith in
            rw (q, a) (repeat_last (sr.none q))
        | no n ↦
            let q : right ≡ 4 = sr.full (omega arith) in
            rw (ne_eqb right 0 n, q)
      ]

  luma-written : behind_row (before_row (columns dst (o - left) count v k part_at)) ≡ up_to (4 + w + 4)
  luma-written = rw (lent-columns, before-row) behind-row

  -- the same, as the calls leave it
  pub luma-done : (row d₁ d₂ d₃ : List ℕ) (low end : ℕ) → row ≡ take (count + low) (drop (src_o - left) src) → low ≡ lower → end ≡ last →
      d₁ ≡ columns dst (o - left) count v k (λ i. mixed v k (row_at row (pos 0)) (row_at row (pos low)) (pos i)) → d₂ ≡ before_row d₁ →
      d₃ ≡ cond (eqb right 0) (repeated d₂ (o + w) (get_or d₂ (o + end) 0) v k) d₂ → d₃ ≡ up_to (4 + w + 4)
  luma-done row d₁ d₂ d₃ low end r l e h₁ h₂ h₃ = rw (h₃, h₂, h₁, r, l, e) luma-written
