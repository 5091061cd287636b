-- A ring of padded rows: rows in one flat list, reached by row indices, the newest put into the next slot.
use mathlib.Core.Path.{◌≡◌, refl, sym, ◌∙◌, ap}
use mathlib.Core.Bool.{Bool, true, false, cond}
use mathlib.Core.List.{List, [], ◌∷◌, ◌++◌}
use mathlib.Core.Logic.{◌≢◌}
use Prim.Native.Nat.{ℕ, zero, suc, ◌+◌, ◌*◌, ◌-◌, ◌/◌, ◌%◌, ◌≤◌, ◌<◌, zero-le}
use native.Mathlib.Nat.{mul-le-mul_right, suc-mul, mod-lt, div-add-mod'}
use native.Mathlib.Decide.{dec_lt, ℕ_discrete}
use native.Mathlib.Numerals.{add-one}
use native.Mathlib.Omega.{arith}
use lib.ListN.{length, get_or, set, take, drop, length-set, length-take, length-drop}
use lib.Seq.{get_or-set_same, get_or-set_other, sets, length-sets, set_out, ext_get_or, get_or-take, get_or-drop}
use lib.Arith.{digits_mod}
use lib.Dec.{eqb}
use borrow.Author.Tests.{eq-eqb, ne_eqb}
use Rattle.laws.proofs.Lists.{sets_in, sets_before, sets_behind}

-- row s of the rows of len elements that lie one after another in l
abbrev pub row_of : ℕ → List ℕ → ℕ → List ℕ
row_of len l s = take len (drop (s * len) l)

-- rows do not overlap
pub rows_apart : (len s t : ℕ) → s < t → s * len + len ≤ t * len
rows_apart len s t h = let e : suc s * len ≤ t * len = mul-le-mul_right len h in omega (arith, suc-mul s len)

pub row_same : (len s : ℕ) (l row : List ℕ) → s * len + len ≤ length l → length row ≡ len → row_of len (sets l (s * len) row) s ≡ row
row_same len s l row fits size =
    ext_get_or 0 _ _
    (simp (length-take, length-drop, length-sets) (omega arith))
    (λ i h.
    let hi : i < len = omega (arith, simp (length-take, length-drop, length-sets) at h) in
    rw (get_or-take len (drop (s * len) (sets l (s * len) row)) i 0 hi, get_or-drop)
    (sets_in row l (s * len) i (omega arith) (omega arith)))

pub row_other : (len s t : ℕ) (l row : List ℕ) → length row ≡ len → s ≢ t → row_of len (sets l (s * len) row) t ≡ row_of len l t
row_other len s t l row size ne =
    ext_get_or 0 _ _
    (simp (length-take, length-drop, length-sets))
    (λ i h.
    let hi : i < len = omega (arith, simp (length-take, length-drop, length-sets) at h) in
    rw (get_or-take len (drop (t * len) (sets l (s * len) row)) i 0 hi, get_or-take len (drop (t * len) l) i 0 hi, get_or-drop, get_or-drop)
    (elim (dec_lt s t) [
      | yes lt ↦ sets_behind row l (s * len) (t * len + i) (omega (arith, rows_apart len s t lt))
      | no ge ↦ sets_before row l (s * len) (t * len + i) (omega (arith, rows_apart len t s (omega arith)))
    ]))

-- every element is at most b, also where one at most b is put in
pub set_low : (l : List ℕ) (i v b : ℕ) → v ≤ b → ((j : ℕ) → get_or l j 0 ≤ b) → (j : ℕ) → get_or (set l i v) j 0 ≤ b
set_low l i v b h a j =
    elim (ℕ_discrete j i) [
      | no ne ↦ rw (get_or-set_other l i j v 0 ne) (a j)
      | yes e ↦
          elim (dec_lt i (length l)) [
            | yes lt ↦ rw (e, get_or-set_same l i v 0 lt) h
            | no ge ↦ rw (set_out l i v (omega arith)) (a j)
          ]
    ]

pub append_low : (l r : List ℕ) (b : ℕ) → ((j : ℕ) → get_or l j 0 ≤ b) → ((j : ℕ) → get_or r j 0 ≤ b) → (j : ℕ) → get_or (l ++ r) j 0 ≤ b
append_low [] r b f g j = g j
append_low (x ∷ l) r b f g zero = f zero
append_low (x ∷ l) r b f g (suc j) = append_low l r b (λ i. f (suc i)) g j

-- the elements 1 up to n, each one place down: what a loop of stores l[j] = l[j + 1] leaves
abbrev pub slid : ℕ → List ℕ → List ℕ
slid zero l = l
slid (suc n) l = set (slid n l) n (get_or (slid n l) (suc n) 0)

pub slid_length : (n : ℕ) (l : List ℕ) → length (slid n l) ≡ length l
slid_length zero l = refl
slid_length (suc n) l = rw length-set (slid_length n l)

slid-above : (n j : ℕ) (l : List ℕ) → n ≤ j → get_or (slid n l) j 0 ≡ get_or l j 0
slid-above zero j l h = refl
slid-above (suc n) j l h = get_or-set_other (slid n l) n j _ 0 (omega arith) ∙ slid-above n j l (omega arith)

pub slid_at : (n j : ℕ) (l : List ℕ) → n ≤ length l → j < n → get_or (slid n l) j 0 ≡ get_or l (suc j) 0
slid_at zero j l hl hj = absurd (omega arith)
slid_at (suc n) j l hl hj =
    elim (dec_lt j n) [
      | yes lt ↦ get_or-set_other (slid n l) n j _ 0 (omega arith) ∙ slid_at n j l (omega arith) lt
      | no ge ↦
          let e : j ≡ n = omega arith in
          rw e (get_or-set_same (slid n l) n _ 0 (rw (slid_length n l) hl) ∙ slid-above n (suc n) l (omega arith))
    ]

pub slid-low : (n b : ℕ) (l : List ℕ) → ((j : ℕ) → get_or l j 0 ≤ b) → (j : ℕ) → get_or (slid n l) j 0 ≤ b
slid-low zero b l f j = f j
slid-low (suc n) b l f j = set_low (slid n l) n _ b (slid-low n b l f (suc n)) (slid-low n b l f) j

pub record Ring : Type 0 where
  pub slots : List ℕ
  pub idx : List ℕ
  pub next : ℕ

-- the slot after s, of n
abbrev pub wrap : ℕ → ℕ → ℕ
wrap n s = cond (eqb (s + 1) n) 0 (s + 1)

-- the slots of rows, one after another
pub slots_wrap : (n a : ℕ) → 0 < n → (a + 1) % n ≡ wrap n (a % n)
slots_wrap n a h =
    let lt : a % n < n = mod-lt a h in
    let e : a / n * n + a % n ≡ a = div-add-mod' a n in
    elim (ℕ_discrete (a % n + 1) n) [
      | yes q ↦
          let d : a + 1 ≡ suc (a / n) * n + 0 = omega (arith, suc-mul (a / n) n) in
          rw (eq-eqb (a % n + 1) n q) (ap (λ (x : ℕ). x % n) d ∙ digits_mod (suc (a / n)) h)
      | no ne ↦
          let d : a + 1 ≡ a / n * n + (a % n + 1) = omega arith in
          rw (ne_eqb (a % n + 1) n ne) (ap (λ (x : ℕ). x % n) d ∙ digits_mod (a / n) (omega arith))
    ]

pub wrap-low : (n s : ℕ) → s ≤ n → wrap (n + 1) s ≤ n
wrap-low n s h =
    elim (ℕ_discrete (s + 1) (n + 1)) [
      | yes e ↦ rw (eq-eqb (s + 1) (n + 1) e) zero-le
      | no ne ↦ rw (ne_eqb (s + 1) (n + 1) ne) (omega arith)
    ]

-- the newest row, the m-th of the window: put into the next slot, or the row before it again
abbrev pub fetch : ℕ → ℕ → Bool → List ℕ → Ring → Ring
fetch len m true row g = record { slots = sets g.slots (g.next * len) row; idx = set g.idx m g.next; next = wrap (m + 1) g.next }
fetch len m false row g = record { slots = g.slots; idx = set g.idx m (get_or g.idx (m - 1) 0); next = wrap (m + 1) g.next }

-- it changes no length, and no index beyond a bound that the next slot keeps
module _ (len m : ℕ) (b : Bool) (row : List ℕ) (g : Ring) where
  pub fetch-next : (fetch len m b row g).next ≡ wrap (m + 1) g.next
  fetch-next = by b
    where
      by : (c : Bool) → (fetch len m c row g).next ≡ wrap (m + 1) g.next
      by true = refl
      by false = refl

  pub fetch-next-low : g.next ≤ m → (fetch len m b row g).next ≤ m
  fetch-next-low h = rw fetch-next (wrap-low m g.next h)

  pub fetch-low : (top : ℕ) → g.next ≤ top → ((j : ℕ) → get_or g.idx j 0 ≤ top) → (j : ℕ) → get_or (fetch len m b row g).idx j 0 ≤ top
  fetch-low top h a = by b
    where
      by : (c : Bool) (j : ℕ) → get_or (fetch len m c row g).idx j 0 ≤ top
      by true = set_low g.idx m g.next top h a
      by false = set_low g.idx m (get_or g.idx (m - 1) 0) top (a (m - 1)) a

  pub fetch_sizes : (length (fetch len m b row g).slots ≡ length g.slots) × (length (fetch len m b row g).idx ≡ length g.idx)
  fetch_sizes = by b
    where
      by : (c : Bool) → (length (fetch len m c row g).slots ≡ length g.slots) × (length (fetch len m c row g).idx ≡ length g.idx)
      by true = (length-sets g.slots (g.next * len) row, length-set g.idx m g.next)
      by false = (refl, length-set g.idx m (get_or g.idx (m - 1) 0))

-- the row is read only where it has a slot of its own
pub fetch-same : (len m : ℕ) (b : Bool) (r t : List ℕ) (g : Ring) → (b ≡ true → r ≡ t) → fetch len m b r g ≡ fetch len m b t g
fetch-same len m true r t g e = rw (e refl)
fetch-same len m false r t g e = refl

-- each of the first m indices takes the place of the one before it
abbrev pub shift : ℕ → Ring → Ring
shift m g = record { slots = g.slots; idx = slid m g.idx; next = g.next }

-- row j of the window
abbrev pub window : ℕ → Ring → ℕ → List ℕ
window len g j = row_of len g.slots (get_or g.idx j 0)

-- The rows to be held: pad R, of which row src R is the first that is alike and has a slot of its own. No index is over `top`.
module _ (len m top h : ℕ) (slot src : ℕ → ℕ) (own : ℕ → Bool) (pad : ℕ → List ℕ) where
  pub record Rule : Type 0 where
    pub some : 0 < m
    pub tops : m ≤ top
    pub low : (a : ℕ) → slot a ≤ m
    pub apart : (a b : ℕ) → a < b → b < a + m + 1 → slot a ≢ slot b
    pub wraps : (a : ℕ) → slot (a + 1) ≡ wrap (m + 1) (slot a)
    pub within : (k R : ℕ) → k < h → k ≤ R → R < k + m → (k ≤ src R) × (src R < k + m)
    pub owned : (k : ℕ) → k < h → own (k + m) ≡ true → src (k + m) ≡ k + m
    pub again : (k : ℕ) → k < h → own (k + m) ≡ false → (src (k + m) ≡ src (k + (m - 1))) × (pad (k + m) ≡ pad (k + (m - 1)))
    pub size : (R : ℕ) → length (pad R) ≡ len

  -- the first n rows of the window are held
  pub record Holds (k n : ℕ) (g : Ring) : Type 0 where
    pub count : m < length g.idx
    pub room : (m + 1) * len ≤ length g.slots
    pub bounded : (j : ℕ) → get_or g.idx j 0 ≤ top
    pub index : (j : ℕ) → j < n → get_or g.idx j 0 ≡ slot (src (k + j))
    pub held : (j : ℕ) → j < n → row_of len g.slots (slot (src (k + j))) ≡ pad (k + j)

  pub record RingAt (k : ℕ) (g : Ring) : Type 0 where
    pub next : g.next ≡ slot (k + m)
    pub holds : Holds k m g

  module _ (r : Rule) where
    pub fetched : (k : ℕ) (g : Ring) (b : Bool) (row : List ℕ) → k < h → RingAt k g → own (k + m) ≡ b → (b ≡ true → row ≡ pad (k + m)) → Holds k (m + 1) (fetch len m b row g)
    fetched k g true row hk a o e =
        let at : g.next ≡ slot (k + m) = a.next in
        let sz : length row ≡ len = rw (e refl) (r.size (k + m)) in
        let lo : g.next ≤ m = rw at (r.low (k + m)) in
        let fits : g.next * len + len ≤ length g.slots = omega (arith, rows_apart len g.next (m + 1) (omega arith), a.holds.room) in
        record {
          count = rw length-set a.holds.count;
          room = rw length-sets a.holds.room;
          bounded = set_low g.idx m g.next top (omega (arith, r.tops)) a.holds.bounded;
          index = λ j hj.
              elim (dec_lt j m) [
                | yes lt ↦ get_or-set_other g.idx m j g.next 0 (omega arith) ∙ a.holds.index j lt
                | no ge ↦
                    let d : j ≡ m = omega arith in
                    rw (d, r.owned k hk o) (get_or-set_same g.idx m g.next 0 a.holds.count ∙ at)
              ];
          held = λ j hj.
              elim (dec_lt j m) [
                | yes lt ↦
                    let w = r.within k (k + j) hk (omega arith) (omega arith) in
                    row_other len g.next (slot (src (k + j))) g.slots row sz
                    (λ q. r.apart (src (k + j)) (k + m) w.1 (omega (arith, w.0)) (sym (sym at ∙ q))) ∙
                    a.holds.held j lt
                | no ge ↦
                    let d : j ≡ m = omega arith in
                    rw (d, r.owned k hk o, ← at) (row_same len g.next g.slots row fits sz ∙ e refl)
              ];
        }
    fetched k g false row hk a o e =
        let t = r.again k hk o in
        let lt : m - 1 < m = omega (arith, r.some) in
        record {
          count = rw length-set a.holds.count;
          room = a.holds.room;
          bounded = set_low g.idx m _ top (a.holds.bounded (m - 1)) a.holds.bounded;
          index = λ j hj.
              elim (dec_lt j m) [
                | yes lt ↦ get_or-set_other g.idx m j _ 0 (omega arith) ∙ a.holds.index j lt
                | no ge ↦
                    let d : j ≡ m = omega arith in
                    rw (d, t.0) (get_or-set_same g.idx m _ 0 a.holds.count ∙ a.holds.index (m - 1) lt)
              ];
          held = λ j hj.
              elim (dec_lt j m) [
                | yes lt ↦ a.holds.held j lt
                | no ge ↦
                    let d : j ≡ m = omega arith in
                    rw (d, t.0, t.1) (a.holds.held (m - 1) lt)
              ];
        }

    pub shifted : (k : ℕ) (g : Ring) → Holds k (m + 1) g → g.next ≡ slot (k + 1 + m) → RingAt (k + 1) (shift m g)
    shifted k g a n =
        record {
          next = n;
          holds =
              record {
                count = rw (slid_length m g.idx) a.count;
                room = a.room;
                bounded = slid-low m top g.idx a.bounded;
                index = λ j hj. slid_at m j g.idx (omega (arith, a.count)) hj ∙ rw (← add-one j, moved j) (a.index (j + 1) (omega arith));
                held = λ j hj. rw (moved j) (a.held (j + 1) (omega arith));
              };
        }
      where
        moved : (j : ℕ) → k + 1 + j ≡ k + (j + 1)
        moved j = omega arith

    pub window-held : (k n : ℕ) (g : Ring) → Holds k n g → (j : ℕ) → j < n → window len g j ≡ pad (k + j)
    window-held k n g a j hj = rw (a.index j hj) (a.held j hj)

    -- one row further
    pub onward : (k : ℕ) (g : Ring) (b : Bool) (row : List ℕ) → k < h → RingAt k g → own (k + m) ≡ b → (b ≡ true → row ≡ pad (k + m)) → RingAt (k + 1) (shift m (fetch len m b row g))
    onward k g b row hk a o e =
        let d : k + 1 + m ≡ k + m + 1 = omega arith in
        shifted k (fetch len m b row g) (fetched k g b row hk a o e) (fetch-next len m b row g ∙ rw (d, r.wraps (k + m), a.next))
