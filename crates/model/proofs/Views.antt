-- What a filter sees: a list of padded rows, `around` which each sample is restored. A filter's sample over the flat rows of a ring is the one over the
-- list of its window's rows, and over the rows of the plane at the opening it is the definition's (the filters' laws: `Agree` of the crate laws).
use mathlib.Core.Path.{◌≡◌, sym, ◌∙◌, ap}
use mathlib.Core.List.{List, []}
use Prim.Native.Nat.{ℕ, ◌+◌, ◌*◌, ◌-◌, ◌≤◌, ◌<◌}
use native.Mathlib.Nat.{mul_comm}
use native.Mathlib.Omega.{arith}
use lib.Dec.{T}
use lib.IntN.{ℤ, pos, nat_abs, ◌+ℤ◌, ◌-ℤ◌, +ℤ_assoc, +ℤ_comm, +ℤ-neg_ℤ_cancel}
use lib.ListN.{get_or, drop, replicate, length-replicate}
use lib.Seq.{get_or-take, get_or-drop}
use lib.Signed.{non_neg, pos-nat_abs}
use Rattle.definition.specs.Limits.{width_limit}
use Rattle.definition.specs.declared.Operation.{Operation}
use Rattle.definition.specs.declared.Given.{Given}
use Rattle.definition.specs.Rows.{tab, flat_around, row_bytes, row_origin}
use Rattle.definition.specs.Units.{border, Lent, sample_at, around}
use Rattle.laws.proofs.Agree.{Agree}
use Rattle.laws.proofs.Ints.{abs_add, nonneg_add}
use Rattle.laws.proofs.Lists.{tab-at, get_or-tab, length_tab, sets_in}
use Rattle.history.proofs.Ring.{row_of}
use Rattle.model.proofs.Rows.{pad_row}

-- THE VIEW of a list of rows from byte col of its row `mid`
abbrev pub view_around : ℕ → List (List ℕ) → ℕ → ℤ → ℤ → ℕ
view_around mid rows col dy dx = get_or (get_or rows (nat_abs (pos mid +ℤ dy)) []) (nat_abs (pos col +ℤ dx)) 0

-- the place a tap leads to, from a place that has so many before it
pub place_high : (a : ℕ) (d : ℤ) (e : ℕ) → nat_abs d ≤ e → nat_abs (pos a +ℤ d) ≤ a + e
place_high a d e h = omega (arith, abs_add (pos a) d)

-- a window of a ring's flat rows, which stand from `first` on
pub flat_view : (first len mid n col : ℕ) (rows idx : List ℕ) (dy dx : ℤ) → nat_abs (pos mid +ℤ dy) < n → nat_abs (pos col +ℤ dx) < len →
    flat_around first len mid rows idx col dy dx ≡ view_around mid (tab n (λ j. row_of len (drop first rows) (get_or idx j 0))) col dy dx
flat_view first len mid n col rows idx dy dx h k =
    let j : ℕ = nat_abs (pos mid +ℤ dy) in
    let c : ℕ = nat_abs (pos col +ℤ dx) in
    let s : ℕ = get_or idx j 0 in
    let d : first + (s * len + c) ≡ first + len * s + c = omega (arith, mul_comm len s) in
    sym
    (ap (λ (r : List ℕ). get_or r c 0) (tab-at [] n (λ i. row_of len (drop first rows) (get_or idx i 0)) j h) ∙
    (get_or-take len (drop (s * len) (drop first rows)) c 0 k ∙
    (get_or-drop (s * len) (drop first rows) c 0 ∙ (get_or-drop first rows (s * len + c) 0 ∙ ap (λ (z : ℕ). get_or rows z 0) d))))

-- a number and what a tap that leads to no place before 0 leads to
pub back : (y e : ℕ) (d : ℤ) → T (non_neg (pos e +ℤ d)) → pos (y + nat_abs (pos e +ℤ d)) -ℤ pos e ≡ pos y +ℤ d
back y e d h =
    let n : pos (nat_abs (pos e +ℤ d)) ≡ d +ℤ pos e = pos-nat_abs (pos e +ℤ d) h ∙ +ℤ_comm (pos e) d in
    ap (λ (z : ℤ). pos y +ℤ z -ℤ pos e) n ∙ (ap (λ (z : ℤ). z -ℤ pos e) (sym (+ℤ_assoc (pos y) d (pos e))) ∙ +ℤ-neg_ℤ_cancel (pos y +ℤ d) (pos e))

pub place_split : (a x e : ℕ) (d : ℤ) → T (non_neg (pos e +ℤ d)) → e ≤ a → nat_abs (pos (a + x) +ℤ d) ≡ a - e + (x + nat_abs (pos e +ℤ d))
place_split a x e d h k =
    let m : a + x ≡ a - e + x + e = omega arith in
    let n : pos (a + x) +ℤ d ≡ pos (a - e + x + nat_abs (pos e +ℤ d)) =
    ap (λ (z : ℕ). pos z +ℤ d) m ∙ (+ℤ_assoc (pos (a - e + x)) (pos e) d ∙ ap (λ (z : ℤ). pos (a - e + x) +ℤ z) (sym (pos-nat_abs (pos e +ℤ d) h))) in
    ap nat_abs n ∙ omega arith

-- a byte of a padded row is the padded sample that stands there
module _ (op : Operation) (g : Given) (l : Lent) (p : List ℕ) (wide : g.w ≤ width_limit) (high : border op ≤ 4) where
  pad_byte : (R i : ℕ) → i < border op + g.w + border op →
      get_or (pad_row op g l p R) (row_origin - border op + i) 0 ≡ sample_at op g l p (pos R -ℤ pos (border op)) (pos i -ℤ pos (border op))
  unfolding pad_row
  pad_byte R i h =
      let f : ℕ → ℕ = λ j. sample_at op g l p (pos R -ℤ pos (border op)) (pos j -ℤ pos (border op)) in
      let n : ℕ = border op + g.w + border op in
      sets_in (tab n f) (replicate row_bytes 0) (row_origin - border op) i (rw (length_tab n f) h) (rw (length-replicate {A = ℕ} row_bytes 0) (omega arith)) ∙ get_or-tab n f i h

  -- THE DEFINITION'S VIEW of sample (y, x): the n rows that are padded from row y - e on
  pub row_view : (n y x : ℕ) (dy dx : ℤ) → T (non_neg (pos (border op) +ℤ dy)) → nat_abs (pos (border op) +ℤ dy) < n → T (non_neg (pos (border op) +ℤ dx)) →
      x + nat_abs (pos (border op) +ℤ dx) < border op + g.w + border op →
      view_around (border op) (tab n (λ j. pad_row op g l p (y + j))) (row_origin + x) dy dx ≡ around op g l p y x dy dx
  row_view n y x dy dx ny lj nx li =
      let e : ℕ = border op in
      let j : ℕ = nat_abs (pos e +ℤ dy) in
      let c : nat_abs (pos (row_origin + x) +ℤ dx) ≡ row_origin - e + (x + nat_abs (pos e +ℤ dx)) = place_split row_origin x e dx nx (omega arith) in
      ap (λ (r : List ℕ). get_or r (nat_abs (pos (row_origin + x) +ℤ dx)) 0) (tab-at [] n (λ k. pad_row op g l p (y + k)) j lj) ∙
      (ap (λ (m : ℕ). get_or (pad_row op g l p (y + j)) m 0) c ∙
      (pad_byte (y + j) (x + nat_abs (pos e +ℤ dx)) li ∙ (λ t. sample_at op g l p (back y e dy ny t) (back x e dx nx t))))

  -- within the border
  pub pad_view : (y x : ℕ) → x < g.w →
      Agree (border op) (view_around (border op) (tab (border op + border op + 1) (λ j. pad_row op g l p (y + j))) (row_origin + x)) (around op g l p y x)
  pad_view y x hx dy dx ny nx =
      let lj = place_high (border op) dy (border op) ny in
      let li = place_high (border op) dx (border op) nx in
      row_view (border op + border op + 1) y x dy dx (nonneg_add (border op) dy ny) (omega arith) (nonneg_add (border op) dx nx) (omega arith)
