-- Luma that is gathered at chroma's resolution: the taps of the gathered rows are those of luma's own.
use mathlib.Core.Path.{◌≡◌, ap, ◌∙◌}
use mathlib.Core.List.{List}
use Prim.Native.Nat.{ℕ, suc, ◌+◌, ◌-◌, ◌*◌, ◌≤◌, ◌<◌}
use native.Mathlib.Omega.{arith}
use native.Mathlib.Nat.{mul_comm, add-mul, mul-zero, mul-le-mul, le_refl}
use native.Mathlib.Decide.{ℕ_discrete}
use lib.IntN.{ℤ, pos, negsuc, nat_abs, ◌+ℤ◌, ◌-ℤ◌, ◌*ℤ◌}
use lib.ListN.{length, get_or}
use lib.Seq.{sets}
use Rattle.definition.specs.Numbers.{sum_z}
use Rattle.definition.specs.Rows.{tab, chroma_flat, chroma_luma_flat, row_bytes, luma_row_bytes, luma_rows_at}
use Rattle.definition.specs.Sample.{limit8, rounded, dy_of, dx_of, centre, ns_tap, luma_tap, chroma_sum, chroma_sample, ns_config_uv, ns_config_uv_from_y}
use Rattle.laws.proofs.Ints.{before_pos, sub_pos}
use Rattle.laws.proofs.Lists.{sets_before, sets_in, length_tab, get_or-tab, tab_cong}
use Rattle.laws.proofs.Tables.{near-at}
use Rattle.definition.specs.Leaves.{coefficients}
use Rattle.filter.specs.Gathered.{Gathered, every, compact_at, compact_tap, compact_sum, compact_run, compact_bytes, compact_size}

-- dy rows from the third of five, and from the eighth of ten indices
row-place : (dy : ℤ) → nat_abs dy ≤ 2 → (nat_abs (pos 2 +ℤ dy) < 5) × (5 + nat_abs (pos 2 +ℤ dy) ≡ nat_abs (pos 7 +ℤ dy))
row-place (pos a) h = (omega arith, omega arith)
row-place (negsuc a) h = rw (before_pos 2 a (omega arith), before_pos 7 a (omega arith)) (omega arith, omega arith)

-- dx columns from column x + 2, and `step` times as many from the luma of sample x
column-place : (lcol0 first step n x : ℕ) (dx : ℤ) → first + 2 * step ≡ lcol0 → x < n → nat_abs dx ≤ 2 →
    (nat_abs (pos (x + 2) +ℤ dx) < n + 4) × (first + nat_abs (pos (x + 2) +ℤ dx) * step ≡ nat_abs (pos (lcol0 + x * step) +ℤ pos step *ℤ dx))
column-place lcol0 first step n x (pos b) e l h = (omega arith, omega (arith, add-mul (x + 2) b step, add-mul x 2 step, mul_comm step b))
column-place lcol0 first step n x (negsuc b) e l h =
    let j : ℕ = x + 2 - suc b in
    let j-is : j + suc b ≡ x + 2 = omega arith in
    let whole : j * step + suc b * step ≡ x * step + 2 * step = rw (← add-mul j (suc b) step, j-is) (add-mul x 2 step) in
    let across : suc b * step ≤ 2 * step = mul-le-mul h (le_refl step) in
    let back : step * suc b ≡ suc b * step = mul_comm step (suc b) in
    rw (before_pos (x + 2) b (omega arith), sub_pos (lcol0 + x * step) (step * suc b) (omega arith)) (omega arith, omega arith)

-- the same column behind eight bytes
eight_further : (x : ℕ) (dx : ℤ) → nat_abs dx ≤ 2 → nat_abs (pos (x + 8 + 2) +ℤ dx) ≡ 8 + nat_abs (pos (x + 2) +ℤ dx)
eight_further x (pos b) h = omega arith
eight_further x (negsuc b) h = rw (before_pos (x + 8 + 2) b (omega arith), before_pos (x + 2) b (omega arith)) (omega arith)

-- one row more
pub one-gathered : {rows indices : List ℕ} {first step n m : ℕ} {compact : List ℕ} → Gathered rows indices first step n m compact → length compact ≡ compact_size → m < 5 → n + 4 ≤ row_bytes →
    Gathered rows indices first step n (m + 1) (sets compact (compact_bytes * m + 8) (tab (n + 4) (every rows (luma_rows_at + luma_row_bytes * get_or indices (5 + m) 0 + first) step)))
one-gathered {rows} {indices} {first} {step} {n} {m} {compact} h e l short =
    let f : ℕ → ℕ = every rows (luma_rows_at + luma_row_bytes * get_or indices (5 + m) 0 + first) step in
    record {
      is = λ k j hk hj.
          elim (ℕ_discrete k m) [
            | yes q ↦ rw q (sets_in (tab (n + 4) f) compact (compact_bytes * m + 8) j (rw (length_tab (n + 4) f) hj) (omega arith) ∙ get_or-tab (n + 4) f j hj)
            | no ne ↦ sets_before (tab (n + 4) f) compact (compact_bytes * m + 8) (compact_bytes * k + 8 + j) (omega arith) ∙ h.is k j (omega arith) hj
          ];
    }

-- a byte of the gathered rows
module _ (rows indices : List ℕ) (lcol0 first step n : ℕ) (compact : List ℕ) (h : Gathered rows indices first step n 5 compact) (e : first + 2 * step ≡ lcol0) (x : ℕ) (l : x < n) where
  abbrev own : ℤ → ℤ → ℕ
  own = chroma_luma_flat rows indices (lcol0 + x * step)

  byte-is : (dy dx : ℤ) → nat_abs dy ≤ 2 → nat_abs dx ≤ 2 → compact_at compact (x + 8) dy dx ≡ own dy (pos step *ℤ dx)
  byte-is dy dx u v =
      let r = row-place dy u in
      let c = column-place lcol0 first step n x dx e l v in
      let k : ℕ = nat_abs (pos 2 +ℤ dy) in
      let j : ℕ = nat_abs (pos (x + 2) +ℤ dx) in
      let place : luma_rows_at + luma_row_bytes * get_or indices (5 + k) 0 + first + j * step ≡ luma_rows_at + luma_row_bytes * get_or indices (5 + k) 0 + (first + j * step) = omega arith in
      let behind : compact_bytes * k + nat_abs (pos (x + 8 + 2) +ℤ dx) ≡ compact_bytes * k + 8 + j = omega (arith, eight_further x dx v) in
      ap (λ (m : ℕ). get_or compact m 0) behind ∙ h.is k j r.0 c.0 ∙ ap (λ (m : ℕ). get_or rows m 0) place ∙ (λ i. get_or rows (luma_rows_at + luma_row_bytes * get_or indices (r.1 i) 0 + c.1 i) 0)

  centre-is : compact_at compact (x + 8) (pos 0) (pos 0) ≡ centre own
  centre-is = byte-is (pos 0) (pos 0) (omega arith) (omega arith) ∙ ap (λ (m : ℕ). own (pos 0) (pos m)) (mul-zero step)

  tap_is : (c : ℕ → ℤ) (k : ℕ) → compact_tap (compact_at compact (x + 8)) c k ≡ luma_tap own step c k
  tap_is c k =
      let t = near-at 2 ns_config_uv_from_y tt tt k in
      let v = byte-is (dy_of ns_config_uv_from_y k) (dx_of ns_config_uv_from_y k) t.0 t.1 in
      (λ i. (pos (v i) -ℤ pos (centre-is i)) *ℤ c (6 + k))

  pub gathered-sum : (s : ℤ → ℤ → ℕ) (c : ℕ → ℤ) → compact_sum s (compact_at compact (x + 8)) c ≡ chroma_sum s own step c
  gathered-sum s c = (λ i. pos (128 * centre s) +ℤ sum_z 6 (ns_tap s c ns_config_uv) +ℤ sum_z 12 (λ k. tap_is c k i))

-- so a run over gathered luma is a run over luma itself
pub gathered-run : (dst rows indices compact : List ℕ) (col0 lcol0 first step n : ℕ) (filter : List ℤ) → Gathered rows indices first step n 5 compact → first + 2 * step ≡ lcol0 →
    compact_run dst rows indices col0 compact filter n ≡
    sets dst 0 (tab n (λ x. chroma_sample limit8 (chroma_flat rows indices (col0 + x)) (chroma_luma_flat rows indices (lcol0 + x * step)) step (coefficients filter)))
gathered-run dst rows indices compact col0 lcol0 first step n filter h e =
    ap (λ (w : List ℕ). sets dst 0 w)
    (tab_cong n _ _
    (λ x l. ap (rounded limit8) (gathered-sum rows indices lcol0 first step n compact h e x l (chroma_flat rows indices (col0 + x)) (coefficients filter))))
