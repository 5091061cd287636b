-- A row's filter runs: none is refused, so each writes its samples.
use mathlib.Core.Path.{◌≡◌, sym, ap, ◌∙◌}
use mathlib.Core.Bool.{true}
use mathlib.Core.List.{List}
use Prim.Native.Nat.{ℕ, ◌+◌, ◌*◌, ◌-◌, ◌≤◌, ◌<◌}
use native.Mathlib.Omega.{arith}
use native.Mathlib.Nat.{add_assoc, mul_comm, add-mul, mul-le-mul}
use lib.Dec.{leb}
use lib.IntN.{ℤ}
use lib.ListN.{length, get_or}
use lib.Seq.{sets}
use borrow.Author.Tests.{le-leb}
use borrow.Rule.Slice.PartMut.{put_mid, mid_of, mid_len}
use Rattle.definition.specs.Limits.{width_limit}
use Rattle.definition.specs.Rows.{tab, unless_refused, row_bytes, row_origin, luma_row_bytes, index_count, state_bytes}
use Rattle.definition.specs.Sample.{limit8}
use Rattle.definition.specs.Refusals.{rows_size, indices_up_to}
use Rattle.laws.proofs.Passes.{pass_all}
use Rattle.laws.proofs.Lists.{tab_cong}
use Rattle.definition.specs.Leaves.{run_status, uv_status, coefficients, luma_run, pretrained_run, chroma_run}
use Rattle.units.proofs.Stretches.{run-back}
use Rattle.model.proofs.Cells.{luma_unmasked, pretrained_unmasked, chroma_unmasked}

indices_in : (limit : ℕ) (indices : List ℕ) → ((j : ℕ) → j < index_count → get_or indices j 0 ≤ limit) → indices_up_to limit indices ≡ true
indices_in limit indices h = pass_all (λ i. leb i limit) indices index_count (λ j l. le-leb (get_or indices j 0) limit (h j l))

run_in : (dst rows : ℕ) (indices : List ℕ) (col0 n : ℕ) → n ≤ dst → rows_size ≤ rows → ((j : ℕ) → j < index_count → get_or indices j 0 ≤ 9) → 4 ≤ col0 → col0 + n + 4 ≤ row_bytes → run_status dst rows indices col0 n ≡ 0
unfolding run_status
run_in dst rows indices col0 n a b i c d = rw (le-leb n dst a, le-leb rows_size rows b, indices_in 9 indices i, le-leb 4 col0 c, le-leb (col0 + n + 4) row_bytes d)

uv_in : (dst rows : ℕ) (indices : List ℕ) (col0 lcol0 step n : ℕ) → n ≤ dst → state_bytes ≤ rows → ((j : ℕ) → j < index_count → get_or indices j 0 ≤ 4) →
    2 ≤ col0 → col0 + n + 2 ≤ row_bytes → step ≤ 2 → 4 ≤ lcol0 → lcol0 + step * n + 4 ≤ luma_row_bytes → uv_status dst rows indices col0 lcol0 step n ≡ 0
unfolding uv_status
uv_in dst rows indices col0 lcol0 step n a b i c d s e f =
    rw (le-leb n dst a, le-leb state_bytes rows b, indices_in 4 indices i, le-leb 2 col0 c, le-leb (col0 + n + 2) row_bytes d, le-leb step 2 s, le-leb 4 lcol0 e, le-leb (lcol0 + step * n + 4) luma_row_bytes f)

-- a run over the part from x0 to x1 of a plane q: `vs` is what it leaves of the part
module _ (q vs rows indices : List ℕ) (at x0 x1 : ℕ) (l : x0 ≤ x1) (small : x1 ≤ width_limit) (room : at + x1 ≤ length q) (long : length rows ≡ state_bytes) where
  abbrev part : List ℕ
  part = mid_of (at + x0) (at + x1 - (at + x0)) q

  abbrev count : ℕ
  count = at + x1 - (at + x0)

  fits : length part ≡ count
  fits = mid_len (at + x0) (at + x1) q room

  -- where it is not refused, the part is back, written
  written : (status : ℕ) (f g : ℕ → ℕ) → status ≡ 0 → ((i : ℕ) → f i ≡ g i) →
      vs ≡ unless_refused status part (sets part 0 (tab count f)) → put_mid (at + x0) count q vs ≡ sets q (at + x0) (tab (x1 - x0) g)
  written status f g z same e = run-back q vs at x0 x1 f l room (rw z at e) ∙ rw (tab_cong (x1 - x0) f g (λ i h. same i))

  -- luma and pretrained runs
  own-written : (f g : ℕ → ℕ) → ((j : ℕ) → j < index_count → get_or indices j 0 ≤ 9) → ((i : ℕ) → f i ≡ g i) →
      vs ≡ unless_refused (run_status (length part) (length rows) indices (row_origin + x0) count) part (sets part 0 (tab count f)) →
      put_mid (at + x0) count q vs ≡ sets q (at + x0) (tab (x1 - x0) g)
  own-written f g i =
      written (run_status (length part) (length rows) indices (row_origin + x0) count) f g
      (run_in (length part) (length rows) indices (row_origin + x0) count (omega (arith, fits)) (omega arith) i (omega arith) (omega arith))

  pub luma-written : (filter : List ℤ) → ((j : ℕ) → j < index_count → get_or indices j 0 ≤ 9) → vs ≡ luma_run part rows indices (row_origin + x0) filter count →
      put_mid (at + x0) count q vs ≡ sets q (at + x0) (tab (x1 - x0) (λ i. luma_unmasked limit8 rows indices (coefficients filter) (x0 + i)))
  unfolding luma_unmasked
  luma-written filter i = own-written _ (λ i. luma_unmasked limit8 rows indices (coefficients filter) (x0 + i)) i (λ i. rw (add_assoc row_origin x0 i))

  pub pretrained_written : (filter : List ℤ) → ((j : ℕ) → j < index_count → get_or indices j 0 ≤ 9) → vs ≡ pretrained_run part rows indices (row_origin + x0) filter count →
      put_mid (at + x0) count q vs ≡ sets q (at + x0) (tab (x1 - x0) (λ i. pretrained_unmasked limit8 rows indices (coefficients filter) (x0 + i)))
  unfolding pretrained_unmasked
  pretrained_written filter i = own-written _ (λ i. pretrained_unmasked limit8 rows indices (coefficients filter) (x0 + i)) i (λ i. rw (add_assoc row_origin x0 i))

  -- of the widest unit twice the columns fit a luma row
  luma-room : (step : ℕ) → step ≤ 2 → row_origin + x0 * step + step * count + 4 ≤ luma_row_bytes
  luma-room step s =
      let d : count ≡ x1 - x0 = omega arith in
      let e : x0 * step + (x1 - x0) * step ≡ x1 * step = sym (add-mul x0 (x1 - x0) step) ∙ ap (λ (x : ℕ). x * step) (omega arith) in
      rw d (omega (arith, e, mul_comm step (x1 - x0), mul-le-mul small s))

  pub chroma_written : (step : ℕ) (filter : List ℤ) → step ≤ 2 → ((j : ℕ) → j < index_count → get_or indices j 0 ≤ 4) →
      vs ≡ chroma_run part rows indices (row_origin + x0) (row_origin + x0 * step) step filter count →
      put_mid (at + x0) count q vs ≡ sets q (at + x0) (tab (x1 - x0) (λ i. chroma_unmasked limit8 rows indices step (coefficients filter) (x0 + i)))
  unfolding chroma_unmasked
  chroma_written step filter s i =
      written (uv_status (length part) (length rows) indices (row_origin + x0) (row_origin + x0 * step) step count) _ (λ i. chroma_unmasked limit8 rows indices step (coefficients filter) (x0 + i))
      (uv_in (length part) (length rows) indices (row_origin + x0) (row_origin + x0 * step) step count
      (omega (arith, fits)) (omega arith) i (omega arith) (omega arith) s (omega arith) (luma-room step s))
      (λ i. let m : row_origin + x0 * step + i * step ≡ row_origin + (x0 + i) * step = omega (arith, add-mul x0 i step) in rw (add_assoc row_origin x0 i, m))
