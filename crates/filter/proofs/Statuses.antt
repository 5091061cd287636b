-- What a status of 0 says: each test passed, so the runs stay inside.
use mathlib.Core.Path.{◌≡◌}
use mathlib.Core.Bool.{true, ◌&&◌}
use mathlib.Core.List.{List}
use Prim.Native.Nat.{ℕ, ◌+◌, ◌-◌, ◌*◌, ◌≤◌, ◌<◌, min}
use native.Mathlib.Omega.{arith}
use native.Mathlib.Nat.{mul-le-mul, le_refl, mul_comm, add-mul}
use lib.Dec.{leb}
use lib.ListN.{length, get_or}
use borrow.Author.Tests.{leb-true}
use Rattle.definition.specs.Refusals.{indices_up_to, rows_size}
use Rattle.definition.specs.Rows.{row_bytes, luma_row_bytes, luma_rows_at, index_count, state_bytes}
use Rattle.laws.proofs.Passes.{both, pass_at, inside}
use Rattle.definition.specs.Leaves.{run_status, uv_status, window_inside}
use Rattle.filter.specs.Windows.{own_inside, OwnInside, RowsReached}
use Rattle.filter.specs.Gathered.{Gatherable}

-- ten indices up to a limit lead to rows that lie inside, where limit + 1 rows do
rows_inside : (first size limit : ℕ) (rows indices : List ℕ) → first + size * limit + size ≤ length rows → indices_up_to limit indices ≡ true → RowsReached first size rows indices
rows_inside first size limit rows indices room e =
    record {
      inside = λ j h.
          let i : get_or indices j 0 ≤ limit = leb-true (get_or indices j 0) limit (pass_at (λ i. leb i limit) indices index_count j h e) in
          omega (arith, mul-le-mul (le_refl size) i);
    }

window-room : (size e col0 n : ℕ) → window_inside size e col0 n ≡ true → (e ≤ col0) × (col0 + n + e ≤ size)
window-room size e col0 n h =
    let p = both (leb e col0) (leb (col0 + n + e) size) h in
    (leb-true e col0 p.0, leb-true (col0 + n + e) size p.1)

-- what the tests that the runs share say
module _ (dst rows : ℕ) (indices : List ℕ) (col0 n size limit e : ℕ) (h : own_inside dst rows indices col0 n size limit e ≡ true) where
  four : (leb n dst && leb size rows && indices_up_to limit indices ≡ true) × (window_inside row_bytes e col0 n ≡ true)
  four = both (leb n dst && leb size rows && indices_up_to limit indices) (window_inside row_bytes e col0 n) h

  three : (leb n dst && leb size rows ≡ true) × (indices_up_to limit indices ≡ true)
  three = both (leb n dst && leb size rows) (indices_up_to limit indices) four.0

  pub own_room : n ≤ dst
  own_room = leb-true n dst (both (leb n dst) (leb size rows) three.0).0

  own-long : size ≤ rows
  own-long = leb-true size rows (both (leb n dst) (leb size rows) three.0).1

  pub own-window : (e ≤ col0) × (col0 + n + e ≤ row_bytes)
  own-window = window-room row_bytes e col0 n four.1

own : (dst : ℕ) (rows indices : List ℕ) (col0 n size limit e : ℕ) → row_bytes * limit + row_bytes ≤ size → own_inside dst (length rows) indices col0 n size limit e ≡ true → OwnInside e dst rows indices col0 n
own dst rows indices col0 n size limit e s h =
    let r = own-window dst (length rows) indices col0 n size limit e h in
    let long = own-long dst (length rows) indices col0 n size limit e h in
    let up = (three dst (length rows) indices col0 n size limit e h).1 in
    record {
      room = own_room dst (length rows) indices col0 n size limit e h;
      inside = rows_inside 0 row_bytes limit rows indices (omega (arith, long)) up;
      left = r.0;
      right = r.1;
    }

pub run_inside : (dst : ℕ) (rows indices : List ℕ) (col0 n : ℕ) → run_status dst (length rows) indices col0 n ≡ 0 → OwnInside 4 dst rows indices col0 n
unfolding run_status
run_inside dst rows indices col0 n e = own dst rows indices col0 n rows_size 9 4 (omega arith) (inside (own_inside dst (length rows) indices col0 n rows_size 9 4) e)

-- the chroma run gathers luma too: from two chroma columns before the first sample to two behind the last
pub record UvInside (dst : ℕ) (rows indices : List ℕ) (col0 lcol0 step n : ℕ) : Type 0 where
  pub itself : OwnInside 2 dst rows indices col0 n
  pub behind : 2 * step ≤ lcol0
  pub luma : Gatherable rows indices (lcol0 - 2 * step) step n

column-inside : (lcol0 step n j : ℕ) → step ≤ 2 → 2 * step ≤ lcol0 → j < n + 4 → lcol0 + step * n + 4 ≤ luma_row_bytes → lcol0 - 2 * step + j * step < luma_row_bytes
column-inside lcol0 step n j small behind h r =
    let far : j * step ≤ (n + 3) * step = mul-le-mul (omega arith) (le_refl step) in
    omega (arith, add-mul n 3 step, mul_comm step n)

pub uv_inside : (dst : ℕ) (rows indices : List ℕ) (col0 lcol0 step n : ℕ) → uv_status dst (length rows) indices col0 lcol0 step n ≡ 0 → UvInside dst rows indices col0 lcol0 step n
unfolding uv_status
uv_inside dst rows indices col0 lcol0 step n e =
    let o = own_inside dst (length rows) indices col0 n state_bytes 4 2 in
    let l = window_inside luma_row_bytes 4 lcol0 (step * n) in
    let p = both (o && leb step 2) l (inside (o && leb step 2 && l) e) in
    let q = both o (leb step 2) p.0 in
    let small = leb-true step 2 q.1 in
    let r = window-room luma_row_bytes 4 lcol0 (step * n) p.1 in
    let long = own-long dst (length rows) indices col0 n state_bytes 4 2 q.0 in
    let up = (three dst (length rows) indices col0 n state_bytes 4 2 q.0).1 in
    let o-window = own-window dst (length rows) indices col0 n state_bytes 4 2 q.0 in
    let behind : 2 * step ≤ lcol0 = omega (arith, r.0, small) in
    record {
      itself = own dst rows indices col0 n state_bytes 4 2 (omega arith) q.0;
      behind = behind;
      luma = record {
        inside = rows_inside luma_rows_at luma_row_bytes 4 rows indices (omega (arith, long)) up;
        columns = λ j h. column-inside lcol0 step n j small behind h r.1;
        short = omega (arith, o-window.0, o-window.1);
      };
    }

-- any eight samples that a turn of a run may work out
pub eight_inside : {e dst : ℕ} {rows indices : List ℕ} {col0 n : ℕ} (last at : ℕ) → OwnInside e dst rows indices col0 n → min col0 last ≤ at → at ≤ last → last + 8 + e ≡ row_bytes → e ≤ last →
    (e ≤ at) × (at + 8 + e ≤ row_bytes)
eight_inside last at h l m s r = (omega (arith, h.left), omega arith)
