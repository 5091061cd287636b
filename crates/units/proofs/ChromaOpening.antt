-- A chroma unit's opening, made of its rows.
use mathlib.Core.Path.{◌≡◌, refl, sym, ◌∙◌, ap}
use mathlib.Core.Bool.{Bool, true, false, cond}
use mathlib.Core.List.{List, ◌++◌}
use Prim.Native.Nat.{ℕ, zero, suc, ◌+◌, ◌*◌, ◌≤◌}
use native.Mathlib.Nat.{suc-mul}
use native.Mathlib.Omega.{arith}
use lib.Dec.{leb}
use lib.ListN.{length, take, drop, replicate, length-replicate, replicate-append-replicate}
use lib.Seq.{sets}
use Rattle.definition.specs.Rows.{row_bytes, luma_row_bytes, luma_rows_at, state_bytes}
use Rattle.definition.specs.declared.Operation.TheVariants.{Chroma}
use Rattle.definition.specs.declared.Given.{Given}
use Rattle.definition.specs.Units.{Lent}
use Rattle.model.proofs.Rows.{pad_row, first_row, pad_size}
use Rattle.model.proofs.LumaRows.{luma_pad_row}
use Rattle.model.proofs.Opening.{filled, filled_rows, filled-size, open_ring, open_rings}
use Rattle.units.proofs.TwoLists.{sets_first}
use Rattle.units.proofs.TwoRings.{take_first, drop_first}

-- ROWS FILLED IN FRONT of a rest that stays
module _ (len first : ℕ) (pad : ℕ → List ℕ) (a b : List ℕ) (sized : (R : ℕ) → length (pad R) ≡ len) where
  one_split : (c : Bool) (x row : List ℕ) (i : ℕ) → i + length row ≤ length x → cond c (sets (x ++ b) i row) (x ++ b) ≡ cond c (sets x i row) x ++ b
  one_split true x row i h = sets_first row x b i h
  one_split false x row i h = refl

  pub filled_split : (n : ℕ) → n * len ≤ length a → filled_rows len first pad (a ++ b) n ≡ filled_rows len first pad a n ++ b
  unfolding filled_rows
  filled_split zero h = refl
  filled_split (suc n) h =
      rw (filled_split n (omega (arith, suc-mul n len)))
      (one_split (leb first n) (filled_rows len first pad a n) (pad n) (n * len) (omega (arith, suc-mul n len, sized n, filled-size len first pad a sized n)))

-- THE ROWS OF AN OPENING: those of the chroma ring, then the luma rows
module _ (l : Lent) (n : Given) (p : List ℕ) where
  abbrev first : ℕ
  first = first_row Chroma n

  abbrev own_rows : List ℕ
  own_rows = filled_rows row_bytes first (pad_row Chroma n l p) (replicate luma_rows_at 0) 4

  own-long : length own_rows ≡ luma_rows_at
  own-long = filled-size row_bytes first (pad_row Chroma n l p) (replicate luma_rows_at 0) (pad_size Chroma n l p) 4 ∙ length-replicate {A = ℕ} luma_rows_at 0

  in_front : {rows : List ℕ} → rows ≡ filled Chroma n l p (replicate state_bytes 0) 4 → rows ≡ own_rows ++ replicate (5 * luma_row_bytes) 0
  unfolding filled
  in_front e =
      e ∙
      (ap (λ (b : List ℕ). filled_rows row_bytes first (pad_row Chroma n l p) b 4) (sym (replicate-append-replicate {A = ℕ} luma_rows_at (5 * luma_row_bytes) 0)) ∙
      filled_split row_bytes first (pad_row Chroma n l p) (replicate luma_rows_at 0) (replicate (5 * luma_row_bytes) 0) (pad_size Chroma n l p) 4
      (rw (length-replicate {A = ℕ} luma_rows_at 0) (omega arith)))

  pub blank-behind : {rows : List ℕ} → rows ≡ filled Chroma n l p (replicate state_bytes 0) 4 → drop luma_rows_at rows ≡ replicate (5 * luma_row_bytes) 0
  blank-behind e = ap (λ (r : List ℕ). drop luma_rows_at r) (in_front e) ∙ drop_first own_rows (replicate (5 * luma_row_bytes) 0) luma_rows_at own-long

  pub opened : {rows rows' : List ℕ} → rows ≡ filled Chroma n l p (replicate state_bytes 0) 4 →
      rows' ≡ take luma_rows_at rows ++ filled_rows luma_row_bytes first (luma_pad_row n l) (replicate (5 * luma_row_bytes) 0) 4 →
      rows' ≡ (open_rings Chroma n l p).slots
  unfolding open_ring filled
  opened {rows = rows} e d =
      let t : take luma_rows_at rows ≡ own_rows = ap (λ (r : List ℕ). take luma_rows_at r) (in_front e) ∙ take_first own_rows (replicate (5 * luma_row_bytes) 0) luma_rows_at own-long in
      d ∙ (λ k. t k ++ filled_rows luma_row_bytes first (luma_pad_row n l) (replicate (5 * luma_row_bytes) 0) 4)
