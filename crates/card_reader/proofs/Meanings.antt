-- The lists of a unit, where all of them were read.
use mathlib.Core.Path.{◌≡◌, sym, ap, ◌∙◌}
use mathlib.Core.List.{List, ◌++◌}
use Prim.Native.Nat.{ℕ, ◌-◌, ◌/◌}
use lib.ListN.{length, drop, replicate}
use lib.IntN.{ℤ}
use Rattle.std.specs.Prelude.{Some}
use Rattle.definition.specs.Blocks.{side}
use Rattle.definition.specs.Limits.{block_row_limit, plane_size}
use Rattle.definition.specs.Card.{Reading, value, wrong, filter_at, skip_at, rows_at, joined, unit, lists_at}
use Rattle.card_laws.proofs.Planes.{drop_zeros}
use Rattle.card_reader.specs.Lines.{Joins}
use Rattle.card_reader.specs.Answers.{filled}

-- rows that stand in a plane
pub record Stood (x : Reading (List (List ℕ))) (n : ℕ) (p q : List ℕ) : Type 0 where
  pub rows : List (List ℕ)
  pub is : x ≡ value rows n
  pub plane : q ≡ joined rows ++ drop (length (joined rows)) p

pub stood : (x : Reading (List (List ℕ))) (n : ℕ) (p q : List ℕ) → Joins x (Some n) p q → Stood x n p q
stood (value rows at) n p q h = record { rows = rows; is = ap (value rows) (sym h.0); plane = h.1 }
stood wrong n p q h = absurd h

-- zeros behind a list
pub filled-rows : (rows : List (List ℕ)) (q : List ℕ) → q ≡ joined rows ++ drop (length (joined rows)) (replicate plane_size 0) → q ≡ filled 0 plane_size (joined rows)
filled-rows rows q e = e ∙ ap (λ l. joined rows ++ l) (drop_zeros (length (joined rows)) plane_size 0)

pub filled-skip : (n : ℕ) (skip : List ℕ) → length skip ≡ n → skip ++ drop n (replicate block_row_limit 0) ≡ filled 0 block_row_limit skip
filled-skip n skip l = ap (λ t. skip ++ t) (drop_zeros n block_row_limit 0 ∙ ap (λ m. replicate (block_row_limit - m) 0) (sym l))

module _ (s : List ℕ) (w h at : ℕ) (filter : List ℤ) (p₁ : ℕ) (e₁ : filter_at s at ≡ value filter p₁)
    (skip : List ℕ) (p₂ : ℕ) (e₂ : skip_at s (h / side) p₁ ≡ value skip p₂) (rows : List (List ℕ)) (p₃ : ℕ) (e₃ : rows_at s w h p₂ ≡ value rows p₃) where
  pub all_read : lists_at s w h at ≡ unit (record { w = w; h = h; filter = filter; skip = skip; rows = rows }) p₃
  unfolding lists_at
  all_read = rw (e₁, e₂, e₃)
