-- A text whose lines were all read, and what calls answer of it.
use mathlib.Core.Path.{◌≡◌, ap, ◌∙◌}
use mathlib.Core.List.{List, ◌++◌}
use Prim.Native.Nat.{ℕ, ◌-◌}
use lib.ListN.{length, get_or, replicate}
use borrow.Author.Tests.{eq-eqb}
use Rattle.std.specs.Prelude.{Some}
use Rattle.definition.specs.declared.Operation.{Operation}
use Rattle.definition.specs.Limits.{block_column_limit}
use Rattle.definition.specs.Rows.{state_bytes, index_count}
use Rattle.definition.specs.Units.{number_of}
use Rattle.definition.specs.Calls.{given_c}
use Rattle.definition.specs.Card.{value, w_name, h_name, joined}
use Rattle.definition.specs.StateText.{number_limit, byte_limit, line_at, list_at, op_at, ten_at, edges_name, done_name, classes_name, indices_name, next_name, strides_name, offsets_name, pair_name, kind_name, lines_at, lines_in}
use Rattle.card_laws.proofs.Planes.{drop_zeros}
use Rattle.card_reader.specs.Lines.{Joins}
use Rattle.card_reader.proofs.Meanings.{Stood, stood}
use Rattle.units.specs.Texts.{state_found}

module _ (s : List ℕ) (op : Operation) (p₁ : ℕ) (e₁ : op_at s 0 ≡ value op p₁)
    (w p₂ : ℕ) (e₂ : line_at w_name s p₁ ≡ value w p₂) (h p₃ : ℕ) (e₃ : line_at h_name s p₂ ≡ value h p₃)
    (edges p₄ : ℕ) (e₄ : line_at edges_name s p₃ ≡ value edges p₄) (done p₅ : ℕ) (e₅ : line_at done_name s p₄ ≡ value done p₅)
    (classes : List ℕ) (p₆ : ℕ) (e₆ : list_at classes_name byte_limit block_column_limit s p₅ ≡ value classes p₆)
    (indices : List ℕ) (p₇ : ℕ) (e₇ : list_at indices_name number_limit index_count s p₆ ≡ value indices p₇)
    (next p₈ : ℕ) (e₈ : line_at next_name s p₇ ≡ value next p₈)
    (rows : List ℕ) (p₉ : ℕ) (e₉ : Joins (ten_at op s p₈) (Some p₉) (replicate state_bytes 0) rows)
    (strides : List ℕ) (p₁₀ : ℕ) (e₁₀ : list_at strides_name number_limit 2 s p₉ ≡ value strides p₁₀)
    (offsets : List ℕ) (p₁₁ : ℕ) (e₁₁ : list_at offsets_name number_limit 6 s p₁₀ ≡ value offsets p₁₁)
    (pair : List ℕ) (p₁₂ : ℕ) (e₁₂ : list_at pair_name number_limit 2 s p₁₁ ≡ value pair p₁₂)
    (kind p₁₃ : ℕ) (e₁₃ : line_at kind_name s p₁₂ ≡ value kind p₁₃) (end : p₁₃ ≡ length s) where
  pub all_read :
      Some
      (record {
        op = number_of op;
        given =
            given_c w h edges (get_or strides 0 0) (get_or strides 1 0) (get_or offsets 0 0) (get_or offsets 1 0) (get_or offsets 2 0) (get_or offsets 3 0) (get_or offsets 4 0)
            (get_or offsets 5 0) (get_or pair 0 0) (get_or pair 1 0) kind;
        done = done;
        next = next;
        classes = classes;
        indices = indices;
        rows = rows;
      }) ≡
      state_found (lines_in s)
  unfolding lines_in lines_at
  all_read =
      let g : Stood (ten_at op s p₈) p₉ (replicate state_bytes 0) rows = stood (ten_at op s p₈) p₉ (replicate state_bytes 0) rows e₉ in
      let z : rows ≡ joined g.rows ++ replicate (state_bytes - length (joined g.rows)) 0 =
      g.plane ∙ ap (λ l. joined g.rows ++ l) (drop_zeros (length (joined g.rows)) state_bytes 0) in
      rw (e₁, e₂, e₃, e₄, e₅, e₆, e₇, e₈, g.is, e₁₀, e₁₁, e₁₂, e₁₃, eq-eqb p₁₃ (length s) end, ← z)
