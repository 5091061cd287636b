-- The text of a state, put line by line behind nothing, where each piece is cut to the longest text.
use mathlib.Core.Path.{◌≡◌, ap, ◌∙◌}
use mathlib.Core.List.{List, [], ◌++◌}
use Prim.Native.Nat.{ℕ}
use lib.ListN.{length, take}
use lib.Seq.{take_all}
use Rattle.definition.specs.declared.Operation.{Operation}
use Rattle.definition.specs.Limits.{block_column_limit}
use Rattle.definition.specs.Rows.{tab, index_count}
use Rattle.definition.specs.Card.{w_name, h_name, line_text}
use Rattle.definition.specs.StateText.{op_text, list_text, ten_text, edges_name, done_name, classes_name, indices_name, next_name, strides_name, offsets_name, pair_name, kind_name, state_text, text_limit, InField, LinesInFields}
use Rattle.text.proofs.Cuts.{put_more}
use Rattle.text_laws.proofs.States.{short}
use Rattle.units.specs.declared.State.{State}
use Rattle.units.specs.Texts.{kept_row, lines_of}

-- a text behind another, cut
abbrev pub Put : List ℕ → List ℕ → List ℕ → Type 0
Put before piece after = after ≡ take text_limit (before ++ piece)

-- a list of so many numbers
pub sized-within : (limit n : ℕ) (l : List ℕ) → length l ≡ n → InField limit (length l) l → InField limit n l
sized-within limit n l e i = rw e at i

pub whole_put : (op : Operation) (s : State) (x₀ x₁ x₂ x₃ x₄ x₅ x₆ x₇ x₈ x₉ x₁₀ x₁₁ x₁₂ x₁₃ : List ℕ) →
    x₀ ≡ [] →
    Put x₀ (op_text op) x₁ →
    Put x₁ (line_text w_name s.given.w) x₂ →
    Put x₂ (line_text h_name s.given.h) x₃ →
    Put x₃ (line_text edges_name s.given.edges) x₄ →
    Put x₄ (line_text done_name s.done) x₅ →
    Put x₅ (list_text classes_name (length s.classes) s.classes) x₆ →
    Put x₆ (list_text indices_name (length s.indices) s.indices) x₇ →
    Put x₇ (line_text next_name s.next) x₈ →
    Put x₈ (ten_text (tab index_count (kept_row op s.rows))) x₉ →
    Put x₉ (list_text strides_name 2 (lines_of op s).strides) x₁₀ →
    Put x₁₀ (list_text offsets_name 6 (lines_of op s).offsets) x₁₁ →
    Put x₁₁ (list_text pair_name 2 (lines_of op s).pair) x₁₂ →
    Put x₁₂ (line_text kind_name s.given.kind) x₁₃ →
    LinesInFields (lines_of op s) → x₁₃ ≡ state_text (lines_of op s)
unfolding state_text
whole_put op s x₀ x₁ x₂ x₃ x₄ x₅ x₆ x₇ x₈ x₉ x₁₀ x₁₁ x₁₂ x₁₃ none e₁ e₂ e₃ e₄ e₅ e₆ e₇ e₈ e₉ e₁₀ e₁₁ e₁₂ e₁₃ c =
    let f₆ : Put x₅ (list_text classes_name block_column_limit s.classes) x₆ = rw c.classes.size at e₆ in
    let f₇ : Put x₆ (list_text indices_name index_count s.indices) x₇ = rw c.indices.size at e₇ in
    e₁₃ ∙
    put_more text_limit x₁₁ _ _ e₁₂ ∙
    put_more text_limit x₁₀ _ _ e₁₁ ∙
    put_more text_limit x₉ _ _ e₁₀ ∙
    put_more text_limit x₈ _ _ e₉ ∙
    put_more text_limit x₇ _ _ e₈ ∙
    put_more text_limit x₆ _ _ f₇ ∙
    put_more text_limit x₅ _ _ f₆ ∙
    put_more text_limit x₄ _ _ e₅ ∙
    put_more text_limit x₃ _ _ e₄ ∙
    put_more text_limit x₂ _ _ e₃ ∙
    put_more text_limit x₁ _ _ e₂ ∙
    put_more text_limit x₀ _ _ e₁ ∙
    ap (λ x. take text_limit (x ++ state_text (lines_of op s))) none ∙
    take_all text_limit (state_text (lines_of op s)) (short (lines_of op s) c)
