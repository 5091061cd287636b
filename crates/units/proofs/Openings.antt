-- Openings: padding looks at the left list and the saved borders alone, and the state before the first row is the definition's.
use mathlib.Core.Path.{◌≡◌, refl, ◌∙◌}
use mathlib.Core.Bool.{false}
use mathlib.Core.List.{List, [], ◌∷◌, ◌++◌}
use Prim.Native.Nat.{ℕ, ◌+◌}
use lib.ListN.{replicate}
use Rattle.definition.specs.declared.Operation.{Operation}
use Rattle.definition.specs.declared.Operation.TheVariants.{Luma, User, Pretrained, Chroma}
use Rattle.definition.specs.declared.Given.{Given}
use Rattle.definition.specs.Rows.{tab, state_bytes}
use Rattle.definition.specs.Limits.{block_column_limit}
use Rattle.definition.specs.Units.{border, number_of, Lent, chromatic}
use Rattle.model.proofs.Opening.{filled, open_ring, open_index, open_rings}
use Rattle.operations.proofs.Chosen.{unless_chroma}
use Rattle.units.specs.Openings.{open_state}

module _ (op : Operation) (l : Lent) where
  -- the first rows and indices of a luma or classed unit
  pub first_rows : chromatic op ≡ false → (n : Given) (p : List ℕ) {rows : List ℕ} → rows ≡ filled op n l p (replicate state_bytes 0) (border op + border op) →
      rows ≡ (open_rings op n l p).slots
  unfolding open_ring
  first_rows is n p {rows} e =
      unless_chroma (λ o. rows ≡ filled o n l p (replicate state_bytes 0) (border o + border o) → rows ≡ (open_rings o n l p).slots) (λ x. x) (λ x. x) (λ x. x) op is e

  pub first_indices : chromatic op ≡ false → (n : Given) (p : List ℕ) {idx : List ℕ} → idx ≡ tab 8 (open_index op n) ++ (0 ∷ 0 ∷ []) → idx ≡ (open_rings op n l p).idx
  unfolding open_ring
  first_indices is n p {idx} e =
      unless_chroma (λ o. idx ≡ tab 8 (open_index o n) ++ (0 ∷ 0 ∷ []) → idx ≡ (open_rings o n l p).idx) (λ x. x) (λ x. x) (λ x. x) op is e

-- the state that they make
first_next : (op : Operation) (n : Given) (l : Lent) (p : List ℕ) → border op + border op ≡ (open_rings op n l p).next
unfolding open_ring
first_next Luma n l p = refl
first_next User n l p = refl
first_next Pretrained n l p = refl
first_next Chroma n l p = refl

pub first-state : (op : Operation) (n : Given) (l : Lent) (p : List ℕ) {o e : ℕ} {rows idx : List ℕ} → o ≡ number_of op → e ≡ border op →
    idx ≡ (open_rings op n l p).idx → rows ≡ (open_rings op n l p).slots →
    record { op = o; given = n; done = 0; next = e + e; classes = replicate block_column_limit 0; indices = idx; rows = rows } ≡ open_state op n l p
unfolding open_state
first-state op n l p {e = e} o d i r =
    let m : e + e ≡ (open_rings op n l p).next = (λ k. d k + d k) ∙ first_next op n l p in
    λ k. record { op = o k; given = n; done = 0; next = m k; classes = replicate block_column_limit 0; indices = i k; rows = r k }
