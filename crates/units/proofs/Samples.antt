-- A run under numbers that are those of the class's set: what it writes. And the classes that tell the runs of a row apart.
use mathlib.Core.Path.{◌≡◌, refl, ◌∙◌, ap}
use mathlib.Core.Bool.{cond}
use mathlib.Core.List.{List}
use Prim.Native.Nat.{ℕ, ◌+◌, ◌*◌, ◌-◌, ◌<◌}
use native.Mathlib.Nat.{zero-add}
use native.Mathlib.Omega.{arith}
use lib.IntN.{ℤ, pos}
use Rattle.std.specs.Prelude.{slice_range}
use lib.Seq.{get_or-take, get_or-drop}
use lib.ListN.{drop, get_or, replicate}
use lib.Seq.{sets}
use Rattle.definition.specs.declared.Operation.{Operation}
use Rattle.definition.specs.declared.Operation.TheVariants.{Luma, User, Pretrained, Chroma}
use Rattle.definition.specs.Rows.{tab, row_origin, luma_flat, chroma_flat, chroma_luma_flat}
use Rattle.definition.specs.Limits.{block_column_limit}
use Rattle.definition.specs.Sample.{limit8}
use Rattle.definition.specs.Units.{classed}
use Rattle.definition.specs.Leaves.{coefficients}
use Rattle.laws.proofs.Lists.{tab_cong}
use Rattle.laws.proofs.Agree.{luma-agree, pretrained_agree, chroma_agree}
use Rattle.definition.specs.Calls.{filters_of}
use Rattle.model.proofs.Cells.{luma_unmasked, pretrained_unmasked, chroma_unmasked, unmasked, set_start, set_for, HasSet, unmasked_cell}

-- the numbers of a set, from where it begins
set_at : (op : Operation) (filters : List ℤ) (cls k : ℕ) → get_or filters (set_start op cls + k) (pos 0) ≡ set_for op filters cls k
set_at Luma filters cls k = ap (λ (i : ℕ). get_or filters i (pos 0)) (zero-add k)
set_at User filters cls k = refl
set_at Pretrained filters cls k = refl
set_at Chroma filters cls k = ap (λ (i : ℕ). get_or filters i (pos 0)) (zero-add k)

-- .. as they stand in an array
pub part-at : (xs : List ℤ) (a n k : ℕ) → k < n → get_or (slice_range xs a (a + n)) k (pos 0) ≡ get_or xs (a + k) (pos 0)
part-at xs a n k h =
    let d : a + n - a ≡ n = omega arith in
    rw d (get_or-take n (drop a xs) k (pos 0) h ∙ get_or-drop a xs k (pos 0))

-- numbers to a set that a sample uses
abbrev pub used_of : Operation → ℕ
used_of Luma = 16
used_of User = 16
used_of Pretrained = 13
used_of Chroma = 18

module _ (rows indices : List ℕ) (c d : ℕ → ℤ) (step x : ℕ) where
  alike : (op : Operation) → ((k : ℕ) → k < used_of op → c k ≡ d k) → unmasked limit8 op rows indices step c x ≡ unmasked limit8 op rows indices step d x
  unfolding luma_unmasked pretrained_unmasked chroma_unmasked
  alike Luma e = luma-agree limit8 (luma_flat rows indices (row_origin + x)) (luma_flat rows indices (row_origin + x)) c d (λ dy dx ny nx. refl) e
  alike User e = luma-agree limit8 (luma_flat rows indices (row_origin + x)) (luma_flat rows indices (row_origin + x)) c d (λ dy dx ny nx. refl) e
  alike Pretrained e = pretrained_agree limit8 (luma_flat rows indices (row_origin + x)) (luma_flat rows indices (row_origin + x)) c d (λ dy dx ny nx. refl) e
  alike Chroma e =
      chroma_agree limit8 step (chroma_flat rows indices (row_origin + x)) (chroma_flat rows indices (row_origin + x)) (chroma_luma_flat rows indices (row_origin + x * step)) (chroma_luma_flat rows indices (row_origin + x * step)) c d
      (λ dy dx ny nx. refl) (λ dy dx ny nx. refl) refl e

-- what a run of samples x0 .. x1 - 1 writes, by the set that it was given
module _ (rows indices p : List ℕ) (filters wide set : List ℤ) (step at x0 x1 cls from : ℕ) where
  abbrev Written : Operation → (ℕ → ℤ) → List ℕ → Type 0
  Written op c q = q ≡ sets p (at + x0) (tab (x1 - x0) (λ i. unmasked limit8 op rows indices step c (x0 + i)))

  abbrev OfSet : Operation → Type 0
  OfSet op = (k : ℕ) → k < used_of op → get_or set k (pos 0) ≡ get_or (filters_of op filters wide) (from + k) (pos 0)

  pub run_is : (op : Operation) {q : List ℕ} → from ≡ set_start op cls → OfSet op → Written op (coefficients set) q → Written op (set_for op (filters_of op filters wide) cls) q
  run_is op f e w =
      w ∙
      (λ i.
      sets p (at + x0)
      (tab_cong (x1 - x0) _ _
      (λ j h. alike rows indices (coefficients set) (set_for op (filters_of op filters wide) cls) step (x0 + j) op (λ k l. e k l ∙ rw f (set_at op (filters_of op filters wide) cls k))) i))

-- THE CLASSES THAT STRETCHES ARE TOLD BY: those of the blocks, or one for all where the operation has none
module _ (told classes : List ℕ) where
  abbrev Told : Operation → Type 0
  Told op = told ≡ cond (classed op) classes (replicate block_column_limit 0)

  pub told_sets : (op : Operation) (n : ℕ) → Told op → ((j : ℕ) → j < block_column_limit → HasSet op n (get_or classes j 0)) → (j : ℕ) → j < block_column_limit → HasSet op n (get_or told j 0)
  told_sets Luma n e h j k = h j k
  told_sets User n e h j k = rw e (h j k)
  told_sets Pretrained n e h j k = rw e (h j k)
  told_sets Chroma n e h j k = h j k

  pub told_cells : (limit : ℕ) (op : Operation) (rows indices : List ℕ) (step : ℕ) (filters : List ℤ) (x : ℕ) → Told op →
      unmasked_cell limit op rows indices step filters told x ≡ unmasked_cell limit op rows indices step filters classes x
  told_cells limit Luma rows indices step filters x e = refl
  told_cells limit User rows indices step filters x e = rw e
  told_cells limit Pretrained rows indices step filters x e = rw e
  told_cells limit Chroma rows indices step filters x e = refl
