-- Sample x of a row that is restored, from the rows, indices and filters as the filter runs take them. `limit` is the largest sample, `c k` the filter's number k.
use mathlib.Core.Bool.{cond}
use mathlib.Core.List.{List}
use Prim.Native.Nat.{ℕ, ◌+◌, ◌*◌, ◌/◌, ◌≤◌}
use lib.IntN.{ℤ}
use lib.ListN.{get_or}
use Rattle.definition.specs.declared.Operation.{Operation}
use Rattle.definition.specs.declared.Operation.TheVariants.{Luma, User, Pretrained, Chroma}
use Rattle.definition.specs.Rows.{luma_flat, chroma_flat, chroma_luma_flat, row_origin}
use Rattle.definition.specs.Blocks.{masked, side}
use Rattle.definition.specs.Sample.{luma_sample, pretrained_sample, chroma_sample}
use Rattle.definition.specs.Units.{set_size, set_of}
use Rattle.definition.specs.Leaves.{coefficients}

-- IN A BLOCK THAT IS NOT MASKED; step luma columns to a chroma column
unfoldable pub luma_unmasked : ℕ → List ℕ → List ℕ → (ℕ → ℤ) → ℕ → ℕ
luma_unmasked limit rows indices c x = luma_sample limit (luma_flat rows indices (row_origin + x)) c

unfoldable pub pretrained_unmasked : ℕ → List ℕ → List ℕ → (ℕ → ℤ) → ℕ → ℕ
pretrained_unmasked limit rows indices c x = pretrained_sample limit (luma_flat rows indices (row_origin + x)) c

unfoldable pub chroma_unmasked : ℕ → List ℕ → List ℕ → ℕ → (ℕ → ℤ) → ℕ → ℕ
chroma_unmasked limit rows indices step c x =
    chroma_sample limit (chroma_flat rows indices (row_origin + x)) (chroma_luma_flat rows indices (row_origin + x * step)) step c

abbrev pub unmasked : ℕ → Operation → List ℕ → List ℕ → ℕ → (ℕ → ℤ) → ℕ → ℕ
unmasked limit Luma rows indices step c x = luma_unmasked limit rows indices c x
unmasked limit User rows indices step c x = luma_unmasked limit rows indices c x
unmasked limit Pretrained rows indices step c x = pretrained_unmasked limit rows indices c x
unmasked limit Chroma rows indices step c x = chroma_unmasked limit rows indices step c x

-- the set of a class: where it begins, its numbers, and that it is there; a unit without classes has one
abbrev pub set_start : Operation → ℕ → ℕ
set_start Luma cls = 0
set_start User cls = set_size User * cls
set_start Pretrained cls = set_size Pretrained * cls
set_start Chroma cls = 0

abbrev pub set_for : Operation → List ℤ → ℕ → ℕ → ℤ
set_for Luma filters cls = coefficients filters
set_for User filters cls = set_of User filters cls
set_for Pretrained filters cls = set_of Pretrained filters cls
set_for Chroma filters cls = coefficients filters

abbrev pub HasSet : Operation → ℕ → ℕ → Type 0
HasSet op n cls = set_start op cls + set_size op ≤ n

-- a block's class chooses its set
abbrev pub unmasked_cell : ℕ → Operation → List ℕ → List ℕ → ℕ → List ℤ → List ℕ → ℕ → ℕ
unmasked_cell limit op rows indices step filters classes x = unmasked limit op rows indices step (set_for op filters (get_or classes (x / side) 0)) x

-- THE CELL: in a masked block the old sample
unfoldable pub cell_of : ℕ → Operation → List ℕ → List ℕ → ℕ → List ℤ → List ℕ → ℕ → ℕ → ℕ → ℕ
cell_of limit op rows indices step filters classes mask old x =
    cond (masked mask (x / side)) old (unmasked_cell limit op rows indices step filters classes x)
