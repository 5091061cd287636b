-- The class of a block: its index is in the map, the call for it is not refused, and a class is below what all subclasses are below.
use mathlib.Core.Path.{◌≡◌, ◌∙◌}
use mathlib.Core.Bool.{true}
use mathlib.Core.List.{List}
use Prim.Native.Nat.{ℕ, ◌+◌, ◌≤◌, ◌<◌}
use native.Mathlib.Nat.{zero-add}
use native.Mathlib.Decide.{dec_lt}
use native.Mathlib.Omega.{arith}
use lib.Dec.{ltb, leb}
use lib.IntN.{ℤ}
use lib.ListN.{length, get_or, replicate}
use lib.Seq.{sets}
use borrow.Author.Tests.{ltb-true, le-ltb, le-leb, lt-leb}
use Rattle.definition.specs.Limits.{block_column_limit, block_row_limit, map_size}
use Rattle.definition.specs.declared.Given.{Given}
use Rattle.definition.specs.Rows.{tab}
use Rattle.definition.specs.ClassIndex.{bin, first_bin, feature_bin, bins_of, index_of, last_column}
use Rattle.definition.specs.Refusals.{every, rows_size}
use Rattle.definition.specs.Units.{Lent}
use Rattle.definition.specs.Leaves.{rows_status, row_features_status, feature_row, place_status}
use Rattle.laws.proofs.Lists.{sets_in, sets_behind, length_tab, get_or-tab}
use Rattle.laws.proofs.Passes.{pass_all}
use Rattle.history.proofs.Ring.{Ring}
use Rattle.refusals.proofs.Every.{every-at}
use Rattle.model.proofs.Step.{class_at}

pub bin-low : (v : ℤ) → bin v ≤ 7
unfolding bin
bin-low v = omega arith

-- an index is below the size of a map
pub index-low : (f : List ℕ) (q : ℤ) (s : ℕ) → index_of (bins_of f q s) < map_size
unfolding index_of bins_of
index-low f q s =
    let a : first_bin q s ≤ 7 = bin-low _ in
    let b : feature_bin f q s 0 ≤ 7 = bin-low _ in
    let c : feature_bin f q s 1 ≤ 7 = bin-low _ in
    let d : feature_bin f q s 2 ≤ 7 = bin-low _ in
    omega (arith, a, b, c, d)

-- the call for the features is not refused, and answers each block's
pub features_serve : (rows : ℕ) (indices : List ℕ) (n : ℕ) → rows_size ≤ rows → ((j : ℕ) → j < 10 → get_or indices j 0 ≤ 9) → n ≤ block_column_limit → row_features_status rows indices n ≡ 0
unfolding rows_status
features_serve rows indices n size small few =
    rw (le-leb rows_size rows size, pass_all (λ i. leb i 9) indices 10 (λ k h. le-leb (get_or indices k 0) 9 (small k h)), le-leb n block_column_limit few)

pub row-at : (n bx : ℕ) (f : ℕ → ℕ) → n ≤ block_column_limit → bx < n → get_or (feature_row n f) bx 0 ≡ f bx
row-at n bx f few l =
    let at : get_or (feature_row n f) (0 + bx) 0 ≡ get_or (tab n f) bx 0 =
    sets_in (tab n f) (replicate block_column_limit 0) 0 bx (rw (length_tab n f) l) (omega arith) in
    rw (zero-add bx) at at ∙ get_or-tab n f bx l

-- the call for the index is not refused
pub place_serves : (noskip bx by bh : ℕ) → bx ≤ last_column → by < bh → bh ≤ block_row_limit → bh ≤ noskip → place_status noskip bx by bh ≡ 0
unfolding place_status
place_serves noskip bx by bh column line limit masks = rw (le-ltb last_column bx column, le-ltb block_row_limit bh limit, lt-leb bh by line, le-ltb noskip bh masks)

-- an entry of a list that is all below n
pub entry_low : (xs : List ℕ) (n k : ℕ) → k < length xs → every (λ x. ltb x n) xs ≡ true → get_or xs k 0 < n
entry_low xs n k h e = ltb-true (get_or xs k 0) n (every-at (λ x. ltb x n) xs k h e)

-- a class is below the number of sets
pub class_low : (g : Given) (l : Lent) (r : Ring) (y bx n : ℕ) → length l.map ≡ map_size → every (λ m. ltb m (length l.subclass)) l.map ≡ true →
    every (λ c. ltb c n) l.subclass ≡ true → class_at g l r y bx < n
unfolding class_at
class_low g l r y bx n size maps subs =
    entry_low l.subclass n _ (entry_low l.map (length l.subclass) _ (rw size (index-low _ _ _)) maps) subs

-- what holds of each class that is worked out, and of each that is kept, holds of those of a row
pub classes_are : (P : ℕ → Type 0) (classes : List ℕ) (k m : ℕ) (f : ℕ → ℕ) → m ≤ length classes → ((i : ℕ) → i < k → P (f i)) → ((i : ℕ) → i < m → P (get_or classes i 0)) →
    (i : ℕ) → i < m → P (get_or (sets classes 0 (tab k f)) i 0)
classes_are P classes k m f h new old i l =
    elim (dec_lt i k) [
      | yes a ↦
          let e : get_or (sets classes 0 (tab k f)) (0 + i) 0 ≡ get_or (tab k f) i 0 = sets_in (tab k f) classes 0 i (rw (length_tab k f) a) (omega arith) in
          rw (rw (zero-add i) at e, get_or-tab k f i a) (new i a)
      | no b ↦ rw (sets_behind (tab k f) classes 0 i (rw (length_tab k f) (omega arith))) (old i l)
    ]
