-- Bytes that are put at a place: a part of another list.
use mathlib.Core.Path.{◌≡◌, refl, sym, ◌∙◌}
use mathlib.Core.List.{List}
use Prim.Native.Nat.{ℕ, ◌+◌, ◌≤◌}
use native.Mathlib.Omega.{arith}
use lib.ListN.{length, get_or, take, drop, length-take, length-drop}
use lib.Seq.{sets, ext_get_or, get_or-take, get_or-drop}
use borrow.Rule.Slice.PartMut.{put_mid}
use Rattle.std.proofs.Common.{append_assoc}
use Rattle.std.proofs.lemmas.Slice.{put_mid-paste}
use Rattle.std.proofs.lemmas.List.Edits.{sets-eq, paste_all}
use Rattle.definition.specs.Rows.{tab}
use Rattle.laws.proofs.Lists.{length_tab, get_or-tab}

-- a part of a list that is written whole
pub put_at : (a k : ℕ) (l vs : List ℕ) → k ≡ length vs → a + k ≤ length l → put_mid a k l vs ≡ sets l a vs
put_at a k l vs e h =
    put_mid-paste a k l vs vs k refl refl e ∙ paste_all l a vs k e ∙ rw e (sym (sets-eq vs l a (omega arith) ∙ append_assoc (take a l) vs (drop (a + length vs) l)))

pub part_tab : (l : List ℕ) (a n m : ℕ) → m ≡ n → a + n ≤ length l → take m (drop a l) ≡ tab n (λ j. get_or l (a + j) 0)
part_tab l a n m e h =
    let len : length (take n (drop a l)) ≡ n = simp (length-take, length-drop) (omega arith) in
    rw e
    (ext_get_or 0 (take n (drop a l)) (tab n (λ j. get_or l (a + j) 0)) (len ∙ sym (length_tab n (λ j. get_or l (a + j) 0)))
    (λ i hi.
    get_or-take n (drop a l) i 0 (omega arith) ∙ get_or-drop a l i 0 ∙ sym (get_or-tab n (λ j. get_or l (a + j) 0) i (omega arith))))

-- a list is all of its bytes
pub all_tab : (l : List ℕ) → tab (length l) (λ i. get_or l i 0) ≡ l
all_tab l =
    let f : ℕ → ℕ = λ i. get_or l i 0 in
    let len : length (tab (length l) f) ≡ length l = length_tab (length l) f in
    ext_get_or 0 (tab (length l) f) l len (λ i hi. get_or-tab (length l) f i (omega (arith, hi, len)))
