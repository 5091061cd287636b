-- What the three runs share: a loop that stores f 0, f 1, .. from the start of the destination on, and what is left of it at the end.
use mathlib.Core.Path.{◌≡◌, sym, ap, ◌∙◌}
use mathlib.Core.List.{List}
use Prim.Native.Nat.{ℕ, ◌+◌, ◌≤◌, ◌<◌}
use native.Mathlib.Nat.{zero-add}
use native.Mathlib.Omega.{arith}
use lib.ListN.{length, get_or, take, drop}
use borrow.Rule.Slice.PartMut.{put_mid}
use lib.Seq.{sets, ext_get_or}
use Rattle.std.proofs.Common.{append_assoc}
use Rattle.std.proofs.lemmas.List.{drop-drop}
use Rattle.std.proofs.lemmas.List.Edits.{sets-eq}
use Rattle.definition.specs.Rows.{tab, unless_refused}
use Rattle.laws.proofs.Lists.{sets_run, tab_cong, length_tab, get_or-tab}
use Rattle.filter.specs.Windows.{Turned}

-- after x turns of n, d is what was written over d₀
pub record Writing (f : ℕ → ℕ) (d₀ : List ℕ) (n : ℕ) (d : List ℕ) (x : ℕ) : Type 0 where
  pub turns : x ≤ n
  pub is : d ≡ sets d₀ 0 (tab x f)

module _ {f : ℕ → ℕ} {d₀ : List ℕ} {n : ℕ} {d : List ℕ} {x : ℕ} (h : Writing f d₀ n d x) where
  -- m more at once, from `skip` on of a list that holds them
  pub some_more : {d' : List ℕ} (eight : List ℕ) (skip m : ℕ) → x + m ≤ n → d' ≡ sets d x (tab m (λ j. get_or eight (skip + j) 0)) → ((j : ℕ) → j < m → get_or eight (skip + j) 0 ≡ f (x + j)) →
      Writing f d₀ n d' (x + m)
  some_more eight skip m l e v =
      record {
        turns = l;
        is =
            e ∙ ap (λ (w : List ℕ). sets d x w) (tab_cong m (λ j. get_or eight (skip + j) 0) (λ j. f (x + j)) v) ∙
            rw h.is (rw (zero-add x) at (sets_run m x d₀ 0 f));
      }

  -- one turn more: a sample of the eight that stands where sample i of the run does is f i
  pub one_turn : {d' : List ℕ} {col0 last at skip m : ℕ} → Turned col0 x n last at skip m → (eight : List ℕ) → d' ≡ sets d x (tab m (λ j. get_or eight (skip + j) 0)) →
      ((j i : ℕ) → j < 8 → i < n → at + j ≡ col0 + i → get_or eight j 0 ≡ f i) → Writing f d₀ n d' (x + m)
  one_turn {skip = skip} {m = m} t eight e v =
      some_more eight skip m t.end e (λ j l. v (skip + j) (x + j) (omega (arith, t.eight)) (omega (arith, t.end)) (omega (arith, t.place)))

-- m samples that are put at x, whose values are known
pub put_whole : (x k m : ℕ) (l vs : List ℕ) (f : ℕ → ℕ) → k ≡ m → length vs ≡ m → x + m ≤ length l → ((j : ℕ) → j < m → get_or vs j 0 ≡ f j) → put_mid x k l vs ≡ sets l x (tab m f)
put_whole x k m l vs f e len h v =
    let same : vs ≡ tab m f = ext_get_or 0 vs (tab m f) (len ∙ sym (length_tab m f)) (λ j i. v j (omega arith) ∙ sym (get_or-tab m f j (omega arith))) in
    let rest : drop k (drop x l) ≡ drop (x + length vs) l = rw (e, len) (drop-drop m x l) in
    rw rest (rw (← append_assoc (take x l) vs (drop (x + length vs) l)) (rw (← sets-eq vs l x (omega arith)) (ap (sets l x) same)))

-- a run that is not refused leaves what it wrote
pub done : (status : ℕ) (d₀ w : List ℕ) {d : List ℕ} → status ≡ 0 → d ≡ w → d ≡ unless_refused status d₀ w
done status d₀ w z e = rw z e

-- a local list of n, of which the first j are as `made` has them
pub record Filled (made : ℕ → ℕ → Type 0) (n : ℕ) (out : List ℕ) (j : ℕ) : Type 0 where
  pub size : length out ≡ n
  pub is : (i : ℕ) → i < j → made i (get_or out i 0)
