-- Two lists that stand one behind the other: stores in the first, stores in the second, and rows filled behind a front that stays.
use mathlib.Core.Path.{◌≡◌, refl, sym, ◌∙◌, ap}
use mathlib.Core.List.{List, [], ◌∷◌, ◌++◌}
use Prim.Native.Nat.{ℕ, suc, ◌+◌, ◌*◌, ◌-◌, ◌≤◌}
use native.Mathlib.Nat.{zero-add, suc-add}
use native.Mathlib.Omega.{arith}
use lib.ListN.{length, set, take, drop, replicate, length-set, length-drop, length-replicate, take-append-drop}
use lib.Seq.{sets, set-append_left, length-take-le}
use Rattle.model.proofs.Opening.{filled_rows, filled_none, filled_more}

-- STORES IN a ++ b
set_second_at : (a b : List ℕ) (i v : ℕ) → set (a ++ b) (length a + i) v ≡ a ++ set b i v
set_second_at [] b i v = ap (λ (k : ℕ). set b k v) (zero-add i)
set_second_at (x ∷ a) b i v = ap (λ (k : ℕ). set (x ∷ (a ++ b)) k v) (suc-add (length a) i) ∙ ap (λ (r : List ℕ). x ∷ r) (set_second_at a b i v)

pub set_second : (a b : List ℕ) (n i v : ℕ) → length a ≡ n → set (a ++ b) (n + i) v ≡ a ++ set b i v
set_second a b n i v e = rw (← e) (set_second_at a b i v)

pub sets_second : (vs a b : List ℕ) (n i : ℕ) → length a ≡ n → sets (a ++ b) (n + i) vs ≡ a ++ sets b i vs
sets_second [] a b n i e = refl
sets_second (v ∷ vs) a b n i e =
    let d : suc (n + i) ≡ n + suc i = omega arith in
    rw (set_second a b n i v e, d) (sets_second vs a (set b i v) n (suc i) e)

pub sets_first : (vs a b : List ℕ) (i : ℕ) → i + length vs ≤ length a → sets (a ++ b) i vs ≡ sets a i vs ++ b
sets_first [] a b i h = refl
sets_first (v ∷ vs) a b i h =
    rw (set-append_left a b i v (omega arith)) (sets_first vs (set a i v) b (suc i) (omega (arith, length-set a i v)))

-- ROWS BEHIND A FRONT
pub front-size : (rows : List ℕ) (n m : ℕ) → drop n rows ≡ replicate m 0 → 1 ≤ m → length (take n rows) ≡ n
front-size rows n m e h =
    let d : length rows - n ≡ m = sym (length-drop n rows) ∙ (ap length e ∙ length-replicate m 0) in
    length-take-le n rows (omega arith)

module _ (len first : ℕ) (pad : ℕ → List ℕ) (rows blank : List ℕ) (at : ℕ) where
  -- before the first row that is padded anew, and one row more
  pub behind-none : (n : ℕ) → drop at rows ≡ blank → n ≤ first → rows ≡ take at rows ++ filled_rows len first pad blank n
  behind-none n e h = sym (take-append-drop at rows) ∙ ap (λ (r : List ℕ). take at rows ++ r) (e ∙ sym (filled_none len first pad blank n h))

  pub behind_more : (n : ℕ) {now next : List ℕ} → length (take at rows) ≡ at → first ≤ n → now ≡ take at rows ++ filled_rows len first pad blank n →
      next ≡ sets now (at + n * len) (pad n) → next ≡ take at rows ++ filled_rows len first pad blank (n + 1)
  behind_more n size h e q =
      q ∙
      ((λ k. sets (e k) (at + n * len) (pad n)) ∙
      (sets_second (pad n) (take at rows) (filled_rows len first pad blank n) at (n * len) size ∙
      ap (λ (r : List ℕ). take at rows ++ r) (sym (filled_more len first pad blank n h))))
