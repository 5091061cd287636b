-- A table's rule at each of its places, from one test that antt computes over the whole table.
use mathlib.Core.Bool.{Bool, true, ◌&&◌}
use mathlib.Core.List.{List, [], ◌∷◌}
use Prim.Native.Nat.{ℕ, zero, suc, ◌≤◌}
use lib.Dec.{T, leb, leb→le}
use lib.ListN.{get_or}
use lib.IntN.{ℤ, pos, nat_abs}
use mir.Facts.{and_yes}

abbrev pub all {ℓ} : {A : Type ℓ} → (A → Bool) → List A → Bool
all p [] = true
all p (x ∷ xs) = p x && all p xs

-- a test that passes at each element of a list and at the default passes at each place
pub all-at : {A : Type 0} (p : A → Bool) (l : List A) (d : A) → T (p d) → T (all p l) → (k : ℕ) → T (p (get_or l k d))
all-at p [] d e t k = e
all-at p (x ∷ xs) d e t zero = (and_yes (p x) (all p xs) t).0
all-at p (x ∷ xs) d e t (suc k) = all-at p xs d e (and_yes (p x) (all p xs) t).1 k

-- offsets (dy, dx) of taps that are at most `reach` from the centre
abbrev pub near : ℕ → List ℤ → Bool
near reach t = leb (nat_abs (get_or t 0 (pos 0))) reach && leb (nat_abs (get_or t 1 (pos 0))) reach

pub near-at : (reach : ℕ) (taps : List (List ℤ)) → T (near reach []) → T (all (near reach) taps) → (k : ℕ) →
    (nat_abs (get_or (get_or taps k []) 0 (pos 0)) ≤ reach) × (nat_abs (get_or (get_or taps k []) 1 (pos 0)) ≤ reach)
near-at reach taps e t k =
    let row : List ℤ = get_or taps k [] in
    let p = and_yes (leb (nat_abs (get_or row 0 (pos 0))) reach) (leb (nat_abs (get_or row 1 (pos 0))) reach) (all-at (near reach) taps [] e t k) in
    (leb→le (nat_abs (get_or row 0 (pos 0))) reach p.0, leb→le (nat_abs (get_or row 1 (pos 0))) reach p.1)
