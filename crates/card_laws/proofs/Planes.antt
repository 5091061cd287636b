-- Lists: rows that stand one behind the other in a plane, the front of a list and what is behind it.
use mathlib.Core.Path.{◌≡◌, sym, ap, ◌∙◌}
use mathlib.Core.List.{List, [], ◌∷◌, ◌++◌, append_assoc, append-nil}
use Prim.Native.Nat.{ℕ, zero, suc, ◌+◌, ◌-◌, ◌*◌, ◌≤◌, ◌<◌}
use native.Mathlib.Nat.{sub-zero, zero-sub, suc-sub-suc, add-mul, one-mul, mul_comm, mul-le-mul, le_refl}
use native.Mathlib.Omega.{arith}
use lib.ListN.{length, take, drop, replicate, length-append}
use lib.Seq.{take-append_seam, drop-append_seam}
use Rattle.definition.specs.Card.{joined}

-- row y lies in a plane of h rows
pub in_plane : (y w h len : ℕ) → y < h → w * h ≤ len → y * w + w ≤ len
in_plane y w h len a b =
    let l : y + 1 ≤ h = omega arith in
    let k : (y + 1) * w ≤ h * w = mul-le-mul l (le_refl w) in
    omega (arith, k, mul_comm w h, add-mul y 1 w, one-mul w)

-- one row more
pub joined_more : (rows : List (List ℕ)) (row : List ℕ) → joined (rows ++ (row ∷ [])) ≡ joined rows ++ row
joined_more [] row = append-nil row
joined_more (r ∷ rows) row = ap (λ l. r ++ l) (joined_more rows row) ∙ sym (append_assoc r (joined rows) row)

pub joined-long : (rows : List (List ℕ)) (row : List ℕ) → length (joined (rows ++ (row ∷ []))) ≡ length (joined rows) + length row
joined-long rows row = ap length (joined_more rows row) ∙ length-append (joined rows) row

-- the front of a list that was written, and what is behind it
pub front {ℓ} : {A : Type ℓ} (l r : List A) (n : ℕ) → length l ≡ n → take n (l ++ r) ≡ l
front l r n e = rw (sym e) (take-append_seam l r)

pub behind {ℓ} : {A : Type ℓ} (l r : List A) (n : ℕ) → length l ≡ n → drop n (l ++ r) ≡ r
behind l r n e = rw (sym e) (drop-append_seam l r)

-- zeros behind a list
pub drop_zeros {ℓ} : {A : Type ℓ} (k n : ℕ) (a : A) → drop k (replicate n a) ≡ replicate (n - k) a
drop_zeros zero n a = rw (sub-zero n)
drop_zeros (suc k) zero a = rw (zero-sub (suc k))
drop_zeros (suc k) (suc n) a = rw (suc-sub-suc n k) (drop_zeros k n a)
