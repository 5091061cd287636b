-- Luma columns by subsampling and kind: where a lower row stands, the last column that is sampled, and columns that are copied.
use mathlib.Core.Path.{◌≡◌, refl}
use mathlib.Core.Bool.{true}
use Prim.Native.Nat.{ℕ, zero, suc, ◌+◌, ◌%◌, ◌≤◌, ◌<◌}
use native.Mathlib.Omega.{arith}
use mathlib.Core.List.{List}
use lib.IntN.{pos}
use lib.ListN.{get_or}
use lib.Seq.{sets}
use Rattle.definition.specs.Rows.{tab}
use Rattle.definition.specs.Padding.{row_at, mixed, even_only, last_sampled}
use Rattle.laws.proofs.Ints.{never}
use Rattle.definition.specs.Leaves.{lower_at}
use Rattle.padding.specs.Steps.{columns}

pub lower_even : (v k s : ℕ) → even_only v k ≡ true → lower_at v k s ≡ s
lower_even zero k s e = absurd (never e)
lower_even (suc v) zero s e = refl
lower_even (suc v) (suc k) s e = absurd (never e)

-- a width of whole sampled columns: the last one lies inside, and where only even ones are filled it is one of them
pub last-inside : (h w : ℕ) → h ≤ 1 → w % (h + 1) ≡ 0 → 1 ≤ w → (last_sampled h w < w) × (h + 1 ≤ w)
last-inside zero w a b c = (omega arith, omega arith)
last-inside (suc zero) w a b c = (omega arith, omega arith)
last-inside (suc (suc h)) w a b c = (omega arith, omega arith)

pub last_even : (h v k w : ℕ) → h ≤ 1 → v ≤ h → w % (h + 1) ≡ 0 → 1 ≤ w → even_only v k ≡ true → (w % 2 ≡ 0) × (last_sampled h w % 2 ≡ 0)
last_even h zero k w a b c d e = absurd (never e)
last_even zero (suc v) k w a b c d e = (omega arith, omega arith)
last_even (suc zero) (suc v) k w a b c d e = (omega arith, omega arith)
last_even (suc (suc h)) (suc v) k w a b c d e = (omega arith, omega arith)

-- one row of luma gives each byte
pub copied : (v k : ℕ) → lower_at v k 1 ≡ 0 → (dst row : List ℕ) (at n stride : ℕ) →
    sets dst at (tab n (λ i. get_or row (0 + i) 0)) ≡ columns dst at n v k (λ j. mixed v k (row_at row (pos 0)) (row_at row (pos stride)) (pos j))
copied zero k e dst row at n stride = refl
copied (suc v) zero e dst row at n stride = absurd (omega arith)
copied (suc v) (suc zero) e dst row at n stride = absurd (omega arith)
copied (suc v) (suc (suc k)) e dst row at n stride = refl
