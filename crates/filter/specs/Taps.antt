-- What the sums of taps say: a tap is samples less a base, times a number of the filter.
use Rattle.std.specs.Prelude.{ℕ, ◌+◌, ◌*◌, ◌^◌, ℤ, pos, ◌-ℤ◌, ◌*ℤ◌}
use Rattle.laws.proofs.Sums.{Partial}
use Rattle.filter.specs.Windows.{pair_limit, centre_limit, taken_off_limit}

abbrev pub tap_of : (ℕ → ℕ) → ℕ → (ℕ → ℤ) → ℕ → ℤ
tap_of samples base numbers k = (pos (samples k) -ℤ pos base) *ℤ numbers k

-- how far from 0 a sum starts at the most, and how far a tap leads it
abbrev pub first_limit : ℕ
first_limit = taken_off_limit + centre_limit

abbrev pub tap_limit : ℕ
tap_limit = 2 * pair_limit * 2 ^ 15

-- the sum after k taps
abbrev pub Taken : ℤ → (ℕ → ℕ) → ℕ → (ℕ → ℤ) → ℕ → ℤ → Type 0
Taken first samples base numbers = Partial first (tap_of samples base numbers) first_limit tap_limit
