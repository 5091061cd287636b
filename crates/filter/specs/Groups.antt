-- What the private functions ask and leave of a small filter's taps, summed in groups of at most three by themselves: what one group holds in 16 bits.
use Rattle.std.specs.Prelude.{ℕ, ◌*◌, ◌≤◌, ◌<◌, List, ℤ, nat_abs}
use Rattle.definition.specs.Leaves.{coefficients}
use Rattle.filter.specs.Windows.{pair_limit}

-- how far from 0 a number of a small filter is at the most, and a tap of it
abbrev pub small_limit : ℕ
small_limit = 21

abbrev pub narrow_limit : ℕ
narrow_limit = pair_limit * small_limit

-- the first n numbers of a filter are small
pub record Small (n : ℕ) (filter : List ℤ) : Type 0 where
  pub number : (k : ℕ) → k < n → nat_abs (coefficients filter k) ≤ small_limit
