-- A number of 64 bits has no higher ones.
use mathlib.Core.Path.{◌≡◌}
use mathlib.Core.Bool.{false}
use Prim.Native.Nat.{ℕ, ◌/◌, ◌^◌, ◌≤◌, ◌<◌}
use native.Mathlib.Nat.{zero-add}
use native.Mathlib.Decide.{dec_lt}
use native.Mathlib.Omega.{arith}
use lib.Pow.{pow-lt, shr_lt}
use Rattle.definition.specs.Numbers.{bit_set}

below : (m k : ℕ) → m < 2 ^ 64 → 64 ≤ k → m < 2 ^ k
below m k h l =
    elim (dec_lt 64 k) [
      | yes lt ↦ omega (arith, pow-lt lt)
      | no ge ↦ let e : k ≡ 64 = omega arith in rw e h
    ]

none_left : (m k : ℕ) → m < 2 ^ 64 → 64 ≤ k → m / 2 ^ k ≡ 0
none_left m k h l = let z : m / 2 ^ k < 2 ^ 0 = shr_lt 0 k (rw (zero-add k) (below m k h l)) in omega arith

pub clear_above : (m k : ℕ) → m < 2 ^ 64 → 64 ≤ k → bit_set m k ≡ false
clear_above m k h l = rw (none_left m k h l)
