-- Rounding by a shift of 7 and clipping to 0 .. limit, the fact that the three filters share: what the tests of the code say, and what the
-- machine holds of (s + 64) >> 7.
use mathlib.Core.Path.{◌≡◌, sym}
use mathlib.Core.Bool.{true, false}
use Prim.Native.Nat.{ℕ, ◌^◌, ◌<◌, ◌≤◌}
use native.Mathlib.Omega.{arith}
use lib.Dec.{T}
use lib.IntN.{ℤ, pos, negsuc, nat_abs, ◌+ℤ◌}
use lib.Signed.{lt_z, non_neg, shr_z}
use borrow.Author.Tests.{ltb-true, ltb-false}
use mir.Syntax.{w32}
use mir.Val.{SFits, to_z, of_z}
use Rattle.definition.specs.Numbers.{clip_to}
use Rattle.laws.proofs.Ints.{never}
use Rattle.laws.proofs.Held.{kept, natural, plus, shifted}

pub clip_low : (limit : ℕ) (z : ℤ) → lt_z z (pos 0) ≡ true → 0 ≡ clip_to limit z
clip_low limit (pos n) h = omega (arith, ltb-true n 0 h)
clip_low limit (negsuc n) h = omega arith

pub clip_high : (limit : ℕ) (z : ℤ) → lt_z (pos limit) z ≡ true → limit ≡ clip_to limit z
clip_high limit (pos n) h = omega (arith, ltb-true limit n h)
clip_high limit (negsuc n) h = absurd (never h)

pub clip_mid : (limit : ℕ) (z : ℤ) → lt_z z (pos 0) ≡ false → lt_z (pos limit) z ≡ false → T (non_neg z) × (nat_abs z ≤ limit) × (nat_abs z ≡ clip_to limit z)
clip_mid limit (pos n) h k = (tt, ltb-false limit n k, omega (arith, ltb-false limit n k))
clip_mid limit (negsuc n) h k = absurd (never (sym h))

-- what the machine holds of (s + 64) >> 7
abbrev pub held : ℤ → ℤ
held s = to_z w32 (of_z w32 (shr_z (to_z w32 (of_z w32 (to_z w32 (of_z w32 s) +ℤ pos 64))) 128))

pub held-is : (s : ℤ) → SFits w32 s → nat_abs s < 2 ^ 30 → held s ≡ shr_z (s +ℤ pos 64) 128
held-is s fits bound = (shifted 128 (plus (kept fits) (natural {n = 64} {B = 64} (omega arith) (omega arith)) (omega arith)) (omega arith)).is
