-- A number of a filter that is widened.
use mathlib.Core.Path.{◌≡◌, ◌∙◌}
use Prim.Native.Nat.{◌^◌}
use lib.IntN.{ℤ}
use mir.Syntax.{Width}
use mir.Val.{SFits, to_z, of_z, hbits}
use mir.Facts.{to_z-of_z}
use Rattle.laws.proofs.Held.{Held, typed}

-- a number of v bits that a call made one of w bits
pub widened : {w v : Width} {z n : ℤ} → SFits v z → n ≡ to_z v (of_z v z) → SFits w n → Held w (of_z w n) z (2 ^ hbits v)
widened fits e n-fits = let t = typed fits in record { is = to_z-of_z n-fits ∙ e ∙ t.is; bound = t.bound }
