-- What the machine holds of the tables.
use mathlib.Core.Path.{◌≡◌, ◌∙◌}
use mathlib.Core.Bool.{Bool}
use mathlib.Core.List.{[]}
use Prim.Native.Nat.{ℕ, ◌^◌, ◌<◌, ◌≤◌}
use lib.IntN.{ℤ, pos}
use lib.Dec.{T, ltb, ltb→lt}
use lib.ListN.{get_or}
use lib.Signed.{mag}
use mir.Syntax.{Width, w16, w64}
use mir.Val.{SFits, to_z, of_z, hbits}
use mir.Facts.{to_z-of_z}
use Rattle.definition.specs.ClassIndex.{weight, mode_weights, mode_offsets}
use Rattle.laws.proofs.Tables.{all, all-at}
use Rattle.laws.proofs.Held.{Held, typed}

-- the weights and the offsets are 16-bit numbers
abbrev small : ℤ → Bool
small z = ltb (mag z) 32768

fits : {z : ℤ} → T (small z) → SFits w16 z
fits {z} t = record { sfits = ltb→lt (mag z) 32768 t }

pub weight_fits : (i j : ℕ) → SFits w16 (weight i j)
weight_fits i j = fits (all-at small (get_or mode_weights i []) (pos 0) tt (all-at (all small) mode_weights [] tt tt i) j)

pub offset_fits : (i : ℕ) → SFits w16 (get_or mode_offsets i (pos 0))
offset_fits i = fits (all-at small mode_offsets (pos 0) tt tt i)

-- what `i64::from` answers of a signed number, and of a byte
pub widened : {w : Width} {r z : ℤ} → mag r < 2 ^ 63 → r ≡ to_z w (of_z w z) → SFits w z → Held w64 (of_z w64 r) z (2 ^ hbits w)
widened m e f = let h = typed f in record { is = to_z-of_z {w = w64} (record { sfits = m }) ∙ e ∙ h.is; bound = h.bound }

pub byte : {r : ℤ} {t : ℕ} → mag r < 2 ^ 63 → r ≡ pos t → t ≤ 255 → Held w64 (of_z w64 r) (pos t) 255
byte m e h = record { is = to_z-of_z {w = w64} (record { sfits = m }) ∙ e; bound = h }
