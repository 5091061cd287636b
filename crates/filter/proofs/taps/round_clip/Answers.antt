-- `filter::taps::round_clip` meets its contract: what the machine holds of (s + 64) >> 7 is clipped.
use mathlib.Core.Path.{◌≡◌, ap, ◌∙◌}
use lib.IntN.{ℤ, pos, nat_abs, ◌+ℤ◌}
use lib.Signed.{shr_z}
use mir.Syntax.{w32}
use mir.Val.{to_z, of_z}
use mir.Facts.{to_z-of_z}
use Rattle.definition.specs.Numbers.{clip_to}
use Rattle.definition.specs.Sample.{rounded, limit8}
use Rattle.laws.proofs.Rounding.{held-is}
use Rattle.filter.proofs.taps.round_clip.Goals as goal

pub returns : goal.returns
unfolding rounded
returns c =
    let back : to_z w32 (of_z w32 c.clipped.result) ≡ pos (clip_to limit8 (shr_z (c.args.s +ℤ pos 64) 128)) =
    to_z-of_z {w = w32} {z = c.clipped.result} (record { sfits = c.clipped.type_inv }) ∙ c.clipped.ensures ∙
    ap (λ (z : ℤ). pos (clip_to limit8 z)) (held-is c.args.s c.ranges.s c.requires) in
    ap nat_abs back
