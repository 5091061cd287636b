-- `filter::sums::Summed::step` meets its contract: the samples less the base, times the number, are what tap k adds, in either width.
use mathlib.Core.Path.{◌∙◌}
use lib.Dec.{lit≤}
use lib.IntN.{pos, ◌+ℤ◌, ◌-ℤ◌, ◌*ℤ◌}
use mir.Syntax.{w16, w32}
use mir.Val.{to_z, of_z}
use mir.Facts.{to_z-of_z}
use Rattle.laws.proofs.Sums.{tapped, passed}
use Rattle.filter.specs.Taps.{tap_of}
use Rattle.filter.proofs.Tapped.{group_begun, joined}
use Rattle.filter.proofs.sums.Summed.step.Goals as goal

pub returns-then-this-eq16 : goal.returns-then-this-eq16
returns-then-this-eq16 g c =
    let f = tap_of (g.T.Taps.samples c.args.self.now.taps.now) (g.T.Taps.base c.args.self.now.taps.now) (g.T.Taps.numbers c.args.self.now.taps.now) in
    let t1 = group_begun f c.args.k c.narrow_step.ensures.value c.narrow_step.ensures.bound c.narrow_step.type_inv in
    passed c.with_group.type_inv (joined (passed c.ranges.s.sfits c.requires.taken) t1 (lit≤ tt) c.with_group.ensures)

pub returns : goal.returns
returns g c =
    let number = to_z-of_z {w = w16} {z = c.number.result} (record { sfits = c.number.type_inv }) ∙ c.number.ensures in
    passed c.wide_tap.type_inv
    (tapped (passed c.ranges.s.sfits c.requires.taken)
    (c.wide_tap.ensures.0 ∙ (λ i. to_z w32 (of_z w32 c.args.s) +ℤ (pos (c.sample.ensures.value i) -ℤ pos (c.base.ensures.value i)) *ℤ number i)) c.wide_tap.ensures.1)
