-- `filter::sums::Summed::three` meets its contract: three taps in 16 bits are a group, whose sum is added.
use lib.Dec.{lit≤}
use Rattle.laws.proofs.Sums.{tapped, passed}
use Rattle.filter.specs.Taps.{tap_of}
use Rattle.filter.proofs.Tapped.{passed_narrow, group_begun, joined}
use Rattle.filter.proofs.sums.Summed.three.Goals as goal

pub returns-then-this-eq16 : goal.returns-then-this-eq16
returns-then-this-eq16 g c =
    let f = tap_of (g.T.Taps.samples c.args.self.now.taps.now) (g.T.Taps.base c.args.self.now.taps.now) (g.T.Taps.numbers c.args.self.now.taps.now) in
    let t1 = group_begun f c.args.k c.narrow_step-t1.ensures.value c.narrow_step-t1.ensures.bound c.narrow_step-t1.type_inv in
    let t2 = passed_narrow c.narrow_step-t2.type_inv (tapped t1 c.narrow_step-t2.ensures.value c.narrow_step-t2.ensures.bound) in
    let t3 = passed_narrow c.narrow_step-t3.type_inv (tapped t2 c.narrow_step-t3.ensures.value c.narrow_step-t3.ensures.bound) in
    passed c.with_group.type_inv (joined (passed c.ranges.s.sfits c.requires.taken) t3 (lit≤ tt) c.with_group.ensures)
