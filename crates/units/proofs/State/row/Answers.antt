-- `State::row` meets its contract: what the row is restored from, the row, the windows moved on.
use Rattle.std.specs.Prelude.{length}
use Rattle.definition.specs.Calls.{lists_lent}
use Rattle.units.proofs.OneRow.{restorable, taken-sound, slid-sound, stepped}
use Rattle.units.proofs.State.row.Goals as goal

pub restore-requires : goal.restore-requires
restore-requires c =
    let s = c.args.self.now in
    let l = lists_lent c.args.op c.args.lent.now in
    let n = length c.args.p.now in
    restorable c.args.op l s c.take.new.self n c.take.ensures.stays c.requires.done_lt_h c.requires.fit
    (taken-sound c.args.op s.given l c.args.p.now s.done n c.requires.fit c.requires.sound c.take.ensures.taken)

pub returns-clause-one_row : goal.returns-clause-one_row
returns-clause-one_row c =
    let l = lists_lent c.args.op c.args.lent.now in
    stepped c.args.op l c.args.self.now c.take.new.self c.args.p.now c.take.ensures.stays c.take.ensures.taken (λ e. (c.requires.fit.sources.luma e).own.hor) c.restore.ensures c.slide.ensures

pub returns-clause-sound_2 : goal.returns-clause-sound_2
returns-clause-sound_2 c =
    let s = c.args.self.now in
    let l = lists_lent c.args.op c.args.lent.now in
    let n = length c.args.p.now in
    rw c.slide.ensures (slid-sound c.args.op (length l.filters) (taken-sound c.args.op s.given l c.args.p.now s.done n c.requires.fit c.requires.sound c.take.ensures.taken))
