use Rattle.std.proofs.Common.{◌∙◌, arith, length-set}
use Rattle.text.proofs.Zeros.{one_less}
use Rattle.text.proofs.Text.push.Goals as goal

pub invariant_of-self : goal.invariant_of-self
invariant_of-self g c =
    let before = c.self.inside in
    (omega (arith, c.if-self.true), length-set before.bytes before.len c.args.byte ∙ c.self.invariant.1, one_less g.row.N before.len c.args.byte before.bytes c.self.invariant.2)
