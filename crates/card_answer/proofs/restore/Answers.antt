use Rattle.std.proofs.Common.{◌∙◌, rules, arith}
use Rattle.laws.proofs.Answers.{served}
use Rattle.card_answer.proofs.Restorations.{accepted, restored-plane}
use Rattle.card_answer.proofs.restore.Goals as goal

pub unwrap-requires : goal.unwrap-requires
unwrap-requires c =
    let d = c.default.ensures.1.1 in
    let e = d.1.1.1.1.1.1 in
    let o = rw (d.0, d.1.1.0, d.1.1.1.0, d.1.1.1.1.0, d.1.1.1.1.1.0, e.0, e.1.0, e.1.1.0, e.1.1.1.0, e.1.1.1.1.0, e.1.1.1.1.1) at c.restore.ensures in
    served _ (o.status ∙ accepted c.args.card.now.w c.args.card.now.h _ _ _ c.requires.0 c.requires.1 (search rules) c.told-skip (omega (arith, c.requires.2)))

pub returns-clause-plane_after : goal.returns-clause-plane_after
returns-clause-plane_after c =
    let d = c.default.ensures.1.1 in
    let e = d.1.1.1.1.1.1 in
    let o = rw (d.0, d.1.1.0, d.1.1.1.0, d.1.1.1.1.0, d.1.1.1.1.1.0, e.0, e.1.0, e.1.1.0, e.1.1.1.0, e.1.1.1.1.0, e.1.1.1.1.1) at c.restore.ensures in
    restored-plane c.args.card.now.w c.args.card.now.h _ _ _ _ _ c.requires.0 c.requires.1 (search rules) c.told-skip c.requires.2 o
