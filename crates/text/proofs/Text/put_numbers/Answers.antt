use Rattle.std.proofs.Common.{◌≡◌, ◌≤◌, ◌∙◌, ap, ◌++◌, [], ◌∷◌, length, take, arith}
use lib.ListN.{length-take}
use Rattle.definition.specs.StateText.{several_text}
use Rattle.text.proofs.Cuts.{cut_none}
use Rattle.text.proofs.Numbers.{first_numbers, one_more}
use Rattle.text.proofs.Text.put_numbers.Goals as goal

pub loop-k-init : goal.loop-k-init
unfolding several_text
loop-k-init g c = λ f h.
    let l : length c.args.self.now ≤ g.row.N = rw (← c.self.view_is) (omega (arith, c.self.invariant, length-take c.self.inside.len c.self.inside.bytes)) in
    cut_none g.row.N c.args.self.now l

pub loop-k-preserved : goal.loop-k-preserved
loop-k-preserved g c = λ f h.
    one_more f c.args.n g.row.N c.loop-k.k c.number.result c.args.self.now c.loop-k.self c.put_number.new.self c.push.new.self (h c.loop-k.k c.number.result c.loop-k-test.true c.number.ensures)
    (c.loop-k.invariant f h) c.put_number.ensures (c.push.ensures ∙ ap (λ b. take g.row.N (c.put_number.new.self ++ (b ∷ []))) c.end_of.ensures)

pub returns : goal.returns
returns g c = λ f h.
    let e : c.loop-k.k ≡ c.args.n = omega (arith, c.loop-k.auto.k-end, c.loop-k-test.false) in
    c.loop-k.invariant f h ∙ ap (λ k. take g.row.N (c.args.self.now ++ first_numbers f c.args.n k)) e
