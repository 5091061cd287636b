-- `padding::beside::copy_into` meets its contract: each turn stores one byte more (`sets_more`), and at the end all of src is stored (`all_tab`).
use Rattle.std.proofs.Common.{◌≡◌, ◌∙◌, ap, ℕ, length, rules}
use lib.ListN.{get_or, length-set}
use Rattle.std.proofs.lemmas.List.Edits.{sets}
use Rattle.definition.specs.Rows.{tab}
use Rattle.laws.proofs.Lists.{sets_more}
use Rattle.padding.proofs.Put.{all_tab}
use Rattle.padding.proofs.beside.copy_into.Goals as goal

pub loop-j-preserved : goal.loop-j-preserved
loop-j-preserved c =
    (simp length-set c.loop-j.invariant.0, rw c.loop-j.invariant.1 (sets_more c.loop-j.j c.args.dst.now c.args.at (λ i. get_or c.args.src.now i 0)))

pub returns : goal.returns
returns c =
    let src = c.args.src.now in
    let all : c.loop-j.j ≡ length src = search rules in
    c.loop-j.invariant.1 ∙ ap (sets c.args.dst.now c.args.at) (ap (λ (n : ℕ). tab n (λ i. get_or src i 0)) all ∙ all_tab src)
