-- `classed::class_of` meets its contract: the call for the index is not refused, and the index is below the map's size.
use Rattle.std.proofs.Common.{◌≡◌, ◌∙◌, rules}
use Rattle.std.specs.Prelude.{length}
use Rattle.class_index.specs.Answers.{class_index_by}
use Rattle.laws.proofs.Answers.{served}
use Rattle.units.specs.Padded.{lent_of}
use Rattle.units.proofs.Classes.{place_serves, index-low, entry_low}
use Rattle.units.proofs.classed.class_of.Goals as goal

pub unwrap-answer-requires : goal.unwrap-answer-requires
unwrap-answer-requires c =
    let p = c.requires.placed in
    served c.class_of_features.result (c.class_of_features.ensures.status_value ∙ place_serves _ _ _ _ p.0 p.1 p.2 p.3)

pub bounds-l-answer : goal.bounds-l-answer
bounds-l-answer c =
    let l = lent_of c.args.unit.now in
    let p = c.args.place in
    let s = c.args.sums in
    let i-is : c.unwrap-answer.result ≡ class_index_by s l.noskip l.q p.bx p.by p.bh = search rules in
    rw ((c.args.unit.now.inside.mapped c.requires.op_value).size, i-is) (index-low _ _ _)

pub bounds-l-from : goal.bounds-l-from
bounds-l-from c =
    let l = lent_of c.args.unit.now in
    let p = c.args.place in
    let s = c.args.sums in
    let m = c.args.unit.now.inside.mapped c.requires.op_value in
    let i-is : c.unwrap-answer.result ≡ class_index_by s l.noskip l.q p.bx p.by p.bh = search rules in
    rw c.from.ensures (entry_low l.map (length l.subclass) c.unwrap-answer.result.index (rw (m.size, i-is) (index-low _ _ _)) m.maps)
