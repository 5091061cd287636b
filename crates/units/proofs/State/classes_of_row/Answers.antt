-- `State::classes_of_row` meets its contract. The loop's invariant: the classes of the blocks before bx are stored.
use Rattle.std.proofs.Common.{◌≡◌, ◌∙◌, ℕ, ◌/◌, ◌≤◌, arith, rules, zero-add}
use Rattle.std.specs.Prelude.{length, pos, negsuc, [], ◌∷◌}
use Rattle.definition.specs.Blocks.{side}
use Rattle.definition.specs.Limits.{block_column_limit}
use Rattle.definition.specs.Rows.{state_bytes}
use Rattle.definition.specs.Leaves.{feature_at, feature_row}
use Rattle.laws.proofs.Answers.{served}
use Rattle.laws.proofs.Lists.{sets_more}
use Rattle.model.proofs.Step.{class_at}
use Rattle.units.specs.Padded.{lent_of}
use Rattle.units.specs.Step.{ring_of}
use Rattle.units.proofs.Classes.{features_serve, row-at}
use Rattle.units.proofs.State.classes_of_row.Goals as goal

pub unwrap-requires : goal.unwrap-requires
unwrap-requires c =
    let s = c.args.self.now in
    let n : length s.rows ≡ state_bytes = search rules in
    let few : c.args.unit.now.given.w / side ≤ block_column_limit = omega (arith, c.args.unit.now.inside.lie.own.wide.high) in
    served c.row_features.result (c.row_features.ensures.status_value ∙ features_serve (length s.rows) s.indices (c.args.unit.now.given.w / side) (omega (arith, n)) c.requires.by_index few)

pub loop-bx-preserved : goal.loop-bx-preserved
unfolding class_at
loop-bx-preserved c =
    let u = c.args.unit.now in
    let s = c.args.self.now in
    let bx = c.loop-bx.bx in
    let n = u.given.w / side in
    let few : n ≤ block_column_limit = omega (arith, u.inside.lie.own.wide.high) in
    let f0 : ℕ → ℕ = feature_at s.rows s.indices (pos 0) in
    let f1 : ℕ → ℕ = feature_at s.rows s.indices (pos 1) in
    let f2 : ℕ → ℕ = feature_at s.rows s.indices (negsuc 0) in
    let is : c.unwrap.result ≡ feature_row n f0 ∷ feature_row n f1 ∷ feature_row n f2 ∷ [] = search rules in
    let e : c.class_of.result ≡ class_at u.given (lent_of u) (ring_of s) s.done bx =
    rw (row-at n bx f0 few c.loop-bx-test.true, row-at n bx f1 few c.loop-bx-test.true, row-at n bx f2 few c.loop-bx-test.true) at (rw is at c.class_of.ensures) in
    let y = c.loop-bx.invariant.1 in (
      rw (c.loop-bx.invariant.0, e) (rw (zero-add bx) at (sets_more bx s.classes 0 (class_at u.given (lent_of u) (ring_of s) s.done))),
      record { op = y.op; given = y.given; done = y.done },
      c.loop-bx.invariant.2,
    )
