-- `filter::pc_wiener_fir_run` meets its contract: a run that is not refused stays inside, and writes what each eight is.
use borrow.Author.Rules.{rules}
use native.Mathlib.Omega.{arith}
use mathlib.Core.Path.{sym}
use Prim.Native.Nat.{ℕ}
use lib.ListN.{length}
use Rattle.definition.specs.Rows.{luma_flat}
use Rattle.definition.specs.Sample.{limit8, pretrained_sample}
use Rattle.definition.specs.Leaves.{coefficients}
use Rattle.filter.proofs.Statuses.{run_inside, eight_inside}
use Rattle.filter.proofs.Writes.{done}
use Rattle.filter.proofs.pc_wiener_fir_run.Goals as goal

pub invariant_of-own-clause-inside : goal.invariant_of-own-clause-inside
invariant_of-own-clause-inside c = (run_inside (length c.args.dst.now) c.args.rows.now c.args.indices.now c.args.col0 c.args.n (sym c.in_ok-run_status.ensures)).inside

pub run-requires-clause-room : goal.run-requires-clause-room
run-requires-clause-room c =
    let h = run_inside (length c.args.dst.now) c.args.rows.now c.args.indices.now c.args.col0 c.args.n (sym c.in_ok-run_status.ensures) in
    (h.room, omega (arith, h.right), omega arith)

pub run-requires-clause-callable : goal.run-requires-clause-callable
run-requires-clause-callable c =
    let h = run_inside (length c.args.dst.now) c.args.rows.now c.args.indices.now c.args.col0 c.args.n (sym c.in_ok-run_status.ensures) in
    λ at l m. let eight = eight_inside 64 at h l m (omega arith) (omega arith) in search rules

pub returns-clause-dst_after : goal.returns-clause-dst_after
returns-clause-dst_after c =
    done _ _ _ (sym c.in_ok-run_status.ensures)
    (c.run.ensures (λ (b : ℕ). pretrained_sample limit8 (luma_flat c.args.rows.now c.args.indices.now b) (coefficients c.args.filter.now))
    (record { sample = λ at eight l m made. made }))
