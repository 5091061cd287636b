-- `padding::backup_row_luma::Sampling::fill_columns` meets its contract: whole steps are filled, and a column that is stepped over keeps its byte (`columns_more`).
use mathlib.Core.Path.{◌≡◌, ◌∙◌}
use Prim.Native.Nat.{◌+◌}
use native.Mathlib.Omega.{arith}
use lib.ListN.{set, length-set}
use Rattle.definition.specs.Padding.{even_only}
use Rattle.padding.specs.Steps.{columns}
use Rattle.padding.proofs.Filled.{WholeSteps, whole_more, columns_more}
use Rattle.padding.proofs.backup_row_luma.Sampling.fill_columns.Goals.{else-loop-j-test, then-loop-j-test+else-j-step-n}
use Rattle.padding.proofs.backup_row_luma.Sampling.fill_columns.Goals as goal

pub loop-j-preserved : goal.loop-j-preserved
loop-j-preserved g c =
    let s = c.loop-j.invariant.steps in
    record {
      steps = whole_more c.args.self.ss_ver c.args.self.kind c.step-j-step.result c.loop-j.j c.args.n c.step-j-step.ensures s c.loop-j-test.true c.requires.n_value;
      step = c.step-j-step.ensures;
      same_length = simp length-set c.loop-j.invariant.same_length;
      done = λ h agrees.
          rw (c.loop-j.invariant.done h agrees, agrees c.loop-j.j c.f.result c.f.ensures)
          (columns_more c.args.self.ss_ver c.args.self.kind c.step-j-step.result c.loop-j.j c.args.n c.step-j-step.ensures s c.args.dst.now c.args.at h);
    }

pub returns : goal.returns
returns g c = λ h agrees.
    let s = c.loop-j.invariant.steps in
    elim c.loop-j-test.branch [
      | else-loop-j-test w ↦
          let e : c.loop-j.j ≡ c.args.n = omega arith in
          w.dst-is ∙ rw e at (c.loop-j.invariant.done h agrees)
      | then-loop-j-test+else-j-step-n w ↦
          let m : WholeSteps (even_only c.args.self.ss_ver c.args.self.kind) (c.loop-j.j + c.step-j-step.result) c.args.n =
          whole_more c.args.self.ss_ver c.args.self.kind c.step-j-step.result c.loop-j.j c.args.n c.step-j-step.ensures s w.loop-j-test.true c.requires.n_value in
          let e : c.loop-j.j + c.step-j-step.result ≡ c.args.n = omega arith in
          let d : set c.loop-j.dst (c.args.at + c.loop-j.j) w.f.result ≡ columns c.args.dst.now c.args.at (c.loop-j.j + c.step-j-step.result) c.args.self.ss_ver c.args.self.kind h =
          rw (c.loop-j.invariant.done h agrees, agrees c.loop-j.j w.f.result w.f.ensures)
          (columns_more c.args.self.ss_ver c.args.self.kind c.step-j-step.result c.loop-j.j c.args.n c.step-j-step.ensures s c.args.dst.now c.args.at h) in
          w.dst-is ∙ rw e at d
    ]
