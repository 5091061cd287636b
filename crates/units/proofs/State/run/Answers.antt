-- `State::run` meets its contract: the run that goes with the operation, under the class's set; it is not refused, and the part that it was lent comes back written.
use Rattle.std.proofs.Common.{◌≡◌, ◌∙◌, ap, inl, inr, List, ◌+◌, rules}
use Rattle.std.specs.Prelude.{ℤ, pos, length, get_or, slice_range}
use Rattle.definition.specs.declared.Operation.TheVariants.{Luma, User, Pretrained, Chroma}
use Rattle.definition.specs.Rows.{state_bytes}
use Rattle.units.specs.Restored.{columns_of}
use Rattle.units.proofs.Runs.{luma-written, pretrained_written, chroma_written}
use Rattle.units.proofs.Samples.{part-at, run_is}
use Rattle.units.proofs.State.run.Goals as goal

pub returns-in-Luma : goal.returns-in-Luma
returns-in-Luma c =
    let a = c.args in
    let s = a.self.now in
    let from = c.set_start-from.result in
    let long : length s.rows ≡ state_bytes = search rules in
    let set-is : c.set_at-set.result ≡ slice_range a.lent.now.filters.now from (from + 16) = c.set_at-set.ensures in
    elim c.in-Luma.is [
      | inl e ↦ rw e
          (run_is s.rows s.indices a.p.now a.lent.now.filters.now a.lent.now.wide.now c.set_at-set.result (columns_of s) a.at a.x0 a.x1 a.class from Luma
          (rw e at c.set_start-from.ensures) (λ k h. ap (λ (xs : List ℤ). get_or xs k (pos 0)) set-is ∙ part-at a.lent.now.filters.now from 16 k h)
          (luma-written a.p.now c.ns_wiener_fir_run.new.dst s.rows s.indices a.at a.x0 a.x1 c.requires.x0_le_x1.0 c.requires.x0_le_x1.1 c.requires.x0_le_x1.2 long c.set_at-set.result (rw e at c.requires.by_index) c.ns_wiener_fir_run.ensures.dst_after))
      | inr e ↦ rw e
          (run_is s.rows s.indices a.p.now a.lent.now.filters.now a.lent.now.wide.now c.set_at-set.result (columns_of s) a.at a.x0 a.x1 a.class from User
          (rw e at c.set_start-from.ensures) (λ k h. ap (λ (xs : List ℤ). get_or xs k (pos 0)) set-is ∙ part-at a.lent.now.filters.now from 16 k h)
          (luma-written a.p.now c.ns_wiener_fir_run.new.dst s.rows s.indices a.at a.x0 a.x1 c.requires.x0_le_x1.0 c.requires.x0_le_x1.1 c.requires.x0_le_x1.2 long c.set_at-set.result (rw e at c.requires.by_index) c.ns_wiener_fir_run.ensures.dst_after))
    ]

pub returns-in-Pretrained : goal.returns-in-Pretrained
returns-in-Pretrained c =
    let a = c.args in
    let s = a.self.now in
    let from = c.set_start-from.result in
    let long : length s.rows ≡ state_bytes = search rules in
    let set-is : c.set_at-set-in-Pretrained.result ≡ slice_range a.lent.now.wide.now from (from + 13) = c.set_at-set-in-Pretrained.ensures in
    rw c.in-Pretrained.is
    (run_is s.rows s.indices a.p.now a.lent.now.filters.now a.lent.now.wide.now c.set_at-set-in-Pretrained.result (columns_of s) a.at a.x0 a.x1 a.class from Pretrained
    (rw c.in-Pretrained.is at c.set_start-from.ensures) (λ k h. ap (λ (xs : List ℤ). get_or xs k (pos 0)) set-is ∙ part-at a.lent.now.wide.now from 13 k h)
    (pretrained_written a.p.now c.pc_wiener_fir_run.new.dst s.rows s.indices a.at a.x0 a.x1 c.requires.x0_le_x1.0 c.requires.x0_le_x1.1 c.requires.x0_le_x1.2 long c.set_at-set-in-Pretrained.result (rw c.in-Pretrained.is at c.requires.by_index) c.pc_wiener_fir_run.ensures.dst_after))

pub returns-in-Chroma : goal.returns-in-Chroma
returns-in-Chroma c =
    let a = c.args in
    let s = a.self.now in
    let from = c.set_start-from.result in
    let long : length s.rows ≡ state_bytes = search rules in
    let set-is : c.set_at-set-in-Chroma.result ≡ slice_range a.lent.now.filters.now from (from + 18) = c.set_at-set-in-Chroma.ensures in
    let e = c.in-Chroma.is in
    let step = c.luma_step-step.result in
    rw (e, ← c.luma_step-step.ensures.0)
    (run_is s.rows s.indices a.p.now a.lent.now.filters.now a.lent.now.wide.now c.set_at-set-in-Chroma.result step a.at a.x0 a.x1 a.class from Chroma
    (rw e at c.set_start-from.ensures) (λ k h. ap (λ (xs : List ℤ). get_or xs k (pos 0)) set-is ∙ part-at a.lent.now.filters.now from 18 k h)
    (chroma_written a.p.now c.ns_wiener_uv_fir_run.new.dst s.rows s.indices a.at a.x0 a.x1 c.requires.x0_le_x1.0 c.requires.x0_le_x1.1 c.requires.x0_le_x1.2 long step c.set_at-set-in-Chroma.result c.luma_step-step.ensures.2 (rw e at c.requires.by_index)
    c.ns_wiener_uv_fir_run.ensures.dst_after))
