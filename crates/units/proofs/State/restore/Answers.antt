-- `State::restore` meets its contract: the blocks below bx are done. Those before the next stretch are masked and stay; the stretch is one run under its class's set.
use Rattle.std.proofs.Common.{◌≡◌, ◌∙◌, sym, ap, ℕ, ◌+◌, ◌*◌, ◌/◌, cond, arith, rules}
use Rattle.std.specs.Prelude.{get_or}
use Rattle.std.proofs.lemmas.List.Edits.{sets}
use Rattle.definition.specs.Blocks.{side, masked, stretch_start}
use Rattle.definition.specs.Leaves.{end_from}
use Rattle.definition.specs.Rows.{tab}
use Rattle.definition.specs.Sample.{limit8}
use Rattle.definition.specs.Calls.{lists_lent}
use Rattle.laws.proofs.Lists.{tab_cong}
use Rattle.model.proofs.Cells.{cell_of}
use Rattle.units.specs.Restored.{columns_of, seen}
use Rattle.units.proofs.Firsts.{ClassStretch, class_stretch, all-kept}
use Rattle.units.proofs.Samples.{told_sets, told_cells}
use Rattle.units.proofs.Stretches.{kept_more, run_more, row_done}
use Rattle.units.proofs.State.restore.Goals as goal

pub overflow_mul-end : goal.overflow_mul-end
overflow_mul-end c =
    let e : ClassStretch c.mask_of_row-mask.result c.told_apart-told.result c.loop-bx.bx (c.args.self.now.given.w / side) c.unwrap-s.result.start c.unwrap-s.result.end =
    class_stretch _ _ _ _ _ (omega (arith, c.requires.wide)) c.loop-bx.invariant.0 (search rules) _ c.if-start-bw.true (search rules) in
    record { fits = omega (arith, e.low, c.requires.wide) }

pub run-requires-clause-x0_le_x1 : goal.run-requires-clause-x0_le_x1
run-requires-clause-x0_le_x1 c =
    let e : ClassStretch c.mask_of_row-mask.result c.told_apart-told.result c.loop-bx.bx (c.args.self.now.given.w / side) c.unwrap-s.result.start c.unwrap-s.result.end =
    class_stretch _ _ _ _ _ (omega (arith, c.requires.wide)) c.loop-bx.invariant.0 (search rules) _ c.if-start-bw.true (search rules) in
    (omega (arith, e.some), omega (arith, e.low, c.requires.wide), omega (arith, e.low, c.requires.room, c.loop-bx.invariant.1.same))

pub run-requires-clause-has_set : goal.run-requires-clause-has_set
run-requires-clause-has_set c =
    told_sets c.told_apart-told.result c.args.self.now.classes c.args.op _ c.told_apart-told.ensures c.requires.kept c.unwrap-s.result.start (omega (arith, c.requires.wide))

pub loop-bx-smaller-then-start-bw : goal.loop-bx-smaller-then-start-bw
loop-bx-smaller-then-start-bw c =
    let e : ClassStretch c.mask_of_row-mask.result c.told_apart-told.result c.loop-bx.bx (c.args.self.now.given.w / side) c.unwrap-s.result.start c.unwrap-s.result.end =
    class_stretch _ _ _ _ _ (omega (arith, c.requires.wide)) c.loop-bx.invariant.0 (search rules) _ c.if-start-bw.true (search rules) in
    omega (arith, e.some, e.from, e.low)

pub loop-bx-preserved-then-start-bw : goal.loop-bx-preserved-then-start-bw
loop-bx-preserved-then-start-bw c =
    let e : ClassStretch c.mask_of_row-mask.result c.told_apart-told.result c.loop-bx.bx (c.args.self.now.given.w / side) c.unwrap-s.result.start c.unwrap-s.result.end =
    class_stretch _ _ _ _ _ (omega (arith, c.requires.wide)) c.loop-bx.invariant.0 (search rules) _ c.if-start-bw.true (search rules) in
    let by : ℕ → ℕ → ℕ = λ cls x. seen c.args.op c.args.self.now (lists_lent c.args.op c.args.lent.now) cls x in (
      e.low,
      run_more (by (get_or c.told_apart-told.result c.unwrap-s.result.start 0)) (omega (arith, e.some)) e.clear (kept_more e.from e.kept c.loop-bx.invariant.1) c.run.ensures
          (λ x g h. ap (λ (cls : ℕ). by cls x) (sym (e.alike (x / side) (omega (arith, g)) (omega (arith, h))))),
    )

pub loop-bx-preserved : goal.loop-bx-preserved
loop-bx-preserved c =
    let s-is : c.unwrap-s.result.start ≡ stretch_start c.mask_of_row-mask.result c.loop-bx.bx (c.args.self.now.given.w / side) = search rules in
    let e-is : c.unwrap-s.result.end ≡ end_from c.mask_of_row-mask.result c.told_apart-told.result (stretch_start c.mask_of_row-mask.result c.loop-bx.bx (c.args.self.now.given.w / side)) (c.args.self.now.given.w / side) = search rules in
    let last : c.unwrap-s.result.end ≡ c.args.self.now.given.w / side = search rules in (
      omega (arith, last),
      rw last
          (kept_more c.loop-bx.invariant.0
          (all-kept c.mask_of_row-mask.result c.told_apart-told.result c.loop-bx.bx (c.args.self.now.given.w / side) c.unwrap-s.result.start (omega (arith, c.requires.wide)) c.loop-bx.invariant.0 s-is (omega arith)) c.loop-bx.invariant.1),
    )

pub returns : goal.returns
unfolding cell_of
returns c =
    let s = c.args.self.now in
    let l = lists_lent c.args.op c.args.lent.now in
    let at = s.given.off + s.done * s.given.stride in
    row_done s.given.w (omega (arith, c.requires.whole, c.loop-bx.invariant.0)) c.loop-bx.invariant.1 ∙
    ((λ i.
    sets c.args.p.now at
    (tab_cong s.given.w _ _
    (λ x h.
    ap (cond (masked c.mask_of_row-mask.result (x / side)) (get_or c.args.p.now (at + x) 0))
    (told_cells c.told_apart-told.result s.classes limit8 c.args.op s.rows s.indices (columns_of s) l.filters x c.told_apart-told.ensures))
    i)) ∙
    (λ i. sets c.args.p.now at (tab s.given.w (λ x. cell_of limit8 c.args.op s.rows s.indices (columns_of s) l.filters s.classes (c.mask_of_row-mask.ensures i) (get_or c.args.p.now (at + x) 0) x))))
