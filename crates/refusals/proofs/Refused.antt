-- What the first lines of the table of refusals bound.
use mathlib.Core.Path.{◌≡◌}
use mathlib.Core.Bool.{◌&&◌, ◌||◌}
use Prim.Native.Nat.{◌+◌, ◌≤◌}
use native.Mathlib.Omega.{arith}
use lib.Dec.{ltb}
use borrow.Author.Tests.{ltb-false, not-false}
use Rattle.definition.specs.declared.Operation.{Operation}
use Rattle.definition.specs.declared.Given.{Given}
use Rattle.definition.specs.Limits.{width_limit, height_limit, stride_limit}
use Rattle.definition.specs.Units.{border, chromatic}
use Rattle.definition.specs.Refusals.{lowest, right_of}
use Rattle.laws.proofs.Passes.{not_both}
use Rattle.laws.proofs.Checks.{clear}
use Rattle.laws.proofs.Inside.{is-sized, unless}
use Rattle.refusals.specs.Table.{first_checks, Within}

-- WHAT THE FIRST FOUR LINES BOUND
module _ (op : Operation) (g : Given) where
  pub within : lowest (first_checks op g) ≡ 0 → Within op g
  within e =
      let c = clear (first_checks op g) tt e in
      let w = is-sized width_limit g.w (not-false _ c.0) in
      let h = is-sized height_limit g.h (not-false _ c.1.0) in
      let s = not_both (ltb g.stride (g.w + right_of g (border op)) || ltb stride_limit g.stride) (chromatic op && ltb stride_limit g.luma_stride) c.1.1.0 in
      let t = not_both (ltb g.stride (g.w + right_of g (border op))) (ltb stride_limit g.stride) s.0 in
      record {
        wide = w.high;
        low = h.low;
        tall = h.high;
        near = ltb-false stride_limit g.stride t.1;
        luma =
            λ k.
            let p = not_both (ltb 1 g.ss_hor || ltb g.ss_hor g.ss_ver) (ltb 2 g.kind) (unless (chromatic op) _ c.1.1.1.0 k) in
            let d = not_both (ltb 1 g.ss_hor) (ltb g.ss_hor g.ss_ver) p.0 in
            let x : g.ss_hor ≤ 1 = ltb-false 1 g.ss_hor d.0 in
            let y : g.ss_ver ≤ g.ss_hor = ltb-false g.ss_hor g.ss_ver d.1 in
            record {
              wide = w.high;
              low = h.low;
              tall = h.high;
              near = ltb-false stride_limit g.luma_stride (unless (chromatic op) _ s.1 k);
              hor = x;
              ver = omega arith;
            };
      }
