-- `qval::get_qval_given_tskip` meets its contract: each step is exact, and the last clips.
use mathlib.Core.Path.{◌≡◌, ap, ◌∙◌}
use Prim.Native.Nat.{◌*◌, ◌^◌, ◌<◌, ◌≤◌}
use native.Mathlib.Omega.{arith}
use lib.Dec.{lit<, lit≤}
use lib.IntN.{ℤ, pos, nat_abs, ◌+ℤ◌, ◌*ℤ◌}
use lib.ListN.{get_or}
use lib.Signed.{mag}
use mir.Syntax.{w32, w64}
use mir.Val.{SFits, to_z, of_z}
use mir.Facts.{to_z-of_z}
use borrow.Author.Tests.{lt-ltb}
use Rattle.definition.specs.Numbers.{to_i32}
use Rattle.definition.specs.ClassIndex.{prod, weight, weighted, by8192, mode_offsets, term}
use Rattle.laws.proofs.Held.{Held, kept, under, natural, plus, times, times_fits}
use Rattle.qval.proofs.Terms.{offset_fits, widened}
use Rattle.qval.proofs.get_qval_given_tskip.Goals as goal

most_byte : Held w64 255 (pos 255) 255
most_byte = natural (lit≤ tt) (lit< tt)

result_fits : (z : ℤ) → mag z < 2 ^ 63 → SFits w64 z
result_fits z ok = record { sfits = ok }

-- the offset and the quotient
quotient : {v : ℤ} → SFits w64 v → nat_abs v ≤ 36028797018968064 → Held w64 (of_z w64 v) v 36028797018968064
quotient f b = under (kept f) b

pub overflow_mul-offset : goal.overflow_mul-offset
overflow_mul-offset c =
    times_fits most_byte
    (plus (widened c.from-offset.type_inv c.from-offset.ensures (offset_fits c.args.i)) (quotient (result_fits c.by_8192-v.result c.by_8192-v.type_inv) c.by_8192-v.ensures.1) (lit< tt))
    (lit< tt)

pub returns-clause-status_value : goal.returns-clause-status_value
returns-clause-status_value c = rw (lt-ltb c.args.i 4 (omega arith))

pub returns-clause-term_value : goal.returns-clause-term_value
unfolding term
returns-clause-term_value c =
    let q-is : to_z w32 (of_z w32 c.args.qstep) ≡ c.args.qstep = to_z-of_z c.ranges.qstep in
    let p-is : to_z w64 (of_z w64 c.tskip_product.result) ≡ prod c.args.qstep c.args.tskip =
    to_z-of_z (result_fits c.tskip_product.result c.tskip_product.type_inv) ∙ c.tskip_product.ensures.0 ∙ (λ k. prod (q-is k) c.args.tskip)
    in
    let w-is : to_z w64 (of_z w64 c.weighted_sum.result) ≡ weighted c.args.qstep c.args.tskip c.args.i =
    to_z-of_z (result_fits c.weighted_sum.result c.weighted_sum.type_inv) ∙
    c.weighted_sum.ensures.0 ∙
    (λ k. weight c.args.i 0 *ℤ pos (32 * c.args.tskip) +ℤ weight c.args.i 1 *ℤ q-is k +ℤ weight c.args.i 2 *ℤ p-is k)
    in
    let b-is : c.by_8192-v.result ≡ by8192 (weighted c.args.qstep c.args.tskip c.args.i) = c.by_8192-v.ensures.0 ∙ ap by8192 w-is in
    let h =
    times most_byte
    (plus (widened c.from-offset.type_inv c.from-offset.ensures (offset_fits c.args.i)) (quotient (result_fits c.by_8192-v.result c.by_8192-v.type_inv) c.by_8192-v.ensures.1) (lit< tt))
    (lit< tt)
    in
    to_z-of_z {w = w32} {z = c.iclip64to32.result} (record { sfits = c.iclip64to32.type_inv }) ∙
    c.iclip64to32.ensures ∙
    ap to_i32 (h.is ∙ (λ k. pos 255 *ℤ (get_or mode_offsets c.args.i (pos 0) +ℤ b-is k)))
