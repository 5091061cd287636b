-- `filter::pretrained::taken_off` meets its contract: after k turns the first k numbers are added up.
use borrow.Author.Rules.{rules}
use native.Mathlib.Numerals.{add-one}
use native.Mathlib.Omega.{arith}
use mathlib.Core.Path.{◌≡◌, refl}
use lib.IntN.{pos}
use lib.ListN.{get_or, take}
use Rattle.std.proofs.lemmas.List.{get_or-take, length-take-le}
use Prim.Native.Nat.{◌+◌, ◌*◌, ◌<◌}
use mir.Syntax.{w16, w32}
use mir.Val.{SFits, of_z}
use Rattle.definition.specs.Numbers.{sum_z}
use Rattle.definition.specs.Leaves.{coefficients}
use Rattle.laws.proofs.Held.{Held, plus}
use Rattle.filter.proofs.Steps.{widened}
use Rattle.filter.proofs.pretrained.taken_off.Goals as goal

pub loop-c-init : goal.loop-c-init
unfolding sum_z
loop-c-init c = (refl, omega arith)

pub loop-c-preserved : goal.loop-c-preserved
unfolding sum_z
loop-c-preserved c =
    let k = c.loop-c.c-index in
    let below : k < 12 = rw (length-take-le 12 c.args.filter.now (omega arith)) at c.loop-c-test.true in
    let at : get_or (take 12 c.args.filter.now) k (pos 0) ≡ coefficients c.args.filter.now k = get_or-take 12 c.args.filter.now k (pos 0) below in
    let fits : SFits w16 (coefficients c.args.filter.now k) = search rules in
    let number : Held w32 (of_z w32 c.from-s.result) (coefficients c.args.filter.now k) 32768 = widened fits (rw at at c.from-s.ensures) (record { sfits = c.from-s.type_inv }) in
    let so-far : Held w32 c.loop-c.s-bits (sum_z k (coefficients c.args.filter.now)) (k * 32768) =
    record { is = c.loop-c.invariant.0; bound = rw c.loop-c.invariant.0 at c.loop-c.invariant.1 } in
    let room : k * 32768 + 32768 < 2147483648 = omega (arith, below) in
    let r = plus so-far number room in
    (rw add-one r.is, rw r.is (omega (arith, r.bound)))
