-- `blocks::class_stretch` meets its contract. Both loops walk: what is still to be found from here on is what was to be found from the start on.
use mathlib.Core.Path.{◌≡◌, refl, sym, ap, ◌∙◌}
use mathlib.Core.Bool.{true, false, not}
use Prim.Native.Nat.{◌+◌, ◌-◌}
use native.Mathlib.Omega.{arith}
use lib.Dec.{eqb}
use lib.ListN.{get_or}
use borrow.Author.Tests.{ne_eqb, eq-eqb, lt-ltb, le-ltb}
use Rattle.definition.specs.Blocks.{masked, first_of, stretch_start}
use Rattle.blocks.proofs.First.{first-low, first_most, first-skip, first-here, first-end, first_later, first_either}
use Rattle.blocks.proofs.Walk.{clear, other}
use Rattle.blocks.proofs.class_stretch.Goals as goal
use Rattle.blocks.proofs.class_stretch.Goals.{then-limit-next-via-then-limit-next, then-limit-next-via-else-limit-next+then-classes-next}

pub loop-next-init : goal.loop-next-init
loop-next-init c =
    let n = c.loop-start.start + 1 in
    let low = first-low (masked c.args.mask) (c.args.bw - n) n in
    let high = first_most (masked c.args.mask) (c.args.bw - n) n in
    record {
      here = omega arith;
      more = omega (arith, c.masked_end-limit.ensures, low);
      inside = omega (arith, c.masked_end-limit.ensures, high);
      masked_next = sym c.masked_end-limit.ensures;
      other_next = refl;
    }

pub loop-next-preserved : goal.loop-next-preserved
loop-next-preserved c =
    let i = c.loop-next.invariant in
    let later = first_later (masked c.args.mask) c.loop-next.next c.args.bw c.masked_end-limit.result (omega (arith, c.if-limit-next.false, i.inside)) i.masked_next (omega (arith, c.if-limit-next.false)) in
    let e : eqb (get_or c.args.classes.now c.loop-next.next 0) (get_or c.args.classes.now c.loop-start.start 0) ≡ true = eq-eqb _ _ c.if-classes-next.false in
    let t : other c.args.mask c.args.classes.now c.loop-start.start c.loop-next.next ≡ false = rw (later.0, e) in
    record {
      here = omega (arith, i.here);
      more = omega (arith, c.if-limit-next.false);
      inside = i.inside;
      masked_next = later.1;
      other_next = i.other_next ∙ first-skip (other c.args.mask c.args.classes.now c.loop-start.start) c.loop-next.next c.args.bw (omega (arith, c.if-limit-next.false, i.inside)) t;
    }

pub loop-start-preserved : goal.loop-start-preserved
loop-start-preserved c =
    let t : clear c.args.mask c.loop-start.start ≡ false = ap not (sym c.is_masked.ensures ∙ c.if-not-is_masked.false) in
    (omega arith, c.loop-start.invariant.1 ∙ first-skip (clear c.args.mask) c.loop-start.start c.args.bw (omega arith) t)

pub returns-then-not-is_masked-clause-start_value : goal.returns-then-not-is_masked-clause-start_value
returns-then-not-is_masked-clause-start_value c =
    let t : clear c.args.mask c.loop-start.start ≡ true = ap not (sym c.is_masked.ensures ∙ c.if-not-is_masked.true) in
    sym (c.loop-start.invariant.1 ∙ first-here (clear c.args.mask) c.loop-start.start c.args.bw (omega arith) t)

pub returns-then-not-is_masked-clause-end_value : goal.returns-then-not-is_masked-clause-end_value
returns-then-not-is_masked-clause-end_value c =
    let i = c.loop-next.invariant in
    let t : clear c.args.mask c.loop-start.start ≡ true = ap not (sym c.is_masked.ensures ∙ c.if-not-is_masked.true) in
    let s : stretch_start c.args.mask c.args.bx c.args.bw ≡ c.loop-start.start = c.loop-start.invariant.1 ∙ first-here (clear c.args.mask) c.loop-start.start c.args.bw (omega arith) t in
    let f : first_of (other c.args.mask c.args.classes.now c.loop-start.start) c.loop-next.next (c.args.bw - c.loop-next.next) ≡ c.loop-next.next =
    elim c.then-limit-next.branch [
      | then-limit-next-via-then-limit-next w ↦
          first_either (masked c.args.mask) (λ k. not (eqb (get_or c.args.classes.now k 0) (get_or c.args.classes.now c.loop-start.start 0))) c.loop-next.next c.args.bw
          (i.masked_next ∙ omega (arith, w.if-limit-next, i.more))
      | then-limit-next-via-else-limit-next+then-classes-next w ↦
          let later = first_later (masked c.args.mask) c.loop-next.next c.args.bw c.masked_end-limit.result (omega (arith, w.if-limit-next, i.inside)) i.masked_next (omega (arith, w.if-limit-next)) in
          let e : eqb (get_or c.args.classes.now c.loop-next.next 0) (get_or c.args.classes.now c.loop-start.start 0) ≡ false = ne_eqb _ _ w.if-classes-next.true in
          let o : other c.args.mask c.args.classes.now c.loop-start.start c.loop-next.next ≡ true = rw (later.0, e) in
          first-here (other c.args.mask c.args.classes.now c.loop-start.start) c.loop-next.next c.args.bw (omega (arith, w.if-limit-next, i.inside)) o
    ]
    in
    rw (s, lt-ltb c.loop-start.start c.args.bw (omega arith)) (sym (i.other_next ∙ f))

pub returns-clause-start_value : goal.returns-clause-start_value
returns-clause-start_value c =
    let e : c.loop-start.start ≡ c.args.bw = omega (arith, c.loop-start.invariant.0) in
    sym (c.loop-start.invariant.1 ∙ first-end (clear c.args.mask) c.loop-start.start c.args.bw (omega arith) ∙ e)

pub returns-clause-end_value : goal.returns-clause-end_value
returns-clause-end_value c =
    let e : c.loop-start.start ≡ c.args.bw = omega (arith, c.loop-start.invariant.0) in
    let s : stretch_start c.args.mask c.args.bx c.args.bw ≡ c.args.bw = c.loop-start.invariant.1 ∙ first-end (clear c.args.mask) c.loop-start.start c.args.bw (omega arith) ∙ e in
    rw (s, le-ltb c.args.bw c.args.bw (omega arith))
