-- `plane::walk::Plane::restore_units` meets its contract: `Reached` holds before each unit, and one unit more keeps it.
use Rattle.std.proofs.Common.{◌≡◌, refl, List, ℕ, ◌+◌, ◌-◌, ◌*◌, ◌≤◌, ◌<◌, min, arith, rules}
use Rattle.std.specs.Prelude.{ℤ, length}
use Rattle.std.proofs.Math.Nat.{mul-le-mul_right}
use Rattle.definition.specs.Answers.{value_from}
use Rattle.definition.specs.Limits.{scratch_rows}
use Rattle.definition.specs.Planes.{unit_count}
use Rattle.laws.proofs.Answers.{served}
use Rattle.plane_laws.proofs.Answers.{PlaneFine}
use Rattle.plane_laws.proofs.Cut.{Lies}
use Rattle.whole.specs.Whole.{restored_of}
use Rattle.plane.specs.declared.cut.Plane.{Plane}
use Rattle.plane.proofs.Reached.{Reached, start, ended, lies, bank_low, one_more}
use Rattle.plane.proofs.cut.Plane.restore_units.Goals as goal
use Rattle.plane.proofs.cut.Plane.restore_units.Goals.{then-x-self, else-x-self}

-- a plane that is cut, and the room that is lent for it
fine : (u : Plane) {size scratch : ℕ} → u.h * u.w ≤ size → scratch_rows * u.w ≤ scratch → PlaneFine u.w u.h u.unit size (length u.skip.now) (length u.filter.now) scratch
fine u room banks =
    record {
      grid = u.grid;
      wide = u.limits.0;
      high = u.limits.1;
      unit = u.limits.2;
      room = room;
      masks = u.masks;
      taps = u.taps;
      banks = banks;
    }

-- WHAT IS KNOWN IN A TURN: the unit is one of the plane's and lies in it, and so do its rows, whole, and the bank
record Turn (W H u k y x bank : ℕ) (p : List ℕ) : Type 0 where
  few : k < unit_count W H u
  inside : Lies W H y x (min u (W - x)) (min u (H - y))
  low : bank ≤ 4 * W
  rows : (y + min u (H - y)) * W ≤ length p

turn : {W H u k y x bank pieces size n found : ℕ} {p0 skip : List ℕ} {filter : List ℤ} {p s left : List ℕ} → PlaneFine W H u (length p0) (length skip) (length filter) size →
    Reached W H u p0 skip filter size k y x bank pieces p s left → (count : ℕ) → k < n → n ≡ min count found → found ≡ unit_count W H u → Turn W H u k y x bank p
turn {W} {H} {u} {k} {y} {x} {bank} {pieces} {size} {n} {found} {p0} {skip} {filter} {p} {s} {left} f here count h e all =
    let few : k < unit_count W H u = omega (arith, h, e, all) in
    let inside = lies W H u p0 skip filter size f k y x bank pieces p s left here few in
    record {
      few = few;
      inside = inside;
      low = bank_low W H u p0 skip filter size f k y x bank pieces p s left here few;
      rows = omega (arith, mul-le-mul_right W inside.low, f.room, here.done.size);
    }

pub loop-k-init : goal.loop-k-init
loop-k-init c =
    let u = c.args.self.now in
    start u.w u.h u.unit c.args.p.now u.skip.now u.filter.now (length c.args.scratch.now) (fine u c.requires.room c.requires.banks) c.args.scratch.now _ refl refl

pub overflow_sub-self : goal.overflow_sub-self
overflow_sub-self c =
    let t = turn (fine c.args.self.now c.requires.room c.requires.banks) c.loop-k.invariant c.args.count c.loop-k-test.true c.min-n.ensures c.unit_count.ensures in
    omega (arith, t.inside.far)

pub overflow_sub-self-in-loop-k : goal.overflow_sub-self-in-loop-k
overflow_sub-self-in-loop-k c =
    let t = turn (fine c.args.self.now c.requires.room c.requires.banks) c.loop-k.invariant c.args.count c.loop-k-test.true c.min-n.ensures c.unit_count.ensures in
    omega (arith, t.inside.low)

pub invariant_of-here : goal.invariant_of-here
invariant_of-here c =
    let t = turn (fine c.args.self.now c.requires.room c.requires.banks) c.loop-k.invariant c.args.count c.loop-k-test.true c.min-n.ensures c.unit_count.ensures in
    record { lies = rw (c.min.ensures, c.min-in-loop-k.ensures) t.inside }

pub overflow_sub-other : goal.overflow_sub-other
overflow_sub-other c =
    let t = turn (fine c.args.self.now c.requires.room c.requires.banks) c.loop-k.invariant c.args.count c.loop-k-test.true c.min-n.ensures c.unit_count.ensures in
    t.low

pub save_rows-requires : goal.save_rows-requires
save_rows-requires c =
    let t = turn (fine c.args.self.now c.requires.room c.requires.banks) c.loop-k.invariant c.args.count c.loop-k-test.true c.min-n.ensures c.unit_count.ensures in
    rw c.min-in-loop-k.ensures (t.rows, omega (arith, t.low, c.loop-k.invariant.scratch, c.requires.banks))

pub columns_before-next-requires : goal.columns_before-next-requires
columns_before-next-requires c =
    let t = turn (fine c.args.self.now c.requires.room c.requires.banks) c.loop-k.invariant c.args.count c.loop-k-test.true c.min-n.ensures c.unit_count.ensures in
    rw (c.min.ensures, c.min-in-loop-k.ensures) (omega (arith, t.inside.some_w), omega (arith, t.inside.far), t.rows)

pub restore-r-requires : goal.restore-r-requires
restore-r-requires c =
    let t = turn (fine c.args.self.now c.requires.room c.requires.banks) c.loop-k.invariant c.args.count c.loop-k-test.true c.min-n.ensures c.unit_count.ensures in
    t.low

pub unwrap-pieces-requires : goal.unwrap-pieces-requires
unwrap-pieces-requires c =
    let u = c.args.self.now in
    let f = fine u c.requires.room c.requires.banks in
    let t = turn f c.loop-k.invariant c.args.count c.loop-k-test.true c.min-n.ensures c.unit_count.ensures in
    let more =
    one_more u.w u.h u.unit c.args.p.now u.skip.now u.filter.now (length c.args.scratch.now) f _ _ _ _ _ _ _ _ c.loop-k.invariant t.few
    u.small c.min.result c.min-in-loop-k.result c.min.ensures c.min-in-loop-k.ensures
    c.save_rows.new.scratch c.columns_before-next.result c.masks.result c.restore-r.new.p (restored_of c.restore-r.result)
    c.save_rows.ensures (c.columns_before-next.ensures.0, λ _. c.columns_before-next.ensures.1) c.masks.ensures c.restore-r.ensures in
    served _ more.0

pub overflow_add-pieces : goal.overflow_add-pieces
overflow_add-pieces c =
    let u = c.args.self.now in
    let f = fine u c.requires.room c.requires.banks in
    let t = turn f c.loop-k.invariant c.args.count c.loop-k-test.true c.min-n.ensures c.unit_count.ensures in
    let more =
    one_more u.w u.h u.unit c.args.p.now u.skip.now u.filter.now (length c.args.scratch.now) f _ _ _ _ _ _ _ _ c.loop-k.invariant t.few
    u.small c.min.result c.min-in-loop-k.result c.min.ensures c.min-in-loop-k.ensures
    c.save_rows.new.scratch c.columns_before-next.result c.masks.result c.restore-r.new.p (restored_of c.restore-r.result)
    c.save_rows.ensures (c.columns_before-next.ensures.0, λ _. c.columns_before-next.ensures.1) c.masks.ensures c.restore-r.ensures in
    let r-is : c.unwrap-pieces.result ≡ value_from c.restore-r.result = search rules in
    record { fits = omega (arith, more.1, r-is) }

pub loop-k-preserved : goal.loop-k-preserved
loop-k-preserved c =
    let u = c.args.self.now in
    let f = fine u c.requires.room c.requires.banks in
    let t = turn f c.loop-k.invariant c.args.count c.loop-k-test.true c.min-n.ensures c.unit_count.ensures in
    let more =
    one_more u.w u.h u.unit c.args.p.now u.skip.now u.filter.now (length c.args.scratch.now) f _ _ _ _ _ _ _ _ c.loop-k.invariant t.few
    u.small c.min.result c.min-in-loop-k.result c.min.ensures c.min-in-loop-k.ensures
    c.save_rows.new.scratch c.columns_before-next.result c.masks.result c.restore-r.new.p (restored_of c.restore-r.result)
    c.save_rows.ensures (c.columns_before-next.ensures.0, λ _. c.columns_before-next.ensures.1) c.masks.ensures c.restore-r.ensures in
    let r-is : c.unwrap-pieces.result ≡ value_from c.restore-r.result = search rules in
    elim c.if-x-self.branch [
      | then-x-self w ↦ rw (r-is, w.bank-is, w.y-is, w.x-is) (more.2 w.if-x-self.true)
      | else-x-self w ↦ rw (r-is, w.bank-is, w.y-is, w.x-is) (more.3 w.if-x-self.false)
    ]

pub returns : goal.returns
returns c =
    let u = c.args.self.now in
    let all : c.loop-k._k ≡ min c.args.count (unit_count u.w u.h u.unit) = omega (arith, c.loop-k-test.false, c.min-n.ensures, c.unit_count.ensures) in
    let e = ended u.w u.h u.unit c.args.p.now u.skip.now u.filter.now (length c.args.scratch.now) (fine u c.requires.room c.requires.banks) c.args.count _ _ _ _ _ _ _ _ c.loop-k.invariant all in
    record { value = e.0; p_after = e.1 }
