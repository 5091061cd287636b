use Rattle.std.proofs.Common.{◌≡◌, refl, sym, ◌∙◌, ◌+◌, ◌-◌, ◌≤◌, length, take, drop, arith}
use Rattle.definition.specs.StateText.{row_width, ten_at}
use Rattle.card_reader.proofs.Planes.{joined-begins, row-long, joined-next, joined_stops, joined_ends}
use Rattle.units.specs.Texts.{bytes_before}
use Rattle.units.proofs.KeptRows.{before-next, row-inside, kept-in-turn}
use Rattle.units.proofs.state_text.read_rows.Goals as goal

pub loop-k-init : goal.loop-k-init
unfolding bytes_before
loop-k-init c = (refl, joined-begins c.args.s.now _ _ (kept-in-turn c.args.op) c.args.at c.args.rows.now)

pub overflow_add-to : goal.overflow_add-to
overflow_add-to c = let i = row-inside c.args.op c.loop-k.k c.loop-k-test.true in omega (arith, i, c.loop-k.invariant.0, c.row_width.ensures)

pub slice_bounds-read_kept_row-end : goal.slice_bounds-read_kept_row-end
slice_bounds-read_kept_row-end c = let i = row-inside c.args.op c.loop-k.k c.loop-k-test.true in omega (arith, i, c.loop-k.invariant.0, c.row_width.ensures)

pub read_kept_row-requires : goal.read_kept_row-requires
read_kept_row-requires c =
    let op = c.args.op in
    let room : bytes_before op c.loop-k.k + row_width op c.loop-k.k ≤ length c.args.rows.now = omega (arith, row-inside op c.loop-k.k c.loop-k-test.true) in
    rw (c.loop-k.invariant.0, c.row_width.ensures, c.is_luma_row.ensures) (row-long c.args.s.now _ _ (kept-in-turn op) c.args.at c.args.rows.now c.loop-k.rows c.loop-k.next c.loop-k.k c.loop-k.invariant.1 room)

pub returns-in_err-next : goal.returns-in_err-next
unfolding ten_at
returns-in_err-next c =
    let op = c.args.op in
    let j = c.loop-k.invariant.1 in
    let room : bytes_before op c.loop-k.k + row_width op c.loop-k.k ≤ length c.args.rows.now = omega (arith, row-inside op c.loop-k.k c.loop-k-test.true) in
    let e : length (take (c.loop-k.from + c.row_width.result - c.loop-k.from) (drop c.loop-k.from c.loop-k.rows)) ≡ row_width op c.loop-k.k =
    rw (c.loop-k.invariant.0, c.row_width.ensures) (row-long c.args.s.now _ _ (kept-in-turn op) c.args.at c.args.rows.now c.loop-k.rows c.loop-k.next c.loop-k.k j room) in
    rw c.from_residual.ensures
    (joined_stops c.args.s.now _ _ (kept-in-turn op) c.args.at c.args.rows.now c.loop-k.rows c.loop-k.next c.loop-k.k j 10 _ c.loop-k-test.true (rw e at (sym c.in_err-next.ensures)))

pub loop-k-preserved : goal.loop-k-preserved
loop-k-preserved c =
    let op = c.args.op in
    let j = c.loop-k.invariant.1 in
    let room : bytes_before op c.loop-k.k + row_width op c.loop-k.k ≤ length c.args.rows.now = omega (arith, row-inside op c.loop-k.k c.loop-k-test.true) in
    let e : length (take (c.loop-k.from + c.row_width.result - c.loop-k.from) (drop c.loop-k.from c.loop-k.rows)) ≡ row_width op c.loop-k.k =
    rw (c.loop-k.invariant.0, c.row_width.ensures) (row-long c.args.s.now _ _ (kept-in-turn op) c.args.at c.args.rows.now c.loop-k.rows c.loop-k.next c.loop-k.k j room) in (
      omega (arith, before-next op c.loop-k.k, c.loop-k.invariant.0, c.row_width.ensures),
      rw (c.loop-k.invariant.0, c.row_width.ensures)
          (joined-next c.args.s.now _ _ (kept-in-turn op) c.args.at c.args.rows.now c.loop-k.rows c.loop-k.next c.loop-k.k j c.read_kept_row.new.place (c.read_kept_row.auto.place ∙ e) _ (rw e at (sym c.in_ok-next.ensures))),
    )

pub returns : goal.returns
unfolding ten_at
returns c =
    joined_ends c.args.s.now _ _ (kept-in-turn c.args.op) c.args.at c.args.rows.now c.loop-k.rows c.loop-k.next c.loop-k.k c.loop-k.invariant.1 10 (omega (arith, c.loop-k.auto.k-end, c.loop-k-test.false))
