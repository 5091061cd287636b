use Rattle.std.proofs.Common.{◌≡◌, sym, ap, ◌∙◌, ◌+◌, ◌*◌, drop, arith}
use Rattle.definition.specs.StateText.{digits_from}
use Rattle.text_laws.proofs.Digits.{digits-past}
use Rattle.card_reader.proofs.Digits.{ends_here, no_digit, too_large, one_more}
use Rattle.card_reader.proofs.numbers.read_digits.Goals as goal

pub returns-in-Some : goal.returns-in-Some
returns-in-Some c = sym (c.loop-p.invariant ∙ ends_here _ _ _ _ _ c.loop-p-test.true _ c.in-Some.ensures)

pub returns-in_err-digit : goal.returns-in_err-digit
returns-in_err-digit c = rw c.from_residual.ensures (sym (c.loop-p.invariant ∙ no_digit _ _ _ _ _ c.loop-p-test.true c.in_default.ensures c.in_err-digit.ensures))

pub returns-in_err-checked_mul : goal.returns-in_err-checked_mul
returns-in_err-checked_mul c =
    let n = c.in_err-checked_mul.ensures in
    rw c.from_residual-in_err-checked_mul.ensures
    (sym (c.loop-p.invariant ∙ too_large _ _ _ _ _ c.loop-p-test.true c.in_default.ensures _ _ c.in_ok-digit.ensures (omega (arith, n, c.ranges.limit.fits))))

pub returns-in_err-number : goal.returns-in_err-number
returns-in_err-number c =
    let m = c.in_ok-checked_mul.ensures in
    let n = c.in_err-number.ensures in
    rw c.from_residual-in_err-number.ensures
    (sym (c.loop-p.invariant ∙ too_large _ _ _ _ _ c.loop-p-test.true c.in_default.ensures _ _ c.in_ok-digit.ensures (omega (arith, m, n, c.ranges.limit.fits))))

pub returns-then-limit-number : goal.returns-then-limit-number
returns-then-limit-number c =
    let m = c.in_ok-checked_mul.ensures in
    let n = c.in_ok-number.ensures in
    sym (c.loop-p.invariant ∙ too_large _ _ _ _ _ c.loop-p-test.true c.in_default.ensures _ _ c.in_ok-digit.ensures (omega (arith, m, n, c.if-limit-number.true)))

pub loop-p-preserved : goal.loop-p-preserved
loop-p-preserved c =
    let m = c.in_ok-checked_mul.ensures in
    let n = c.in_ok-number.ensures in
    let e : 10 * c.loop-p.number + c.in_ok-digit.digit ≡ c.in_ok-number.number = omega (arith, m, n) in
    c.loop-p.invariant ∙ one_more _ _ _ _ _ c.loop-p-test.true c.in_default.ensures _ _ c.in_ok-digit.ensures (omega (arith, e, c.if-limit-number.false)) ∙
    ap (λ k. digits_from c.args.limit c.args.end k (drop (c.loop-p.p + 1) c.args.s.now) (c.loop-p.p + 1)) e

pub returns : goal.returns
returns c = sym (c.loop-p.invariant ∙ digits-past _ _ _ _ _ c.loop-p-test.false)
