-- `plane::cut::Plane::unit_count` meets its contract: a quotient that is rounded up is the definition's, and at most what is divided.
use Rattle.std.proofs.Common.{◌≡◌, ◌∙◌, ℕ, ◌+◌, ◌-◌, ◌*◌, ◌/◌, ◌%◌, ◌≤◌, min, arith}
use Rattle.std.proofs.Math.Nat.{le-div_iff_mul-le, div-lt_iff_lt-mul, suc-mul}
use Rattle.std.proofs.lemmas.Grind.{div_ceil_times}
use Rattle.definition.specs.Planes.{across}
use Rattle.plane.proofs.cut.Plane.unit_count.Goals as goal

across_is : (n u : ℕ) → 1 ≤ u → n / u + min 1 (n % u) ≡ across n u
unfolding across
across_is n u some =
    let b = div_ceil_times n u some in
    let q = n / u + min 1 (n % u) in
    let low : q ≤ (n + u - 1) / u = (le-div_iff_mul-le {k = u} {x = q} {y = n + u - 1} some).1 (omega (arith, b.1)) in
    let high : (n + u - 1) / u ≤ q = omega (arith, (div-lt_iff_lt-mul {k = u} {x = n + u - 1} {y = q + 1} some).1 (omega (arith, b.0, suc-mul q u))) in
    omega (arith, low, high)

pub returns : goal.returns
returns c =
    let u = c.args.self.now in
    λ i. (c.div_ceil.ensures ∙ across_is u.h u.unit u.grid.some_u) i * (c.div_ceil-2.ensures ∙ across_is u.w u.unit u.grid.some_u) i
