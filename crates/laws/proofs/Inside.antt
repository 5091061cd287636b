-- What a test of the table says where it fails: a side within its limit, and rows of lent bytes that lie inside.
use mathlib.Core.Path.{◌≡◌}
use mathlib.Core.Bool.{Bool, true, false, ◌&&◌}
use Prim.Native.Nat.{ℕ, zero, suc, ◌+◌, ◌*◌, ◌-◌, ◌%◌, ◌≤◌, ◌<◌}
use native.Mathlib.Omega.{arith}
use lib.Dec.{ltb, leb, eqb}
use borrow.Author.Tests.{ltb-false, leb-true, eqb-true}
use Rattle.definition.specs.Blocks.{side}
use Rattle.definition.specs.Refusals.{sized, outside}
use Rattle.laws.proofs.Ints.{never}
use Rattle.laws.proofs.Passes.{both, not_both}

pub unless : (a b : Bool) → (a && b) ≡ false → a ≡ true → b ≡ false
unless true b e h = e
unless false b e h = absurd (never h)

-- a multiple of 4 in 4 .. limit
pub record Sized (limit n : ℕ) : Type 0 where
  pub fours : n % side ≡ 0
  pub low : side ≤ n
  pub high : n ≤ limit

pub is-sized : (limit n : ℕ) → sized limit n ≡ true → Sized limit n
is-sized limit n e =
    let p = both (eqb (n % side) 0 && leb side n) (leb n limit) e in
    let q = both (eqb (n % side) 0) (leb side n) p.0 in
    record { fours = eqb-true (n % side) 0 q.0; low = leb-true side n q.1; high = leb-true n limit p.1 }

-- rows of lent bytes that lie inside
pub record Inside (len off stride rows w before behind : ℕ) : Type 0 where
  pub low : before ≤ off
  pub high : off + (rows - 1) * stride + w + behind ≤ len

pub inside : (len off stride rows w before behind : ℕ) → outside len off stride rows w before behind ≡ false → 0 < rows → Inside len off stride rows w before behind
inside len off stride zero w before behind e h = absurd (omega arith)
inside len off stride (suc rows) w before behind e h =
    let b = not_both (ltb off before) (ltb len (off + rows * stride + w + behind)) e in
    let k : off + rows * stride + w + behind ≤ len = ltb-false _ _ b.1 in
    let d : suc rows - 1 ≡ rows = omega arith in
    record { low = ltb-false off before b.0; high = rw d k }
