-- Between which numbers a border lies, and a power of two by a side's subsampling.
use mathlib.Core.Path.{◌≡◌, refl, ◌∙◌, ap}
use Prim.Native.Nat.{ℕ, zero, suc, ◌*◌, ◌^◌, ◌≤◌, min}
use native.Mathlib.Omega.{arith}
use Rattle.definition.specs.declared.Operation.{Operation}
use Rattle.definition.specs.declared.Operation.TheVariants.{Luma, User, Pretrained, Chroma}
use Rattle.definition.specs.Units.{border}

pub border_high : (op : Operation) → border op ≤ 4
border_high Luma = omega arith
border_high User = omega arith
border_high Pretrained = omega arith
border_high Chroma = omega arith

pub border-low : (op : Operation) → 2 ≤ border op
border-low Luma = omega arith
border-low User = omega arith
border-low Pretrained = omega arith
border-low Chroma = omega arith

pub step_is : (ss : ℕ) → ss ≤ 1 → 2 ^ min ss 1 ≡ 2 ^ ss
step_is zero h = refl
step_is (suc zero) h = refl
step_is (suc (suc n)) h = absurd (omega arith)

-- .. of so many rows or columns
pub steps_are : (n ss : ℕ) {r : ℕ} → ss ≤ 1 → r ≡ 2 ^ min ss 1 → n * r ≡ n * 2 ^ ss
steps_are n ss h e = ap (λ (k : ℕ). n * k) (e ∙ step_is ss h)
