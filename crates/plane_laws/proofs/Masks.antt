-- THE LAW OF MASKS: a unit's mask is cut out of two neighbouring numbers of the plane's skip list, and its bit k is the skip bit of the unit's block k.
use mathlib.Core.Path.{◌≡◌, sym, ◌∙◌, ap}
use mathlib.Core.Bool.{cond}
use mathlib.Core.List.{List}
use Prim.Native.Nat.{ℕ, suc, ◌+◌, ◌-◌, ◌*◌, ◌/◌, ◌%◌, ◌^◌, ◌≤◌, ◌<◌}
use native.Mathlib.Nat.{mul_assoc, mul_comm, pow-suc, add-mul-div_left, div-div-eq-div-mul, one-le-pow}
use native.Mathlib.Decide.{dec_lt}
use native.Mathlib.Omega.{arith}
use lib.Dec.{ltb, eqb}
use lib.ListN.{get_or}
use lib.Pow.{pow-add}
use borrow.Author.Tests.{lt-ltb}
use Rattle.definition.specs.Numbers.{bit_set}
use Rattle.definition.specs.Planes.{skip_numbers, skip_bit}
use Rattle.plane_laws.proofs.Cut.{gathered, low_number, high_number, unit_mask}

-- what stands from bit 16 on does not reach a bit below
low_bit : (a b j : ℕ) → j < 16 → (a + 65536 * b) / 2 ^ j % 2 ≡ a / 2 ^ j % 2
low_bit a b j h =
    let n : ℕ = 15 - j in
    let d : j + suc n ≡ 16 = omega arith in
    let e : 65536 ≡ 2 ^ j * 2 ^ suc n = ap (λ (k : ℕ). 2 ^ k) (sym d) ∙ pow-add 2 j (suc n) in
    let q : 65536 * b ≡ 2 ^ j * (2 ^ suc n * b) = ap (λ (m : ℕ). m * b) e ∙ mul_assoc (2 ^ j) (2 ^ suc n) b in
    let v : (a + 65536 * b) / 2 ^ j ≡ a / 2 ^ j + 2 ^ suc n * b = ap (λ (m : ℕ). (a + m) / 2 ^ j) q ∙ add-mul-div_left a (2 ^ suc n * b) {y = 2 ^ j} (one-le-pow j 2 (omega arith)) in
    let t : 2 ^ suc n * b ≡ 2 * (2 ^ n * b) = ap (λ (m : ℕ). m * b) (pow-suc 2 n ∙ mul_comm (2 ^ n) 2) ∙ mul_assoc 2 (2 ^ n) b in
    omega arith

-- a bit from 16 on is the upper number's
high_bit : (a b j : ℕ) → a < 65536 → (a + 65536 * b) / 2 ^ (16 + j) ≡ b / 2 ^ j
high_bit a b j h =
    let d : (a + 65536 * b) / 65536 ≡ b = omega arith in
    ap (λ (m : ℕ). (a + 65536 * b) / m) (pow-add 2 16 j) ∙ (sym (div-div-eq-div-mul (a + 65536 * b) 65536 (2 ^ j)) ∙ ap (λ (m : ℕ). m / 2 ^ j) d)

-- bit k of the sixteen is bit s + k of the two numbers
cut_bit : (lo hi s k : ℕ) → k < 16 → gathered lo hi s / 2 ^ k % 2 ≡ (lo + 65536 * hi) / 2 ^ (s + k) % 2
cut_bit lo hi s k h =
    let M : ℕ = (lo + 65536 * hi) / 2 ^ s in
    let d : M ≡ M % 65536 + 65536 * (M / 65536) = omega arith in
    let e : M / 2 ^ k % 2 ≡ M % 65536 / 2 ^ k % 2 = ap (λ (m : ℕ). m / 2 ^ k % 2) d ∙ low_bit (M % 65536) (M / 65536) k h in
    sym e ∙ ap (λ (m : ℕ). m % 2) (div-div-eq-div-mul (lo + 65536 * hi) (2 ^ s) (2 ^ k) ∙ ap (λ (m : ℕ). (lo + 65536 * hi) / m) (sym (pow-add 2 s k)))

module _ (lo hi s k : ℕ) (hk : k < 16) where
  pub gathered-low : s + k < 16 → bit_set (gathered lo hi s) k ≡ bit_set lo (s + k)
  gathered-low h = ap (λ (m : ℕ). eqb m 1) (cut_bit lo hi s k hk ∙ low_bit lo hi (s + k) h)

  pub gathered_high : lo < 65536 → 16 ≤ s + k → bit_set (gathered lo hi s) k ≡ bit_set hi (s + k - 16)
  gathered_high l h =
      let d : s + k ≡ 16 + (s + k - 16) = omega arith in
      ap (λ (m : ℕ). eqb m 1)
      (cut_bit lo hi s k hk ∙ (ap (λ (j : ℕ). (lo + 65536 * hi) / 2 ^ j % 2) d ∙ ap (λ (m : ℕ). m % 2) (high_bit lo hi (s + k - 16) l)))

-- THE MASK of bw blocks from block bx of block row by on
pub mask_bit : (W : ℕ) (skip : List ℕ) (bw by bx k : ℕ) → low_number W skip by bx < 65536 → bw ≤ 16 → k < bw → bit_set (unit_mask W skip bw by bx) k ≡ skip_bit W skip by (bx + k)
unfolding skip_bit unit_mask
mask_bit W skip bw by bx k small hb hk =
    let lo : ℕ = low_number W skip by bx in
    let hi : ℕ = cond (ltb 16 (bx % 16 + bw)) (high_number W skip by bx) 0 in
    elim (dec_lt (bx % 16 + k) 16) [
      | yes lt ↦
          let n : (bx + k) / 16 ≡ bx / 16 = omega arith in
          let b : (bx + k) % 16 ≡ bx % 16 + k = omega arith in
          gathered-low lo hi (bx % 16) k (omega arith) lt ∙ (λ i. bit_set (get_or skip (by * skip_numbers W + sym n i) 0) (sym b i))
      | no ge ↦
          let n : by * skip_numbers W + bx / 16 + 1 ≡ by * skip_numbers W + (bx + k) / 16 = omega arith in
          let b : bx % 16 + k - 16 ≡ (bx + k) % 16 = omega arith in
          let e : hi ≡ high_number W skip by bx = rw (lt-ltb 16 (bx % 16 + bw) (omega arith)) in
          gathered_high lo hi (bx % 16) k (omega arith) small (omega arith) ∙
          (ap (λ (m : ℕ). bit_set m (bx % 16 + k - 16)) e ∙ (λ i. bit_set (get_or skip (n i) 0) (b i)))
    ]
