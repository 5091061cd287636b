-- Bits of a mask: the count of ones against the clear bits, and trailing zeros against the first set bit.
use mathlib.Core.Path.{◌≡◌, refl, sym, ap, ◌∙◌}
use Prim.Native.Nat.{ℕ, zero, suc, ◌+◌, ◌-◌, ◌*◌, ◌/◌, ◌%◌, ◌^◌, ◌≤◌, ◌<◌}
use native.Mathlib.Nat.{one-mul, mod-lt, div-one, not-suc-le-zero, le_of_suc-le-suc}
use native.Mathlib.Numerals.{one-add}
use native.Mathlib.Omega.{arith}
use lib.Count.{ones, ones_cat, count_trailing_zeros, under}
use lib.Pow.{shl_exact, mod-pow-add, pow_pos, shr-shr}
use mathlib.Core.Bool.{true, false, cond}
use lib.Dec.{eqb}
use borrow.Author.Tests.{eq-eqb, ne_eqb}
use Rattle.definition.specs.Limits.{block_column_limit}
use Rattle.definition.specs.Blocks.{clear_below, masked}

-- a single digit counts as itself
ones_bit : (b : ℕ) → b < 2 → ones b ≡ b
unfolding ones
ones_bit zero h = refl
ones_bit (suc zero) h = refl
ones_bit (suc (suc b)) h = absurd (not-suc-le-zero (le_of_suc-le-suc (le_of_suc-le-suc h)))

-- a bit and its absence add up to 1
bit_share : (b : ℕ) → b < 2 → b + cond (eqb b 1) 0 1 ≡ 1
bit_share zero h = refl
bit_share (suc zero) h = refl
bit_share (suc (suc b)) h = absurd (not-suc-le-zero (le_of_suc-le-suc (le_of_suc-le-suc h)))

pub count : (m k : ℕ) → ones (m % 2 ^ k) + clear_below m k ≡ k
unfolding clear_below ones
count m zero = let e : m % 1 ≡ 0 = omega arith in rw e refl
count m (suc k) =
    let b : ℕ = m / 2 ^ k % 2 in
    let hb : b < 2 = mod-lt (m / 2 ^ k) (omega arith) in
    let e : m % 2 ^ suc k ≡ b * 2 ^ k + m % 2 ^ k = ap (λ (j : ℕ). m % 2 ^ j) (sym (one-add k)) ∙ mod-pow-add m 1 k in
    let f : ones (b * 2 ^ k + m % 2 ^ k) ≡ ones b + ones (m % 2 ^ k) = ones_cat k b (m % 2 ^ k) (mod-lt m (pow_pos k)) in
    omega (arith, ap ones e, f, ones_bit b hb, count m k, bit_share b hb)

-- what the machine's `1 << k` is
pub one_shl : (k : ℕ) → k ≤ block_column_limit → (1 * 2 ^ k) % 2 ^ 32 ≡ 2 ^ k
one_shl k h = shl_exact 1 k 32 (omega arith) (omega arith) ∙ one-mul (2 ^ k)

half_shr : (n i : ℕ) → n / 2 ^ suc i ≡ n / 2 / 2 ^ i
half_shr n i = ap (λ (j : ℕ). n / 2 ^ j) (sym (one-add i)) ∙ sym (shr-shr n 1 i)

-- below the count of trailing zeros every digit is clear; the digit there is set
pub zeros-below : (d n i : ℕ) → i < count_trailing_zeros d n → n / 2 ^ i % 2 ≡ 0
unfolding count_trailing_zeros
zeros-below zero n i h = absurd (not-suc-le-zero h)
zeros-below (suc d) n i h = go (n % 2) refl i (λ j l. zeros-below d (n / 2) j l) h
  where
    go : (b : ℕ) → n % 2 ≡ b → (i : ℕ) → ((j : ℕ) → j < count_trailing_zeros d (n / 2) → n / 2 / 2 ^ j % 2 ≡ 0) → i < under b (count_trailing_zeros d (n / 2)) → n / 2 ^ i % 2 ≡ 0
    go zero e zero r l = rw div-one e
    go zero e (suc i) r l = rw half_shr (r i (le_of_suc-le-suc l))
    go (suc b) e i r l = absurd (not-suc-le-zero l)

pub set_there : (d n : ℕ) → count_trailing_zeros d n < d → n / 2 ^ count_trailing_zeros d n % 2 ≡ 1
unfolding count_trailing_zeros
set_there zero n h = absurd (not-suc-le-zero h)
set_there (suc d) n h = go (n % 2) refl (λ l. set_there d (n / 2) l) h
  where
    go : (b : ℕ) → n % 2 ≡ b → (count_trailing_zeros d (n / 2) < d → n / 2 / 2 ^ count_trailing_zeros d (n / 2) % 2 ≡ 1) → under b (count_trailing_zeros d (n / 2)) < suc d → n / 2 ^ under b (count_trailing_zeros d (n / 2)) % 2 ≡ 1
    go zero e r l = rw half_shr (r (le_of_suc-le-suc l))
    go (suc b) e r l = rw div-one (omega arith)

-- the same of a mask shifted down by `from`
pub shifted_below : (d m from k : ℕ) → from ≤ k → k < from + count_trailing_zeros d (m / 2 ^ from) → masked m k ≡ false
shifted_below d m from k a b =
    let e : from + (k - from) ≡ k = omega arith in
    let z : m / 2 ^ k % 2 ≡ 0 =
    ap (λ (x : ℕ). x % 2) (ap (λ (j : ℕ). m / 2 ^ j) (sym e) ∙ sym (shr-shr m from (k - from))) ∙ zeros-below d (m / 2 ^ from) (k - from) (omega arith) in
    ne_eqb (m / 2 ^ k % 2) 1 (λ h. omega arith)

pub shifted_there : (d m from : ℕ) → count_trailing_zeros d (m / 2 ^ from) < d → masked m (from + count_trailing_zeros d (m / 2 ^ from)) ≡ true
shifted_there d m from h =
    eq-eqb (m / 2 ^ (from + count_trailing_zeros d (m / 2 ^ from)) % 2) 1
    (ap (λ (x : ℕ). x % 2) (sym (shr-shr m from (count_trailing_zeros d (m / 2 ^ from)))) ∙ set_there d (m / 2 ^ from) h)
