-- A pretrained filter whose pairs are each less the largest sample: what is taken off, that times its numbers, gives the filter's own sum back.
use mathlib.Core.Path.{◌≡◌, sym, ap, ap₂, ◌∙◌}
use Prim.Native.Nat.{ℕ, zero, suc, ◌+◌, ◌-◌}
use native.Mathlib.Decide.{dec_le}
use native.Mathlib.Omega.{arith}
use native.Mathlib.Nat.{zero-add}
use lib.IntN.{ℤ, pos, negsuc, neg_ℤ, ◌+ℤ◌, ◌-ℤ◌, ◌*ℤ◌, suc_ℤ-*ℤ, zero-*ℤ, *ℤ_comm, *ℤ-negsuc, +ℤ_assoc, +ℤ_comm, +ℤ_idl, +ℤ-neg_ℤ_cancel}
use Rattle.laws.proofs.Ints.{sub_pos, sub_neg}
use Rattle.definition.specs.Numbers.{sum_z}
use Rattle.definition.specs.Sample.{centre, pair_of, pretrained_sum, pc_config}
use Rattle.filter.specs.Windows.{less_tap, taken_off}

-- sums of integers: four of them in another order, and a natural factor of two
pub swap_middle : (a b c d : ℤ) → (a +ℤ b) +ℤ (c +ℤ d) ≡ (a +ℤ c) +ℤ (b +ℤ d)
swap_middle a b c d =
    +ℤ_assoc a b (c +ℤ d) ∙ ap (λ (z : ℤ). a +ℤ z) (sym (+ℤ_assoc b c d) ∙ ap (λ (z : ℤ). z +ℤ d) (+ℤ_comm b c) ∙ +ℤ_assoc c b d) ∙ sym (+ℤ_assoc a c (b +ℤ d))

pub times_sum : (n : ℕ) (x y : ℤ) → pos n *ℤ (x +ℤ y) ≡ pos n *ℤ x +ℤ pos n *ℤ y
times_sum zero x y = zero-*ℤ (x +ℤ y) ∙ sym (ap₂ (λ (a b : ℤ). a +ℤ b) (zero-*ℤ x) (zero-*ℤ y))
times_sum (suc n) x y =
    suc_ℤ-*ℤ (pos n) (x +ℤ y) ∙ ap (λ (z : ℤ). z +ℤ (x +ℤ y)) (times_sum n x y) ∙ swap_middle (pos n *ℤ x) (pos n *ℤ y) x y ∙
    sym (ap₂ (λ (a b : ℤ). a +ℤ b) (suc_ℤ-*ℤ (pos n) x) (suc_ℤ-*ℤ (pos n) y))

-- two natural factors of one number
add_times : (a b : ℕ) (c : ℤ) → pos (a + b) *ℤ c ≡ pos a *ℤ c +ℤ pos b *ℤ c
add_times zero b c = rw (zero-add b) (sym (ap (λ (z : ℤ). z +ℤ pos b *ℤ c) (zero-*ℤ c) ∙ +ℤ_idl (pos b *ℤ c)))
add_times (suc a) b c =
    let e : suc a + b ≡ suc (a + b) = omega arith in
    rw e
    (suc_ℤ-*ℤ (pos (a + b)) c ∙ ap (λ (z : ℤ). z +ℤ c) (add_times a b c) ∙ +ℤ_assoc (pos a *ℤ c) (pos b *ℤ c) c ∙
    ap (λ (z : ℤ). pos a *ℤ c +ℤ z) (+ℤ_comm (pos b *ℤ c) c) ∙ sym (+ℤ_assoc (pos a *ℤ c) c (pos b *ℤ c)) ∙
    ap (λ (z : ℤ). z +ℤ pos b *ℤ c) (sym (suc_ℤ-*ℤ (pos a) c)))

-- p less K times c, with K times c, is p times c
less_times : (K p : ℕ) (c : ℤ) → pos K *ℤ c +ℤ (pos p -ℤ pos K) *ℤ c ≡ pos p *ℤ c
less_times K p c =
    elim (dec_le K p) [
      | yes h ↦
          let e : K + (p - K) ≡ p = omega arith in
          rw (sub_pos p K h) (sym (add_times K (p - K) c) ∙ ap (λ (n : ℕ). pos n *ℤ c) e)
      | no ne ↦
          let d : ℕ = K - suc p in
          let e : K ≡ p + suc d = omega arith in
          rw (sub_neg p K (omega arith))
          (ap (λ (z : ℤ). pos K *ℤ c +ℤ z) (*ℤ_comm (negsuc d) c ∙ *ℤ-negsuc c d ∙ ap neg_ℤ (*ℤ_comm c (pos (suc d)))) ∙
          ap (λ (z : ℤ). z +ℤ neg_ℤ (pos (suc d) *ℤ c)) (ap (λ (n : ℕ). pos n *ℤ c) e ∙ add_times p (suc d) c) ∙
          +ℤ-neg_ℤ_cancel (pos p *ℤ c) (pos (suc d) *ℤ c))
    ]

less_sum : (K n : ℕ) (p : ℕ → ℕ) (c : ℕ → ℤ) → pos K *ℤ sum_z n c +ℤ sum_z n (λ k. (pos (p k) -ℤ pos K) *ℤ c k) ≡ sum_z n (λ k. pos (p k) *ℤ c k)
unfolding sum_z
less_sum K zero p c = ap pos (omega arith)
less_sum K (suc n) p c =
    ap (λ (z : ℤ). z +ℤ (sum_z n (λ k. (pos (p k) -ℤ pos K) *ℤ c k) +ℤ (pos (p n) -ℤ pos K) *ℤ c n)) (times_sum K (sum_z n c) (c n)) ∙
    swap_middle (pos K *ℤ sum_z n c) (pos K *ℤ c n) (sum_z n (λ k. (pos (p k) -ℤ pos K) *ℤ c k)) ((pos (p n) -ℤ pos K) *ℤ c n) ∙
    ap₂ (λ (a b : ℤ). a +ℤ b) (less_sum K n p c) (less_times K (p n) (c n))

pub lessened : (K : ℕ) (s : ℤ → ℤ → ℕ) (c : ℕ → ℤ) → taken_off K c +ℤ pos (centre s) *ℤ c 12 +ℤ sum_z 12 (less_tap K s c) ≡ pretrained_sum s c
lessened K s c =
    let m : ℤ = pos (centre s) *ℤ c 12 in
    ap (λ (z : ℤ). z +ℤ sum_z 12 (less_tap K s c)) (+ℤ_comm (taken_off K c) m) ∙
    +ℤ_assoc m (taken_off K c) (sum_z 12 (less_tap K s c)) ∙
    ap (λ (z : ℤ). m +ℤ z) (less_sum K 12 (λ k. pair_of s pc_config k) c)
