-- Two windows that agree where a filter looks give the same sample.
use mathlib.Core.Path.{◌≡◌, refl}
use mathlib.Core.List.{List, []}
use Prim.Native.Nat.{ℕ, zero, suc, ◌+◌, ◌*◌, ◌≤◌, ◌<◌}
use native.Mathlib.Omega.{arith}
use lib.Dec.{T}
use lib.IntN.{ℤ, pos, neg_ℤ, nat_abs, ◌+ℤ◌, ◌-ℤ◌, ◌*ℤ◌}
use Rattle.definition.specs.Numbers.{sum_z}
use Rattle.definition.specs.Sample.{rounded, dy_of, dx_of, centre, pair_of, ns_tap, pc_tap, luma_tap, ns_config_y, ns_config_uv, ns_config_uv_from_y, pc_config, luma_sample, pretrained_sample, chroma_sample}
use Rattle.laws.proofs.Ints.{abs_neg}
use Rattle.laws.proofs.Tables.{all, near, near-at}

pub sum_z_cong : (n : ℕ) (f g : ℕ → ℤ) → ((k : ℕ) → k < n → f k ≡ g k) → sum_z n f ≡ sum_z n g
unfolding sum_z
sum_z_cong zero f g e = refl
sum_z_cong (suc n) f g e = λ i. sum_z_cong n f g (λ k h. e k (omega arith)) i +ℤ e n (omega arith) i

-- two windows agree up to `reach` rows and columns from the centre
abbrev pub Agree : ℕ → (ℤ → ℤ → ℕ) → (ℤ → ℤ → ℕ) → Type 0
Agree reach s t = (dy dx : ℤ) → nat_abs dy ≤ reach → nat_abs dx ≤ reach → s dy dx ≡ t dy dx

module _ (reach : ℕ) (s t : ℤ → ℤ → ℕ) (a : Agree reach s t) where
  centre-same : centre s ≡ centre t
  centre-same = a (pos 0) (pos 0) (omega arith) (omega arith)

  pair_same : (taps : List (List ℤ)) → T (near reach []) → T (all (near reach) taps) → (k : ℕ) → pair_of s taps k ≡ pair_of t taps k
  pair_same taps e n k =
      let d = near-at reach taps e n k in
      λ i.
      a (dy_of taps k) (dx_of taps k) d.0 d.1 i +
      a (neg_ℤ (dy_of taps k)) (neg_ℤ (dx_of taps k)) (rw (abs_neg (dy_of taps k)) d.0) (rw (abs_neg (dx_of taps k)) d.1) i

pub luma-agree : (limit : ℕ) (s t : ℤ → ℤ → ℕ) (c d : ℕ → ℤ) → Agree 4 s t → ((k : ℕ) → k < 16 → c k ≡ d k) → luma_sample limit s c ≡ luma_sample limit t d
luma-agree limit s t c d a e =
    let m : centre s ≡ centre t = centre-same 4 s t a in
    let u : sum_z 16 (ns_tap s c ns_config_y) ≡ sum_z 16 (ns_tap t d ns_config_y) =
    sum_z_cong 16 _ _ (λ k h i. (pos (pair_same 4 s t a ns_config_y tt tt k i) -ℤ pos (2 * m i)) *ℤ e k h i) in
    λ i. rounded limit (pos (128 * m i) +ℤ u i)

pub pretrained_agree : (limit : ℕ) (s t : ℤ → ℤ → ℕ) (c d : ℕ → ℤ) → Agree 4 s t → ((k : ℕ) → k < 13 → c k ≡ d k) → pretrained_sample limit s c ≡ pretrained_sample limit t d
pretrained_agree limit s t c d a e =
    let m : centre s ≡ centre t = centre-same 4 s t a in
    let u : sum_z 12 (pc_tap s c) ≡ sum_z 12 (pc_tap t d) = sum_z_cong 12 _ _ (λ k h i. pos (pair_same 4 s t a pc_config tt tt k i) *ℤ e k (omega arith) i) in
    λ i. rounded limit (pos (m i) *ℤ e 12 (omega arith) i +ℤ u i)

-- the luma window of a chroma sample, `step` columns for one
module _ (step : ℕ) (s t : ℤ → ℤ → ℕ) (a : (dy dx : ℤ) → nat_abs dy ≤ 2 → nat_abs dx ≤ 2 → s dy (pos step *ℤ dx) ≡ t dy (pos step *ℤ dx)) where
  luma_tap-same : (c d : ℕ → ℤ) → centre s ≡ centre t → (k : ℕ) → c (6 + k) ≡ d (6 + k) → luma_tap s step c k ≡ luma_tap t step d k
  luma_tap-same c d m k e =
      let n = near-at 2 ns_config_uv_from_y tt tt k in
      λ i. (pos (a (dy_of ns_config_uv_from_y k) (dx_of ns_config_uv_from_y k) n.0 n.1 i) -ℤ pos (m i)) *ℤ e i

pub chroma_agree : (limit step : ℕ) (s t l m : ℤ → ℤ → ℕ) (c d : ℕ → ℤ) → Agree 2 s t →
    ((dy dx : ℤ) → nat_abs dy ≤ 2 → nat_abs dx ≤ 2 → l dy (pos step *ℤ dx) ≡ m dy (pos step *ℤ dx)) → centre l ≡ centre m → ((k : ℕ) → k < 18 → c k ≡ d k) →
    chroma_sample limit s l step c ≡ chroma_sample limit t m step d
chroma_agree limit step s t l m c d a b z e =
    let n : centre s ≡ centre t = centre-same 2 s t a in
    let u : sum_z 6 (ns_tap s c ns_config_uv) ≡ sum_z 6 (ns_tap t d ns_config_uv) =
    sum_z_cong 6 _ _ (λ k h i. (pos (pair_same 2 s t a ns_config_uv tt tt k i) -ℤ pos (2 * n i)) *ℤ e k (omega arith) i) in
    let v : sum_z 12 (luma_tap l step c) ≡ sum_z 12 (luma_tap m step d) = sum_z_cong 12 _ _ (λ k h. luma_tap-same step l m b c d z k (e (6 + k) (omega arith))) in
    λ i. rounded limit (pos (128 * n i) +ℤ u i +ℤ v i)
