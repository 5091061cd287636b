-- A card's unit is never declined, and what the whole-unit operation leaves is the plane that the definition gives.
use mathlib.Core.Path.{◌≡◌, refl, sym, ap, ◌∙◌}
use mathlib.Core.Bool.{true, false}
use mathlib.Core.List.{List, []}
use Prim.Native.Nat.{ℕ, zero, suc, ◌+◌, ◌*◌, ◌/◌, ◌%◌, ◌≤◌, ◌<◌}
use native.Mathlib.Nat.{add-zero, mod-lt, div-add-mod', div-lt_iff_lt-mul, mul_comm, suc-mul}
use native.Mathlib.Omega.{arith}
use borrow.Author.Tests.{le-ltb}
use lib.IntN.{ℤ}
use lib.ListN.{length, get_or}
use lib.Seq.{ext_get_or}
use Rattle.laws.proofs.Inside.{is-sized}
use Rattle.definition.specs.declared.Operation.TheVariants.{Luma}
use Rattle.definition.specs.Rows.{tab}
use Rattle.definition.specs.Blocks.{side}
use Rattle.definition.specs.Units.{final_sample}
use Rattle.definition.specs.Refusals.{sized, outside, unit_status, unit_checks, sizes_of, open_status}
use Rattle.definition.specs.Limits.{width_limit, height_limit, stride_limit}
use Rattle.laws.proofs.Lists.{length_tab, get_or-tab}
use Rattle.laws.proofs.Checks.{cleared}
use Rattle.definition.specs.Calls.{luma_lent, given_y}
use Rattle.whole.specs.Whole.{Whole}
use Rattle.whole.specs.declared.Restored.{Restored}
use Rattle.card_answer.specs.Put.{plane_of}

-- h rows of w samples, w apart, lie inside a plane that is as large as they are
inside : (w h len : ℕ) → 0 < h → w * h ≤ len → outside len 0 w h w 0 0 ≡ false
inside w zero len l s = refl
inside w (suc h) len l s = le-ltb len (0 + h * w + w + 0) (omega (arith, mul_comm w (suc h), suc-mul h w))

module _ (w h : ℕ) (filter : List ℤ) (skip plane : List ℕ) (ow : sized width_limit w ≡ true) (oh : sized height_limit h ≡ true) where
  pub accepted : length filter ≡ 16 → length skip ≡ height_limit → w * h ≤ length plane → open_status Luma (given_y w h 0 w 0 0 0) (luma_lent [] [] [] filter skip) plane ≡ 0
  unfolding unit_status
  accepted f k p =
      let lw : w ≤ width_limit = (is-sized width_limit w ow).high in
      let lh : h ≤ height_limit = (is-sized height_limit h oh).high in
      let gh : side ≤ h = (is-sized height_limit h oh).low in
      cleared (unit_checks Luma (given_y w h 0 w 0 0 0) (sizes_of Luma (luma_lent [] [] [] filter skip) plane)) (
        rw ow,
        (
          rw oh,
          (
            rw (add-zero w, le-ltb w w (omega arith), le-ltb stride_limit w (omega arith)),
            (
              refl,
              (
                rw (add-zero h) (inside w h (length plane) (omega arith) p),
                (
                  refl,
                  (
                    refl,
                    (
                      refl,
                      (rw (k, le-ltb height_limit h lh), (rw f, (refl, tt))),
                    ),
                  ),
                ),
              ),
            ),
          ),
        ),
      )

-- samples given by row and column, as a list
plane-is : (w h : ℕ) (q : List ℕ) (f : ℕ → ℕ → ℕ) → 0 < w → length q ≡ w * h → ((y x : ℕ) → y < h → x < w → get_or q (0 + y * w + x) 0 ≡ f y x) →
    q ≡ tab (w * h) (λ i. f (i / w) (i % w))
plane-is w h q f pw size here =
    ext_get_or 0 q (tab (w * h) (λ i. f (i / w) (i % w))) (size ∙ sym (length_tab (w * h) _)) (λ i l.
    let il : i < w * h = omega (arith, size) in
    let row : i / w < h = (div-lt_iff_lt-mul pw).1 (omega (arith, mul_comm w h)) in
    let e : 0 + i / w * w + i % w ≡ i = omega (arith, div-add-mod' i w) in
    ap (λ k. get_or q k 0) (sym e) ∙ here (i / w) (i % w) row (mod-lt i pw) ∙ sym (get_or-tab (w * h) (λ i. f (i / w) (i % w)) i il))

module _ (w h : ℕ) (filter : List ℤ) (skip p q : List ℕ) (r : Restored) (ow : sized width_limit w ≡ true) (oh : sized height_limit h ≡ true)
    (f : length filter ≡ 16) (k : length skip ≡ height_limit) (size : length p ≡ w * h) (o : Whole Luma r (given_y w h 0 w 0 0 0) (luma_lent [] [] [] filter skip) p q) where
  zero_status : open_status Luma (given_y w h 0 w 0 0 0) (luma_lent [] [] [] filter skip) p ≡ 0
  zero_status = accepted w h filter skip p ow oh f k (omega (arith, size))

  pub restored-plane : q ≡ plane_of w h filter skip p
  unfolding plane_of
  restored-plane =
      let l = o.plane zero_status in
      let gw : side ≤ w = (is-sized width_limit w ow).low in
      plane-is w h q (λ y x. final_sample (given_y w h 0 w 0 0 0) (luma_lent [] [] [] filter skip) p Luma y x) (omega arith) (l.size ∙ size) l.here

pub plane-long : (w h : ℕ) (filter : List ℤ) (skip plane : List ℕ) → length (plane_of w h filter skip plane) ≡ w * h
unfolding plane_of
plane-long w h filter skip plane = length_tab (w * h) _
