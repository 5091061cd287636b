-- What a status of 0 says of the numbers of a call.
use mathlib.Core.Path.{◌≡◌, refl, sym, ap}
use mathlib.Core.Bool.{Bool, true, false, not, ◌&&◌, ◌||◌, and-true, and-false}
use mathlib.Core.List.{List}
use Prim.Native.Nat.{ℕ, ◌+◌, ◌-◌, ◌%◌}
use native.Mathlib.Decide.{dec_le}
use native.Mathlib.Omega.{arith}
use lib.Dec.{leb, ltb, eqb}
use lib.IntN.{ℤ, pos, negsuc, ◌-ℤ◌}
use borrow.Author.Tests.{le-leb, lt-leb, leb-true, ltb-false, eqb-true}
use Rattle.definition.specs.Rows.{outside_unless}
use Rattle.definition.specs.Padding.{has_left, has_right, row_at, after, padded}
use Rattle.definition.specs.Refusals.{beside, bad_sampling}
use Rattle.laws.proofs.Passes.{both, inside, first-clear, not_both}
use Rattle.laws.proofs.Lists.{tab_cong}
use Rattle.definition.specs.Leaves.{target_inside, backup_status, lpf_status, luma_status, padded_row, lower_at}
use Rattle.padding.specs.Steps.{InsideLuma}

-- a row whose left samples stand before it: its list of left samples is the row's own
left_test : (L : Bool) (e src_o : ℕ) → leb (beside L e) src_o ≡ (not L || leb e src_o && true)
left_test true e src_o = sym (and-true (leb e src_o))
left_test false e src_o = le-leb 0 src_o (omega arith)

module _ (dst o src src_o w e edges : ℕ) where
  own_tests : (t : Bool) → (t && leb (src_o + w + beside (has_right edges) e) src && leb (beside (has_left edges) e) src_o) ≡
      (t && leb (src_o + w + beside (has_right edges) e) src && (not (has_left edges) || leb e src_o && leb src_o src))
  own_tests t =
      let n : ℕ = src_o + w + beside (has_right edges) e in
      elim (dec_le n src) [
        | yes h ↦ rw (le-leb n src h, le-leb src_o src (omega arith), left_test (has_left edges) e src_o)
        | no h ↦ rw (lt-leb n src (omega arith), and-false t)
      ]

  pub own_status : backup_status dst o src src_o src src_o w e edges ≡ lpf_status dst o src src_o w e edges
  unfolding backup_status lpf_status
  own_status = ap outside_unless (sym (own_tests (target_inside dst o w e)))

own_row : (src : List ℕ) (src_o : ℕ) (c : ℤ) → after src src_o (row_at src (pos src_o)) c ≡ row_at src (pos src_o) c
own_row src src_o (pos n) = refl
own_row src src_o (negsuc n) = refl

padded-same : (L R : Bool) (w last : ℕ) (f g : ℤ → ℕ) (c : ℤ) → ((z : ℤ) → f z ≡ g z) → padded L R w last f c ≡ padded L R w last g c
padded-same L R w last f g (negsuc n) h = rw (h (negsuc n), h (pos 0))
padded-same L R w last f g (pos x) h = rw (h (pos x), h (pos last))

pub own_padded : (src : List ℕ) (src_o edges w e : ℕ) → padded_row edges w e (after src src_o (row_at src (pos src_o))) ≡ padded_row edges w e (row_at src (pos src_o))
own_padded src src_o edges w e =
    tab_cong (e + w + e) _ _
    (λ j h. padded-same (has_left edges) (has_right edges) w (w - 1) (after src src_o (row_at src (pos src_o))) (row_at src (pos src_o)) (pos j -ℤ pos e) (own_row src src_o))

-- a luma row
module _ (dst o src src_o stride w edges ss_hor ss_ver kind : ℕ) where
  abbrev low_test : Bool
  low_test = leb (src_o + lower_at ss_ver kind stride + (w + beside (has_right edges) 4)) src

  pub given-inside-luma : luma_status dst o src src_o stride w edges ss_hor ss_ver kind ≡ 0 → InsideLuma dst o src src_o stride w edges ss_hor ss_ver kind
  unfolding luma_status
  given-inside-luma z =
      let s = first-clear (bad_sampling ss_hor ss_ver kind) 4 _ (omega arith) z in
      let f = not_both (ltb 1 ss_hor || ltb ss_hor ss_ver) (ltb 2 kind) s.0 in
      let g = not_both (ltb 1 ss_hor) (ltb ss_hor ss_ver) f.0 in
      let p = both (target_inside dst o w 4 && eqb (w % (ss_hor + 1)) 0 && low_test) (leb (beside (has_left edges) 4) src_o) (inside _ s.1) in
      let q = both (target_inside dst o w 4 && eqb (w % (ss_hor + 1)) 0) low_test p.0 in
      let m = both (target_inside dst o w 4) (eqb (w % (ss_hor + 1)) 0) q.0 in
      let t = both (leb 1 w && leb 4 o) (leb (o + w + 4) dst) m.0 in
      let u = both (leb 1 w) (leb 4 o) t.0 in
      record {
        pair = (ltb-false 1 ss_hor g.0, ltb-false ss_hor ss_ver g.1);
        some = leb-true 1 w u.0;
        front = leb-true 4 o u.1;
        room = leb-true (o + w + 4) dst t.1;
        whole = eqb-true (w % (ss_hor + 1)) 0 m.1;
        row = leb-true (src_o + lower_at ss_ver kind stride + (w + beside (has_right edges) 4)) src q.1;
        before = leb-true (beside (has_left edges) 4) src_o p.1;
      }
