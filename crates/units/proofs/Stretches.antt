-- A row written in stretches: what the plane is once the blocks below bx are done, a masked stretch more, a run more.
use mathlib.Core.Path.{◌≡◌, sym, ◌∙◌, ap}
use mathlib.Core.Bool.{true, false, cond}
use mathlib.Core.List.{List}
use Prim.Native.Nat.{ℕ, ◌+◌, ◌*◌, ◌-◌, ◌/◌, ◌≤◌, ◌<◌}
use native.Mathlib.Omega.{arith}
use lib.ListN.{length, get_or}
use lib.Seq.{sets, length-sets}
use borrow.Rule.Slice.PartMut.{put_mid, mid_of, mid_len}
use Rattle.definition.specs.Rows.{tab}
use Rattle.definition.specs.Blocks.{masked}
use Rattle.laws.proofs.Lists.{tab_cong, length_tab, sets_keep, sets_run, sets_all}
use Rattle.padding.proofs.Put.{put_at}
use Rattle.units.proofs.Firsts.{Kept, Open}

over : (l : List ℕ) (n : ℕ) (f : ℕ → ℕ) → length l ≡ n → sets l 0 (tab n f) ≡ tab n f
over l n f e = rw (← e) (sets_all l f)

-- the part from x0 to x1 that a run has written whole, back in its place
pub run-back : (q vs : List ℕ) (at x0 x1 : ℕ) (f : ℕ → ℕ) → x0 ≤ x1 → at + x1 ≤ length q →
    vs ≡ sets (mid_of (at + x0) (at + x1 - (at + x0)) q) 0 (tab (at + x1 - (at + x0)) f) →
    put_mid (at + x0) (at + x1 - (at + x0)) q vs ≡ sets q (at + x0) (tab (x1 - x0) f)
run-back q vs at x0 x1 f l room ev =
    let m : List ℕ = mid_of (at + x0) (at + x1 - (at + x0)) q in
    let n : length m ≡ at + x1 - (at + x0) = mid_len (at + x0) (at + x1) q room in
    let d : at + x1 - (at + x0) ≡ x1 - x0 = omega arith in
    let whole : vs ≡ tab (x1 - x0) f = ev ∙ over m (at + x1 - (at + x0)) f n ∙ ap (λ (j : ℕ). tab j f) d in
    rw (d, whole) (put_at (at + x0) (x1 - x0) q (tab (x1 - x0) f) (sym (length_tab (x1 - x0) f)) (omega arith))

module _ (p : List ℕ) (at mask : ℕ) (f : ℕ → ℕ) where
  -- sample x of the row: the old one in a masked block
  abbrev pub cell : ℕ → ℕ
  cell x = cond (masked mask (x / 4)) (get_or p (at + x) 0) (f x)

  -- the plane once the blocks below bx are done
  pub record Done (bx : ℕ) (q : List ℕ) : Type 0 where
    pub same : length q ≡ length p
    pub is : q ≡ sets p at (tab (bx * 4) cell)

module _ {p : List ℕ} {at mask : ℕ} {f : ℕ → ℕ} where
  -- masked blocks stay
  pub kept_more : {a b : ℕ} {q : List ℕ} → a ≤ b → Kept mask a b → Done p at mask f a q → Done p at mask f b q
  kept_more {a} {b} {q} l k d =
      let e : a * 4 + (b * 4 - a * 4) ≡ b * 4 = omega arith in
      record {
        same = d.same;
        is = d.is ∙
            rw (← e)
            (sym (sets_keep (b * 4 - a * 4) (a * 4) p at (cell p at mask f)
            (λ i h. let t : masked mask ((a * 4 + i) / 4) ≡ true = k ((a * 4 + i) / 4) (omega arith) (omega arith) in rw t)));
      }

  -- the run of a stretch whose blocks are not masked
  pub run_more : {a b : ℕ} {q r : List ℕ} (g : ℕ → ℕ) → a ≤ b → Open mask a b → Done p at mask f a q →
      r ≡ sets q (at + a * 4) (tab (b * 4 - a * 4) (λ i. g (a * 4 + i))) →
      ((x : ℕ) → a * 4 ≤ x → x < b * 4 → g x ≡ f x) → Done p at mask f b r
  run_more {a} {b} {q} {r} g l o d er same =
      let e : a * 4 + (b * 4 - a * 4) ≡ b * 4 = omega arith in
      let c : tab (b * 4 - a * 4) (λ i. g (a * 4 + i)) ≡ tab (b * 4 - a * 4) (λ i. cell p at mask f (a * 4 + i)) =
      tab_cong (b * 4 - a * 4) (λ i. g (a * 4 + i)) (λ i. cell p at mask f (a * 4 + i))
      (λ i h.
      let t : masked mask ((a * 4 + i) / 4) ≡ false = o ((a * 4 + i) / 4) (omega arith) (omega arith) in
      rw t (same (a * 4 + i) (omega arith) (omega arith))) in
      let whole : r ≡ sets p at (tab (b * 4) (cell p at mask f)) = er ∙ rw (c, d.is) (sets_run (b * 4 - a * 4) (a * 4) p at (cell p at mask f) ∙ ap (λ (j : ℕ). sets p at (tab j (cell p at mask f))) e) in
      record { same = ap length whole ∙ simp length-sets; is = whole }

  -- the whole row
  pub row_done : (w : ℕ) {bx : ℕ} {q : List ℕ} → w ≡ bx * 4 → Done p at mask f bx q → q ≡ sets p at (tab w (cell p at mask f))
  row_done w e d = rw e d.is
