-- Of a unit that is not declined all that a row asks for is lent, and what the state keeps is sound.
use mathlib.Core.Path.{◌≡◌, refl}
use mathlib.Core.Bool.{Bool, true, false, cond, not, ◌&&◌, ◌||◌}
use mathlib.Core.List.{List}
use Prim.Native.Nat.{ℕ, ◌+◌, ◌*◌, ◌-◌, ◌/◌, ◌%◌, ◌^◌, ◌≤◌, ◌<◌}
use native.Mathlib.Decide.{dec_lt}
use native.Mathlib.Omega.{arith}
use lib.Dec.{ltb, eqb}
use lib.ListN.{length, get_or}
use borrow.Author.Tests.{ltb-true, ltb-false, eqb-true, not-false}
use Rattle.definition.specs.declared.Operation.{Operation}
use Rattle.definition.specs.declared.Operation.TheVariants.{Luma, User, Pretrained, Chroma}
use Rattle.definition.specs.declared.Given.{Given}
use Rattle.definition.specs.declared.Sizes.{Sizes}
use Rattle.definition.specs.Limits.{block_column_limit, map_size}
use Rattle.definition.specs.Rows.{index_count, state_bytes}
use Rattle.definition.specs.Padding.{bottom_integrated}
use Rattle.definition.specs.Units.{set_size, Lent, classed}
use Rattle.definition.specs.Refusals.{sizes_of, beside, bottom_rows, left_of, right_of, luma_outside, luma_down, luma_above, luma_top_rows, bad_kept, first_pass, every}
use Rattle.laws.proofs.Passes.{pass_at, not_both}
use Rattle.laws.proofs.Inside.{inside, unless}
use Rattle.model.proofs.Fine.{Fine}
use Rattle.operations.proofs.Chosen.{when_chroma, when_classed}
use Rattle.units.specs.declared.State.{State}
use Rattle.model.proofs.Cells.{HasSet}
use Rattle.units.specs.Windows.{LumaLie, Mapped, Fit, Sound}
use Rattle.model.proofs.Step.{ring}
use Rattle.units.proofs.Admissions.{Admitted, rows_lie, one_set, low-all}

-- CHROMA: the luma rows lie inside
one-some : (v n : ℕ) → v ≤ 1 → 4 ≤ n → 4 ≤ 2 ^ v * n
one-some v n h k =
    elim (dec_lt v 1) [
      | yes lt ↦ let e : v ≡ 0 = omega arith in rw e (omega arith)
      | no ge ↦ let e : v ≡ 1 = omega arith in rw e (omega arith)
    ]

down_some : (b : Bool) (n : ℕ) → 4 ≤ n → 0 < cond b (n - 1) n
down_some true n h = omega arith
down_some false n h = omega arith

luma-lie : (g : Given) (l : Lent) (p : List ℕ) → Fine Chroma g (sizes_of Chroma l p) → LumaLie g (length l.luma_plane) (length l.luma_top) (length l.luma_bottom)
luma-lie g l p f =
    let z : Sizes = sizes_of Chroma l p in
    let s = not_both (ltb 1 g.ss_hor || ltb g.ss_hor g.ss_ver) (ltb 2 g.kind) f.pair in
    let t = not_both (ltb 1 g.ss_hor) (ltb g.ss_hor g.ss_ver) s.0 in
    let hor : g.ss_hor ≤ 1 = ltb-false 1 g.ss_hor t.0 in
    let ver : g.ss_ver ≤ g.ss_hor = ltb-false g.ss_hor g.ss_ver t.1 in
    let A : Bool = luma_outside g (length l.luma_plane) g.luma_off (luma_down g) (luma_above g) in
    let B : Bool = luma_outside g (length l.luma_top) g.luma_top_off (luma_top_rows g) 0 in
    let C : Bool = luma_outside g (length l.luma_bottom) g.luma_bottom_off (bottom_rows g.edges) 0 in
    let u = not_both (A || B) C f.luma in
    let v = not_both A B u.0 in
    record {
      own =
          record {
            wide = f.wide;
            tall = f.tall;
            near = f.luma_near refl;
            hor = hor;
            ver = ver;
            kinds = ltb-false 2 g.kind s.1;
            plane_in =
                inside (length l.luma_plane) g.luma_off g.luma_stride (luma_down g) (g.w * 2 ^ g.ss_hor) (luma_above g * g.luma_stride + left_of g 4) (right_of g 4) v.0
                (down_some (eqb g.ss_ver 1 && eqb g.kind 2) (2 ^ g.ss_ver * (g.h + beside (bottom_integrated g.edges) 2))
                (one-some g.ss_ver (g.h + beside (bottom_integrated g.edges) 2) (omega arith) (omega (arith, f.tall.low))));
          };
      above = λ r. inside (length l.luma_top) g.luma_top_off g.luma_stride (luma_top_rows g) (g.w * 2 ^ g.ss_hor) (0 * g.luma_stride + left_of g 4) (right_of g 4) v.1 r;
      below = λ r. inside (length l.luma_bottom) g.luma_bottom_off g.luma_stride (bottom_rows g.edges) (g.w * 2 ^ g.ss_hor) (0 * g.luma_stride + left_of g 4) (right_of g 4) u.1 r;
    }

-- CLASSED: the map leads to subclasses, and these to sets; so do the kept classes
module _ (op : Operation) (is : classed op ≡ true) where
  mapped : (g : Given) (l : Lent) (p : List ℕ) → Fine op g (sizes_of op l p) →
      Mapped g l × (every (λ c. ltb c (length l.filters / set_size op)) l.subclass ≡ true)
  mapped g l p f =
      let z : Sizes = sizes_of op l p in
      let a : Bool = not (eqb (length l.map) map_size) in
      let b : Bool = not (every (λ m. ltb m (length l.subclass)) l.map) in
      let c : Bool = not (every (λ c. ltb c (length l.filters / set_size op)) l.subclass) in
      let r = (not_both (not (eqb (z.filters % set_size op) 0)) z.bad_map (rw is at f.filters)).1 in
      let m = not_both (a || b) c r in
      let n = not_both a b m.0 in (
        record {
          noskip = f.noskip is;
          size = eqb-true (length l.map) map_size (not-false (eqb (length l.map) map_size) n.0);
          maps = not-false (every (λ m. ltb m (length l.subclass)) l.map) n.1;
        },
        not-false (every (λ c. ltb c (length l.filters / set_size op)) l.subclass) m.1,
      )

  pub has_set : (n c : ℕ) → c < n / set_size op → HasSet op n c
  has_set n c = when_classed (λ o. c < n / set_size o → HasSet o n c) (λ h. omega arith) (λ h. omega arith) op is

  kept-classed : (classes : List ℕ) (n : ℕ) → bad_kept op classes n ≡ false → (j : ℕ) → j < block_column_limit → HasSet op n (get_or classes j 0)
  kept-classed classes n k j h =
      let passes = not-false (first_pass (λ c. ltb c (n / set_size op)) block_column_limit classes) (unless (classed op) _ k is) in
      has_set n (get_or classes j 0) (ltb-true (get_or classes j 0) (n / set_size op) (pass_at (λ c. ltb c (n / set_size op)) classes block_column_limit j h passes))

-- ANY OPERATION
pub fit : (op : Operation) (g : Given) (l : Lent) (p : List ℕ) → Fine op g (sizes_of op l p) → Fit op g l (length p)
fit op g l p f =
    record {
      sources =
          record {
            lie = rows_lie op g l p f;
            mapped = λ e. (mapped op e g l p f).0;
            luma =
                λ e.
                when_chroma (λ o. Fine o g (sizes_of o l p) → LumaLie g (length l.luma_plane) (length l.luma_top) (length l.luma_bottom))
                (luma-lie g l p) op e f;
          };
      masks = f.skip;
      subs = λ e. (mapped op e g l p f).1;
    }

kept_sets : (op : Operation) (count : ℕ) (s : State) (l : Lent) (p : List ℕ) → Admitted op count s l p → (j : ℕ) → j < block_column_limit → HasSet op (length l.filters) (get_or s.classes j 0)
kept_sets Luma count s l p a j h = omega (arith, one_set Luma s.given (sizes_of Luma l p) refl a.fine)
kept_sets User count s l p a j h = kept-classed User refl s.classes (length l.filters) a.kept j h
kept_sets Pretrained count s l p a j h = kept-classed Pretrained refl s.classes (length l.filters) a.kept j h
kept_sets Chroma count s l p a j h = omega (arith, one_set Chroma s.given (sizes_of Chroma l p) refl a.fine)

pub sound-first : (op : Operation) (count : ℕ) (s : State) (l : Lent) (p : List ℕ) → length s.rows ≡ state_bytes → length s.indices ≡ index_count → length s.classes ≡ block_column_limit → Admitted op count s l p →
    Sound op (length l.filters) s.classes (ring s.rows s.indices s.next)
sound-first op count s l p r i c a =
    record {
      ringed = record { low = low-all s.indices _ i a.low; next = a.next; long = r; count = i };
      kept = kept_sets op count s l p a;
      sixteen = c;
    }
