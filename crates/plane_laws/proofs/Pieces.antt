-- THE PIECES of a plane's units: unit k adds its own to those of the first k, and all units have as many whatever their size.
use mathlib.Core.Path.{◌≡◌, refl, sym, ◌∙◌, ap}
use mathlib.Core.Bool.{Bool, true, false, cond}
use mathlib.Core.List.{List}
use Prim.Native.Nat.{ℕ, zero, suc, ◌+◌, ◌-◌, ◌*◌, ◌/◌, ◌≤◌, ◌<◌, min}
use native.Mathlib.Nat.{add-zero, suc-mul}
use native.Mathlib.Decide.{dec_lt, ℕ_discrete}
use native.Mathlib.Omega.{arith}
use lib.Dec.{ltb, eqb}
use borrow.Author.Tests.{lt-ltb, le-ltb, eq-eqb, ne_eqb}
use Rattle.definition.specs.Numbers.{sum_n}
use Rattle.definition.specs.Blocks.{side, mask_at, masked, clear_below, pieces_of}
use Rattle.definition.specs.declared.Given.{Given}
use Rattle.definition.specs.Units.{Lent}
use Rattle.definition.specs.Planes.{skip_bit, unit_number, piece_at, plane_pieces}
use Rattle.plane_laws.proofs.Unit.{Cut}
use Rattle.plane_laws.proofs.Final.{Masks}
use Rattle.plane_laws.proofs.Order.{Grid, Position, held-above, held_below, held-left, held_in, held-right}
use Rattle.plane_laws.proofs.Walk.{AllHeld}

-- SUMS
sum_same : (n : ℕ) (f g : ℕ → ℕ) → ((i : ℕ) → i < n → f i ≡ g i) → sum_n n f ≡ sum_n n g
unfolding sum_n
sum_same zero f g e = refl
sum_same (suc n) f g e = λ t. sum_same n f g (λ i h. e i (omega arith)) t + e n (omega arith) t

sum-none : (n : ℕ) (f : ℕ → ℕ) → ((i : ℕ) → i < n → f i ≡ 0) → sum_n n f ≡ 0
unfolding sum_n
sum-none zero f e = refl
sum-none (suc n) f e = omega (arith, sum-none n f (λ i h. e i (omega arith)), e n (omega arith))

sum_add : (n : ℕ) (f g : ℕ → ℕ) → sum_n n (λ i. f i + g i) ≡ sum_n n f + sum_n n g
unfolding sum_n
sum_add zero f g = omega arith
sum_add (suc n) f g = omega (arith, sum_add n f g)

sum_split : (n a : ℕ) (f : ℕ → ℕ) → sum_n (a + n) f ≡ sum_n a f + sum_n n (λ i. f (a + i))
unfolding sum_n
sum_split zero a f = rw (add-zero a) (omega arith)
sum_split (suc n) a f =
    let d : a + suc n ≡ suc (a + n) = omega arith in
    rw d (omega (arith, sum_split n a f))

sum-front : (n : ℕ) (f : ℕ → ℕ) → sum_n (suc n) f ≡ f 0 + sum_n n (λ i. f (suc i))
unfolding sum_n
sum-front zero f = omega arith
sum-front (suc n) f = omega (arith, sum-front n f)

-- a sum of which all is 0 but n from a on
sum-part : (N a n : ℕ) (f : ℕ → ℕ) → a + n ≤ N → ((i : ℕ) → i < N → i < a → f i ≡ 0) → ((i : ℕ) → i < N → a + n ≤ i → f i ≡ 0) → sum_n N f ≡ sum_n n (λ i. f (a + i))
sum-part N a n f h lo hi =
    let m : ℕ = N - (a + n) in
    let d : a + n + m ≡ N = omega arith in
    let first : sum_n a f ≡ 0 = sum-none a f (λ i k. lo i (omega arith) k) in
    let last : sum_n m (λ i. f (a + n + i)) ≡ 0 = sum-none m (λ i. f (a + n + i)) (λ i k. hi (a + n + i) (omega arith) (omega arith)) in
    ap (λ (k : ℕ). sum_n k f) (sym d) ∙ (sum_split m (a + n) f ∙ omega (arith, sum_split n a f))

-- THE DEFINITION'S PIECES of a unit as sums
clear-sum : (mask bw : ℕ) → clear_below mask bw ≡ sum_n bw (λ b. cond (masked mask b) 0 1)
unfolding clear_below sum_n
clear-sum mask zero = refl
clear-sum mask (suc bw) = omega (arith, clear-sum mask bw)

pieces-sum : (skip : List ℕ) (bw n k : ℕ) → pieces_of skip bw k n ≡ sum_n n (λ y. clear_below (mask_at skip (k + y)) bw)
unfolding pieces_of sum_n
pieces-sum skip bw zero k = refl
pieces-sum skip bw (suc n) k =
    let z : k + 0 ≡ k = omega arith in
    let e : sum_n n (λ y. clear_below (mask_at skip (suc k + y)) bw) ≡ sum_n n (λ y. clear_below (mask_at skip (k + suc y)) bw) =
    sum_same n _ _ (λ y h. ap (λ (m : ℕ). clear_below (mask_at skip m) bw) (omega arith)) in
    let f : clear_below (mask_at skip (k + 0)) bw ≡ clear_below (mask_at skip k) bw = ap (λ (m : ℕ). clear_below (mask_at skip m) bw) z in
    omega (arith, pieces-sum skip bw n (suc k), e, f, sum-front n (λ y. clear_below (mask_at skip (k + y)) bw))

-- ONE UNIT MORE, at one piece
extra : ℕ → ℕ → ℕ → List ℕ → ℕ → ℕ → ℕ
extra W u k skip r b = cond (eqb (unit_number W u r (side * b)) k) (cond (skip_bit W skip (r / side) b) 0 1) 0

piece_more : (W u k : ℕ) (skip : List ℕ) (r b : ℕ) → piece_at W u (k + 1) skip r b ≡ piece_at W u k skip r b + extra W u k skip r b
unfolding piece_at extra
piece_more W u k skip r b =
    let n : ℕ = unit_number W u r (side * b) in
    let bit : ℕ = cond (skip_bit W skip (r / side) b) 0 1 in
    elim (dec_lt n k) [
      | yes lt ↦ rw (lt-ltb n (k + 1) (omega arith), lt-ltb n k lt, ne_eqb n k (λ e. omega arith)) (omega arith)
      | no ge ↦
          elim (ℕ_discrete n k) [
            | yes e ↦ rw (lt-ltb n (k + 1) (omega arith), le-ltb n k (omega arith), eq-eqb n k e) (omega arith)
            | no ne ↦ rw (le-ltb n (k + 1) (omega arith), le-ltb n k (omega arith), ne_eqb n k ne) (omega arith)
          ]
    ]

extra_none : (W u k : ℕ) (skip : List ℕ) (r b : ℕ) → (unit_number W u r (side * b) ≡ k → ⊥) → extra W u k skip r b ≡ 0
unfolding extra
extra_none W u k skip r b h = rw (ne_eqb (unit_number W u r (side * b)) k h)

extra_in : (W u k : ℕ) (skip : List ℕ) (r b : ℕ) → unit_number W u r (side * b) ≡ k → extra W u k skip r b ≡ cond (skip_bit W skip (r / side) b) 0 1
unfolding extra
extra_in W u k skip r b h = rw (eq-eqb (unit_number W u r (side * b)) k h)

pieces_more : (W H u k : ℕ) (skip : List ℕ) → plane_pieces W H u (k + 1) skip ≡ plane_pieces W H u k skip + sum_n H (λ r. sum_n (W / side) (λ b. extra W u k skip r b))
unfolding plane_pieces
pieces_more W H u k skip =
    sum_same H _ _ (λ r h. sum_same (W / side) _ _ (λ b h'. piece_more W u k skip r b) ∙ sum_add (W / side) (λ b. piece_at W u k skip r b) (λ b. extra W u k skip r b)) ∙
    sum_add H (λ r. sum_n (W / side) (λ b. piece_at W u k skip r b)) (λ r. sum_n (W / side) (λ b. extra W u k skip r b))

-- THE STEP
module _ (W H u : ℕ) (grid : Grid W H u) (k y0 x0 b : ℕ) (at : Position W u k y0 x0) (g : Given) (l : Lent) (skip : List ℕ)
    (ew : g.w ≡ min u (W - x0)) (eh : g.h ≡ min u (H - y0)) (cut : Cut W H y0 x0 b g) (masks : Masks W y0 x0 g l skip) where
  block_in : (b : ℕ) → b < W / 4 → 4 * b < W
  block_in b h = omega (arith, grid.four_w)

  -- a row of the unit
  row_extra : (y : ℕ) → y < g.h → sum_n (W / side) (λ b. extra W u k skip (y0 + y) b) ≡ clear_below (mask_at l.skip y) (g.w / side)
  row_extra y hy =
      let c = cut in
      let hi : y0 + y < y0 + u = omega arith in
      sum-part (W / 4) (x0 / 4) (g.w / 4) (λ b. extra W u k skip (y0 + y) b) (omega (arith, cut.far, cut.four_x, cut.fourw))
      (λ b hb lt.
      extra_none W u k skip (y0 + y) b
      (λ e. omega (arith, held-left W u k y0 x0 grid.some_u at (y0 + y) (4 * b) (block_in b hb) (omega arith) hi (omega (arith, cut.four_x)))))
      (λ b hb ge. extra_none W u k skip (y0 + y) b (λ e. past b hb ge hi e)) ∙
      (sum_same (g.w / 4) _ _ (λ b hb. within b hb hi) ∙ sym (clear-sum (mask_at l.skip y) (g.w / side)))
    where
      past : (b : ℕ) → b < W / 4 → x0 / 4 + g.w / 4 ≤ b → y0 + y < y0 + u → unit_number W u (y0 + y) (side * b) ≡ k → ⊥
      past b hb ge hi e =
          let n : x0 + u ≤ 4 * b = omega (arith, block_in b hb, cut.four_x, cut.fourw) in
          omega (arith, held-right W u k y0 x0 grid.some_u at (y0 + y) (4 * b) (block_in b hb) (omega arith) hi n)

      within : (b : ℕ) → b < g.w / 4 → y0 + y < y0 + u → extra W u k skip (y0 + y) (x0 / 4 + b) ≡ cond (masked (mask_at l.skip y) b) 0 1
      within b hb hi =
          let n : 4 * (x0 / 4 + b) ≡ x0 + 4 * b = omega (arith, cut.four_x) in
          let m : (x0 + 4 * b) / 4 ≡ x0 / 4 + b = omega arith in
          let q : 4 * b / 4 ≡ b = omega arith in
          let s : unit_number W u (y0 + y) (4 * (x0 / 4 + b)) ≡ k =
          rw n (held_in W u k y0 x0 grid.some_u at (y0 + y) (x0 + 4 * b) (omega (arith, cut.far)) (omega arith) hi (omega arith) (omega arith)) in
          extra_in W u k skip (y0 + y) (x0 / 4 + b) s ∙
          ap (λ (t : Bool). cond t 0 1) (sym (rw (m, q) at (masks y (4 * b) hy (omega arith))))

  pub unit-pieces : plane_pieces W H u (k + 1) skip ≡ plane_pieces W H u k skip + pieces_of l.skip (g.w / side) 0 g.h
  unit-pieces =
      pieces_more W H u k skip ∙
      ap (λ (n : ℕ). plane_pieces W H u k skip + n)
      (sum-part H y0 g.h (λ r. sum_n (W / side) (λ b. extra W u k skip r b)) cut.low
      (λ r hr lt.
      sum-none (W / 4) (λ b. extra W u k skip r b)
      (λ b hb. extra_none W u k skip r b (λ e. omega (arith, held-above W u k y0 x0 grid.some_u at r (4 * b) (block_in b hb) lt))))
      (λ r hr ge.
      sum-none (W / 4) (λ b. extra W u k skip r b)
      (λ b hb. extra_none W u k skip r b (λ e. omega (arith, held_below W u k y0 x0 grid.some_u at r (4 * b) (block_in b hb) (omega arith))))) ∙
      (sum_same g.h _ _ (λ y hy. row_extra y hy ∙ ap (λ (m : ℕ). clear_below (mask_at l.skip m) (g.w / side)) (omega arith)) ∙
      sym (pieces-sum l.skip (g.w / side) g.h 0)))

-- no units, and all of them
pub no_pieces : (W H u : ℕ) (skip : List ℕ) → plane_pieces W H u 0 skip ≡ 0
unfolding plane_pieces piece_at
no_pieces W H u skip = sum-none H _ (λ r hr. sum-none (W / side) _ (λ b hb. rw (le-ltb (unit_number W u r (side * b)) 0 (omega arith))))

pub every-size-pieces : (W H u k v n : ℕ) (skip : List ℕ) → AllHeld W H u k → AllHeld W H v n → plane_pieces W H u k skip ≡ plane_pieces W H v n skip
unfolding plane_pieces piece_at
every-size-pieces W H u k v n skip hu hv =
    sum_same H _ _
    (λ r hr.
    sum_same (W / side) _ _
    (λ b hb.
    let c : 4 * b < W = omega arith in
    rw (lt-ltb (unit_number W u r (side * b)) k (hu r (side * b) hr c), lt-ltb (unit_number W v r (side * b)) n (hv r (side * b) hr c))))

-- a plane has no more pieces than rows of blocks
sum_most : (n b : ℕ) (f : ℕ → ℕ) → ((i : ℕ) → f i ≤ b) → sum_n n f ≤ n * b
unfolding sum_n
sum_most zero b f h = omega arith
sum_most (suc n) b f h = omega (arith, sum_most n b f h, h n, suc-mul n b)

pub pieces_most : (W H u k : ℕ) (skip : List ℕ) → plane_pieces W H u k skip ≤ H * (W / side * 1)
unfolding plane_pieces piece_at
pieces_most W H u k skip =
    sum_most H (W / side * 1) _ (λ r. sum_most (W / side) 1 _ (λ b. most (ltb (unit_number W u r (side * b)) k) (skip_bit W skip (r / side) b)))
  where
    most : (a b : Bool) → cond a (cond b 0 1) 0 ≤ 1
    most true true = omega arith
    most true false = omega arith
    most false b = omega arith
