-- The stretches of one class of a mask, as `blocks::class_stretch` finds them.
use mathlib.Core.Path.{◌≡◌, ◌∙◌}
use mathlib.Core.Bool.{Bool, true, false, not, ◌||◌}
use mathlib.Core.List.{List}
use Prim.Native.Nat.{ℕ, ◌+◌, ◌-◌, ◌≤◌, ◌<◌}
use native.Mathlib.Decide.{ℕ_discrete}
use native.Mathlib.Omega.{arith}
use lib.Dec.{eqb}
use lib.ListN.{get_or}
use borrow.Author.Tests.{eqb-true, not-true, not-false, lt-ltb}
use Rattle.definition.specs.Limits.{block_column_limit}
use Rattle.laws.proofs.Passes.{not_both}
use Rattle.definition.specs.Blocks.{masked, first_of, stretch_start}
use Rattle.definition.specs.Leaves.{end_from}
use Rattle.blocks.proofs.First.{first-low, first_most, first_fails, first_holds}

-- the blocks from a to b are masked; none of them is
abbrev pub Kept : ℕ → ℕ → ℕ → Type 0
Kept mask a b = (k : ℕ) → a ≤ k → k < b → masked mask k ≡ true

abbrev pub Open : ℕ → ℕ → ℕ → Type 0
Open mask a b = (k : ℕ) → a ≤ k → k < b → masked mask k ≡ false

-- the next stretch of one class from bx on, as `blocks::class_stretch` answers
pub record ClassStretch (mask : ℕ) (classes : List ℕ) (bx bw start end : ℕ) : Type 0 where
  pub kept : Kept mask bx start
  pub from : bx ≤ start
  pub some : start < end
  pub low : end ≤ bw
  pub clear : Open mask start end
  pub alike : (k : ℕ) → start ≤ k → k < end → get_or classes k 0 ≡ get_or classes start 0

module _ (mask : ℕ) (classes : List ℕ) (bx bw start : ℕ) (h : bw ≤ block_column_limit) (l : bx ≤ bw) (s : start ≡ stretch_start mask bx bw) where
  start_is : start ≡ first_of (λ k. not (masked mask k)) bx (bw - bx)
  start_is = s

  pub kept-before : Kept mask bx start
  kept-before k a b = not-false (masked mask k) (first_fails (λ k. not (masked mask k)) (bw - bx) bx k a (rw start_is at b))

  -- no stretch is left
  pub all-kept : bw ≤ start → Kept mask bx bw
  all-kept g k a b = kept-before k a (omega arith)

  pub class_stretch : (end : ℕ) → start < bw → end ≡ end_from mask classes (stretch_start mask bx bw) bw → ClassStretch mask classes bx bw start end
  class_stretch end g q =
      let t : ℕ → Bool = λ k. masked mask k || not (eqb (get_or classes k 0) (get_or classes start 0)) in
      let i = start_is in
      let low : bx ≤ start = omega (arith, first-low (λ k. not (masked mask k)) (bw - bx) bx) in
      let here : masked mask start ≡ false =
      rw i (not-true (masked mask (first_of (λ k. not (masked mask k)) bx (bw - bx))) (first_holds (λ k. not (masked mask k)) (bw - bx) bx (omega arith))) in
      let d : end ≡ first_of t (start + 1) (bw - (start + 1)) = q ∙ rw (← i, lt-ltb start bw g) in
      let fails : (k : ℕ) → start + 1 ≤ k → k < end → t k ≡ false = λ k a b. first_fails t (bw - (start + 1)) (start + 1) k a (rw d at b) in
      record {
        kept = kept-before;
        from = low;
        some = omega (arith, first-low t (bw - (start + 1)) (start + 1));
        low = omega (arith, first_most t (bw - (start + 1)) (start + 1));
        clear = λ k a b.
            elim (ℕ_discrete k start) [
              | yes e ↦ rw e here
              | no ne ↦ (not_both (masked mask k) (not (eqb (get_or classes k 0) (get_or classes start 0))) (fails k (omega arith) b)).0
            ];
        alike = λ k a b.
            elim (ℕ_discrete k start) [
              | yes e ↦ rw e
              | no ne ↦ eqb-true (get_or classes k 0) (get_or classes start 0)
                  (not-false (eqb (get_or classes k 0) (get_or classes start 0)) (not_both (masked mask k) (not (eqb (get_or classes k 0) (get_or classes start 0))) (fails k (omega arith) b)).1)
            ];
      }
