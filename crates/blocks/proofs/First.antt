-- The first block of which a test holds (`first_of`): where it lies, and how a walk finds it, block by block or by a jump over blocks that fail the test.
use mathlib.Core.Path.{◌≡◌, refl, sym, ◌∙◌}
use mathlib.Core.Bool.{Bool, true, false, cond, ◌||◌}
use Prim.Native.Nat.{ℕ, zero, suc, ◌+◌, ◌-◌, ◌≤◌, ◌<◌}
use native.Mathlib.Numerals.{add-one}
use native.Mathlib.Nat.{add-zero, le_refl}
use native.Mathlib.Decide.{dec_lt, ℕ_discrete}
use native.Mathlib.Omega.{arith}
use Rattle.definition.specs.Blocks.{first_of}

module _ (test : ℕ → Bool) where
  -- WHERE IT LIES, and what the blocks before it are
  pub first-low : (n a : ℕ) → a ≤ first_of test a n
  unfolding first_of
  first-low zero a = le_refl a
  first-low (suc n) a = go (test a) (first-low n (suc a))
    where
      go : (t : Bool) → suc a ≤ first_of test (suc a) n → a ≤ cond t a (first_of test (suc a) n)
      go true h = le_refl a
      go false h = omega arith

  pub first_most : (n a : ℕ) → first_of test a n ≤ a + n
  unfolding first_of
  first_most zero a = omega arith
  first_most (suc n) a = go (test a) (first_most n (suc a))
    where
      go : (t : Bool) → first_of test (suc a) n ≤ suc a + n → cond t a (first_of test (suc a) n) ≤ a + suc n
      go true h = omega arith
      go false h = omega arith

  -- the blocks before it fail the test
  pub first_fails : (n a k : ℕ) → a ≤ k → k < first_of test a n → test k ≡ false
  unfolding first_of
  first_fails zero a k l h = absurd (omega arith)
  first_fails (suc n) a k l h = go (test a) refl (λ i g. first_fails n (suc a) k i g) h
    where
      go : (t : Bool) → test a ≡ t → (suc a ≤ k → k < first_of test (suc a) n → test k ≡ false) → k < cond t a (first_of test (suc a) n) → test k ≡ false
      go true e r g = absurd (omega arith)
      go false e r g =
          elim (ℕ_discrete k a) [
            | yes q ↦ rw q e
            | no ne ↦ r (omega arith) g
          ]

  -- where it is one of the n, the test holds there
  pub first_holds : (n a : ℕ) → first_of test a n < a + n → test (first_of test a n) ≡ true
  unfolding first_of
  first_holds zero a h = absurd (omega arith)
  first_holds (suc n) a h = go (test a) refl (λ g. first_holds n (suc a) g) h
    where
      go : (t : Bool) → test a ≡ t → (first_of test (suc a) n < suc a + n → test (first_of test (suc a) n) ≡ true) →
          cond t a (first_of test (suc a) n) < a + suc n → test (cond t a (first_of test (suc a) n)) ≡ true
      go true e r g = e
      go false e r g = r (omega arith)

  -- AS A WALK FINDS IT
  pub first-skip : (a b : ℕ) → a < b → test a ≡ false → first_of test a (b - a) ≡ first_of test (a + 1) (b - (a + 1))
  unfolding first_of
  first-skip a b l e = let d : b - a ≡ suc (b - (a + 1)) = omega arith in rw (d, e, add-one a)

  pub first-here : (a b : ℕ) → a < b → test a ≡ true → first_of test a (b - a) ≡ a
  unfolding first_of
  first-here a b l e = let d : b - a ≡ suc (b - (a + 1)) = omega arith in rw (d, e)

  pub first-end : (a b : ℕ) → b ≤ a → first_of test a (b - a) ≡ a
  unfolding first_of
  first-end a b l = let d : b - a ≡ 0 = omega arith in rw d

  pub first_jump : (n a b : ℕ) → a + n ≤ b → ((k : ℕ) → a ≤ k → k < a + n → test k ≡ false) → first_of test a (b - a) ≡ first_of test (a + n) (b - (a + n))
  first_jump zero a b l h = rw (add-zero a)
  first_jump (suc n) a b l h =
      let d : a + suc n ≡ a + 1 + n = omega arith in
      first-skip a b (omega arith) (h a (omega arith) (omega arith)) ∙
      (first_jump n (a + 1) b (omega arith) (λ k i j. h k (omega arith) (omega arith)) ∙ rw d)

  -- it is further on: the test fails here
  pub first_later : (a b e : ℕ) → a < b → first_of test a (b - a) ≡ e → a < e → (test a ≡ false) × (first_of test (a + 1) (b - (a + 1)) ≡ e)
  first_later a b e l f h = go (test a) refl
    where
      go : (t : Bool) → test a ≡ t → (test a ≡ false) × (first_of test (a + 1) (b - (a + 1)) ≡ e)
      go true q = absurd (let d = first-here a b l q in omega arith)
      go false q = (q, sym (first-skip a b l q) ∙ f)

-- the first block of which one of two tests holds, where the first of them holds
pub first_either : (f g : ℕ → Bool) (a b : ℕ) → first_of f a (b - a) ≡ a → first_of (λ k. f k || g k) a (b - a) ≡ a
first_either f g a b e =
    elim (dec_lt a b) [
      | yes l ↦ go l (f a) refl
      | no n ↦ first-end (λ k. f k || g k) a b (omega arith)
    ]
  where
    go : a < b → (t : Bool) → f a ≡ t → first_of (λ k. f k || g k) a (b - a) ≡ a
    go l true q = first-here (λ k. f k || g k) a b l (rw q)
    go l false q = absurd (let d = first-skip f a b l q in let m = first-low f (b - (a + 1)) (a + 1) in omega arith)
