-- A byte of an input, a byte that ends a value, and a word.
use mathlib.Core.Path.{◌≡◌, refl, sym, ap, ◌∙◌}
use mathlib.Core.Bool.{Bool, true}
use mathlib.Core.List.{List, [], ◌∷◌}
use Prim.Native.Nat.{ℕ, suc, ◌+◌, ◌<◌}
use native.Mathlib.Nat.{add-zero}
use native.Mathlib.Numerals.{add-one}
use native.Mathlib.Decide.{dec_le}
use native.Mathlib.Omega.{arith}
use borrow.Author.Tests.{eq-eqb, eqb-true, ltb-true}
use lib.Dec.{ltb, eqb}
use lib.ListN.{length, get_or, drop, get_or-eq_default}
use lib.Seq.{get_or-drop, drop-cons}
use Rattle.laws.proofs.Passes.{both}
use Rattle.laws.proofs.Tables.{all}
use Rattle.definition.specs.Card.{input_at, value, ended, word, word_at}
use Rattle.text_laws.proofs.Found.{found-true}
use Rattle.text_laws.proofs.Standing.{Stands, Reads, Spells, stands-none, stands-both, reads-end, reads-then, spells-then, spells-end}

-- a byte stands inside the input
pub byte-inside : (s : List ℕ) (at : ℕ) → input_at s at < 256 → at < length s
byte-inside s at h =
    elim (dec_le (length s) at) [
      | yes l ↦ absurd (past (get_or-eq_default s 256 l))
      | no l ↦ omega arith
    ]
  where
    past : get_or s at 256 ≡ 256 → ⊥
    past e = omega (arith, h, e)

pub byte-cut : (s : List ℕ) (at b : ℕ) → b < 256 → input_at s at ≡ b → drop at s ≡ b ∷ drop (at + 1) s
byte-cut s at b h e =
    drop-cons s at 256 (byte-inside s at (omega (arith, e))) ∙ ap (λ x. x ∷ drop (suc at) s) e ∙ ap (λ k. b ∷ drop k s) (sym (add-one at))

pub byte-stands : (s : List ℕ) (at b : ℕ) → b < 256 → input_at s at ≡ b → Stands (b ∷ []) s at (at + 1)
byte-stands s at b h e = record { place = refl; rest = drop (at + 1) s; is = byte-cut s at b h e }

-- the first and the second byte of what stands at a place
pub first-byte : (s : List ℕ) (at : ℕ) (l : List ℕ) → drop at s ≡ l → input_at s at ≡ get_or l 0 256
first-byte s at l e = ap (λ k. input_at s k) (sym (add-zero at)) ∙ sym (get_or-drop at s 0 256) ∙ ap (λ l. get_or l 0 256) e

pub second-byte : (s : List ℕ) (at : ℕ) (l : List ℕ) → drop at s ≡ l → input_at s (at + 1) ≡ get_or l 1 256
second-byte s at l e = sym (get_or-drop at s 1 256) ∙ ap (λ l. get_or l 1 256) e

-- A BYTE THAT ENDS A VALUE
pub ended-reads : {A : Type 0} (end : ℕ) (a : A) → Reads (λ s. ended s end a) (end ∷ []) a
ended-reads end a s at q h = rw (first-byte s at (end ∷ h.rest) h.is, eq-eqb end end refl) (ap (value a) (sym h.place))

pub ended-spells : {A : Type 0} (end : ℕ) (a : A) → end < 256 → Spells (λ b. a ≡ b) (λ s. ended s end a) (λ _. end ∷ [])
ended-spells end a l s at q b e =
    let x = found-true (eqb (input_at s at) end) e in
    spells-end (λ b. a ≡ b) (λ _. end ∷ []) x.1 refl (byte-stands s at end l (eqb-true (input_at s at) end x.0))

-- A WORD
pub word-reads : (w : List ℕ) → Reads (λ s. word_at s w) w word
unfolding word_at
word-reads [] = reads-end word
word-reads (b ∷ w) = reads-then (λ _ s p. word_at s w p) (ended-reads b word) (word-reads w)

-- its bytes are bytes
abbrev pub bytes : List ℕ → Bool
bytes = all (λ b. ltb b 256)

pub word-spells : (w : List ℕ) → bytes w ≡ true → Spells (λ _. Unit {0}) (λ s. word_at s w) (λ _. w)
unfolding word_at
word-spells [] h s at q a e = spells-end (λ _. Unit {0}) (λ _. []) e tt (stands-none s at)
word-spells (b ∷ w) h s at q a e =
    let p = both (ltb b 256) (bytes w) h in
    spells-then {f = λ s. ended s b word} (ended-spells b word (ltb-true b 256 p.0)) e (λ x o _ i v. (tt, stands-both i (word-spells w p.1 s o q a v).1))
