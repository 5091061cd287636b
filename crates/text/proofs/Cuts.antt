-- A text that is cut to its first n bytes each time that it grows is the whole one, cut once.
use mathlib.Core.Path.{◌≡◌, refl, sym, ap, ◌∙◌}
use mathlib.Core.List.{List, [], ◌∷◌, ◌++◌, append_assoc, append-nil}
use Prim.Native.Nat.{ℕ, zero, suc, ◌/◌, ◌%◌, ◌≤◌}
use native.Mathlib.Omega.{arith}
use lib.ListN.{length, take, length-take}
use lib.Seq.{take_all}
use Rattle.definition.specs.Card.{hex_text, glyph}

cut_more : (n : ℕ) (x y : List ℕ) → take n (take n x ++ y) ≡ take n (x ++ y)
cut_more zero x y = refl
cut_more (suc n) [] y = refl
cut_more (suc n) (a ∷ x) y = ap (λ l. a ∷ l) (cut_more n x y)

-- nothing behind a text that has room
pub cut_none : (n : ℕ) (x : List ℕ) → length x ≤ n → x ≡ take n (x ++ [])
cut_none n x h = sym (ap (take n) (append-nil x) ∙ take_all n x h)

-- two pieces, one behind the other
pub cut_both : (n : ℕ) (x y z : List ℕ) → take n (take n (x ++ y) ++ z) ≡ take n (x ++ (y ++ z))
cut_both n x y z = cut_more n (x ++ y) z ∙ ap (take n) (append_assoc x y z)

-- one sample more, in two digits
hex_more : (l : List ℕ) (b : ℕ) → hex_text (l ++ (b ∷ [])) ≡ hex_text l ++ (glyph (b / 16) ∷ glyph (b % 16) ∷ [])
hex_more [] b = refl
hex_more (a ∷ l) b = ap (λ t. glyph (a / 16) ∷ glyph (a % 16) ∷ t) (hex_more l b)

pub cut_hex : (n : ℕ) (x l : List ℕ) (b : ℕ) → take n (take n (take n (x ++ hex_text l) ++ (glyph (b / 16) ∷ [])) ++ (glyph (b % 16) ∷ [])) ≡ take n (x ++ hex_text (l ++ (b ∷ [])))
cut_hex n x l b =
    ap (λ t. take n (t ++ (glyph (b % 16) ∷ []))) (cut_both n x (hex_text l) (glyph (b / 16) ∷ [])) ∙
    cut_both n x (hex_text l ++ (glyph (b / 16) ∷ [])) (glyph (b % 16) ∷ []) ∙
    ap (λ t. take n (x ++ t)) (append_assoc (hex_text l) (glyph (b / 16) ∷ []) (glyph (b % 16) ∷ []) ∙ sym (hex_more l b))

-- a text that was cut before, and the pieces that were put behind it since
pub put_more : (n : ℕ) (x t r : List ℕ) {y : List ℕ} → y ≡ take n (x ++ t) → take n (y ++ r) ≡ take n (x ++ (t ++ r))
put_more n x t r e = ap (λ z. take n (z ++ r)) e ∙ cut_both n x t r

-- what was cut is no longer than that
pub cut_short : (n : ℕ) (x : List ℕ) {y : List ℕ} → y ≡ take n x → length y ≤ n
cut_short n x e = rw e (omega (arith, length-take n x))
