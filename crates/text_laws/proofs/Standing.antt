-- What it means that a text stands in an input, and that a reader and a text belong together; each law of lines is one application to a line.
use mathlib.Core.Path.{◌≡◌, refl, sym, ap, ◌∙◌, subst}
use mathlib.Core.List.{List, [], ◌∷◌, ◌++◌, append_assoc, append-nil}
use Prim.Native.Nat.{ℕ, ◌+◌, ◌≤◌}
use native.Mathlib.Omega.{arith}
use native.Mathlib.Nat.{add-zero, add_assoc}
use lib.ListN.{length, drop, length-append}
use lib.Seq.{drop-drop, drop-append_seam}
use Rattle.definition.specs.Card.{Reading, value, reading}
use Rattle.text_laws.proofs.Found.{found-then, same-value}

-- a text stands in a list at a place, and q is the place behind it
pub record Stands (t s : List ℕ) (at q : ℕ) : Type 0 where
  pub place : q ≡ at + length t
  pub rest : List ℕ
  pub is : drop at s ≡ t ++ rest

-- wherever the text stands, reading there finds the value and the place behind the text
abbrev pub Reads : {A : Type 0} → (List ℕ → ℕ → Reading A) → List ℕ → A → Type 0
Reads f t a = (s : List ℕ) (at q : ℕ) → Stands t s at q → f s at ≡ value a q

-- what was read fits, and where it was read stands its text
abbrev pub Spells : {A : Type 0} → (A → Type 0) → (List ℕ → ℕ → Reading A) → (A → List ℕ) → Type 0
Spells {A} P f text = (s : List ℕ) (at q : ℕ) (a : A) → f s at ≡ value a q → P a × Stands (text a) s at q

-- TEXTS THAT STAND
pub stands-none : (s : List ℕ) (at : ℕ) → Stands [] s at at
stands-none s at = record { place = sym (add-zero at); rest = drop at s; is = refl }

pub stands-first : (t u : List ℕ) {s : List ℕ} {at q : ℕ} → Stands (t ++ u) s at q → Stands t s at (at + length t)
stands-first t u h = record { place = refl; rest = u ++ h.rest; is = h.is ∙ append_assoc t u h.rest }

pub stands-second : (t u : List ℕ) {s : List ℕ} {at q : ℕ} → Stands (t ++ u) s at q → Stands u s (at + length t) q
stands-second t u {s} {at} h =
    record {
      place = h.place ∙ ap (λ n. at + n) (length-append t u) ∙ sym (add_assoc at (length t) (length u));
      rest = h.rest;
      is = sym (drop-drop (length t) at s) ∙ ap (drop (length t)) (h.is ∙ append_assoc t u h.rest) ∙ drop-append_seam t (u ++ h.rest);
    }

pub stands-both : {t u s : List ℕ} {at p q : ℕ} → Stands t s at p → Stands u s p q → Stands (t ++ u) s at q
stands-both {t} {u} {s} {at} {p} {q} h k =
    let e : drop p s ≡ h.rest =
    ap (λ n. drop n s) h.place ∙ sym (drop-drop (length t) at s) ∙ ap (drop (length t)) h.is ∙ drop-append_seam t h.rest in
    record {
      place = k.place ∙ ap (λ n. n + length u) h.place ∙ add_assoc at (length t) (length u) ∙ ap (λ n. at + n) (sym (length-append t u));
      rest = k.rest;
      is = h.is ∙ ap (λ r. t ++ r) (sym e ∙ k.is) ∙ sym (append_assoc t u k.rest);
    }

-- a text that is all of a list
pub stands-all : (t : List ℕ) → Stands t t 0 (length t)
stands-all t = record { place = omega arith; rest = []; is = sym (append-nil t) }

pub stands-whole : {t s : List ℕ} → Stands t s 0 (length s) → s ≡ t
stands-whole {t} {s} h = h.is ∙ ap (λ r. t ++ r) (none h.rest (omega (arith, h.place, ap length h.is, length-append t h.rest))) ∙ append-nil t
  where
    none : (l : List ℕ) → length l ≡ 0 → l ≡ []
    none [] e = refl
    none (x ∷ l) e = absurd (omega arith)

-- READING BACK. Nothing is left to read: the value is there.
pub reads-end : {A : Type 0} (a : A) → Reads (λ s at. value a at) [] a
reads-end a s at q h = ap (value a) (sym (add-zero at) ∙ sym h.place)

-- a line, and the lines behind it
pub reads-then : {A B : Type 0} {f : List ℕ → ℕ → Reading A} {t u : List ℕ} {a : A} {b : B} (g : A → List ℕ → ℕ → Reading B) → Reads f t a → Reads (g a) u b →
    Reads (λ s at. reading (f s at) (λ x p. g x s p)) (t ++ u) b
reads-then {t = t} {u = u} {a = a} g h k s at q l =
    ap (λ r. reading r (λ x p. g x s p)) (h s at (at + length t) (stands-first t u l)) ∙ k s (at + length t) q (stands-second t u l)

-- a value that is made of what was read
pub reads-last : {A B : Type 0} {f : List ℕ → ℕ → Reading A} {t : List ℕ} {a : A} (g : A → B) → Reads f t a → Reads (λ s at. reading (f s at) (λ x p. value (g x) p)) t (g a)
reads-last g h s at q l = ap (λ r. reading r (λ x p. value (g x) p)) (h s at q l)

-- a text under another name
pub reads-as : {A : Type 0} {f : List ℕ → ℕ → Reading A} {t u : List ℕ} {a : A} → t ≡ u → Reads f t a → Reads f u a
reads-as {f = f} {a = a} e h = subst (λ x. Reads f x a) e h

-- THE WAY BACK: a reading that found something found something in its first line, and the line's text stands there
pub spells-then : {A B : Type 0} {P : A → Type 0} {f : List ℕ → ℕ → Reading A} {text : A → List ℕ} {more : A → ℕ → Reading B} {s : List ℕ} {at q : ℕ} {b : B} {C : Type 0} →
    Spells P f text → reading (f s at) more ≡ value b q → ((a : A) (p : ℕ) → P a → Stands (text a) s at p → more a p ≡ value b q → C) → C
spells-then {f = f} {s = s} {at = at} h e k = found-then (f s at) e (λ a p w v. let i = h s at p a w in k a p i.0 i.1 v)

pub spells-end : {A : Type 0} (P : A → Type 0) (text : A → List ℕ) {s : List ℕ} {at p q : ℕ} {a b : A} → value a p ≡ value b q → P a → Stands (text a) s at p →
    P b × Stands (text b) s at q
spells-end P text {s} {at} {q = q} {a = a} e f h =
    let i = same-value e in
    (subst P i.0 f, subst (λ x. Stands (text x) s at q) i.0 (subst (λ n. Stands (text a) s at n) i.1 h))

-- HOW LONG A TEXT IS at most
pub short-then : (t u : List ℕ) {m n : ℕ} → length t ≤ m → length u ≤ n → length (t ++ u) ≤ m + n
short-then t u h k = omega (arith, length-append t u)
