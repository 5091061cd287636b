-- What is read at a place: a unit of the right sizes, or one of the statuses 1, 2 and 14. So a card's status is 0, 1, 2 or 14 and no other.
use mathlib.Core.Path.{◌≡◌, refl, sym, ◌∙◌}
use mathlib.Core.Bool.{Bool, true, false, cond, not, ◌||◌}
use mathlib.Core.List.{List, [], ◌∷◌, ◌++◌}
use Prim.Native.Nat.{ℕ, zero, suc, ◌+◌, ◌*◌, ◌/◌}
use native.Mathlib.Nat.{zero-mul, suc-mul, mul_comm}
use native.Mathlib.Omega.{arith}
use borrow.Author.Tests.{not-false}
use lib.Dec.{eqb}
use lib.ListN.{length, length-append}
use Rattle.definition.specs.Blocks.{side}
use Rattle.definition.specs.Refusals.{sized}
use Rattle.definition.specs.Limits.{width_limit, height_limit}
use Rattle.definition.specs.Card.{Reading, value, wrong, reading, several, input_at, word_at, newline, pair_at, filter_at, skip_at, row_at, rows_at, size_at, op_line, w_name, h_name, edges_line, filter_name, row_name, joined, CardUnit, Meaning, unit, refused, after, lists_at, unit_at, ending, meaning, status_of}
use Rattle.card_laws.proofs.Planes.{joined-long}

-- of a value that was read
abbrev Holds : {A : Type 0} → (A → Type 0) → Reading A → Type 0
Holds P (value a p) = P a
Holds P wrong = Unit {0}

reading-holds : {A B : Type 0} (P : A → Type 0) (Q : B → Type 0) (r : Reading A) (more : A → ℕ → Reading B) → Holds P r → ((a : A) (p : ℕ) → P a → Holds Q (more a p)) → Holds Q (reading r more)
reading-holds P Q (value a p) more h k = k a p h
reading-holds P Q wrong more h k = tt

cond_holds : {A : Type 0} (P : A → Type 0) (b : Bool) (r s : Reading A) → Holds P r → Holds P s → Holds P (cond b r s)
cond_holds P true r s h k = h
cond_holds P false r s h k = k

anything : {A : Type 0} (r : Reading A) → Holds (λ _. Unit {0}) r
anything (value a p) = tt
anything wrong = tt

several-holds : {A : Type 0} (Item : A → Type 0) (P : ℕ → List A → Type 0) (f : ℕ → ℕ → Reading A) → P 0 [] → ((k : ℕ) (l : List A) (a : A) → P k l → Item a → P (suc k) (l ++ (a ∷ []))) →
    ((k p : ℕ) → Holds Item (f k p)) → (n at : ℕ) → Holds (P n) (several f n at)
unfolding several
several-holds Item P f none more each zero at = none
several-holds Item P f none more each (suc n) at =
    reading-holds (P n) (P (suc n)) (several f n at) _ (several-holds Item P f none more each n at) (λ l p h.
    reading-holds Item (P (suc n)) (f n p) _ (each n p) (λ a q i. more n l a h i))

Long : {A : Type 0} → ℕ → List A → Type 0
Long n l = length l ≡ n

long_more : {A : Type 0} (k : ℕ) (l : List A) (a : A) → Long k l → Long (suc k) (l ++ (a ∷ []))
unfolding Long
long_more k l a h = length-append l (a ∷ []) ∙ omega (arith, h)

several-long : {A : Type 0} (f : ℕ → ℕ → Reading A) (n at : ℕ) → Holds (Long n) (several f n at)
unfolding Long
several-long f n at = several-holds (λ _. Unit {0}) Long f refl (λ k l a h i. long_more k l a h) (λ k p. anything (f k p)) n at

filter-long : (s : List ℕ) (at : ℕ) → Holds (Long 16) (filter_at s at)
unfolding filter_at
filter-long s at = reading-holds (λ _. Unit {0}) (Long 16) (word_at s filter_name at) _ (anything (word_at s filter_name at)) (λ _ p h. several-long _ 16 p)

row-long : (s : List ℕ) (w at : ℕ) → Holds (Long w) (row_at s w at)
unfolding row_at
row-long s w at =
    reading-holds (λ _. Unit {0}) (Long w) (word_at s row_name at) _ (anything (word_at s row_name at)) (λ _ p h.
    reading-holds (Long w) (Long w) (several (λ k. pair_at s) w p) _ (several-long _ w p) (λ row q l. cond_holds (Long w) (eqb (input_at s q) newline) (value row (q + 1)) wrong l tt))

Filled : ℕ → ℕ → List (List ℕ) → Type 0
Filled w n rows = length (joined rows) ≡ n * w

rows-filled : (s : List ℕ) (w h at : ℕ) → Holds (Filled w h) (rows_at s w h at)
unfolding rows_at Filled Long
rows-filled s w h at =
    several-holds (Long w) (Filled w) (λ k. row_at s w) (sym (zero-mul w)) (λ k rows row f l. joined-long rows row ∙ omega (arith, f, l, suc-mul k w)) (λ k p. row-long s w p) h at

-- the unit of a card
pub record Good (u : CardUnit) : Type 0 where
  pub wide : sized width_limit u.w ≡ true
  pub high : sized height_limit u.h ≡ true
  pub filter : length u.filter ≡ 16
  pub rows : length (joined u.rows) ≡ u.w * u.h

-- the statuses of what is not a card
abbrev pub refusing : ℕ → Bool
refusing n = eqb n 1 || eqb n 2 || eqb n 14

abbrev pub RightlyRead : Meaning → Type 0
RightlyRead (unit u at) = Good u
RightlyRead (refused status) = refusing status ≡ true

after_fine : {A : Type 0} (P : A → Type 0) (r : Reading A) (more : A → ℕ → Meaning) → Holds P r → ((a : A) (p : ℕ) → P a → RightlyRead (more a p)) → RightlyRead (after r more)
after_fine P (value a p) more h k = k a p h
after_fine P wrong more h k = refl

cond_fine : (b : Bool) (m n : Meaning) → RightlyRead m → (b ≡ false → RightlyRead n) → RightlyRead (cond b m n)
cond_fine true m n hm hn = hm
cond_fine false m n hm hn = hn refl

lists_fine : (s : List ℕ) (w h at : ℕ) → sized width_limit w ≡ true → sized height_limit h ≡ true → RightlyRead (lists_at s w h at)
unfolding lists_at Long Filled
lists_fine s w h at ow oh =
    after_fine (Long 16) (filter_at s at) _ (filter-long s at) (λ filter p₁ lf.
    after_fine (λ _. Unit {0}) (skip_at s (h / side) p₁) _ (anything (skip_at s (h / side) p₁)) (λ skip p₂ _.
    after_fine (Filled w h) (rows_at s w h p₂) _ (rows-filled s w h p₂) (λ rows p₃ lr. record { wide = ow; high = oh; filter = lf; rows = lr ∙ mul_comm h w })))

pub unit_fine : (s : List ℕ) (at : ℕ) → RightlyRead (unit_at s at)
unfolding unit_at
unit_fine s at =
    after_fine (λ _. Unit {0}) (word_at s op_line at) _ (anything (word_at s op_line at)) (λ _ p₁ _.
    after_fine (λ _. Unit {0}) (size_at s w_name p₁) _ (anything (size_at s w_name p₁)) (λ w p₂ _.
    cond_fine (not (sized width_limit w)) (refused 1) _ refl (λ bw.
    after_fine (λ _. Unit {0}) (size_at s h_name p₂) _ (anything (size_at s h_name p₂)) (λ h p₃ _.
    cond_fine (not (sized height_limit h)) (refused 2) _ refl (λ bh.
    after_fine (λ _. Unit {0}) (word_at s edges_line p₃) _ (anything (word_at s edges_line p₃)) (λ _ p₄ _.
    lists_fine s w h p₄ (not-false _ bw) (not-false _ bh)))))))

pub meaning_fine : (s : List ℕ) → RightlyRead (meaning s)
unfolding meaning
meaning_fine s = go (unit_at s 0) (unit_fine s 0)
  where
    go : (m : Meaning) → RightlyRead m → RightlyRead (ending s m)
    go (unit u at) f = choose (eqb at (length s))
      where
        choose : (b : Bool) → RightlyRead (cond b (unit u at) (refused 14))
        choose true = f
        choose false = refl
    go (refused status) f = f

-- THE STATUSES
abbrev pub known : ℕ → Bool
known n = eqb n 0 || refusing n

pub card_status : (s : List ℕ) → known (status_of (meaning s)) ≡ true
card_status s = go (meaning s) (meaning_fine s)
  where
    go : (m : Meaning) → RightlyRead m → known (status_of m) ≡ true
    go (unit u at) f = refl
    go (refused status) f = or-true (eqb status 0) (refusing status) f
      where
        or-true : (a b : Bool) → b ≡ true → (a || b) ≡ true
        or-true true b e = refl
        or-true false b e = e
