-- A reading goes only so far behind the place where it starts, and only what stands that far decides it: `Local`, shown once for each way of putting readings
-- together. So a unit goes at most `unit_bytes` behind its place, and one byte more decides what a whole input means.
use mathlib.Core.Path.{◌≡◌, refl, ap, ◌∙◌}
use mathlib.Core.Bool.{Bool, true, false, cond, not}
use mathlib.Core.List.{List, [], ◌∷◌, ◌++◌}
use Prim.Native.Nat.{ℕ, zero, suc, ◌+◌, ◌*◌, ◌/◌, ◌≤◌, ◌<◌}
use native.Mathlib.Nat.{le_refl}
use native.Mathlib.Omega.{arith}
use borrow.Author.Tests.{ne_eqb, leb-true, not-false, leb-false}
use lib.Dec.{ltb, leb, eqb}
use lib.ListN.{length, take, length-take}
use lib.Seq.{take_all, get_or-take}
use Rattle.laws.proofs.Inside.{is-sized}
use Rattle.definition.specs.Blocks.{side}
use Rattle.definition.specs.Refusals.{sized}
use Rattle.definition.specs.Limits.{width_limit, height_limit}
use Rattle.definition.specs.Card.{input_at, Reading, value, wrong, reading, several, word, word_at, ended, end_of, newline, decimal_of, decimal_at, negated, unsigned, minus, tap_at, hex_of, pair_at, group_at, op_line, w_name, h_name, edges_line, filter_name, skip_name, row_name, size_at, filter_at, skip_at, row_at, rows_at, Meaning, unit, refused, after, lists_at, unit_at, ending, meaning, row_line}
use Rattle.card_laws.proofs.Sizes.{skip_line, unit_bytes}

-- HOW FAR A READING GOES
abbrev Reaches : {A : Type 0} → ℕ → Reading A → Type 0
Reaches b (value a q) = q ≤ b
Reaches b wrong = Unit {0}

further : {A : Type 0} (a b : ℕ) (r : Reading A) → a ≤ b → Reaches a r → Reaches b r
further a b (value x q) h l = omega arith
further a b wrong h l = tt

-- two readings, f of one input and g of another, that go at most m places and agree where no more than the first n bytes are looked at
record Local {A : Type 0} (n m : ℕ) (f g : ℕ → Reading A) : Type 0 where
  reach : (p : ℕ) → Reaches (p + m) (f p)
  same : (p : ℕ) → p + m ≤ n → f p ≡ g p

module _ {A : Type 0} (n : ℕ) where
  longer : {m k : ℕ} {f g : ℕ → Reading A} → m ≤ k → Local n m f g → Local n k f g
  longer {m} {k} {f} {g} h l = record { reach = λ p. further (p + m) (p + k) (f p) (omega arith) (l.reach p); same = λ p e. l.same p (omega arith) }

  stays : (a : A) → Local n 0 (value a) (value a)
  stays a = record { reach = λ p. omega arith; same = λ p e. refl }

module _ {A B : Type 0} (n m k : ℕ) (f g : ℕ → Reading A) (f' g' : A → ℕ → Reading B) (l : Local n m f g) (l' : (a : A) → Local n k (f' a) (g' a)) where
  then_reach : (p : ℕ) (r : Reading A) → Reaches (p + m) r → Reaches (p + (m + k)) (reading r f')
  then_reach p (value a q) h = further (q + k) (p + (m + k)) (f' a q) (omega arith) ((l' a).reach q)
  then_reach p wrong h = tt

  then_same : (p : ℕ) (r : Reading A) → Reaches (p + m) r → p + (m + k) ≤ n → reading r f' ≡ reading r g'
  then_same p (value a q) h e = (l' a).same q (omega arith)
  then_same p wrong h e = refl

  -- one reading behind another
  then_local : Local n (m + k) (λ p. reading (f p) f') (λ p. reading (g p) g')
  then_local =
      record {
        reach = λ p. then_reach p (f p) (l.reach p);
        same = λ p e. then_same p (f p) (l.reach p) e ∙ ap (λ r. reading r g') (l.same p (omega arith));
      }

several_local : {A : Type 0} (n m : ℕ) (f g : ℕ → ℕ → Reading A) → ((k : ℕ) → Local n m (f k) (g k)) → (c : ℕ) → Local n (c * m) (several f c) (several g c)
unfolding several
several_local n m f g l zero = longer n {m = 0} {k = zero * m} (omega arith) (stays n [])
several_local n m f g l (suc c) =
    longer n {m = c * m + (m + 0)} {k = suc c * m} (omega arith)
    (then_local n (c * m) (m + 0) (several f c) (several g c) _ _ (several_local n m f g l c) (λ l'.
    then_local n m 0 (f c) (g c) _ _ (l c) (λ a. stays n (l' ++ (a ∷ [])))))

-- two inputs that agree in the first n bytes
module _ (n : ℕ) (s t : List ℕ) (alike : (i : ℕ) → i < n → input_at s i ≡ input_at t i) where
  cond_reach : {A : Type 0} (b : ℕ) (x : Bool) (r r' : Reading A) → Reaches b r → Reaches b r' → Reaches b (cond x r r')
  cond_reach b true r r' h h' = h
  cond_reach b false r r' h h' = h'

  -- a test decides between two readings
  cond_local : {A : Type 0} (m : ℕ) (x y : ℕ → Bool) (f g f' g' : ℕ → Reading A) → ((p : ℕ) → p + m ≤ n → x p ≡ y p) → Local n m f g → Local n m f' g' →
      Local n m (λ p. cond (x p) (f p) (f' p)) (λ p. cond (y p) (g p) (g' p))
  cond_local m x y f g f' g' h l l' =
      record {
        reach = λ p. cond_reach (p + m) (x p) (f p) (f' p) (l.reach p) (l'.reach p);
        same = λ p e. rw (h p e, l.same p e, l'.same p e);
      }

  -- a value that two inputs give alike, k places on; or none
  value_local : {A : Type 0} (m k : ℕ) (a b : ℕ → A) → k ≤ m → ((p : ℕ) → p + m ≤ n → a p ≡ b p) → Local n m (λ p. value (a p) (p + k)) (λ p. value (b p) (p + k))
  value_local m k a b h e = record { reach = λ p. omega arith; same = λ p l. rw (e p l) }

  wrong_local : {A : Type 0} (m : ℕ) → Local {A = A} n m (λ p. wrong) (λ p. wrong)
  wrong_local m = record { reach = λ p. tt; same = λ p e. refl }

  ended_local : {A : Type 0} (end : ℕ) (a : A) → Local n 1 (ended s end a) (ended t end a)
  ended_local end a =
      cond_local 1 _ _ _ _ _ _ (λ p e. ap (λ b. eqb b end) (alike p (omega arith))) (value_local 1 1 (λ _. a) (λ _. a) (omega arith) (λ p e. refl)) (wrong_local 1)

  word_local : (w : List ℕ) → Local n (length w) (word_at s w) (word_at t w)
  unfolding word_at
  word_local [] = stays n word
  word_local (b ∷ w) =
      longer n {m = 1 + length w} {k = suc (length w)} (omega arith)
      (then_local n 1 (length w) (ended s b word) (ended t b word) _ _ (ended_local b word) (λ _. word_local w))

  decimal_reach : (x y z b c d end p : ℕ) → Reaches (p + 4) (decimal_of x y z b c d end p)
  unfolding decimal_of
  decimal_reach x y z b c d end p =
      cond_reach (p + 4) (ltb 9 x) wrong _ tt
      (cond_reach (p + 4) (eqb b end) (value _ (p + 2)) _ (omega arith)
      (cond_reach (p + 4) (eqb x 0) wrong _ tt
      (cond_reach (p + 4) (ltb 9 y) wrong _ tt
      (cond_reach (p + 4) (eqb c end) (value _ (p + 3)) _ (omega arith)
      (cond_reach (p + 4) (ltb 9 z) wrong _ tt
      (cond_reach (p + 4) (eqb d end) (value _ (p + 4)) wrong (omega arith) tt))))))

  decimal_local : (end : ℕ) → Local n 4 (decimal_at s end) (decimal_at t end)
  unfolding decimal_at
  decimal_local end =
      record {
        reach = λ p. decimal_reach _ _ _ _ _ _ end p;
        same = λ p e. rw (alike p (omega arith), alike (p + 1) (omega arith), alike (p + 2) (omega arith), alike (p + 3) (omega arith));
      }

  -- a reading that starts k places on
  on_local : {A : Type 0} (k m : ℕ) (f g : ℕ → Reading A) → Local n m f g → Local n (k + m) (λ p. f (p + k)) (λ p. g (p + k))
  on_local k m f g l =
      record { reach = λ p. further (p + k + m) (p + (k + m)) (f (p + k)) (omega arith) (l.reach (p + k)); same = λ p e. l.same (p + k) (omega arith) }

  negated_local : (v : ℕ) → Local n 0 (negated v) (negated v)
  negated_local v =
      record {
        reach = λ p. cond_reach (p + 0) (eqb v 0) wrong _ tt (cond_reach (p + 0) (ltb 128 v) wrong (value _ p) tt (omega arith));
        same = λ p e. refl;
      }

  unsigned_local : (v : ℕ) → Local n 0 (unsigned v) (unsigned v)
  unsigned_local v = record { reach = λ p. cond_reach (p + 0) (ltb 127 v) wrong (value _ p) tt (omega arith); same = λ p e. refl }

  tap_local : (end : ℕ) → Local n 5 (tap_at s end) (tap_at t end)
  unfolding tap_at
  tap_local end =
      cond_local 5 _ _ _ _ _ _ (λ p e. ap (λ b. eqb b minus) (alike p (omega arith)))
      (longer n {m = 5 + 0} {k = 5} (omega arith)
      (then_local n 5 0 (λ p. decimal_at s end (p + 1)) (λ p. decimal_at t end (p + 1)) negated negated (on_local 1 4 (decimal_at s end) (decimal_at t end) (decimal_local end)) negated_local))
      (longer n {m = 4 + 0} {k = 5} (omega arith) (then_local n 4 0 (decimal_at s end) (decimal_at t end) unsigned unsigned (decimal_local end) unsigned_local))

  pair_local : Local n 2 (pair_at s) (pair_at t)
  unfolding pair_at
  pair_local =
      record {
        reach = λ p.
            cond_reach (p + 2) (ltb 15 (hex_of (input_at s p))) wrong _ tt (cond_reach (p + 2) (ltb 15 (hex_of (input_at s (p + 1)))) wrong (value _ (p + 2)) tt (le_refl (p + 2)));
        same = λ p e. rw (alike p (omega arith), alike (p + 1) (omega arith));
      }

  group_local : (end : ℕ) → Local n 5 (group_at s end) (group_at t end)
  unfolding group_at
  group_local end =
      then_local n 2 3 (pair_at s) (pair_at t) _ _ pair_local (λ a.
      then_local n 2 1 (pair_at s) (pair_at t) _ _ pair_local (λ b. ended_local end (256 * a + b)))

  -- THE LINES
  size_local : (name : List ℕ) → Local n (length name + 4) (size_at s name) (size_at t name)
  unfolding size_at
  size_local name = then_local n (length name) 4 (word_at s name) (word_at t name) _ _ (word_local name) (λ _. decimal_local newline)

  filter_local : Local n 87 (filter_at s) (filter_at t)
  unfolding filter_at
  filter_local =
      then_local n 7 80 (word_at s filter_name) (word_at t filter_name) _ _ (word_local filter_name) (λ _.
      several_local n 5 _ _ (λ k. tap_local (end_of 16 k)) 16)

  skip_local : (c : ℕ) → Local n (5 + c * 5) (skip_at s c) (skip_at t c)
  unfolding skip_at
  skip_local c =
      then_local n 5 (c * 5) (word_at s skip_name) (word_at t skip_name) _ _ (word_local skip_name) (λ _.
      several_local n 5 _ _ (λ k. group_local (end_of c k)) c)

  row_local : (w : ℕ) → Local n (4 + (w * 2 + 1)) (row_at s w) (row_at t w)
  unfolding row_at
  row_local w =
      then_local n 4 (w * 2 + 1) (word_at s row_name) (word_at t row_name) _ _ (word_local row_name) (λ _.
      then_local n (w * 2) 1 (several (λ k. pair_at s) w) (several (λ k. pair_at t) w) _ _ (several_local n 2 _ _ (λ k. pair_local) w) (λ row. ended_local newline row))

  rows_local : (w h : ℕ) → w ≤ width_limit → Local n (h * row_line) (rows_at s w h) (rows_at t w h)
  unfolding rows_at
  rows_local w h lw = several_local n row_line (λ k. row_at s w) (λ k. row_at t w) (λ k. longer n {m = 4 + (w * 2 + 1)} {k = row_line} (omega arith) (row_local w)) h

-- WHAT DECIDES A UNIT
-- a unit ends at most at a place
abbrev Near : ℕ → Meaning → Type 0
Near b (unit u q) = q ≤ b
Near b (refused status) = Unit {0}

-- two inputs say the same, and a unit that they say ends at most at a place
record Agree (b : ℕ) (m m' : Meaning) : Type 0 where
  same : m ≡ m'
  near : Near b m

cond_agree : (c : ℕ) (b : Bool) (status : ℕ) (y z : Meaning) → (b ≡ false → Agree c y z) → Agree c (cond b (refused status) y) (cond b (refused status) z)
cond_agree c true status y z h = record { same = refl; near = tt }
cond_agree c false status y z h = h refl

after-agree : {A : Type 0} (c n m p : ℕ) (f g : ℕ → Reading A) (more more' : A → ℕ → Meaning) → Local n m f g → p + m ≤ n →
    ((a : A) (q : ℕ) → q ≤ p + m → Agree c (more a q) (more' a q)) → Agree c (after (f p) more) (after (g p) more')
after-agree {A} c n m p f g more more' l e h =
    let a = go (f p) (l.reach p) in
    record { same = a.same ∙ ap (λ r. after r more') (l.same p e); near = a.near }
  where
    go : (r : Reading A) → Reaches (p + m) r → Agree c (after r more) (after r more')
    go (value a q) b = h a q b
    go wrong b = record { same = refl; near = tt }

module _ (n : ℕ) (s t : List ℕ) (alike : (i : ℕ) → i < n → input_at s i ≡ input_at t i) (at : ℕ) (all : at + unit_bytes ≤ n) where
  lists_agree : (w h p : ℕ) → w ≤ width_limit → h ≤ height_limit → p ≤ at + 25 → Agree (at + unit_bytes) (lists_at s w h p) (lists_at t w h p)
  unfolding lists_at
  lists_agree w h p lw lh lp =
      let c : ℕ = at + unit_bytes in
      after-agree c n 87 p (filter_at s) (filter_at t) _ _ (filter_local n s t alike) (omega arith) (λ filter p₁ b₁.
      after-agree c n skip_line p₁ (skip_at s (h / side)) (skip_at t (h / side)) _ _ (longer n {m = 5 + h / side * 5} {k = skip_line} (omega arith) (skip_local n s t alike (h / side))) (omega arith) (λ skip p₂ b₂.
      after-agree c n (height_limit * row_line) p₂ (rows_at s w h) (rows_at t w h) _ _ (longer n {m = h * row_line} {k = height_limit * row_line} (omega arith) (rows_local n s t alike w h lw)) (omega arith) (λ rows p₃ b₃.
      record { same = refl; near = omega arith })))

  unit-agree : Agree (at + unit_bytes) (unit_at s at) (unit_at t at)
  unfolding unit_at
  unit-agree =
      let c : ℕ = at + unit_bytes in
      after-agree c n 5 at (word_at s op_line) (word_at t op_line) _ _ (word_local n s t alike op_line) (omega arith) (λ _ p₁ b₁.
      after-agree c n 6 p₁ (size_at s w_name) (size_at t w_name) _ _ (size_local n s t alike w_name) (omega arith) (λ w p₂ b₂.
      cond_agree c (not (sized width_limit w)) 1 _ _ (λ okw.
      after-agree c n 6 p₂ (size_at s h_name) (size_at t h_name) _ _ (size_local n s t alike h_name) (omega arith) (λ h p₃ b₃.
      cond_agree c (not (sized height_limit h)) 2 _ _ (λ okh.
      after-agree c n 8 p₃ (word_at s edges_line) (word_at t edges_line) _ _ (word_local n s t alike edges_line) (omega arith) (λ _ p₄ b₄.
      lists_agree w h p₄ (is-sized width_limit w (not-false _ okw)).high (is-sized height_limit h (not-false _ okh)).high (omega arith)))))))

-- the bytes up to so many behind a place decide what stands there
pub unit-alike : (n : ℕ) (s t : List ℕ) → ((i : ℕ) → i < n → input_at s i ≡ input_at t i) → (at : ℕ) → at + unit_bytes ≤ n → unit_at s at ≡ unit_at t at
unit-alike n s t alike at all = (unit-agree n s t alike at all).same

-- WHAT DECIDES A CARD: the first n bytes of an input, n above `unit_bytes`
pub enough : (n : ℕ) (s : List ℕ) → unit_bytes < n → meaning (take n s) ≡ meaning s
unfolding meaning
enough n s h = go (leb (length s) n) refl
  where
    below : (a b : ℕ) → a < b → a ≡ b → ⊥
    below a b h e = omega arith

    -- neither input ends where the unit does
    longer_both : (s t : List ℕ) (m m' : Meaning) → Agree (0 + unit_bytes) m m' → unit_bytes < length s → unit_bytes < length t → ending s m ≡ ending t m'
    longer_both s t m m' a l l' = both_ways m a.near ∙ ap (ending t) a.same
      where
        both_ways : (m : Meaning) → Near (0 + unit_bytes) m → ending s m ≡ ending t m
        both_ways (unit u q) b = rw (ne_eqb q (length s) (below q (length s) (omega arith)), ne_eqb q (length t) (below q (length t) (omega arith)))
        both_ways (refused status) b = refl

    go : (b : Bool) → leb (length s) n ≡ b → ending (take n s) (unit_at (take n s) 0) ≡ ending s (unit_at s 0)
    go true e = ap (λ l. ending l (unit_at l 0)) (take_all n s (leb-true (length s) n e))
    go false e =
        let l : n < length s = leb-false (length s) n e in
        let k : length (take n s) ≡ n = length-take n s ∙ omega arith in
        longer_both (take n s) s _ _ (unit-agree n (take n s) s (λ i b. get_or-take n s i 256 b) 0 (omega arith)) (omega (arith, k)) (omega arith)
