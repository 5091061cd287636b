-- Lists: a run of elements put at a place (`sets` of lib.Seq), and a list made by a rule (`tab`).
use mathlib.Core.Path.{◌≡◌, refl, sym, ◌∙◌, ap, ap₂}
use mathlib.Core.Logic.{◌≢◌}
use mathlib.Core.List.{List, [], ◌∷◌}
use Prim.Native.Nat.{ℕ, zero, suc, ◌+◌, ◌-◌, ◌≤◌, ◌<◌, suc-le-suc, zero-le}
use native.Mathlib.Nat.{not-suc-le-zero, le_of_suc-le-suc, add-zero, zero-add}
use native.Mathlib.Numerals.{add-one}
use native.Mathlib.Omega.{arith}
use native.Mathlib.Decide.{dec_lt}
use lib.ListN.{length, get_or, set}
use Rattle.definition.specs.Rows.{tab}
use lib.Seq.{get_or-set_same, get_or-set_other, set-get_or, sets, ext_get_or, length-sets, lt-length-set}

pub sets_before : (vs l : List ℕ) (a i : ℕ) → i < a → get_or (sets l a vs) i 0 ≡ get_or l i 0
sets_before [] l a i h = refl
sets_before (v ∷ vs) l a i h = sets_before vs (set l a v) (suc a) i (omega arith) ∙ get_or-set_other l a i v 0 (omega arith)

pub sets_behind : (vs l : List ℕ) (a i : ℕ) → a + length vs ≤ i → get_or (sets l a vs) i 0 ≡ get_or l i 0
sets_behind [] l a i h = refl
sets_behind (v ∷ vs) l a i h = sets_behind vs (set l a v) (suc a) i (omega arith) ∙ get_or-set_other l a i v 0 (omega arith)

pub sets_in : (vs l : List ℕ) (a i : ℕ) → i < length vs → a + i < length l → get_or (sets l a vs) (a + i) 0 ≡ get_or vs i 0
sets_in [] l a i h g = absurd (not-suc-le-zero h)
sets_in (v ∷ vs) l a zero h g =
    let e : a + 0 ≡ a = omega arith in
    let g' : a < length l = omega arith in
    rw e (sets_before vs (set l a v) (suc a) a (omega arith) ∙ get_or-set_same l a v 0 g')
sets_in (v ∷ vs) l a (suc i) h g =
    let e : a + suc i ≡ suc a + i = omega arith in
    let g' : suc a + i < length l = omega arith in
    rw e (sets_in vs (set l a v) (suc a) i (le_of_suc-le-suc h) (lt-length-set l a v g'))

-- a list that is put into another changes only the places that it takes
pub sets_other : (p vs : List ℕ) (start w i : ℕ) → length vs ≡ w → ((c : ℕ) → c < w → i ≢ start + c) → get_or (sets p start vs) i 0 ≡ get_or p i 0
sets_other p vs start w i e h =
    elim (dec_lt i start) [
      | yes lt ↦ sets_before vs p start i lt
      | no ge ↦
          elim (dec_lt i (start + w)) [
            | yes lt' ↦ absurd (h (i - start) (omega arith) (omega arith))
            | no ge' ↦ sets_behind vs p start i (omega arith)
          ]
    ]

pub tab_cong {ℓ} : {A : Type ℓ} (n : ℕ) (f g : ℕ → A) → ((i : ℕ) → i < n → f i ≡ g i) → tab n f ≡ tab n g
tab_cong zero f g e = refl
tab_cong (suc n) f g e = ap₂ (λ x xs. x ∷ xs) (e 0 (suc-le-suc zero-le)) (tab_cong n (λ i. f (suc i)) (λ i. g (suc i)) (λ i h. e (suc i) (suc-le-suc h)))

pub length_tab {ℓ} : {A : Type ℓ} (n : ℕ) (f : ℕ → A) → length (tab n f) ≡ n
length_tab zero f = refl
length_tab (suc n) f = ap suc (length_tab n (λ i. f (suc i)))

-- an entry of it, of any type, and of a list of numbers
pub tab-at {ℓ} : {A : Type ℓ} (d : A) (n : ℕ) (f : ℕ → A) (i : ℕ) → i < n → get_or (tab n f) i d ≡ f i
tab-at d zero f i h = absurd (not-suc-le-zero h)
tab-at d (suc n) f zero h = refl
tab-at d (suc n) f (suc i) h = tab-at d n (λ j. f (suc j)) i (le_of_suc-le-suc h)

pub get_or-tab : (n : ℕ) (f : ℕ → ℕ) (i : ℕ) → i < n → get_or (tab n f) i 0 ≡ f i
get_or-tab = tab-at 0

pub tab-low : (n : ℕ) (f : ℕ → ℕ) (b : ℕ) → ((i : ℕ) → i < n → f i ≤ b) → (j : ℕ) → get_or (tab n f) j 0 ≤ b
tab-low zero f b h j = zero-le
tab-low (suc n) f b h zero = h 0 (suc-le-suc zero-le)
tab-low (suc n) f b h (suc j) = tab-low n (λ i. f (suc i)) b (λ i hi. h (suc i) (suc-le-suc hi)) j

sets_suc : (j : ℕ) (l : List ℕ) (a : ℕ) (f : ℕ → ℕ) → set (sets l a (tab j f)) (a + j) (f j) ≡ sets l a (tab (suc j) f)
sets_suc zero l a f = let e : a + 0 ≡ a = omega arith in rw e
sets_suc (suc j) l a f = let e : a + suc j ≡ suc a + j = omega arith in rw e (sets_suc j (set l a (f 0)) (suc a) (λ i. f (suc i)))

-- a loop that stores f 0, f 1, .. from a on: one store more
pub sets_more : (j : ℕ) (l : List ℕ) (a : ℕ) (f : ℕ → ℕ) → set (sets l a (tab j f)) (a + j) (f j) ≡ sets l a (tab (j + 1) f)
sets_more j l a f = rw add-one (sets_suc j l a f)

-- ---- a row that is written in stretches
-- an element that is stored as it is changes nothing: a masked sample
pub sets_kept : (j : ℕ) (l : List ℕ) (a : ℕ) (f : ℕ → ℕ) → f j ≡ get_or l (a + j) 0 → sets l a (tab (j + 1) f) ≡ sets l a (tab j f)
sets_kept j l a f e =
    let s : List ℕ = sets l a (tab j f) in
    let g : get_or s (a + j) 0 ≡ get_or l (a + j) 0 = sets_behind (tab j f) l a (a + j) (rw (length_tab j f) (omega arith)) in
    sym (sets_more j l a f) ∙ rw (e, ← g) (set-get_or s (a + j) 0)

-- n of them: a masked block
pub sets_keep : (n j : ℕ) (l : List ℕ) (a : ℕ) (f : ℕ → ℕ) → ((i : ℕ) → i < n → f (j + i) ≡ get_or l (a + (j + i)) 0) → sets l a (tab (j + n) f) ≡ sets l a (tab j f)
sets_keep zero j l a f e = rw (add-zero j)
sets_keep (suc n) j l a f e =
    let d : j + suc n ≡ j + n + 1 = omega arith in
    rw d (sets_kept (j + n) l a f (e n (omega arith)) ∙ sets_keep n j l a f (λ i h. e i (omega arith)))

-- a stretch that is written behind what was written: one run of the filter
pub sets_run : (n j : ℕ) (l : List ℕ) (a : ℕ) (f : ℕ → ℕ) → sets (sets l a (tab j f)) (a + j) (tab n (λ i. f (j + i))) ≡ sets l a (tab (j + n) f)
sets_run zero j l a f = rw (add-zero j)
sets_run (suc n) j l a f =
    let d : j + suc n ≡ j + n + 1 = omega arith in
    let e : a + j + n ≡ a + (j + n) = omega arith in
    sym (sets_suc n (sets l a (tab j f)) (a + j) (λ i. f (j + i))) ∙ rw (sets_run n j l a f, e, d) (sets_more (j + n) l a f)

-- a list that is stored over from its start to its end
pub sets_all : (l : List ℕ) (f : ℕ → ℕ) → sets l 0 (tab (length l) f) ≡ tab (length l) f
sets_all l f =
    ext_get_or 0 (sets l 0 (tab (length l) f)) (tab (length l) f)
    (rw (length-sets l 0 (tab (length l) f), length_tab (length l) f))
    (λ i h.
    let hi : i < length l = rw (length-sets l 0 (tab (length l) f)) at h in
    rw (← zero-add i) (sets_in (tab (length l) f) l 0 i (rw (length_tab (length l) f) hi) (rw (zero-add i) hi) ∙ rw (zero-add i)))
